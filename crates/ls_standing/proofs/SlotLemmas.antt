-- One file alone names a slot in a world that stands for a vault.
use Rattle.std.proofs.Common.{◌≡◌, ◌<◌, ◌^◌, ◌⊎◌, inl, inr, ◌||◌, ℕ, Bool, true, false, List, [], ◌∷◌, ◌++◌, length, Option, None, Some, refl, sym, ap, subst, ◌∙◌}
use Rattle.std.specs.Prelude.{map, unwrap_or}
use Rattle.std.specs.List.{Contains}
use Rattle.std.proofs.Math.Dec.{eqb}
use Rattle.std.proofs.lemmas.Bool.{eq-eqb}
use Rattle.std.proofs.lemmas.List.Folds.{list_any-append}
use Rattle.ls_formats.specs.declared.part.FilePart.{FilePart}
use Rattle.ls_formats.specs.declared.part.FilePart.TheVariants.{Weaver}
use Rattle.ls_formats.specs.PartNames.{PartOf}
use Rattle.ls_record.specs.declared.row.UserRow.{UserRow}
use Rattle.ls_record.specs.Rows.{Rec, has}
use Rattle.ls_naming.specs.Current.{Foreign}
use Rattle.ls_naming.specs.Named.{row_files, NamesFile, NamesSlot}
use Rattle.ls_board.specs.declared.world.World.{World}
use Rattle.ls_board.specs.Effect.{file_at}
use Rattle.ls_sealing.specs.Protectors.{has_weaver}
use Rattle.ls_sealing.proofs.WritingLemmas.{number_again_slot}
use Rattle.ls_standing.specs.Opening.{file_fault, files_of_rows, content_at, one_or_none, slot_in, beside, foreign_or, first_foreign_of, first_foreign}
use Rattle.ls_standing.proofs.ContainsLemmas.{none_in, first_or_behind, in_map, in_flat, of_flat}
use Rattle.ls_standing.proofs.SlotFileLemmas.{of_slot, same_slot, slot_file}

-- ---- numbers that are named before

or_false : (a b : Bool) → (a || b) ≡ false → a ≡ false
or_false true b e = e
or_false false b e = refl

has_less : (earlier more : List ℕ) (n : ℕ) → has (earlier ++ more) n ≡ false → has earlier n ≡ false
has_less earlier more n e = or_false (has earlier n) (has more n) (sym (list_any-append (λ i. eqb i n) earlier more) ∙ e)

or_true : (a b : Bool) → b ≡ true → (a || b) ≡ true
or_true true b e = refl
or_true false b e = e

has_last : (earlier : List ℕ) (n : ℕ) → has (earlier ++ n ∷ []) n ≡ true
has_last earlier n = list_any-append (λ i. eqb i n) earlier (n ∷ []) ∙ or_true (has earlier n) (has (n ∷ []) n) (ap (λ b. b || false) (eq-eqb n n refl))

-- ---- files, one after another

-- a file of a row
abbrev pub RowFile : Type 0
RowFile = UserRow × PartOf

-- the file of the row is the `weaver` file of this slot
pub record HoldsSlot (w : World) (n : ℕ) (f : RowFile) : Type 0 where
  pub part : f.1.part ≡ Weaver
  pub content : content_at w f.1 ≡ of_slot n

-- what a `weaver` file names
pub slot_of_file : (part : FilePart) (n : ℕ) → n < 2 ^ 32 → part ≡ Weaver → slot_in part (of_slot n) ≡ n ∷ []
slot_of_file part n small is = ap (λ (p : FilePart). slot_in p (of_slot n)) is ∙ ap one_or_none (number_again_slot n small)

no_fault : (name : PartOf) (fault : Option ℕ) (later : Option Foreign) → foreign_or name fault later ≡ None → (fault ≡ None) × (later ≡ None)
no_fault name None later e = (refl, e)
no_fault name (Some at) later e = absurd (cc)

module _ (w : World) where
  abbrev pub named_now : List ℕ → RowFile → List ℕ
  named_now earlier f = earlier ++ slot_in f.1.part (content_at w f.1)

  -- no fault in the first, nor behind it
  pub fine : (earlier : List ℕ) (f : RowFile) (files : List RowFile) → first_foreign_of w earlier (f ∷ files) ≡ None
      → (file_fault (beside w earlier f.0) f.0 f.1 (content_at w f.1) ≡ None) × (first_foreign_of w (named_now earlier f) files ≡ None)
  fine earlier f files e = no_fault f.1 (file_fault (beside w earlier f.0) f.0 f.1 (content_at w f.1)) (first_foreign_of w (named_now earlier f) files) e

  -- the slot of a file behind others is none of theirs
  fresh_behind : (earlier : List ℕ) (files : List RowFile) → first_foreign_of w earlier files ≡ None
      → (f : RowFile) → Contains files f → (n : ℕ) → HoldsSlot w n f → n < 2 ^ 32 → (has earlier n ≡ false) × (n < length w.slots)
  fresh_behind earlier [] none f within n holds small = absurd (none_in f within)
  fresh_behind earlier (g ∷ files) none f within n holds small = by (first_or_behind g files f within) (fresh_behind (named_now earlier g) files (fine earlier g files none).1 f)
    where
      here : g ≡ f → (has earlier n ≡ false) × (n < length w.slots)
      here e =
          let at : HoldsSlot w n g = subst (HoldsSlot w n) (sym e) holds in
          let is = slot_file (beside w earlier g.0) g.0 g.1 (content_at w g.1) at.part (fine earlier g files none).0 in
          let same : is.slot ≡ n = same_slot is.slot n is.small small (sym is.spelled ∙ at.content) in
          (subst (λ (m : ℕ). has earlier m ≡ false) same is.fresh, subst (λ (m : ℕ). m < length w.slots) same is.within)

      by : (g ≡ f) ⊎ Contains files f → (Contains files f → (m : ℕ) → HoldsSlot w m f → m < 2 ^ 32 → (has (named_now earlier g) m ≡ false) × (m < length w.slots)) → (has earlier n ≡ false) × (n < length w.slots)
      by (inl e) rest = here e
      by (inr k) rest = let found = rest k n holds small in (has_less earlier (slot_in g.1.part (content_at w g.1)) n found.0, found.1)

  -- the first has the slot: so none behind it has it
  none_behind : (earlier : List ℕ) (g : RowFile) (files : List RowFile) → first_foreign_of w earlier (g ∷ files) ≡ None
      → (f : RowFile) → Contains files f → (n : ℕ) → n < 2 ^ 32 → HoldsSlot w n g → ¬ HoldsSlot w n f
  none_behind earlier g files none f within n small first other =
      let named : slot_in g.1.part (content_at w g.1) ≡ n ∷ [] = ap (slot_in g.1.part) first.content ∙ slot_of_file g.1.part n small first.part in
      let fresh = (fresh_behind (named_now earlier g) files (fine earlier g files none).1 f within n other small).0 in
      let bad : true ≡ false = sym (ap (λ (l : List ℕ). has (earlier ++ l) n) named ∙ has_last earlier n) ∙ fresh in
      cc

  -- so a slot is that of one file
  one_file : (earlier : List ℕ) (files : List RowFile) → first_foreign_of w earlier files ≡ None
      → (f g : RowFile) → Contains files f → Contains files g → (n : ℕ) → n < 2 ^ 32 → HoldsSlot w n f → HoldsSlot w n g → f ≡ g
  one_file earlier [] none f g at there n small one other = absurd (none_in f at)
  one_file earlier (h ∷ files) none f g at there n small one other =
      by (first_or_behind h files f at) (first_or_behind h files g there) (one_file (named_now earlier h) files (fine earlier h files none).1 f g)
    where
      by : (h ≡ f) ⊎ Contains files f → (h ≡ g) ⊎ Contains files g
          → (Contains files f → Contains files g → (m : ℕ) → m < 2 ^ 32 → HoldsSlot w m f → HoldsSlot w m g → f ≡ g) → f ≡ g
      by (inl e) (inl d) rest = sym e ∙ d
      by (inl e) (inr k) rest = absurd (none_behind earlier h files none g k n small (subst (HoldsSlot w n) (sym e) one) other)
      by (inr k) (inl d) rest = absurd (none_behind earlier h files none f k n small (subst (HoldsSlot w n) (sym d) other) one)
      by (inr k) (inr l) rest = rest k l n small one other

-- ---- the files of a record

-- a named file is one of a row
row_of : (weaver : Bool) (r : Rec) (name : PartOf) → NamesFile weaver r name → (row : UserRow) × Contains (files_of_rows weaver r.armed r.users) (row, name)
row_of weaver r name named =
    let found = of_flat (row_files weaver r.armed) r.users name named in
    let row = found.0 in (
      row,
      in_flat (λ (x : UserRow). map (λ (n : PartOf). (x, n)) (row_files weaver r.armed x)) r.users row (row, name) found.1
          (in_map (λ (n : PartOf). (row, n)) (row_files weaver r.armed row) name found.2),
    )

holds_slot : (w : World) (r : Rec) (slot : ℕ) (h : NamesSlot (has_weaver w) r (file_at w) slot) (row : UserRow) → HoldsSlot w slot (row, h.name)
holds_slot w r slot h row = record { part = h.part; content = ap (λ (o : Option (List ℕ)). unwrap_or o []) h.holds }

module _ (w : World) (r : Rec) (fine : first_foreign w r ≡ None) where
  pub slot_within : (slot : ℕ) → NamesSlot (has_weaver w) r (file_at w) slot → slot < length w.slots
  slot_within slot h =
      let row = row_of (has_weaver w) r h.name h.named in
      (fresh_behind w [] (files_of_rows (has_weaver w) r.armed r.users) fine (row.0, h.name) row.1 slot (holds_slot w r slot h row.0) h.small).1

  pub one_name : (slot : ℕ) (one other : NamesSlot (has_weaver w) r (file_at w) slot) → one.name ≡ other.name
  one_name slot one other =
      let row = row_of (has_weaver w) r one.name one.named in
      let also = row_of (has_weaver w) r other.name other.named in
      ap (λ (f : RowFile). f.1)
      (one_file w [] (files_of_rows (has_weaver w) r.armed r.users) fine (row.0, one.name) (also.0, other.name) row.1 also.1 slot one.small
      (holds_slot w r slot one row.0) (holds_slot w r slot other also.0))
