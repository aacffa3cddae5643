-- None of the files of a record is at fault where each is sound and none names a slot of another.
use Rattle.std.proofs.Common.{◌≡◌, ◌≢◌, ◌<◌, ◌^◌, ◌⊎◌, inl, inr, ◌||◌, ℕ, Bool, true, false, cond, List, [], ◌∷◌, ◌++◌, Option, None, Some, refl, sym, ap, subst, ◌∙◌}
use Rattle.std.specs.Prelude.{map, unwrap_or}
use Rattle.std.specs.List.{flat_map, Contains}
use Rattle.std.proofs.Math.Dec.{eqb}
use Rattle.std.proofs.lemmas.Bool.{ne_eqb}
use Rattle.std.proofs.lemmas.List.Concat.{flat_map-cons}
use Rattle.std.proofs.lemmas.List.Folds.{list_any-append, flat_map-map}
use Rattle.ls_formats.specs.declared.part.FilePart.{FilePart}
use Rattle.ls_formats.specs.declared.part.FilePart.TheVariants.{SpBlob, Pwd, Secdis, Weaver, Metrics, Handle, E0, P1, Resume}
use Rattle.ls_formats.specs.PartNames.{PartOf, part_name_text}
use Rattle.ls_record.specs.declared.row.UserRow.{UserRow}
use Rattle.ls_arming.specs.declared.arming.Arming.{Arming}
use Rattle.ls_record.specs.Rows.{Rec, IsBefore, IsRecord, Pairs, has}
use Rattle.ls_naming.specs.Named.{only_if, has_credential, row_files, NamesSlot}
use Rattle.ls_board.specs.declared.world.World.{World}
use Rattle.ls_board.specs.Effect.{file_at}
use Rattle.ls_sealing.specs.Protectors.{Purpose, credential, token, Protector, parts_for, has_weaver}
use Rattle.ls_standing.specs.Named.{credential_of, token_of}
use Rattle.ls_standing.specs.NamedProtectors.{row_protectors}
use Rattle.ls_standing.specs.Opening.{file_fault, files_of_rows, content_at, slot_in, beside, foreign_or, first_foreign_of, first_foreign}
use Rattle.ls_standing.specs.Sound.{IsSoundFile, SlotsAreNamedOnce}
use Rattle.ls_standing.proofs.ContainsLemmas.{none_in, at_first, behind_first, first_or_behind, in_map, of_map, in_flat, of_flat}
use Rattle.ls_standing.proofs.PairLemmas.{each_in, all_from, pairs_of_all, pairs_append, pairs_map, pairs_flat, pairs_weaker}
use Rattle.ls_standing.proofs.SlotFileLemmas.{of_slot, slot_file, fault_later}
use Rattle.ls_standing.proofs.SlotLemmas.{RowFile, HoldsSlot, slot_of_file, named_now, fine}
use Rattle.ls_standing.proofs.ProtectorLemmas.{protector_files, own_files, own_has_none, none_only_if, of_row}
use Rattle.ls_standing.proofs.IdLemmas.{OtherId, ids_of_row, ids_of_rows}

-- ---- one `weaver` file in a protector

-- the parts aren't both slots
abbrev NotBoth : FilePart → FilePart → Type 0
NotBoth p q = p ≡ Weaver → q ≢ Weaver

none_cons : (p : FilePart) (parts : List FilePart) → p ≢ Weaver → ¬ Contains parts Weaver → ¬ Contains (p ∷ parts) Weaver
none_cons p parts other none h = by (first_or_behind p parts Weaver h)
  where
    by : (p ≡ Weaver) ⊎ Contains parts Weaver → ⊥
    by (inl e) = other e
    by (inr k) = none k

-- a part between others that are no slots
around : (front : List FilePart) (p : FilePart) (back : List FilePart) → ¬ Contains front Weaver → ¬ Contains back Weaver → Pairs NotBoth (front ++ p ∷ back)
around front p back before behind =
    pairs_append NotBoth front (p ∷ back)
    (pairs_of_all NotBoth front (λ x y hx hy is also. before (subst (Contains front) is hx))) (
      all_from (NotBoth p) back (λ y h is also. behind (subst (Contains back) also h)),
      pairs_of_all NotBoth back (λ x y hx hy is also. behind (subst (Contains back) is hx)),
    )
    (λ x y hx hy is also. before (subst (Contains front) is hx))

one_slot : (b : Bool) (purpose : Purpose) → Pairs NotBoth (parts_for b purpose)
one_slot b (credential kind) =
    around (SpBlob ∷ only_if (has_credential kind) (Pwd ∷ [])) (cond b Weaver Secdis) (only_if (has_credential kind) (Metrics ∷ []))
    (none_cons SpBlob (only_if (has_credential kind) (Pwd ∷ [])) (λ e. absurd (cc)) (none_only_if (has_credential kind) (Pwd ∷ []) (λ e. absurd (cc), tt)))
    (none_only_if (has_credential kind) (Metrics ∷ []) (λ e. absurd (cc), tt))
one_slot true token =
    around (SpBlob ∷ Secdis ∷ []) Weaver []
    (none_cons SpBlob (Secdis ∷ []) (λ e. absurd (cc)) (none_cons Secdis [] (λ e. absurd (cc)) (none_in Weaver)))
    (none_in Weaver)
one_slot false token =
    around (SpBlob ∷ []) Secdis [] (none_cons SpBlob [] (λ e. absurd (cc)) (none_in Weaver)) (none_in Weaver)

-- ---- `weaver` files have the ids of their protectors

-- `weaver` files of two ids
abbrev OtherName : PartOf → PartOf → Type 0
OtherName m n = m.part ≡ Weaver → n.part ≡ Weaver → m.id ≢ n.id

file_id : (b : Bool) (p : Protector) (name : PartOf) → Contains (protector_files b p) name → p.id ≡ name.id
file_id b p name h = ap (λ (n : PartOf). n.id) (of_map (λ (x : FilePart). record { user = p.user; id = p.id; part = x }) (parts_for b p.purpose) name h).2

names_of_one : (b : Bool) (p : Protector) → Pairs OtherName (protector_files b p)
names_of_one b p =
    let name_of = λ (x : FilePart). let n : PartOf = record { user = p.user; id = p.id; part = x } in n in
    pairs_map OtherName (λ (x : FilePart). record { user = p.user; id = p.id; part = x }) (parts_for b p.purpose)
    (pairs_weaker NotBoth (λ x y. OtherName (name_of x) (name_of y)) (parts_for b p.purpose) (λ x y hx hy not_both is also. absurd (not_both is also)) (one_slot b p.purpose))

names_of_two : (b : Bool) (p q : Protector) → OtherId p q → (m n : PartOf) → Contains (protector_files b p) m → Contains (protector_files b q) n → OtherName m n
names_of_two b p q other m n hm hn is also same = other (file_id b p m hm ∙ same ∙ sym (file_id b q n hn))

-- the files of a row are its own and those of its protectors
split_files : (b : Bool) (armed : Option Arming) (row : UserRow) → own_files armed row ++ flat_map (protector_files b) (row_protectors row) ≡ row_files b armed row
split_files b armed row =
    ap (λ (l : List PartOf). own_files armed row ++ l)
    (flat_map-cons (protector_files b) (credential_of row) (map (token_of row) row.tokens)
    ∙ ap (λ (l : List PartOf). protector_files b (credential_of row) ++ l) (flat_map-map (protector_files b) (token_of row) row.tokens))

names_of_row : (b : Bool) (armed : Option Arming) (row : UserRow) → Pairs OtherId (row_protectors row) → Pairs OtherName (row_files b armed row)
names_of_row b armed row ids =
    subst (Pairs OtherName) (split_files b armed row)
    (pairs_append OtherName (own_files armed row) (flat_map (protector_files b) (row_protectors row))
    (pairs_of_all OtherName (own_files armed row) (λ m n hm hn is also. absurd (own_has_none armed row m is hm)))
    (pairs_flat OtherName (protector_files b) OtherId (row_protectors row) ids (λ p h. names_of_one b p) (λ p q hp hq other m n. names_of_two b p q other m n))
    (λ m n hm hn is also. absurd (own_has_none armed row m is hm)))

abbrev OtherFile : RowFile → RowFile → Type 0
OtherFile f g = OtherName f.1 g.1

-- the files of a row, each with the row
abbrev with_row : Bool → Option Arming → UserRow → List RowFile
with_row b armed row = map (λ (n : PartOf). (row, n)) (row_files b armed row)

names_of_rows : (b : Bool) (r : Rec) → IsRecord r → (x z : UserRow) → Contains r.users x → Contains r.users z → IsBefore x z
    → (f g : RowFile) → Contains (with_row b r.armed x) f → Contains (with_row b r.armed z) g → OtherFile f g
names_of_rows b r is x z hx hz before f g hf hg one two =
    let m = of_map (λ (n : PartOf). (x, n)) (row_files b r.armed x) f hf in
    let n = of_map (λ (n : PartOf). (z, n)) (row_files b r.armed z) g hg in
    let first = ap (λ (h : RowFile). h.1) m.2 in
    let second = ap (λ (h : RowFile). h.1) n.2 in
    let p = of_row b r.armed x f.1 one (subst (Contains (row_files b r.armed x)) first m.1) in
    let q = of_row b r.armed z g.1 two (subst (Contains (row_files b r.armed z)) second n.1) in
    names_of_two b p.of q.of (ids_of_rows r is x z hx hz before p.of q.of p.own q.own) f.1 g.1 p.within q.within one two

files_apart : (b : Bool) (r : Rec) → IsRecord r → Pairs OtherFile (files_of_rows b r.armed r.users)
files_apart b r is =
    pairs_flat OtherFile (with_row b r.armed) IsBefore r.users is.pairs
    (λ row h. pairs_map OtherFile (λ (n : PartOf). (row, n)) (row_files b r.armed row) (names_of_row b r.armed row (ids_of_row r is row h)))
    (names_of_rows b r is)

-- ---- files, one after another

module _ (w : World) where
  abbrev AreSound : List RowFile → Type 0
  AreSound files = (f : RowFile) → Contains files f → IsSoundFile w f.0 f.1

  -- the files don't name one slot
  abbrev OtherSlot : RowFile → RowFile → Type 0
  OtherSlot f g = (n : ℕ) → HoldsSlot w n f → ¬ HoldsSlot w n g

  -- each file without a fault is sound alone
  each_sound : (earlier : List ℕ) (files : List RowFile) → first_foreign_of w earlier files ≡ None → AreSound files
  each_sound earlier [] e f h = absurd (none_in f h)
  each_sound earlier (g ∷ files) e f h = by (first_or_behind g files f h) (each_sound (named_now w earlier g) files (fine w earlier g files e).1 f)
    where
      first : IsSoundFile w g.0 g.1
      first = fault_later w g.0 g.1.id (content_at w g.1) earlier [] g.1.part (fine w earlier g files e).0 (λ is n same. refl)

      by : (g ≡ f) ⊎ Contains files f → (Contains files f → IsSoundFile w f.0 f.1) → IsSoundFile w f.0 f.1
      by (inl same) rest = subst (λ (x : RowFile). IsSoundFile w x.0 x.1) same first
      by (inr k) rest = rest k

  -- a file names no slot but its own
  names_other : (g : RowFile) → IsSoundFile w g.0 g.1 → (n : ℕ) → ¬ HoldsSlot w n g → has (slot_in g.1.part (content_at w g.1)) n ≡ false
  names_other g sound n other = by g.1.part refl
    where
      by : (part : FilePart) → g.1.part ≡ part → has (slot_in part (content_at w g.1)) n ≡ false
      by SpBlob is = refl
      by Pwd is = refl
      by Secdis is = refl
      by Weaver is =
          let file = slot_file (beside w [] g.0) g.0 g.1 (content_at w g.1) is sound in
          let apart : file.slot ≢ n = λ same. other (record { part = is; content = file.spelled ∙ ap of_slot same }) in
          ap (λ (l : List ℕ). has (slot_in Weaver l) n) file.spelled
          ∙ ap (λ (l : List ℕ). has l n) (slot_of_file Weaver file.slot file.small refl)
          ∙ ap (λ (b : Bool). b || false) (ne_eqb file.slot n apart)
      by Metrics is = refl
      by Handle is = refl
      by E0 is = refl
      by P1 is = refl
      by Resume is = refl

  all_pass : (earlier : List ℕ) (files : List RowFile) → AreSound files → Pairs OtherSlot files
      → ((f : RowFile) → Contains files f → (n : ℕ) → HoldsSlot w n f → has earlier n ≡ false) → first_foreign_of w earlier files ≡ None
  all_pass earlier [] sound others fresh = refl
  all_pass earlier (g ∷ files) sound others fresh =
      let here : file_fault (beside w earlier g.0) g.0 g.1 (content_at w g.1) ≡ None =
      fault_later w g.0 g.1.id (content_at w g.1) [] earlier g.1.part (sound g (at_first g files)) (λ is n same. fresh g (at_first g files) n (record { part = is; content = same })) in
      ap (λ (fault : Option ℕ). foreign_or g.1 fault (first_foreign_of w (named_now w earlier g) files)) here
      ∙ all_pass (named_now w earlier g) files (λ f h. sound f (behind_first g files f h)) others.1 later
    where
      either : (a b : Bool) → a ≡ false → b ≡ false → (a || b) ≡ false
      either a b e d = ap (λ (x : Bool). x || b) e ∙ d

      later : (f : RowFile) → Contains files f → (n : ℕ) → HoldsSlot w n f → has (named_now w earlier g) n ≡ false
      later f h n holds =
          let named = slot_in g.1.part (content_at w g.1) in
          list_any-append (λ i. eqb i n) earlier named
          ∙ either (has earlier n) (has named n) (fresh f (behind_first g files f h) n holds)
          (names_other g (sound g (at_first g files)) n (λ own. each_in (OtherSlot g) files f others.0 h n own holds))

-- ---- the files of a record

-- a file that holds something is there
there : (o : Option (List ℕ)) (n : ℕ) → unwrap_or o [] ≡ of_slot n → o ≡ Some (of_slot n)
there None n e = absurd (cc)
there (Some l) n e = ap Some e

module _ (w : World) (r : Rec) where
  abbrev files : List RowFile
  files = files_of_rows (has_weaver w) r.armed r.users

  -- what is said of the files of rows
  abbrev IsRowFile : RowFile → Type 0
  IsRowFile f = Contains r.users f.0 × Contains (row_files (has_weaver w) r.armed f.0) f.1

  of_files : (f : RowFile) → Contains files f → IsRowFile f
  of_files f h =
      let row = of_flat (with_row (has_weaver w) r.armed) r.users f h in
      let name = of_map (λ (n : PartOf). (row.0, n)) (row_files (has_weaver w) r.armed row.0) f row.2 in
      subst IsRowFile name.2 (row.1, name.1)

  in_files : (row : UserRow) (name : PartOf) → Contains r.users row → Contains (row_files (has_weaver w) r.armed row) name → Contains files (row, name)
  in_files row name h k = in_flat (with_row (has_weaver w) r.armed) r.users row (row, name) h (in_map (λ (n : PartOf). (row, n)) (row_files (has_weaver w) r.armed row) name k)

  pub alone : first_foreign w r ≡ None → (row : UserRow) (name : PartOf) → Contains r.users row → Contains (row_files (has_weaver w) r.armed row) name → IsSoundFile w row name
  alone none row name h k = each_sound w [] files none (row, name) (in_files row name h k)

  slot_named : (f : RowFile) → Contains files f → (n : ℕ) → n < 2 ^ 32 → HoldsSlot w n f → NamesSlot (has_weaver w) r (file_at w) n
  slot_named f h n small holds =
      let is = of_files f h in
      record {
        name = f.1;
        named = in_flat (row_files (has_weaver w) r.armed) r.users f.0 f.1 is.0 is.1;
        part = holds.part;
        small = small;
        holds = there (file_at w (part_name_text f.1)) n holds.content;
      }

  -- files with other ids name other slots
  other_slots : AreSound w files → SlotsAreNamedOnce w r → (f g : RowFile) → Contains files f → Contains files g → OtherFile f g → OtherSlot w f g
  unfolding slot_named
  other_slots sound once f g hf hg other n a b =
      let file = slot_file (beside w [] f.0) f.0 f.1 (content_at w f.1) a.part (sound f hf) in
      let one = slot_named f hf file.slot file.small (record { part = a.part; content = file.spelled }) in
      let two = slot_named g hg file.slot file.small (record { part = b.part; content = b.content ∙ sym a.content ∙ file.spelled }) in
      other a.part b.part (ap (λ (m : PartOf). m.id) (once file.slot one two))

  pub together : IsRecord r → ((row : UserRow) (name : PartOf) → Contains r.users row → Contains (row_files (has_weaver w) r.armed row) name → IsSoundFile w row name)
      → SlotsAreNamedOnce w r → first_foreign w r ≡ None
  together is sound once =
      let all : AreSound w files = λ f h. let row = of_files f h in sound f.0 f.1 row.0 row.1 in
      all_pass w [] files all (pairs_weaker OtherFile (OtherSlot w) files (other_slots all once) (files_apart (has_weaver w) r is)) (λ f h n holds. refl)
