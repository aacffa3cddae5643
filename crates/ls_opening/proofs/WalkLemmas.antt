-- Going over files, one after another.
use Rattle.std.proofs.Common.{◌≡◌, ◌≤◌, ◌<◌, ◌++◌, ◌-◌, ℕ, Bool, true, false, IsTrue, List, [], ◌∷◌, Option, Some, None, length, get_or, map, take, drop, Result, Ok, Err, IfOk, append_assoc, refl, sym, ap, subst, ◌∙◌, arith}
use Rattle.std.specs.Prelude.{nat_lt, unwrap_or, slice_index, is_some}
use Rattle.std.proofs.lemmas.List.{take_all}
use Rattle.ls_board.specs.declared.action.BoardFault.{BoardFault}
use Rattle.ls_board.specs.declared.world.World.{World}
use Rattle.ls_board.specs.Acts.{Sight}
use Rattle.ls_board.specs.Effect.{file_at}
use Rattle.ls_formats.specs.PartNames.{PartOf, part_name_text}
use Rattle.ls_formats.specs.declared.part.FilePart.TheVariants.{SpBlob}
use Rattle.ls_record.specs.declared.row.UserRow.{UserRow}
use Rattle.ls_arming.specs.declared.arming.Arming.{Arming}
use Rattle.ls_record.specs.Rows.{Rec}
use Rattle.ls_naming.specs.Current.{Foreign}
use Rattle.ls_naming.specs.Named.{row_files}
use Rattle.ls_sealing.specs.Protectors.{has_weaver}
use Rattle.ls_standing.specs.Opening.{Beside, beside, file_fault, content_at, slot_in, version_in, foreign_or, first_foreign_of, first_foreign, files_of_rows}
use Rattle.ls_reading.specs.Reading.{Sees}
use Rattle.ls_reading.proofs.SeeLemmas.{sees_as, sees_both, sees_known, sees_value}
use Rattle.ls_opening.specs.Walking.{Walked, foreign_at, judged, passed, passed_files, versioned, passed_row, passed_rows}

-- ---- what is found is the first file at fault

-- behind a file at fault nothing changes
stopped_files : (w : World) (row : UserRow) (names : List PartOf) (b : Beside) (f : Foreign)
    → passed_files row names (record { beside = b; foreign = Some f }) w ≡ record { beside = b; foreign = Some f }
stopped_files w row [] b f = refl
stopped_files w row (name ∷ names) b f = stopped_files w row names b f

stopped_rows : (w : World) (weaver : Bool) (armed : Option Arming) (rows : List UserRow) (b : Beside) (f : Foreign)
    → passed_rows weaver armed rows (record { beside = b; foreign = Some f }) w ≡ record { beside = b; foreign = Some f }
stopped_rows w weaver armed [] b f = refl
stopped_rows w weaver armed (row ∷ rows) b f =
    ap (λ (s : Walked). passed_rows weaver armed rows s w) (stopped_files w row (row_files weaver armed row) b f)
    ∙ stopped_rows w weaver armed rows b f

module _ (w : World) (row : UserRow) (rest : List (UserRow × PartOf)) (finish : Walked → Option Foreign)
    (stops : (b : Beside) (f : Foreign) → finish (record { beside = b; foreign = Some f }) ≡ Some f)
    (goes : (b : Beside) → b.slots ≡ length w.slots → finish (record { beside = b; foreign = None }) ≡ first_foreign_of w b.earlier rest) where
  as_beside : (b : Beside) → b.slots ≡ length w.slots → b.version ≡ version_in w row → b ≡ beside w b.earlier row
  as_beside b slots version i = record { slots = slots i; earlier = b.earlier; version = version i }

  files_say : (names : List PartOf) (b : Beside) → b.slots ≡ length w.slots → b.version ≡ version_in w row
      → finish (passed_files row names (record { beside = b; foreign = None }) w)
      ≡ first_foreign_of w b.earlier (map (λ name. (row, name)) names ++ rest)
  files_say [] b slots version = goes b slots
  files_say (name ∷ names) b slots version =
      let bytes = content_at w name in
      let same = as_beside b slots version in
      by (file_fault b row name bytes) (files_say names (record b { earlier = b.earlier ++ slot_in name.part bytes }) slots version)
      ∙ ap (λ (x : Beside). foreign_or name (file_fault x row name bytes) (first_foreign_of w (b.earlier ++ slot_in name.part bytes) (map (λ name. (row, name)) names ++ rest))) same
    where
      next : Beside
      next = record b { earlier = b.earlier ++ slot_in name.part (content_at w name) }

      later : Option Foreign
      later = first_foreign_of w next.earlier (map (λ name. (row, name)) names ++ rest)

      by : (fault : Option ℕ) → finish (passed_files row names (record { beside = next; foreign = None }) w) ≡ later
          → finish (passed_files row names (record { beside = next; foreign = foreign_at name fault }) w) ≡ foreign_or name fault later
      by None so = so
      by (Some at) so =
          let f : Foreign = record { name = part_name_text name; at = at } in
          ap finish (stopped_files w row names next f) ∙ stops next f

pub rows_say : (w : World) (weaver : Bool) (armed : Option Arming) (rows : List UserRow) (b : Beside) → b.slots ≡ length w.slots
    → (passed_rows weaver armed rows (record { beside = b; foreign = None }) w).foreign
    ≡ first_foreign_of w b.earlier (files_of_rows weaver armed rows)
rows_say w weaver armed [] b slots = refl
rows_say w weaver armed (row ∷ rows) b slots =
    files_say w row (files_of_rows weaver armed rows) (λ s. (passed_rows weaver armed rows s w).foreign)
    (λ c f. ap (λ (s : Walked). s.foreign) (stopped_rows w weaver armed rows c f))
    (λ c same. rows_say w weaver armed rows c same)
    (row_files weaver armed row) (record b { version = version_in w row }) slots refl

-- ---- on a board

-- what stands behind the first element, as a pattern gives it
abbrev pub behind : {A : Type 0} → List A → List A
behind xs = take (length xs - 1) (drop 1 xs)

behind_first : {A : Type 0} (x : A) (xs : List A) → behind (x ∷ xs) ≡ xs
behind_first x xs = take_all (length (x ∷ xs) - 1) xs (omega arith)

module _ (old mid new : Sight) (s a : Walked) (r : Result Walked BoardFault) where
  -- a file, and then the others
  pub next_file : (row : UserRow) (names : List PartOf) (name : PartOf) → 1 ≤ length names → name ≡ get_or names 0 name
      → Sees (passed row name s.beside s.foreign) old (Ok a) mid → Sees (passed_files row (behind names) a) mid r new
      → Sees (passed_files row names s) old r new
  next_file row [] name some at first rest = absurd (omega (arith, some))
  next_file row (n ∷ names) name some at first rest =
      sees_both (passed row n s.beside s.foreign) old mid (λ x w. passed_files row names x w) new a r
      (subst (λ (m : PartOf). Sees (passed row m s.beside s.foreign) old (Ok a) mid) at first)
      (subst (λ (l : List PartOf). Sees (passed_files row l a) mid r new) (behind_first n names) rest)

  -- a row, and then the others
  pub next_row : (weaver : Bool) (armed : Option Arming) (rows : List UserRow) (row : UserRow) → 1 ≤ length rows → row ≡ get_or rows 0 row
      → Sees (passed_row weaver armed row s) old (Ok a) mid → Sees (passed_rows weaver armed (behind rows) a) mid r new
      → Sees (passed_rows weaver armed rows s) old r new
  next_row weaver armed [] row some at first rest = absurd (omega (arith, some))
  next_row weaver armed (x ∷ rows) row some at first rest =
      sees_both (passed_row weaver armed x s) old mid (λ y w. passed_rows weaver armed rows y w) new a r
      (subst (λ (z : UserRow). Sees (passed_row weaver armed z s) old (Ok a) mid) at first)
      (subst (λ (l : List UserRow). Sees (passed_rows weaver armed l a) mid r new) (behind_first x rows) rest)

  -- the version of a row, and then its files
  pub whole_row : (weaver : Bool) (armed : Option Arming) (row : UserRow) (names : List PartOf) → names ≡ row_files weaver armed row
      → Sees (versioned row s.beside s.foreign) old (Ok a) mid → Sees (passed_files row names a) mid r new
      → Sees (passed_row weaver armed row s) old r new
  whole_row weaver armed row names is first rest =
      sees_both (versioned row s.beside s.foreign) old mid (λ x w. passed_files row (row_files weaver armed row) x w) new a r first
      (subst (λ (l : List PartOf). Sees (passed_files row l a) mid r new) is rest)

-- what is found behind all rows is what opening finds
pub found : (old new : Sight) (r : Rec) (slots : ℕ) (armed : Option Arming) (rows : List UserRow) (start a : Walked) (f : Option Foreign)
    → (IsTrue old.told → slots ≡ length old.world.slots) → armed ≡ r.armed → rows ≡ r.users
    → start ≡ record { beside = record { slots = slots; earlier = []; version = 0 }; foreign = None } → f ≡ a.foreign
    → Sees (passed_rows (nat_lt 0 slots) armed rows start) old (Ok a) new → Sees (λ w. first_foreign w r) old (Ok f) new
found old new r slots armed rows start a f all its_armed its_rows begins is sees =
    sees_as (λ w. (passed_rows (nat_lt 0 slots) armed rows start w).foreign) (λ w. first_foreign w r) old new (Ok f) (λ told. same (all told))
    (sees_value (passed_rows (nat_lt 0 slots) armed rows start) old new (λ s w. s.foreign) a f sees (λ w. is))
  where
    same : slots ≡ length old.world.slots → (passed_rows (nat_lt 0 slots) armed rows start old.world).foreign ≡ first_foreign old.world r
    same count =
        ap (λ (s : Walked). (passed_rows (nat_lt 0 slots) armed rows s old.world).foreign) begins
        ∙ rows_say old.world (nat_lt 0 slots) armed rows (record { slots = slots; earlier = []; version = 0 }) count
        ∙ (λ i. first_foreign_of old.world [] (files_of_rows (nat_lt 0 (count i)) (its_armed i) (its_rows i)))

-- behind a file at fault nothing is read
pub no_file : (s : Sight) (row : UserRow) (name : PartOf) (b : Beside) (f : Option Foreign) → is_some f ≡ true
    → Sees (passed row name b f) s (Ok (record { beside = b; foreign = f })) s
no_file s row name b None some = absurd (cc)
no_file s row name b (Some f) some = sees_known (passed row name b (Some f)) s _ (λ w. refl)

pub no_version : (s : Sight) (row : UserRow) (b : Beside) (f : Option Foreign) → is_some f ≡ true
    → Sees (versioned row b f) s (Ok (record { beside = b; foreign = f })) s
no_version s row b None some = absurd (cc)
no_version s row b (Some f) some = sees_known (versioned row b (Some f)) s _ (λ w. refl)

-- a file is judged by what was read of it
pub one_file : (old mid : Sight) (row : UserRow) (name : PartOf) (b : Beside) (f : Option Foreign) (file : Option (List ℕ)) (bytes : List ℕ) (a : Walked) → is_some f ≡ false
    → Sees (λ w. file_at w (part_name_text name)) old (Ok file) mid → bytes ≡ unwrap_or file [] → a ≡ judged row name b bytes
    → Sees (passed row name b f) old (Ok a) mid
one_file old mid row name b (Some f) file bytes a none first read is = absurd (cc)
one_file old mid row name b None file bytes a none first read is =
    sees_value (λ w. file_at w (part_name_text name)) old mid (λ x w. judged row name b (unwrap_or x [])) file a first
    (λ w. is ∙ ap (λ (l : List ℕ). judged row name b l) read)

-- the version of a row
pub row_version : (old mid : Sight) (row : UserRow) (b : Beside) (f : Option Foreign) (version : ℕ) → is_some f ≡ false
    → Sees (λ w. version_in w row) old (Ok version) mid
    → Sees (versioned row b f) old (Ok (record { beside = record b { version = version }; foreign = f })) mid
row_version old mid row b (Some f) version none first = absurd (cc)
row_version old mid row b None version none first =
    sees_value (λ w. version_in w row) old mid (λ v w. record { beside = record b { version = v }; foreign = None }) version _ first (λ w. refl)
