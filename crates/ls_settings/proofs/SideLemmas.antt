-- Which of the two files is current.
use Rattle.std.proofs.Common.{◌≡◌, ◌≢◌, ◌<◌, ◌&&◌, not, ℕ, Bool, true, false, List, Option, None, Some, Result, Ok, Err, refl, sym, ◌∙◌, ap, [], ◌∷◌, if◌then◌else◌, nat_lt, get_or, unwrap_or, arith, le-ltb, lt-ltb}
use Rattle.ls_formats.specs.declared.side.Side.{Side}
use Rattle.ls_formats.specs.declared.side.Side.TheVariants.{First, Second}
use Rattle.ls_formats.specs.PartNames.{settings_text}
use Rattle.ls_record.specs.Rows.{Rec}
use Rattle.ls_naming.specs.Named.{Files}
use Rattle.ls_naming.specs.Current.{Settled, Foreign, unsettled, settled, settled_in, side_says, said_by, settings_of, current, current_side, is_open, base_of, file_says}
use Rattle.ls_settings.specs.Loaded.{other_side}

-- ---- two sides

pub by_side : (side : Side) (P : Side → Type 0) → P side → P (other_side side) → (s : Side) → P s
by_side First P one two First = one
by_side First P one two Second = two
by_side Second P one two First = two
by_side Second P one two Second = one

pub twice : (side : Side) → other_side (other_side side) ≡ side
twice First = refl
twice Second = refl

pub some_names_apart : (side : Side) → ◌≡◌ {A = Option (List ℕ)} (Some (settings_text side)) (Some (settings_text (other_side side))) → ⊥
some_names_apart First e = let n : ◌≡◌ {A = ℕ} 48 49 = ap (λ (o : Option (List ℕ)). get_or (unwrap_or o (0 ∷ [])) 9 0) e in absurd (omega arith)
some_names_apart Second e = let n : ◌≡◌ {A = ℕ} 49 48 = ap (λ (o : Option (List ℕ)). get_or (unwrap_or o (0 ∷ [])) 9 0) e in absurd (omega arith)

pub names_apart : (side : Side) → settings_text (other_side side) ≢ settings_text side
names_apart side e = some_names_apart side (ap (λ (n : List ℕ). Some n) (sym e))

pub sides_apart : (side : Side) → ◌≡◌ {A = Option Side} (Some (other_side side)) (Some side) → ⊥
sides_apart First e = absurd (cc)
sides_apart Second e = absurd (cc)

-- ---- what two files say, seen from one of them

abbrev pub of_pair : Side → Option (List ℕ) → Option (List ℕ) → Result Settled Foreign
of_pair First mine other = settings_of mine other
of_pair Second mine other = settings_of other mine

abbrev pub chosen : Side → Option (List ℕ) → Option (List ℕ) → Option Side
chosen First mine other = current_side mine other
chosen Second mine other = current_side other mine

pub current_pair : (files : Files) (side : Side) → current files ≡ of_pair side (files (settings_text side)) (files (settings_text (other_side side)))
current_pair files First = refl
current_pair files Second = refl

-- an open file alone, or nothing
abbrev pub alone : Side → Option (List ℕ) → Result Settled Foreign
alone side file = if is_open file then side_says side file else Ok unsettled

abbrev pick : Bool → Bool → Bool → Option Side
pick first second less =
    if not first then (if second then Some Second else None)
    else if second && less then Some Second
    else Some First

-- beside a closed file the other one stands alone
pub loses : (side : Side) (mine other : Option (List ℕ)) → is_open mine ≡ false → of_pair side mine other ≡ alone (other_side side) other
loses First mine other shut =
    ap (λ (b : Bool). said_by mine other (pick b (is_open other) (nat_lt (base_of mine) (base_of other)))) shut ∙ by (is_open other)
  where
    by : (b : Bool) → said_by mine other (pick false b (nat_lt (base_of mine) (base_of other))) ≡ (if b then side_says Second other else Ok unsettled)
    by true = refl
    by false = refl
loses Second mine other shut =
    ap (λ (b : Bool). said_by other mine (pick (is_open other) b (nat_lt (base_of other) (base_of mine)))) shut ∙ by (is_open other)
  where
    by : (b : Bool) → said_by other mine (pick b false (nat_lt (base_of other) (base_of mine))) ≡ (if b then side_says First other else Ok unsettled)
    by true = refl
    by false = refl

-- an open file with a greater number is current
pub wins : (side : Side) (mine other : Option (List ℕ)) → is_open mine ≡ true → (is_open other ≡ true → base_of other < base_of mine) → chosen side mine other ≡ Some side
wins First mine other opened newer =
    ap (λ (b : Bool). pick b (is_open other) (nat_lt (base_of mine) (base_of other))) opened ∙ by (is_open other) refl
  where
    by : (b : Bool) → is_open other ≡ b → pick true b (nat_lt (base_of mine) (base_of other)) ≡ Some First
    by false e = refl
    by true e = ap (λ (l : Bool). pick true true l) (le-ltb (base_of mine) (base_of other) (omega (arith, newer e)))
wins Second mine other opened newer =
    ap (λ (b : Bool). pick (is_open other) b (nat_lt (base_of other) (base_of mine))) opened ∙ by (is_open other) refl
  where
    by : (b : Bool) → is_open other ≡ b → pick b true (nat_lt (base_of other) (base_of mine)) ≡ Some Second
    by false e = refl
    by true e = ap (λ (l : Bool). pick true true l) (lt-ltb (base_of other) (base_of mine) (newer e))

-- the file that is chosen is read
pub chosen_says : (side : Side) (mine other : Option (List ℕ)) → chosen side mine other ≡ Some side → of_pair side mine other ≡ side_says side mine
chosen_says First mine other e = ap (said_by mine other) e
chosen_says Second mine other e = ap (said_by other mine) e

-- which is chosen depends on gates and numbers alone
pub chosen_same : (side : Side) (mine new other : Option (List ℕ)) → is_open new ≡ is_open mine → base_of new ≡ base_of mine → chosen side new other ≡ chosen side mine other
chosen_same First mine new other gate base = λ i. pick (gate i) (is_open other) (nat_lt (base i) (base_of other))
chosen_same Second mine new other gate base = λ i. pick (is_open other) (gate i) (nat_lt (base_of other) (base i))

-- ---- what a choice says of the gates

first_opened : (a b l : Bool) → pick a b l ≡ Some First → a ≡ true
first_opened true b l e = refl
first_opened false true l e = absurd (let no : ◌≡◌ {A = Option Side} (Some Second) (Some First) = e in cc)
first_opened false false l e = absurd (let no : ◌≡◌ {A = Option Side} None (Some First) = e in cc)

second_opened : (a b l : Bool) → pick a b l ≡ Some Second → b ≡ true
second_opened a true l e = refl
second_opened true false l e = absurd (let no : ◌≡◌ {A = Option Side} (Some First) (Some Second) = e in cc)
second_opened false false l e = absurd (let no : ◌≡◌ {A = Option Side} None (Some Second) = e in cc)

none_opened : (a b l : Bool) → pick a b l ≡ None → (a ≡ false) × (b ≡ false)
none_opened true true true e = absurd (let no : ◌≡◌ {A = Option Side} (Some Second) None = e in cc)
none_opened true true false e = absurd (let no : ◌≡◌ {A = Option Side} (Some First) None = e in cc)
none_opened true false l e = absurd (let no : ◌≡◌ {A = Option Side} (Some First) None = e in cc)
none_opened false true l e = absurd (let no : ◌≡◌ {A = Option Side} (Some Second) None = e in cc)
none_opened false false l e = (refl, refl)

-- ---- from what is current

-- the file of a side is current, with these settings
pub record IsCurrent (side : Side) (mine other : Option (List ℕ)) (s : Settled) : Type 0 where
  pub is_chosen : chosen side mine other ≡ Some side
  pub bytes : List ℕ
  pub file : mine ≡ Some bytes
  pub opened : is_open (Some bytes) ≡ true
  pub says : file_says bytes ≡ Ok s.rec
  pub is : s ≡ settled side bytes s.rec

ok_same : {A B : Type 0} (x y : A) → ◌≡◌ {A = Result A B} (Ok x) (Ok y) → x ≡ y
ok_same x y e = cc

settled_from : (side : Side) (mine other : Option (List ℕ)) (s : Settled) → chosen side mine other ≡ Some side → is_open mine ≡ true → side_says side mine ≡ Ok s → IsCurrent side mine other s
settled_from side None other s choice opened h = absurd (let no : false ≡ true = opened in cc)
settled_from side (Some bytes) other s choice opened h = by (file_says bytes) refl h
  where
    by : (r : Result Rec ℕ) → file_says bytes ≡ r → settled_in side bytes r ≡ Ok s → IsCurrent side (Some bytes) other s
    by (Ok r) e found =
        let is : settled side bytes r ≡ s = ok_same (settled side bytes r) s found in
        let same : r ≡ s.rec = ap (λ (t : Settled). t.rec) is in
        record {
          is_chosen = choice;
          bytes = bytes;
          file = refl;
          opened = opened;
          says = e ∙ ap (λ (q : Rec). Ok q) same;
          is = sym is ∙ ap (settled side bytes) same;
        }
    by (Err at) e found = absurd (let no : ◌≡◌ {A = Result Settled Foreign} (Err (record { name = settings_text side; at = at })) (Ok s) = found in cc)

-- what is read of an open file has its side
said_side : (side : Side) (file : Option (List ℕ)) (s : Settled) → is_open file ≡ true → side_says side file ≡ Ok s → s.side ≡ Some side
said_side side file s opened h =
    by file opened h
  where
    by : (f : Option (List ℕ)) → is_open f ≡ true → side_says side f ≡ Ok s → s.side ≡ Some side
    by None o e = absurd (let no : false ≡ true = o in cc)
    by (Some bytes) o e = of (file_says bytes) e
      where
        of : (r : Result Rec ℕ) → settled_in side bytes r ≡ Ok s → s.side ≡ Some side
        of (Ok r) found = sym (ap (λ (t : Settled). t.side) (ok_same (settled side bytes r) s found))
        of (Err at) found = absurd (let no : ◌≡◌ {A = Result Settled Foreign} (Err (record { name = settings_text side; at = at })) (Ok s) = found in cc)

unsettled_side : (s : Settled) → ◌≡◌ {A = Result Settled Foreign} (Ok unsettled) (Ok s) → s.side ≡ None
unsettled_side s e = sym (ap (λ (t : Settled). t.side) (ok_same unsettled s e))

pub current_of : (side : Side) (mine other : Option (List ℕ)) (s : Settled) → of_pair side mine other ≡ Ok s → s.side ≡ Some side → IsCurrent side mine other s
current_of First mine other s h mine_is = by (current_side mine other) refl h
  where
    by : (v : Option Side) → current_side mine other ≡ v → said_by mine other v ≡ Ok s → IsCurrent First mine other s
    by None e found = absurd (let no : ◌≡◌ {A = Option Side} None (Some First) = sym (unsettled_side s found) ∙ mine_is in cc)
    by (Some First) e found = settled_from First mine other s e (first_opened _ _ _ e) found
    by (Some Second) e found = absurd (let no : ◌≡◌ {A = Option Side} (Some Second) (Some First) = sym (said_side Second other s (second_opened (is_open mine) (is_open other) _ e) found) ∙ mine_is in cc)
current_of Second mine other s h mine_is = by (current_side other mine) refl h
  where
    by : (v : Option Side) → current_side other mine ≡ v → said_by other mine v ≡ Ok s → IsCurrent Second mine other s
    by None e found = absurd (let no : ◌≡◌ {A = Option Side} None (Some Second) = sym (unsettled_side s found) ∙ mine_is in cc)
    by (Some Second) e found = settled_from Second mine other s e (second_opened (is_open other) (is_open mine) _ e) found
    by (Some First) e found = absurd (let no : ◌≡◌ {A = Option Side} (Some First) (Some Second) = sym (said_side First other s (first_opened (is_open other) (is_open mine) _ e) found) ∙ mine_is in cc)

-- no file is current: both are closed
pub record NoneIsOpen (first second : Option (List ℕ)) (s : Settled) : Type 0 where
  pub first_shut : is_open first ≡ false
  pub second_shut : is_open second ≡ false
  pub is : s ≡ unsettled

pub none_of : (first second : Option (List ℕ)) (s : Settled) → settings_of first second ≡ Ok s → s.side ≡ None → NoneIsOpen first second s
none_of first second s h none = by (current_side first second) refl h
  where
    by : (v : Option Side) → current_side first second ≡ v → said_by first second v ≡ Ok s → NoneIsOpen first second s
    by None e found =
        let shut = none_opened (is_open first) (is_open second) _ e in
        record { first_shut = shut.0; second_shut = shut.1; is = sym (ok_same unsettled s found) }
    by (Some First) e found = absurd (let no : ◌≡◌ {A = Option Side} (Some First) None = sym (said_side First first s (first_opened (is_open first) (is_open second) _ e) found) ∙ none in cc)
    by (Some Second) e found = absurd (let no : ◌≡◌ {A = Option Side} (Some Second) None = sym (said_side Second second s (second_opened (is_open first) (is_open second) _ e) found) ∙ none in cc)

-- the file that is current says so
pub current_again : (side : Side) (mine other : Option (List ℕ)) (s : Settled) → IsCurrent side mine other s → side_says side mine ≡ Ok s
current_again side mine other s c =
    ap (side_says side) c.file ∙ ap (settled_in side c.bytes) c.says ∙ ap (λ (t : Settled). Ok t) (sym c.is)

pub current_open : (side : Side) (mine other : Option (List ℕ)) (s : Settled) → IsCurrent side mine other s → is_open mine ≡ true
current_open side mine other s c = ap is_open c.file ∙ c.opened

-- alone it says the same
pub current_alone : (side : Side) (mine other : Option (List ℕ)) (s : Settled) → IsCurrent side mine other s → alone side mine ≡ Ok s
current_alone side mine other s c =
    ap (λ (b : Bool). if b then side_says side mine else Ok unsettled) (current_open side mine other s c) ∙ current_again side mine other s c
