-- What lines and fields are, from the first one on.
use Rattle.std.proofs.Common.{◌≡◌, ◌≢◌, ◌≤◌, ◌<◌, ◌+◌, ◌*◌, ◌%◌, ◌==◌, not, ℕ, suc, Bool, true, false, List, [], ◌∷◌, ◌++◌, length, length-append, take, drop, get_or, append_assoc, refl, sym, ◌∙◌, ap, arith}
use Rattle.std.specs.List.{AllByRecursion, flat_map}
use Rattle.std.proofs.lemmas.List.{append-nil}
use Rattle.std.proofs.lemmas.Bool.{eqb-true}
use Rattle.ls_bytes.specs.Fields.{be64}
use Rattle.ls_bytes.specs.Names.{is_name_byte, IsName}
use Rattle.ls_board.specs.Listing.{line_of, IsFields, IsListing}
use Rattle.ls_sweep.specs.Lines.{up_to_feed, AreLines, BeginsWith}

-- one more at the end
pub all_more : {X : Type 0} (P : X → Type 0) (xs : List X) (x : X) → AllByRecursion P xs → P x → AllByRecursion P (xs ++ x ∷ [])
all_more P [] x all is = (is, tt)
all_more P (y ∷ xs) x all is = (all.0, all_more P xs x all.1 is)

-- the texts of one more
pub text_more : {X : Type 0} (text : X → List ℕ) (xs : List X) (x : X) (rest : List ℕ) → flat_map text xs ++ (text x ++ rest) ≡ flat_map text (xs ++ x ∷ []) ++ rest
text_more text [] x rest = ap (λ (l : List ℕ). l ++ rest) (sym (append-nil (text x)))
text_more text (y ∷ xs) x rest =
    append_assoc (text y) (flat_map text xs) (text x ++ rest)
    ∙ (ap (λ (l : List ℕ). text y ++ l) (text_more text xs x rest)
    ∙ sym (append_assoc (text y) (flat_map text (xs ++ x ∷ [])) rest))

-- ---- fields

length_fields : (numbers : List ℕ) → length (flat_map be64 numbers) ≡ 8 * length numbers
length_fields [] = refl
length_fields (x ∷ xs) = omega (arith, length_fields xs)

pub whole_fields : (bytes : List ℕ) → IsFields bytes → length bytes % 8 ≡ 0
whole_fields bytes is = let n : length bytes ≡ 8 * length is.numbers = ap length is.is ∙ length_fields is.numbers in omega (arith, n)

-- ---- lines

pub listed_lines : (bytes : List ℕ) → IsListing bytes → AreLines bytes
listed_lines bytes is = record { names = is.names; each = is.each; is = is.is }

-- a line of a name, and lines behind it
pub record IsLine (bytes : List ℕ) : Type 0 where
  pub name : List ℕ
  pub is_name : IsName name
  pub behind : List ℕ
  pub lines : AreLines behind
  pub is : bytes ≡ name ++ 10 ∷ behind

line_there : (x r : List ℕ) → (x ++ 10 ∷ []) ++ r ≡ x ++ 10 ∷ r
line_there [] r = refl
line_there (b ∷ x) r = ap (λ (l : List ℕ). b ∷ l) (line_there x r)

pub first_line : (bytes : List ℕ) → AreLines bytes → bytes ≢ [] → IsLine bytes
first_line bytes lines some = by lines.names lines.each lines.is
  where
    by : (names : List (List ℕ)) → AllByRecursion IsName names → bytes ≡ flat_map line_of names → IsLine bytes
    by [] each is = absurd (some is)
    by (n ∷ names) each is = record {
      name = n;
      is_name = each.0;
      behind = flat_map line_of names;
      lines = record { names = names; each = each.1; is = refl };
      is = is ∙ line_there n (flat_map line_of names);
    }

-- a name has no line feed
not_feed : (b : ℕ) → is_name_byte b ≡ true → not (b == 10) ≡ true
not_feed b is = by (b == 10) refl
  where
    by : (t : Bool) → (b == 10) ≡ t → not t ≡ true
    by false e = refl
    by true e =
        let ten : b ≡ 10 = eqb-true b 10 e in
        let bad : false ≡ true = sym (ap is_name_byte ten) ∙ is in
        absurd (cc)

feed_behind : (x r : List ℕ) → ((k d : ℕ) → k < length x → is_name_byte (get_or x k d) ≡ true) → up_to_feed (x ++ 10 ∷ r) ≡ length x
feed_behind [] r each = refl
feed_behind (b ∷ x) r each =
    let rest = feed_behind x r (λ k d within. each (suc k) d (omega arith)) in
    rw (not_feed b (each 0 0 (omega arith))) (omega (arith, rest))

pub line_ends : (bytes : List ℕ) (line : IsLine bytes) → up_to_feed bytes ≡ length line.name
line_ends bytes line = ap up_to_feed line.is ∙ feed_behind line.name line.behind (λ k d within. line.is_name.each k d within)

take_front : (x r : List ℕ) → take (length x) (x ++ r) ≡ x
take_front [] r = refl
take_front (b ∷ x) r = ap (λ (l : List ℕ). b ∷ l) (take_front x r)

drop_line : (x r : List ℕ) → drop (length x + 1) (x ++ 10 ∷ r) ≡ r
drop_line [] r = refl
drop_line (b ∷ x) r =
    let more : length (b ∷ x) + 1 ≡ suc (length x + 1) = omega arith in
    ap (λ (n : ℕ). drop n (b ∷ (x ++ 10 ∷ r))) more ∙ drop_line x r

pub line_fits : (bytes : List ℕ) → AreLines bytes → bytes ≢ [] → up_to_feed bytes + 1 ≤ length bytes
line_fits bytes lines some =
    let line = first_line bytes lines some in
    let ends = line_ends bytes line in
    let long : length bytes ≡ length (line.name ++ 10 ∷ line.behind) = ap length line.is in
    omega (arith, ends, long, length-append line.name (10 ∷ line.behind))

pub begins : (bytes : List ℕ) → AreLines bytes → bytes ≢ [] → BeginsWith bytes (take (up_to_feed bytes) bytes) (drop (up_to_feed bytes + 1) bytes)
begins bytes lines some =
    let line = first_line bytes lines some in
    let ends = line_ends bytes line in
    let front : take (up_to_feed bytes) bytes ≡ line.name = ap (λ (n : ℕ). take n bytes) ends ∙ (ap (take (length line.name)) line.is ∙ take_front line.name (10 ∷ line.behind)) in
    let back : drop (up_to_feed bytes + 1) bytes ≡ line.behind = ap (λ (n : ℕ). drop (n + 1) bytes) ends ∙ (ap (drop (length line.name + 1)) line.is ∙ drop_line line.name line.behind) in
    rw (front, back) (record { is = line.is ∙ sym (line_there line.name line.behind); name = line.is_name; lines = line.lines })
