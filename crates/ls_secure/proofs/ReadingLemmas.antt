-- What a text is that bytes begin with: fields of a known width, and rows one after another.
use Rattle.std.proofs.Common.{◌≡◌, ◌+◌, ◌<◌, ◌≤◌, ◌^◌, ℕ, zero, suc, Bool, true, false, List, [], ◌∷◌, ◌++◌, length, take, drop, Some, refl, sym, ◌∙◌, ap, subst, arith}
use Rattle.std.specs.Prelude.{◌&&◌, ◌↔◌, slice_get, IsTrue, IsErr, IfOk, MatchResult, Result, Ok, Err}
use Rattle.std.specs.List.{AllByRecursion, flat_map}
use Rattle.std.specs.Ordering.{nat_cmp, is_lt, ordering_reverse}
use Rattle.std.specs.declared.cmp.Ordering.{Ordering}
use Rattle.std.specs.declared.cmp.Ordering.TheVariants.{Less, Equal, Greater}
use Rattle.std.specs.FinMap.Entries.{put, by_order, below_all, is_sorted}
use Rattle.std.proofs.lemmas.Cmp.{nat_cmp_total}
use Rattle.std.proofs.lemmas.List.{append_assoc, take_at, drop_at, take_all, drop_all}
use Rattle.byteorder.specs.Endian.{big_number}
use Rattle.ls_bytes.specs.Fields.{be32, be64}
use Rattle.ls_bytes.specs.Reading.{Reading, Reads}
use Rattle.ls_bytes.proofs.FieldLemmas.{big_number-be32, big_number-be64}
use Rattle.ls_board.specs.Order.{IsSorted}
use Rattle.sha2.specs.Sha256.{sha256}
use Rattle.ls_secure.specs.declared.reading.Misread.{Misread}
use Rattle.ls_secure.specs.declared.reading.Misread.TheVariants.{Memory}
use Rattle.ls_secure.specs.Reading.{Gave}
use Rattle.ls_secure.specs.Secure.{closed}

-- ---- fields

-- two texts of one length at the head of the same bytes
pub same_front : (a b x y : List ℕ) (n : ℕ) → length a ≡ n → length b ≡ n → a ++ x ≡ b ++ y → (a ≡ b) × (x ≡ y)
same_front a b x y n wide as_wide is = (
  sym (take_at a x n wide) ∙ (ap (λ (l : List ℕ). take n l) is ∙ take_at b y n as_wide),
  sym (drop_at a x n wide) ∙ (ap (λ (l : List ℕ). drop n l) is ∙ drop_at b y n as_wide),
)

pub gave_32 : {E : Type 0} (result : Result ℕ E) (old new : Reading) → IfOk result (λ v. Reads 4 (be32 v) old new) → IfOk result (λ v. v ≡ big_number 4 old.left) → IsErr result ↔ (length old.left < 4)
    → (n : ℕ) (rest : List ℕ) → n < 2 ^ 32 → old.left ≡ be32 n ++ rest → Gave result new.left n rest
gave_32 (Ok v) old new reads value short n rest small is =
    (ap Ok (value ∙ (ap (λ (l : List ℕ). big_number 4 l) is ∙ big_number-be32 n rest small)), reads.rest ∙ ap (λ (l : List ℕ). drop 4 l) is)
gave_32 (Err e) old new reads value short n rest small is = absurd (omega (arith, short.0 refl, ap length is))

pub gave_64 : {E : Type 0} (result : Result ℕ E) (old new : Reading) → IfOk result (λ v. Reads 8 (be64 v) old new) → IfOk result (λ v. v ≡ big_number 8 old.left) → IsErr result ↔ (length old.left < 8)
    → (n : ℕ) (rest : List ℕ) → n < 2 ^ 64 → old.left ≡ be64 n ++ rest → Gave result new.left n rest
gave_64 (Ok v) old new reads value short n rest small is =
    (ap Ok (value ∙ (ap (λ (l : List ℕ). big_number 8 l) is ∙ big_number-be64 n rest small)), reads.rest ∙ ap (λ (l : List ℕ). drop 8 l) is)
gave_64 (Err e) old new reads value short n rest small is = absurd (omega (arith, short.0 refl, ap length is))

-- what was read is the value that it gave
pub inside : {X E : Type 0} (result : Result X E) (x value : X) → result ≡ Ok x → result ≡ Ok value → x ≡ value
inside result x value is gave = cc

-- and it is as the reading says, unless memory ran out
pub given : {X : Type 0} (Is : X → Type 0) (result : Result X Misread) (x : X) → result ≡ Ok x → MatchResult result Is (λ e. e ≡ Memory) → Is x
given {X = X} Is result x is gave = subst (λ (r : Result X Misread). MatchResult r Is (λ e. e ≡ Memory)) is gave

pub lacked : {X : Type 0} (Is : X → Type 0) (result : Result X Misread) (e : Misread) → result ≡ Err e → MatchResult result Is (λ e. e ≡ Memory) → e ≡ Memory
lacked {X = X} Is result e is gave = subst (λ (r : Result X Misread). MatchResult r Is (λ e. e ≡ Memory)) is gave

-- ---- texts in a row

pub closed_is : (bytes : List ℕ) → closed bytes ≡ bytes ++ sha256 bytes
unfolding closed
closed_is bytes = refl

pub regroup_3 : (a b c r : List ℕ) → a ++ b ++ c ++ r ≡ a ++ (b ++ (c ++ r))
regroup_3 a b c r = append_assoc (a ++ b) c r ∙ append_assoc a b (c ++ r)

pub regroup_4 : (a b c d r : List ℕ) → a ++ b ++ c ++ d ++ r ≡ a ++ (b ++ (c ++ (d ++ r)))
regroup_4 a b c d r = append_assoc (a ++ b ++ c) d r ∙ regroup_3 a b c (d ++ r)

pub regroup_5 : (a b c d e r : List ℕ) → a ++ b ++ c ++ d ++ e ++ r ≡ a ++ (b ++ (c ++ (d ++ (e ++ r))))
regroup_5 a b c d e r = append_assoc (a ++ b ++ c ++ d) e r ∙ regroup_4 a b c d (e ++ r)

-- ---- rows

later : (n : ℕ) → suc n ≡ n + 1
later n = omega arith

module _ {X : Type 0} (text : X → List ℕ) (Good : X → Type 0) where
  -- the row of this place is the next in the bytes
  pub record Next (rows : List X) (at : ℕ) (left rest : List ℕ) : Type 0 where
    pub row : X
    pub there : slice_get rows at ≡ Some row
    pub good : Good row
    pub is : left ≡ text row ++ (flat_map text (drop (at + 1) rows) ++ rest)

  pub next : (rows : List X) (at : ℕ) (left rest : List ℕ) → at < length rows → AllByRecursion Good rows → left ≡ flat_map text (drop at rows) ++ rest → Next rows at left rest
  next [] at left rest within all is = absurd (omega arith)
  next (r ∷ rows) zero left rest within all is = record { row = r; there = refl; good = all.0; is = is ∙ append_assoc (text r) (flat_map text rows) rest }
  next (r ∷ rows) (suc at) left rest within all is =
      let n = next rows at left rest (omega arith) all.1 is in
      record { row = n.row; there = n.there; good = n.good; is = n.is ∙ ap (λ (k : ℕ). text n.row ++ (flat_map text (drop k (r ∷ rows)) ++ rest)) (ap suc (sym (later at)) ∙ later (suc at)) }

  -- all rows were read
  pub ended : (rows got : List X) (at : ℕ) (left rest : List ℕ) → length rows ≤ at → got ≡ take at rows → left ≡ flat_map text (drop at rows) ++ rest → (got ≡ rows) × (left ≡ rest)
  ended rows got at left rest all so_far is =
      (so_far ∙ take_all at rows all, is ∙ ap (λ (l : List X). flat_map text l ++ rest) (drop_all at rows all))

-- ---- rows that go into a table in their order

both_left : (a b : Bool) → IsTrue (a && b) → IsTrue a
both_left true b is = refl
both_left false b is = absurd (cc)

both_right : (a b : Bool) → IsTrue (a && b) → IsTrue b
both_right true b is = is
both_right false b is = absurd (cc)

is_less : (o : Ordering) → IsTrue (is_lt o) → o ≡ Less
is_less Less is = refl
is_less Equal is = absurd (cc)
is_less Greater is = absurd (cc)

module _ {X : Type 0} where
  -- each row of a sorted table stands above those before it
  below_at : (k : ℕ) (rows : List (ℕ × X)) (at : ℕ) (row : ℕ × X) → IsTrue (below_all nat_cmp k rows) → slice_get rows at ≡ Some row → nat_cmp k row.0 ≡ Less
  below_at k [] at row below there = absurd (cc)
  below_at k (r ∷ rows) zero row below there =
      let same : r ≡ row = cc in ap (λ (q : ℕ × X). nat_cmp k q.0) (sym same) ∙ is_less (nat_cmp k r.0) (both_left _ _ below)
  below_at k (r ∷ rows) (suc at) row below there = below_at k rows at row (both_right _ _ below) there

  -- so it goes in behind them
  put_next : (rows : List (ℕ × X)) (at : ℕ) (row : ℕ × X) → IsSorted nat_cmp rows → slice_get rows at ≡ Some row → put nat_cmp row.0 row.1 (take at rows) ≡ take (suc at) rows
  put_next [] at row sorted there = absurd (cc)
  put_next (r ∷ rows) zero row sorted there = let same : r ≡ row = cc in ap (λ (q : ℕ × X). q ∷ []) (sym same)
  put_next (r ∷ rows) (suc at) row sorted there =
      let above : nat_cmp row.0 r.0 ≡ Greater = nat_cmp_total.antisymm row.0 r.0 ∙ ap ordering_reverse (below_at r.0 rows at row (both_left _ _ sorted) there) in
      ap (λ (o : Ordering). by_order o (row ∷ r ∷ take at rows) ((r.0, row.1) ∷ take at rows) (r ∷ put nat_cmp row.0 row.1 (take at rows))) above
      ∙ ap (λ (t : List (ℕ × X)). r ∷ t) (put_next rows at row (both_right _ _ sorted) there)

  pub put_more : (rows : List (ℕ × X)) (at : ℕ) (row : ℕ × X) → IsSorted nat_cmp rows → slice_get rows at ≡ Some row → put nat_cmp row.0 row.1 (take at rows) ≡ take (at + 1) rows
  put_more rows at row sorted there = put_next rows at row sorted there ∙ ap (λ (k : ℕ). take k rows) (later at)

  -- a row that is pushed behind those before it
  push_next : (rows : List X) (at : ℕ) (row : X) → slice_get rows at ≡ Some row → take at rows ++ row ∷ [] ≡ take (suc at) rows
  push_next [] at row there = absurd (cc)
  push_next (r ∷ rows) zero row there = let same : r ≡ row = cc in ap (λ (q : X). q ∷ []) (sym same)
  push_next (r ∷ rows) (suc at) row there = ap (λ (t : List X). r ∷ t) (push_next rows at row there)

  pub push_more : (rows : List X) (at : ℕ) (row : X) → slice_get rows at ≡ Some row → take at rows ++ row ∷ [] ≡ take (at + 1) rows
  push_more rows at row there = push_next rows at row there ∙ ap (λ (k : ℕ). take k rows) (later at)
