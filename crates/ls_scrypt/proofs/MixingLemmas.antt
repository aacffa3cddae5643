-- BlockMix and ROMix, a step at a time.
use Rattle.std.proofs.Common.{◌≡◌, ℕ, ◌+◌, ◌*◌, ◌%◌, ◌<◌, ◌≤◌, List, ◌++◌, length, take, drop, refl, ap, sym, ◌∙◌, arith, add-one, inl, inr}
use Rattle.std.proofs.Math.Nat.{mul-le-mul_left}
use Rattle.std.proofs.lemmas.Bool.{cases_lt}
use Rattle.std.proofs.lemmas.List.{drop-take, drop-drop, drop_at, take_at, take-take}
use Rattle.std.proofs.lemmas.Slice.{take-put_mid}
use borrow.Rule.Slice.PartMut.{put_mid}
use Rattle.ls_bytes.specs.Joined.{xor}
use Rattle.ls_scrypt.specs.BlockMix.{block, block_mix, part, x_before, y_at, evens, odds}
use Rattle.ls_scrypt.specs.RoMix.{integerify, mixed, v_at}
use Rattle.ls_scrypt.specs.Salsa.{salsa20_8}

-- X after one block more
pub x_before-next : (r : ℕ) (b x y c : List ℕ) (i : ℕ) → x ≡ x_before r b i → c ≡ block b i
    → y ≡ salsa20_8 (xor x c) → y ≡ x_before r b (i + 1)
unfolding x_before
x_before-next r b x y c i ex ec ey = rw (ey, ex, ec, add-one) refl

-- one more part written behind those that stand
pub written_more : (i k : ℕ) (xs ys done : List ℕ) → take (64 * i) xs ≡ done → 64 * i ≤ length xs → length ys ≡ 64
    → take (64 * (i + 1)) (put_mid (64 * i) k xs ys) ≡ done ++ ys
written_more i k xs ys done held fits long =
    take-put_mid (64 * i) k xs ys (64 * (i + 1)) (omega arith) fits ∙ ap (λ (t : List ℕ). t ++ ys) held

pub evens-next : (r : ℕ) (b y : List ℕ) (i : ℕ) → y ≡ y_at r b (2 * i) → evens r b i ++ y ≡ evens r b (i + 1)
unfolding evens
evens-next r b y i e = rw (add-one i, e) refl

pub odds-next : (r : ℕ) (b y : List ℕ) (i : ℕ) → y ≡ y_at r b (2 * i + 1) → odds r b i ++ y ≡ odds r b (i + 1)
unfolding odds
odds-next r b y i e = rw (add-one i, e) refl

-- lists that are the same from i on are the same from i + k on
pub drop_more_same : (xs ys : List ℕ) (i k : ℕ) → drop i xs ≡ drop i ys → drop (i + k) xs ≡ drop (i + k) ys
drop_more_same xs ys i k e = sym (drop-drop k i xs) ∙ ap (drop k) e ∙ drop-drop k i ys

part-take : (k j m : ℕ) (v : List ℕ) → k * j + k ≤ m → part k (take m v) j ≡ part k v j
part-take k j m v le =
    sym (drop-take (k * j) k (take m v)) ∙ ap (drop (k * j)) (take-take (k * j + k) m v le) ∙ drop-take (k * j) k v

-- a part before m of lists that are the same up to m
pub part_front : (k j m : ℕ) (v w : List ℕ) → k * j + k ≤ m → take m v ≡ take m w → part k v j ≡ part k w j
part_front k j m v w le same =
    sym (part-take k j m v le) ∙ ap (λ (t : List ℕ). part k t j) same ∙ part-take k j m w le

-- one more row of a table: those before it stay, and it is the one before it mixed
pub rows_more : (k i : ℕ) (v w : List ℕ) (f : ℕ → List ℕ) → ((j : ℕ) → j < i → part k v j ≡ f j)
    → take (k * i) w ≡ take (k * i) v → part k w i ≡ f i → (j : ℕ) → j < i + 1 → part k w j ≡ f j
rows_more k i v w f below same here j lt = elim (cases_lt j i) [
  | inl under ↦
      let le : k * j + k ≤ k * i = omega (arith, mul-le-mul_left k under) in
      part_front k j (k * i) w v le same ∙ below j under
  | inr over ↦ let e : j ≡ i = omega arith in rw e here
]

-- one more turn of ROMix: x is what t turns give
pub mixed-next : (r n t j : ℕ) (first x y row : List ℕ) → x ≡ mixed r n first t → j ≡ integerify r x % n
    → row ≡ v_at r first j → y ≡ block_mix r (xor x row) → y ≡ mixed r n first (t + 1)
unfolding mixed
mixed-next r n t j first x y row ex ej erow ey = rw (ey, erow, ej, ex, add-one) refl

-- the part behind others
pub part_behind : (k i : ℕ) (done out rest : List ℕ) → length done ≡ k * i → length out ≡ k
    → part k (done ++ (out ++ rest)) i ≡ out
part_behind k i done out rest front long =
    ap (take k) (drop_at done (out ++ rest) (k * i) front) ∙ take_at out rest k long

-- the last part before a cut
pub part_last : (k i w : ℕ) (v done : List ℕ) → done ≡ take (k * (i + 1)) v → w ≡ k
    → take w (drop (k * i) done) ≡ part k v i
part_last k i w v done is width =
    let next : k * (i + 1) ≡ k * i + k = omega arith in
    rw (is, width) (part-take k i (k * (i + 1)) v (omega arith))

-- the first row of a table
pub rows_first : (k : ℕ) (x rest : List ℕ) (f : ℕ → List ℕ) → x ≡ f 0 → length x ≡ k
    → (j : ℕ) → j < 0 + 1 → part k (x ++ rest) j ≡ f j
rows_first k x rest f is long j lt =
    let first : j ≡ 0 = omega arith in
    let none : k * 0 ≡ 0 = omega arith in
    rw (first, none) (take_at x rest k long ∙ is)

-- the row behind row i
pub v_at-next : (r i : ℕ) (x : List ℕ) → block_mix r (v_at r x i) ≡ v_at r x (i + 1)
unfolding v_at
v_at-next r i x = rw (add-one i) refl
