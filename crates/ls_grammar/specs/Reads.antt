-- What it is to read a text exactly: the one thing of a kind that has this text, or how far the
-- text goes along with the text of any of them.
use Rattle.std.specs.Prelude.{◌≡◌, ℕ, ◌<◌, ◌≤◌, List, ◌++◌, length, take, Result, Ok, Err, ◌==◌, max}
use Rattle.std.specs.List.{common_prefix_len}

-- how long a prefix two texts share
abbrev pub shared : List ℕ → List ℕ → ℕ
shared a b = common_prefix_len (λ x y. x == y) a b

-- n is the length of the longest prefix of the text that is a prefix of the text of some v in Is
pub record IsFurthest {V : Type 0} (Is : V → Type 0) (text_of : V → List ℕ)
    (text : List ℕ) (n : ℕ) : Type 0 where
  pub reached : (v : V) × Is v × (shared (text_of v) text ≡ n)
  pub furthest : (v : V) → Is v → shared (text_of v) text ≤ n

-- The result is the v in Is with this text, and there is no other; or no v has it, and the result
-- is how far the text goes along with that of any.
abbrev pub Reads : {V : Type 0} → (V → Type 0) → (V → List ℕ) → List ℕ → Result V ℕ → Type 0
Reads Is text_of text (Ok v) =
    Is v × (text_of v ≡ text) × ((w : _) → Is w → text_of w ≡ text → w ≡ v)
Reads Is text_of text (Err n) =
    IsFurthest Is text_of text n × ((w : _) → Is w → ¬ (text_of w ≡ text))

-- what is read, or else what is read after it, or the greater of how far the two go
abbrev pub else_read : {V : Type 0} → Result V ℕ → Result V ℕ → Result V ℕ
else_read (Ok v) after = Ok v
else_read (Err m) (Ok v) = Ok v
else_read (Err m) (Err n) = Err (max m n)

-- The same in other words: the first n bytes of the text begin the text of some v in Is, and no
-- more of them do.
pub record IsLongestPrefix {V : Type 0} (Is : V → Type 0) (text_of : V → List ℕ)
    (text : List ℕ) (n : ℕ) : Type 0 where
  pub within : n ≤ length text
  pub begins : (v : V) × Is v × (rest : List ℕ) × (text_of v ≡ take n text ++ rest)
  pub longest : (m : ℕ) → n < m → m ≤ length text
      → (v : V) (rest : List ℕ) → Is v → ¬ (text_of v ≡ take m text ++ rest)
