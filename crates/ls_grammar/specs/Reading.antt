-- Reading from left to right.
use Rattle.std.specs.Prelude.{◌≡◌, ℕ, ◌+◌, ◌*◌, ◌-◌, ◌%◌, ◌^◌, Bool, ◌&&◌, ◌||◌, nat_lt, nat_le, ◌==◌, if◌then◌else◌, List, [], ◌∷◌, length, take, drop, Result, Ok, Err, Option, Some, None, codes, max, min}
use Rattle.std.specs.List.{prefix_len, position_or_len}
use Rattle.std.specs.Str.{bytes_eq}
use Rattle.std.specs.Char.{is_ascii_digit}
use Rattle.ls_credential.specs.declared.kind.Kind.TheVariants.{Empty, Pattern, Pin, Password}
use Rattle.ls_grammar.specs.Words.{Word, fixed, number, hex, credential, Field, either, a_number, some_hex, a_credential, longest_line, Line, Row}
use Rattle.ls_grammar.specs.Reads.{shared}

-- what f gives for what was read, or how far the text goes
infixl 10 ◌>>=◌
abbrev pub ◌>>=◌ : {A B : Type 0} → Result A ℕ → (A → Result B ℕ) → Result B ℕ
(Ok x) >>= f = f x
(Err n) >>= f = Err n

-- the front of the text, up to its first space
abbrev pub before_space : List ℕ → List ℕ
before_space text = take (position_or_len (λ b. b == 32) text) text

-- the rest of it, with the space
abbrev pub from_space : List ℕ → List ℕ
from_space text = drop (position_or_len (λ b. b == 32) text) text

-- the word, if it is one of two, or how far it goes along with them
unfoldable pub read_either : List ℕ → List ℕ → List ℕ → Result Word ℕ
read_either this that text =
    if bytes_eq text this then Ok (fixed this)
    else if bytes_eq text that then Ok (fixed that)
    else Err (max (shared this text) (shared that text))

-- what a number says whose first i digits, just read, say n
abbrev pub read_digits : ℕ → ℕ → List ℕ → Result Word ℕ
read_digits n i [] = Ok (number n)
read_digits n i (b ∷ text) =
    if is_ascii_digit b && nat_lt (n * 10 + (b - 48)) (2 ^ 32)
    then read_digits (n * 10 + (b - 48)) (i + 1) text
    else Err i

-- a number of 32 bits without a leading zero
unfoldable pub read_number : List ℕ → Result Word ℕ
read_number [] = Err 0
read_number (b ∷ text) =
    if b == 48 then (if length text == 0 then Ok (number 0) else Err 1)
    else read_digits 0 0 (b ∷ text)

-- a digit of hex
abbrev pub is_hex : ℕ → Bool
is_hex b = is_ascii_digit b || (nat_le 97 b && nat_le b 102)

-- the value of a digit of hex
abbrev pub hex_value : ℕ → ℕ
hex_value b = if nat_lt b 58 then b - 48 else b - 87

-- the bytes that hex digits say
unfoldable pub unhex : List ℕ → List ℕ
unhex [] = []
unhex (b ∷ []) = []
unhex (b ∷ c ∷ text) = (hex_value b * 16 + hex_value c) ∷ unhex text

-- from low to high bytes in hex
unfoldable pub read_hex : ℕ → ℕ → List ℕ → Result Word ℕ
read_hex low high text =
    if prefix_len is_hex text == length text && length text % 2 == 0
    && nat_le (2 * low) (length text) && nat_le (length text) (2 * high)
    then Ok (hex (unhex text))
    else Err (min (prefix_len is_hex text) (2 * high))

-- a printed byte of ASCII that is no space
abbrev pub is_visible : ℕ → Bool
is_visible b = nat_le 33 b && nat_le b 126

-- how far the text goes along with the mark and then visible bytes, where there is room for so many
abbrev pub along : List ℕ → ℕ → List ℕ → ℕ
along mark room text =
    if nat_lt room (length mark) then 0
    else if shared mark text == length mark
    then min (length mark + prefix_len is_visible (drop (length mark) text)) room
    else shared mark text

-- the text is the mark and then visible bytes
abbrev pub is_marked : List ℕ → ℕ → List ℕ → Bool
is_marked mark room text = nat_le (length mark) (length text) && along mark room text == length text

-- a credential of at most so many bytes
unfoldable pub read_credential : ℕ → List ℕ → Result Word ℕ
read_credential room text =
    if bytes_eq text (codes "none") then Ok (credential Empty [])
    else if is_marked (codes "pattern:") room text then Ok (credential Pattern (drop 8 text))
    else if is_marked (codes "pin:") room text then Ok (credential Pin (drop 4 text))
    else if is_marked (codes "password:") room text then Ok (credential Password (drop 9 text))
    else Err (max (shared (codes "none") text) (max (along (codes "pattern:") room text)
    (max (along (codes "pin:") room text) (along (codes "password:") room text))))

-- the word in a field, where there is room for so many bytes
abbrev pub read_word : Field → ℕ → List ℕ → Result Word ℕ
read_word (either this that) room text = read_either this that text
read_word a_number room text = read_number text
read_word (some_hex low high) room text = read_hex low high text
read_word a_credential room text = read_credential room text

-- the fewest bytes of a word
abbrev pub least_of : Field → ℕ
least_of (either this that) = min (length this) (length that)
least_of a_number = 1
least_of (some_hex low high) = 2 * low
least_of a_credential = 4

-- the fewest bytes of the words, each behind a space
abbrev pub least : List Field → ℕ
least [] = 0
least (f ∷ fs) = 1 + least_of f + least fs

-- a word, and the place and the text behind it
pub record Step : Type 0 where
  pub word : Word
  pub at : ℕ
  pub rest : List ℕ

-- what reading the word at the front of a text gives, where the text begins at this place
abbrev pub stepped : ℕ → List ℕ → Result Word ℕ → Result Step ℕ
stepped at text (Ok w) =
    Ok (record { word = w; at = at + length (before_space text); rest = from_space text })
stepped at text (Err n) = Err (at + n)

-- the next word of a text that begins with its space at this place; behind it the line needs at
-- least `after` bytes more
abbrev pub next : Field → ℕ → ℕ → List ℕ → Result Step ℕ
next f after at [] = Err at
next f after at (b ∷ text) =
    stepped (at + 1) text (read_word f (longest_line - (at + 1 + after)) (before_space text))

-- behind its space, the text has this word, and behind it this rest at this place
abbrev pub HasWord : ℕ → List ℕ → List ℕ → ℕ → List ℕ → Type 0
HasWord at [] word end rest = ⊥
HasWord at (b ∷ text) word end rest =
    (word ≡ before_space text) × (end ≡ at + 1 + length (before_space text))
    × (rest ≡ from_space text)

-- the words of the fields, which are all of the text; or how far it goes
abbrev pub read_words : List Field → ℕ → List ℕ → Result (List Word) ℕ
read_words [] at [] = Ok []
read_words [] at (b ∷ text) = Err at
read_words (f ∷ fs) at text =
    next f (least fs) at text
    >>= λ step. read_words fs step.at step.rest >>= λ words. Ok (step.word ∷ words)

-- ---- a whole line

-- the row that begins with the word
abbrev pub find_row : List Row → List ℕ → Option Row
find_row [] word = None
find_row (row ∷ rows) word = if bytes_eq word row.verb then Some row else find_row rows word

-- how far the word goes along with the first word of a row
abbrev pub verbs_along : List Row → List ℕ → ℕ
verbs_along [] word = 0
verbs_along (row ∷ rows) word = max (shared row.verb word) (verbs_along rows word)

-- the line of the row that was found, whose other words are in the rest
abbrev pub read_row : List Row → List ℕ → List ℕ → Option Row → Result Line ℕ
read_row rows word rest None = Err (verbs_along rows word)
read_row rows word rest (Some row) =
    read_words row.fields (length word) rest
    >>= λ words. Ok (record { verb = row.verb; words = words })

-- the line of the grammar that is the text, or how far the text goes along with any
abbrev pub read_line : List Row → List ℕ → Result Line ℕ
read_line rows text =
    read_row rows (before_space text) (from_space text) (find_row rows (before_space text))
