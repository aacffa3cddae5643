-- The words of a line and their text, and which words a grammar lets stand where.
use Rattle.std.specs.Prelude.{◌≡◌, ℕ, ◌<◌, ◌≤◌, ◌^◌, ◌⊎◌, List, [], ◌∷◌, ◌++◌, length, codes, ⊤}
use Rattle.std.specs.List.{AllByRecursion}
use Rattle.std.specs.Fmt.{decimal}
use Rattle.hex.specs.Hex.{encode_lower}
use Rattle.ls_credential.specs.declared.kind.Kind.{Kind}
use Rattle.ls_credential.specs.declared.kind.Kind.TheVariants.{Empty, Pattern, Pin, Password}

-- a word after the first, by what it says
pub data Word : Type 0 where
  fixed : List ℕ → Word
  number : ℕ → Word
  hex : List ℕ → Word
  credential : Kind → List ℕ → Word

-- the text of a credential
abbrev pub credential_text : Kind → List ℕ → List ℕ
credential_text Empty text = codes "none"
credential_text Pattern text = codes "pattern:" ++ text
credential_text Pin text = codes "pin:" ++ text
credential_text Password text = codes "password:" ++ text

-- the text of a word
abbrev pub word_text : Word → List ℕ
word_text (fixed text) = text
word_text (number n) = decimal n
word_text (hex bytes) = encode_lower bytes
word_text (credential kind text) = credential_text kind text

-- the words behind the first one, each after one space
abbrev pub spaced : List Word → List ℕ
spaced [] = []
spaced (w ∷ ws) = 32 ∷ (word_text w ++ spaced ws)

-- what a grammar lets stand in one place: one of two words; a decimal number of 32 bits; from low
-- to high bytes in lower-case hex; a credential, of any length and whatever its rules say
pub data Field : Type 0 where
  either : List ℕ → List ℕ → Field
  a_number : Field
  some_hex : ℕ → ℕ → Field
  a_credential : Field

-- all bytes are printed ones of ASCII, and none is a space
abbrev pub AreVisible : List ℕ → Type 0
AreVisible text = AllByRecursion (λ b. (0x21 ≤ b) × (b ≤ 0x7e)) text

-- a text that may follow `pattern:` and the like: the rules of a credential are not asked here
abbrev pub IsCredentialText : Kind → List ℕ → Type 0
IsCredentialText Empty text = text ≡ []
IsCredentialText Pattern text = AreVisible text
IsCredentialText Pin text = AreVisible text
IsCredentialText Password text = AreVisible text

-- the word is one that the field lets stand there
abbrev pub IsOf : Field → Word → Type 0
IsOf (either this that) (fixed text) = (text ≡ this) ⊎ (text ≡ that)
IsOf a_number (number n) = n < 2 ^ 32
IsOf (some_hex low high) (hex bytes) =
    (low ≤ length bytes) × (length bytes ≤ high) × AllByRecursion (λ b. b < 256) bytes
IsOf a_credential (credential kind text) = IsCredentialText kind text
IsOf _ _ = ⊥

-- each word may stand in its place
abbrev pub AreOf : List Field → List Word → Type 0
AreOf [] [] = ⊤
AreOf (f ∷ fs) (w ∷ ws) = IsOf f w × AreOf fs ws
AreOf _ _ = ⊥

-- a line, by its first word, the verb, and what the others say
pub record Line : Type 0 where
  pub verb : List ℕ
  pub words : List Word

-- the text of a line
abbrev pub line_text : Line → List ℕ
line_text l = l.verb ++ spaced l.words

-- a row of a grammar: a verb, and what may stand in each place behind it
pub record Row : Type 0 where
  pub verb : List ℕ
  pub fields : List Field

-- the line is of one of the rows
abbrev pub IsOfRow : List Row → Line → Type 0
IsOfRow [] l = ⊥
IsOfRow (row ∷ rows) l = ((l.verb ≡ row.verb) × AreOf row.fields l.words) ⊎ IsOfRow rows l

-- no line of a grammar has more bytes
abbrev pub longest_line : ℕ
longest_line = 4096

-- the line is one of the grammar
abbrev pub IsLine : List Row → Line → Type 0
IsLine rows l = IsOfRow rows l × (length (line_text l) ≤ longest_line)
