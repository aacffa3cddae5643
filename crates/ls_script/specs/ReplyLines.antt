-- Texts that are one line.
use Rattle.std.specs.Prelude.{◌≡◌, ℕ, ◌==◌, List, [], ◌∷◌, ◌++◌, count_by, ⊤}
use Rattle.ls_bytes.specs.Names.{IsName}
use Rattle.ls_script.specs.declared.reply.Refusal.{Refusal}
use Rattle.ls_script.specs.declared.reply.Refusal.TheVariants.{Corrupt}
use Rattle.ls_script.specs.declared.reply.Reply.{Reply}
use Rattle.ls_script.specs.declared.reply.Reply.TheVariants.{No}

-- it has one 0x0A, which is its last byte
pub record IsOneLine (text : List ℕ) : Type 0 where
  pub one : count_by (λ b. b == 10) text ≡ 1
  pub ended : (line : List ℕ) × (text ≡ line ++ 10 ∷ [])

-- what is told of a file is told of a name
abbrev pub NamesFile : Refusal → Type 0
NamesFile (Corrupt name at) = IsName name
NamesFile _ = ⊤

abbrev pub NamesFiles : Reply → Type 0
NamesFiles (No why) = NamesFile why
NamesFiles _ = ⊤
