-- The text of a reply.
use Rattle.std.specs.Prelude.{◌≡◌, ◌≤◌, ◌+◌, ℕ, ◌==◌, Bool, List, [], ◌∷◌, ◌++◌, length, map, codes, if◌then◌else◌, Option, Some, None}
use Rattle.std.specs.List.{flat_map, join_with_byte}
use Rattle.std.specs.Option.{option_map}
use Rattle.std.specs.Fmt.{decimal}
use Rattle.ls_credential.specs.declared.fault.CredentialFault.{CredentialFault}
use Rattle.ls_credential.specs.declared.fault.CredentialFault.TheVariants as rule
use Rattle.ls_credential.specs.declared.kind.Kind.{Kind}
use Rattle.ls_credential.specs.declared.kind.Kind.TheVariants.{Empty, Pattern, Pin, Password}
use Rattle.ls_credential.specs.Counts.{KindAndCounts}
use Rattle.ls_secret.specs.declared.subkey.Subkey.{Subkey}
use Rattle.ls_secret.specs.Subkeys.{subkey_bytes}
use Rattle.ls_grammar.specs.declared.fault.LineFault.{LineFault}
use Rattle.ls_grammar.specs.declared.fault.LineFault.TheVariants as fault
use Rattle.ls_grammar.specs.Words.{Word, fixed, number, hex, spaced, Line, line_text}
use Rattle.ls_script.specs.LineWords.{id_word, verb_and}
use Rattle.ls_script.specs.declared.reply.Refusal.{Refusal}
use Rattle.ls_script.specs.declared.reply.Refusal.TheVariants as refusal
use Rattle.ls_script.specs.declared.reply.Reply.{Reply}
use Rattle.ls_script.specs.declared.reply.Reply.TheVariants as reply
use Rattle.ls_script.specs.declared.reply.Revealed.{Revealed}
use Rattle.ls_script.specs.declared.reply.StatusRow.{StatusRow}
use Rattle.ls_script.specs.declared.reply.TokenState.{TokenState}
use Rattle.ls_script.specs.declared.reply.TokenState.TheVariants.{Pending, Active, Absent}

-- the name of a kind
abbrev pub kind_text : Kind → List ℕ
kind_text Empty = codes "none"
kind_text Pattern = codes "pattern"
kind_text Pin = codes "pin"
kind_text Password = codes "password"

-- the nine counts in order
abbrev pub counts_of : KindAndCounts → List ℕ
counts_of m =
    m.length ∷ m.letters ∷ m.upper ∷ m.lower ∷ m.numeric ∷ m.symbols ∷ m.non_letter
    ∷ m.non_numeric ∷ m.run ∷ []

-- the kind, a colon and the counts, joined by dots; a dash for none
abbrev pub metrics_text : Option KindAndCounts → List ℕ
metrics_text None = codes "-"
metrics_text (Some m) =
    kind_text m.kind ++ codes ":" ++ join_with_byte 0x2e (map decimal (counts_of m))

-- a secure id; a dash for none
abbrev pub secure_word : ℕ → Word
secure_word id = if id == 0 then fixed (codes "-") else id_word id

-- a key in hex
abbrev pub key_word : Subkey → Word
key_word key = hex (subkey_bytes key)

-- what an opened user gets
abbrev pub opened_words : Revealed → List Word
opened_words r =
    number r.user
    ∷ key_word r.derived.keystore ∷ key_word r.derived.fbe ∷ key_word r.derived.auth
    ∷ key_word r.derived.gk
    ∷ secure_word r.secure ∷ fixed (metrics_text r.metrics) ∷ []

-- whether a user is opened
abbrev pub opened_text : Bool → List ℕ
opened_text opened = if opened then codes "open" else codes "closed"

-- whether a user has escrow
abbrev pub escrow_text : Bool → List ℕ
escrow_text escrow = if escrow then codes "escrow" else codes "plain"

-- how a user stands
abbrev pub status_words : StatusRow → List Word
status_words row =
    fixed (opened_text row.opened) ∷ fixed (kind_text row.kind) ∷ fixed (escrow_text row.escrow)
    ∷ secure_word row.secure ∷ number row.active ∷ number row.pending ∷ []

-- where a token stands
abbrev pub token_text : TokenState → List ℕ
token_text Pending = codes "pending"
token_text Active = codes "active"
token_text Absent = codes "none"

-- the length of a PIN; 0 is not shown
abbrev pub pin_word : ℕ → Word
pin_word n = if n == 0 then fixed (codes "none") else number n

-- the name of a refusal
abbrev pub refusal_name : Refusal → List ℕ
refusal_name refusal.NoUser = codes "no-user"
refusal_name refusal.UserExists = codes "user-exists"
refusal_name refusal.UserLimit = codes "user-limit"
refusal_name (refusal.WrongKind stored) = codes "wrong-kind"
refusal_name (refusal.Throttled ms) = codes "throttled"
refusal_name (refusal.Wrong ms) = codes "wrong"
refusal_name refusal.NoEscrow = codes "no-escrow"
refusal_name refusal.NoToken = codes "no-token"
refusal_name refusal.WrongToken = codes "wrong-token"
refusal_name refusal.TokenLimit = codes "token-limit"
refusal_name refusal.NoSlot = codes "no-slot"
refusal_name refusal.Locked = codes "locked"
refusal_name refusal.NotPrepared = codes "not-prepared"
refusal_name refusal.NotArmed = codes "not-armed"
refusal_name (refusal.Expired armed boot) = codes "expired"
refusal_name refusal.Worn = codes "worn"
refusal_name (refusal.Corrupt name at) = codes "corrupt"

-- what it says besides
abbrev pub refusal_details : Refusal → List Word
refusal_details (refusal.WrongKind stored) = fixed (kind_text stored) ∷ []
refusal_details (refusal.Throttled ms) = number ms ∷ []
refusal_details (refusal.Wrong ms) = number ms ∷ []
refusal_details (refusal.Expired armed boot) = number armed ∷ number boot ∷ []
refusal_details (refusal.Corrupt name at) = fixed name ∷ number at ∷ []
refusal_details _ = []

-- a refusal
abbrev pub refusal_words : Refusal → List Word
refusal_words r = fixed (refusal_name r) ∷ refusal_details r

-- an answer that is no refusal
abbrev pub ok : List Word → Line
ok words = verb_and (codes "ok") words

-- a refusal
abbrev pub no : List Word → Line
no words = verb_and (codes "no") words

-- the words of a reply
abbrev pub reply_line : Reply → Line
reply_line reply.Fine = ok []
reply_line (reply.Opened revealed) = ok (opened_words revealed)
reply_line (reply.Resumed rows) = ok (flat_map opened_words rows)
reply_line (reply.Status row) = ok (status_words row)
reply_line (reply.Users users) = ok (number (length users) ∷ map number users)
reply_line (reply.TokenId id) = ok (id_word id ∷ [])
reply_line (reply.TokenState state) = ok (fixed (token_text state) ∷ [])
reply_line (reply.PinLength n) = ok (pin_word n ∷ [])
reply_line (reply.No refusal) = no (refusal_words refusal)

-- the byte that ends a reply
abbrev pub newline : List ℕ
newline = 0x0a ∷ []

-- the text of a reply
abbrev pub reply_text : Reply → List ℕ
reply_text r = line_text (reply_line r) ++ newline

-- the rule that a credential breaks; want of memory is none
abbrev pub rule_text : CredentialFault → Option (List ℕ)
rule_text rule.Length = Some (codes "length")
rule_text rule.Alphabet = Some (codes "alphabet")
rule_text rule.Repeat = Some (codes "repeat")
rule_text rule.Memory = None

-- the words of the reply to a text that is no line; want of memory has none
abbrev pub fault_words : LineFault → Option (List Word)
fault_words (fault.Syntax column) = Some (fixed (codes "syntax") ∷ number column ∷ [])
fault_words (fault.BadCredential broken) =
    option_map (λ rule. fixed (codes "bad-credential") ∷ fixed rule ∷ []) (rule_text broken)
fault_words fault.Memory = None

-- its text
abbrev pub fault_text : LineFault → Option (List ℕ)
fault_text f = option_map (λ words. line_text (no words) ++ newline) (fault_words f)

-- ---- how long a reply is

-- how many users a reply lists
abbrev pub user_count : Reply → ℕ
user_count (reply.Resumed rows) = length rows
user_count (reply.Users users) = length users
user_count _ = 0

-- what was put at the end of a text: these words, in at most so many bytes
pub record Puts (words : List Word) (most : ℕ) (old new : List ℕ) : Type 0 where
  pub text : new ≡ old ++ spaced words
  pub size : length new ≤ length old + most

-- the same, where there are words to put
abbrev pub PutsSome : Option (List Word) → ℕ → List ℕ → List ℕ → Type 0
PutsSome None most old new = ⊥
PutsSome (Some words) most old new = Puts words most old new
