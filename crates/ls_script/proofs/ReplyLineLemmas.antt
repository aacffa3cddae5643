-- The text of a reply has one 0x0A, its last byte.
use Rattle.std.proofs.Common.{◌≡◌, ◌≢◌, ◌+◌, ◌/◌, ◌%◌, ℕ, zero, suc, Bool, true, false, cond, eqb, List, [], ◌∷◌, ◌++◌, Option, None, Some, Result, Ok, Err, length, map, refl, subst, arith}
use Rattle.std.proofs.lemmas.Bool.{eqb-true}
use Rattle.std.proofs.lemmas.Bool.Decides.{nat_tests}
use Rattle.std.specs.Prelude.{◌==◌, nat_lt, codes, slice_index, fold, count_by, IfOk}
use Rattle.std.specs.Fmt.{decimal, digits, digits_onto, digit_glyph}
use Rattle.std.specs.List.{AllByRecursion, AllPass, flat_map, join_with_byte}
use Rattle.hex.specs.Hex.{encode_with, encode_lower, lower_digits}
use Rattle.ls_bytes.specs.Names.{is_name_byte}
use Rattle.ls_credential.specs.Counts.{KindAndCounts}
use Rattle.ls_credential.specs.declared.fault.CredentialFault.TheVariants as rule
use Rattle.ls_credential.specs.declared.kind.Kind.{Kind}
use Rattle.ls_credential.specs.declared.kind.Kind.TheVariants.{Empty, Pattern, Pin, Password}
use Rattle.ls_grammar.specs.declared.fault.LineFault.{LineFault}
use Rattle.ls_grammar.specs.declared.fault.LineFault.TheVariants as fault
use Rattle.ls_grammar.specs.Words.{Word, fixed, number, word_text, spaced, line_text}
use Rattle.ls_script.specs.LineWords.{id_word, verb_and}
use Rattle.ls_script.specs.ReplyLines.{IsOneLine, NamesFile, NamesFiles}
use Rattle.ls_script.specs.ReplyText.{kind_text, counts_of, metrics_text, secure_word, opened_words, status_words, token_text, pin_word, refusal_name, refusal_details, reply_line, reply_text, fault_text}
use Rattle.ls_script.specs.declared.reply.Refusal.{Refusal}
use Rattle.ls_script.specs.declared.reply.Refusal.TheVariants as refusal
use Rattle.ls_script.specs.declared.reply.Reply.{Reply}
use Rattle.ls_script.specs.declared.reply.Reply.TheVariants as reply
use Rattle.ls_script.specs.declared.reply.Revealed.{Revealed}
use Rattle.ls_script.specs.declared.reply.StatusRow.{StatusRow}
use Rattle.ls_script.specs.declared.reply.TokenState.{TokenState}
use Rattle.ls_script.specs.declared.reply.TokenState.TheVariants.{Pending, Active, Absent}

-- ---- lists of bytes

-- no 0x0A stands in it
abbrev HasNoEnd : List ℕ → Type 0
HasNoEnd bytes = AllByRecursion (λ b. b ≢ 10) bytes

-- as a test, which a known text passes by computation
abbrev has_end : List ℕ → Bool
has_end [] = false
has_end (b ∷ text) = cond (eqb b 10) true (has_end text)

tested : (text : List ℕ) → has_end text ≡ false → HasNoEnd text
tested [] is = tt
tested (b ∷ text) is = by_test (eqb b 10) refl is (λ rest. tested text rest)
  where
    other : eqb b 10 ≡ false → b ≢ 10
    other e same = grind (arith, nat_tests)

    by_test : (c : Bool) → eqb b 10 ≡ c → cond c true (has_end text) ≡ false → (has_end text ≡ false → HasNoEnd text) → HasNoEnd (b ∷ text)
    by_test true e is rest = absurd (cc)
    by_test false e is rest = (other e, rest is)

joined : (xs ys : List ℕ) → HasNoEnd xs → HasNoEnd ys → HasNoEnd (xs ++ ys)
joined [] ys a b = b
joined (x ∷ xs) ys a b = (a.0, joined xs ys a.1 b)

either : (b : Bool) (xs ys : List ℕ) → HasNoEnd xs → HasNoEnd ys → HasNoEnd (cond b xs ys)
either true xs ys a b = a
either false xs ys a b = b

-- then one 0x0A behind it is the only one
counted : (line : List ℕ) → HasNoEnd line → count_by (λ b. b == 10) (line ++ 10 ∷ []) ≡ 1
counted [] good = refl
counted (b ∷ line) good = by_test (eqb b 10) refl (counted line good.1)
  where
    by_test : (c : Bool) → eqb b 10 ≡ c → count_by (λ b. b == 10) (line ++ 10 ∷ []) ≡ 1
        → fold (λ (n x : ℕ). n + cond (x == 10) 1 0) (0 + cond c 1 0) (line ++ 10 ∷ []) ≡ 1
    by_test true is rest = absurd (good.0 (eqb-true b 10 is))
    by_test false is rest = rest

one_line : (line : List ℕ) → HasNoEnd line → IsOneLine (line ++ 10 ∷ [])
one_line line good = record { one = counted line good; ended = (line, refl) }

-- ---- names

no_end : (b : ℕ) → is_name_byte b ≡ true → b ≢ 10
no_end b is same = wrong (subst (λ (n : ℕ). is_name_byte n ≡ true) same is)
  where
    wrong : false ≡ true → ⊥
    wrong e = cc

name_end : (name : List ℕ) → AllPass is_name_byte name → HasNoEnd name
name_end [] each = tt
name_end (b ∷ name) each = (no_end b (each 0 0 (omega arith)), name_end name (λ k d less. each (suc k) d (omega (arith, less))))

-- ---- numbers and bytes

glyph_end : (d : ℕ) → digit_glyph false d ≢ 10
glyph_end d same = by_test (nat_lt d 10) same
  where
    by_test : (b : Bool) → cond b (48 + d) (87 + d) ≡ 10 → ⊥
    by_test true e = omega (arith, e)
    by_test false e = omega (arith, e)

onto_end : (k n : ℕ) (acc : List ℕ) → HasNoEnd acc → HasNoEnd (digits_onto k 10 false n acc)
onto_end zero n acc good = good
onto_end (suc k) n acc good =
    either (n / 10 == 0) (digit_glyph false (n % 10) ∷ acc) (digits_onto k 10 false (n / 10) (digit_glyph false (n % 10) ∷ acc))
    (glyph_end (n % 10), good) (onto_end k (n / 10) (digit_glyph false (n % 10) ∷ acc) (glyph_end (n % 10), good))

decimal_end : (n : ℕ) → HasNoEnd (decimal n)
unfolding digits
decimal_end n = onto_end 64 n [] tt

entry_end : (table : List ℕ) (i : ℕ) → HasNoEnd table → slice_index table i ≢ 10
entry_end [] i good = λ same. absurd (cc)
entry_end (b ∷ table) zero good = good.0
entry_end (b ∷ table) (suc i) good = entry_end table i good.1

encoded_end : (bytes : List ℕ) → HasNoEnd (encode_lower bytes)
unfolding encode_with
encoded_end [] = tt
encoded_end (b ∷ bytes) = (entry_end lower_digits (b / 16) (tested lower_digits refl), (entry_end lower_digits (b % 16) (tested lower_digits refl), encoded_end bytes))

-- ---- words

abbrev WordEnds : Word → Type 0
WordEnds word = HasNoEnd (word_text word)

-- each word has none
abbrev GoodWords : List Word → Type 0
GoodWords [] = Unit {0}
GoodWords (w ∷ words) = WordEnds w × GoodWords words

spaced_end : (words : List Word) → GoodWords words → HasNoEnd (spaced words)
spaced_end [] good = tt
spaced_end (w ∷ words) good = (λ same. omega (arith, same), joined (word_text w) (spaced words) good.0 (spaced_end words good.1))

more_words : (xs ys : List Word) → GoodWords xs → GoodWords ys → GoodWords (xs ++ ys)
more_words [] ys a b = b
more_words (x ∷ xs) ys a b = (a.0, more_words xs ys a.1 b)

known : (text : List ℕ) → has_end text ≡ false → WordEnds (fixed text)
known text is = tested text is

kind_end : (kind : Kind) → WordEnds (fixed (kind_text kind))
kind_end Empty = known (codes "none") refl
kind_end Pattern = known (codes "pattern") refl
kind_end Pin = known (codes "pin") refl
kind_end Password = known (codes "password") refl

counts_end : (ns : List ℕ) → HasNoEnd (join_with_byte 0x2e (map decimal ns))
counts_end [] = tt
counts_end (n ∷ []) = decimal_end n
counts_end (n ∷ m ∷ ns) = joined (decimal n) _ (decimal_end n) (λ same. omega (arith, same), counts_end (m ∷ ns))

metrics_end : (o : Option KindAndCounts) → HasNoEnd (metrics_text o)
metrics_end None = tested (codes "-") refl
metrics_end (Some m) =
    joined (kind_text m.kind ++ codes ":") (join_with_byte 0x2e (map decimal (counts_of m)))
    (joined (kind_text m.kind) (codes ":") (kind_end m.kind) (tested (codes ":") refl)) (counts_end (counts_of m))

word_either : (b : Bool) (v w : Word) → WordEnds v → WordEnds w → WordEnds (cond b v w)
word_either true v w a b = a
word_either false v w a b = b

secure_end : (id : ℕ) → WordEnds (secure_word id)
secure_end id = word_either (id == 0) _ _ (known (codes "-") refl) (encoded_end _)

opened_end : (r : Revealed) → GoodWords (opened_words r)
opened_end r = (decimal_end r.user, (encoded_end _, (encoded_end _, (encoded_end _, (encoded_end _, (secure_end r.secure, (metrics_end r.metrics, tt)))))))

rows_end : (rows : List Revealed) → GoodWords (flat_map opened_words rows)
rows_end [] = tt
rows_end (r ∷ rows) = more_words (opened_words r) (flat_map opened_words rows) (opened_end r) (rows_end rows)

status_end : (row : StatusRow) → GoodWords (status_words row)
status_end row = (
  either row.opened (codes "open") (codes "closed") (tested (codes "open") refl) (tested (codes "closed") refl),
  (
    kind_end row.kind,
    (
      either row.escrow (codes "escrow") (codes "plain") (tested (codes "escrow") refl) (tested (codes "plain") refl),
      (secure_end row.secure, (decimal_end row.active, (decimal_end row.pending, tt))),
    ),
  ),
)

numbers_end : (ns : List ℕ) → GoodWords (map number ns)
numbers_end [] = tt
numbers_end (n ∷ ns) = (decimal_end n, numbers_end ns)

token_end : (state : TokenState) → WordEnds (fixed (token_text state))
token_end Pending = known (codes "pending") refl
token_end Active = known (codes "active") refl
token_end Absent = known (codes "none") refl

pin_end : (n : ℕ) → WordEnds (pin_word n)
pin_end n = word_either (n == 0) _ _ (known (codes "none") refl) (decimal_end n)

cause_end : (why : Refusal) → WordEnds (fixed (refusal_name why))
cause_end refusal.NoUser = known (codes "no-user") refl
cause_end refusal.UserExists = known (codes "user-exists") refl
cause_end refusal.UserLimit = known (codes "user-limit") refl
cause_end (refusal.WrongKind stored) = known (codes "wrong-kind") refl
cause_end (refusal.Throttled ms) = known (codes "throttled") refl
cause_end (refusal.Wrong ms) = known (codes "wrong") refl
cause_end refusal.NoEscrow = known (codes "no-escrow") refl
cause_end refusal.NoToken = known (codes "no-token") refl
cause_end refusal.WrongToken = known (codes "wrong-token") refl
cause_end refusal.TokenLimit = known (codes "token-limit") refl
cause_end refusal.NoSlot = known (codes "no-slot") refl
cause_end refusal.Locked = known (codes "locked") refl
cause_end refusal.NotPrepared = known (codes "not-prepared") refl
cause_end refusal.NotArmed = known (codes "not-armed") refl
cause_end (refusal.Expired armed boot) = known (codes "expired") refl
cause_end refusal.Worn = known (codes "worn") refl
cause_end (refusal.Corrupt name at) = known (codes "corrupt") refl

details_end : (why : Refusal) → NamesFile why → GoodWords (refusal_details why)
details_end (refusal.WrongKind stored) good = (kind_end stored, tt)
details_end (refusal.Throttled ms) good = (decimal_end ms, tt)
details_end (refusal.Wrong ms) good = (decimal_end ms, tt)
details_end (refusal.Expired armed boot) good = (decimal_end armed, (decimal_end boot, tt))
details_end (refusal.Corrupt name at) good = (name_end name good.each, (decimal_end at, tt))
details_end refusal.NoUser good = tt
details_end refusal.UserExists good = tt
details_end refusal.UserLimit good = tt
details_end refusal.NoEscrow good = tt
details_end refusal.NoToken good = tt
details_end refusal.WrongToken good = tt
details_end refusal.TokenLimit good = tt
details_end refusal.NoSlot good = tt
details_end refusal.Locked good = tt
details_end refusal.NotPrepared good = tt
details_end refusal.NotArmed good = tt
details_end refusal.Worn good = tt

-- ---- lines

ok_end : (words : List Word) → GoodWords words → HasNoEnd (line_text (verb_and (codes "ok") words))
ok_end words good = joined (codes "ok") (spaced words) (tested (codes "ok") refl) (spaced_end words good)

refused_end : (words : List Word) → GoodWords words → HasNoEnd (line_text (verb_and (codes "no") words))
refused_end words good = joined (codes "no") (spaced words) (tested (codes "no") refl) (spaced_end words good)

line_end : (r : Reply) → NamesFiles r → HasNoEnd (line_text (reply_line r))
line_end reply.Fine good = ok_end [] tt
line_end (reply.Opened r) good = ok_end (opened_words r) (opened_end r)
line_end (reply.Resumed rows) good = ok_end (flat_map opened_words rows) (rows_end rows)
line_end (reply.Status row) good = ok_end (status_words row) (status_end row)
line_end (reply.Users users) good = ok_end (number (length users) ∷ map number users) (decimal_end (length users), numbers_end users)
line_end (reply.TokenId id) good = ok_end (id_word id ∷ []) (encoded_end _, tt)
line_end (reply.TokenState state) good = ok_end (fixed (token_text state) ∷ []) (token_end state, tt)
line_end (reply.PinLength n) good = ok_end (pin_word n ∷ []) (pin_end n, tt)
line_end (reply.No why) good = refused_end (fixed (refusal_name why) ∷ refusal_details why) (cause_end why, details_end why good)

pub reply_one_line : (r : Reply) → NamesFiles r → IsOneLine (reply_text r)
reply_one_line r good = one_line (line_text (reply_line r)) (line_end r good)

no_some : {A : Type 0} (x : A) → None ≡ Some x → ⊥
no_some x e = cc

same_text : (x y : List ℕ) → Some x ≡ Some y → x ≡ y
same_text x y e = cc

ended_line : (words : List Word) (text : List ℕ) → GoodWords words → Some (line_text (verb_and (codes "no") words) ++ 10 ∷ []) ≡ Some text → IsOneLine text
ended_line words text good is = subst IsOneLine (same_text _ text is) (one_line (line_text (verb_and (codes "no") words)) (refused_end words good))

pub fault_one_line : (f : LineFault) (text : List ℕ) → fault_text f ≡ Some text → IsOneLine text
fault_one_line (fault.Syntax column) text is = ended_line (fixed (codes "syntax") ∷ number column ∷ []) text (known (codes "syntax") refl, (decimal_end column, tt)) is
fault_one_line (fault.BadCredential rule.Length) text is =
    ended_line (fixed (codes "bad-credential") ∷ fixed (codes "length") ∷ []) text (known (codes "bad-credential") refl, (known (codes "length") refl, tt)) is
fault_one_line (fault.BadCredential rule.Alphabet) text is =
    ended_line (fixed (codes "bad-credential") ∷ fixed (codes "alphabet") ∷ []) text (known (codes "bad-credential") refl, (known (codes "alphabet") refl, tt)) is
fault_one_line (fault.BadCredential rule.Repeat) text is =
    ended_line (fixed (codes "bad-credential") ∷ fixed (codes "repeat") ∷ []) text (known (codes "bad-credential") refl, (known (codes "repeat") refl, tt)) is
fault_one_line (fault.BadCredential rule.Memory) text is = absurd (no_some text is)
fault_one_line fault.Memory text is = absurd (no_some text is)

-- so what is printed of one is a line
pub fault_line : {E : Type 0} (f : LineFault) (r : Result (List ℕ) E) → IfOk r (λ text. fault_text f ≡ Some text) → IfOk r IsOneLine
fault_line f (Ok text) is = fault_one_line f text is
fault_line f (Err e) is = tt
