-- Each line has a reply.
use Rattle.std.proofs.Common.{◌≡◌, ◌<◌, ℕ, zero, suc, Bool, true, false, not, cond, List, [], ◌∷◌, Option, None, Some, Result, Ok, Err, length, map, refl, sym, ◌∙◌, ap, subst, arith}
use Rattle.std.specs.Prelude.{◌&&◌, find, slice_get, is_some, unwrap_or, option_map}
use Rattle.std.specs.List.{list_all}
use Rattle.ls_credential.specs.declared.fault.CredentialFault.{CredentialFault}
use Rattle.ls_credential.specs.declared.fault.CredentialFault.TheVariants as rule
use Rattle.ls_credential.specs.declared.kind.Kind.{Kind}
use Rattle.ls_credential.specs.Rules.{has_good_length, is_in_alphabet, has_repeat, is_distinct, fault_of}
use Rattle.ls_grammar.specs.LineAnswers.{or_else, first_fault}
use Rattle.ls_grammar.specs.Reading.{read_line}
use Rattle.ls_grammar.specs.Words.{Word, fixed, number, hex, credential, Line}
use Rattle.ls_grammar.specs.declared.fault.LineFault.{LineFault}
use Rattle.ls_grammar.specs.declared.fault.LineFault.TheVariants as fault
use Rattle.ls_promises.proofs.Steps.{cond_both}
use Rattle.ls_script.specs.Commands.{command_list, reply_place, is_refusal, refusal_or, line_reply}
use Rattle.ls_script.specs.Grammar.{grammar}
use Rattle.ls_script.specs.ReplyText.{reply_text, rule_text, fault_text}
use Rattle.ls_script.specs.ScriptReading.{judged, line_of, read_as, reading_of}
use Rattle.ls_script.specs.declared.command.Command.{Command}
use Rattle.ls_script.specs.declared.reply.Reply.{Reply}
use Rattle.ls_script.specs.declared.script_line.ScriptLine.{ScriptLine}
use Rattle.ls_script.specs.declared.script_line.ScriptLine.TheVariants as lines
use Rattle.ls_vault.specs.Script.{Stage, Carried, put_first, entry_of, stage_after, carried, commands_of, served_as}

-- ---- lines

abbrev pub replies_of : Carried → List Reply
replies_of done = map (λ e. e.reply) done.entries

or_some : (o : Option Reply) (r : Reply) → is_some (refusal_or o (Some r)) ≡ true
or_some None r = refl
or_some (Some x) r = refl

-- the commands have a reply at each place, or a refusal before it
some_reply : (slots : ℕ) (at : Stage) (cs : List Command) (place : ℕ) → place < length cs
    → is_some (refusal_or (find is_refusal (replies_of (carried slots at cs))) (slice_get (replies_of (carried slots at cs)) place)) ≡ true
some_reply slots at [] place less = absurd (omega (arith, less))
some_reply slots at (c ∷ cs) place less =
    by_refusal (is_refusal (entry_of slots at c).reply) refl place less (λ k fits. some_reply slots (stage_after slots at c) cs k fits)
  where
    by_refusal : (b : Bool) → is_refusal (entry_of slots at c).reply ≡ b → (place : ℕ) → place < length (c ∷ cs)
        → ((k : ℕ) → k < length cs
        → is_some (refusal_or (find is_refusal (replies_of (carried slots (stage_after slots at c) cs))) (slice_get (replies_of (carried slots (stage_after slots at c) cs)) k)) ≡ true)
        → is_some (refusal_or
        (find is_refusal (replies_of (put_first (entry_of slots at c) (cond b (record { entries = []; stage = stage_after slots at c }) (carried slots (stage_after slots at c) cs)))))
        (slice_get (replies_of (put_first (entry_of slots at c) (cond b (record { entries = []; stage = stage_after slots at c }) (carried slots (stage_after slots at c) cs)))) place)) ≡ true
    by_refusal true is place less rest =
        ap (λ x. is_some (refusal_or (cond x (Some (entry_of slots at c).reply) None) (slice_get ((entry_of slots at c).reply ∷ []) place))) is
    by_refusal false is zero less rest = or_some _ (entry_of slots at c).reply
    by_refusal false is (suc place) less rest =
        ap
        (λ x. is_some (refusal_or (cond x (Some (entry_of slots at c).reply) (find is_refusal (replies_of (carried slots (stage_after slots at c) cs))))
        (slice_get (replies_of (carried slots (stage_after slots at c) cs)) place))) is
        ∙ rest place (omega (arith, less))

-- the line is named for one of its commands
named : (line : ScriptLine) (standing : Option (Bool × Kind)) → reply_place line < length (command_list line standing)
named (lines.UserAdd user escrow) standing = omega arith
named (lines.UserDrop user) standing = omega arith
named (lines.Unlock user offered) standing = omega arith
named (lines.Change user old new) standing = omega arith
named (lines.Lock user) standing = omega arith
named (lines.Status user) standing = omega arith
named lines.Users standing = omega arith
named (lines.TokenAdd user token) standing = omega arith
named (lines.TokenDrop user id) standing = omega arith
named (lines.TokenState user id) standing = omega arith
named (lines.UnlockToken user id token) standing = omega arith
named (lines.ChangeToken user id token new) standing = omega arith
named (lines.EscrowOff user) standing = omega arith
named lines.ResumePrepare standing = omega arith
named lines.ResumeArm standing = omega arith
named lines.Resume standing = omega arith
named (lines.AutoPin user on) standing = omega arith
named (lines.PinLength user) standing = omega arith

abbrev Answered : ℕ → Stage → ScriptLine → Result ScriptLine LineFault → Type 0
Answered slots at line read =
    (r : Reply) × (line_reply line (map (λ e. e.reply) (served_as slots at read).entries) ≡ Some r) × ((served_as slots at read).printed ≡ reply_text r)

there_is : (o : Option Reply) → is_some o ≡ true → (r : Reply) × (o ≡ Some r)
there_is None is = absurd (cc)
there_is (Some r) is = (r, refl)

answered : (slots : ℕ) (at : Stage) (line : ScriptLine) → Answered slots at line (Ok line)
answered slots at line =
    let cs = commands_of at.state line in
    let h = there_is (line_reply line (replies_of (carried slots at cs))) (some_reply slots at cs (reply_place line) (named line _)) in
    (h.0, h.1, ap (λ (o : Option Reply). unwrap_or (option_map reply_text o) []) h.1)

pub line_answered : (slots : ℕ) (at : Stage) (text : List ℕ) (line : ScriptLine) → reading_of text ≡ Ok line → Answered slots at line (reading_of text)
line_answered slots at text line is = subst (λ (o : Result ScriptLine LineFault). Answered slots at line o) (sym is) (answered slots at line)

-- ---- texts that are no lines

-- a broken rule has a text
abbrev Told : Option CredentialFault → Type 0
Told o = (f : CredentialFault) → o ≡ Some f → is_some (rule_text f) ≡ true

told_none : Told None
told_none f is = absurd (cc)

same_fault : (g f : CredentialFault) → Some g ≡ Some f → g ≡ f
same_fault g f e = cc

told_some : (g : CredentialFault) → is_some (rule_text g) ≡ true → Told (Some g)
told_some g good f is = subst (λ (x : CredentialFault). is_some (rule_text x) ≡ true) (same_fault g f is) good

told_fault : (kind : Kind) (text : List ℕ) → Told (fault_of kind text)
told_fault kind text =
    cond_both Told (not (has_good_length kind text)) _ _ (told_some rule.Length refl)
    (cond_both Told (not (list_all (is_in_alphabet kind) text)) _ _ (told_some rule.Alphabet refl)
    (cond_both Told (is_distinct kind && has_repeat text) _ _ (told_some rule.Repeat refl) told_none))

told_or : (a b : Option CredentialFault) → Told a → Told b → Told (or_else a b)
told_or None b p q = q
told_or (Some f) b p q = p

told_first : (words : List Word) → Told (first_fault words)
told_first [] = told_none
told_first (fixed text ∷ words) = told_first words
told_first (number n ∷ words) = told_first words
told_first (hex bytes ∷ words) = told_first words
told_first (credential kind text ∷ words) = told_or (fault_of kind text) (first_fault words) (told_fault kind text) (told_first words)

-- a fault has a text
abbrev Says : Result ScriptLine LineFault → Type 0
Says (Ok line) = Unit {0}
Says (Err why) = is_some (fault_text why) ≡ true

says_bad : (f : CredentialFault) → is_some (rule_text f) ≡ true → Says (Err (fault.BadCredential f))
says_bad rule.Length is = refl
says_bad rule.Alphabet is = refl
says_bad rule.Repeat is = refl
says_bad rule.Memory is = absurd (cc)

says_judged : (o : Option CredentialFault) (line : Option ScriptLine) → Told o → Says (judged o line)
says_judged (Some f) line told = says_bad f (told f refl)
says_judged None (Some line) told = tt
says_judged None None told = refl

says_read : (r : Result Line ℕ) → Says (read_as r)
says_read (Ok l) = says_judged (first_fault l.words) (line_of l) (told_first l.words)
says_read (Err n) = refl

says : (text : List ℕ) → Says (reading_of text)
unfolding reading_of
says text = says_read (read_line grammar text)

abbrev Printed : ℕ → Stage → LineFault → Result ScriptLine LineFault → Type 0
Printed slots at why read = fault_text why ≡ Some (served_as slots at read).printed

printed : (o : Option (List ℕ)) → is_some o ≡ true → o ≡ Some (unwrap_or o [])
printed None is = absurd (cc)
printed (Some text) is = refl

pub fault_answered : (slots : ℕ) (at : Stage) (text : List ℕ) (why : LineFault) → reading_of text ≡ Err why → Printed slots at why (reading_of text)
fault_answered slots at text why is =
    subst (λ (o : Result ScriptLine LineFault). Printed slots at why o) (sym is)
    (printed (fault_text why) (subst (λ (o : Result ScriptLine LineFault). Says o) is (says text)))
