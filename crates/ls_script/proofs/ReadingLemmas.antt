-- A line is what its words say, so what is read of a text is a function of the text.
use Rattle.std.proofs.Common.{◌≡◌, ◌⊎◌, ℕ, List, Result, Ok, Err, Option, Some, None, true, false, refl, sym, ap, ◌∙◌, inl, inr}
use Rattle.std.proofs.lemmas.Nat.{from_be_bytes-to_be_bytes_8}
use Rattle.ls_credential.specs.declared.fault.CredentialFault.{CredentialFault}
use Rattle.ls_grammar.specs.Reading.{read_line}
use Rattle.ls_grammar.specs.LineAnswers.{AgreesOnLine, first_fault}
use Rattle.ls_grammar.specs.Refusals.{fault_of_refused}
use Rattle.ls_grammar.specs.declared.fault.Refused.{Refused}
use Rattle.ls_grammar.specs.declared.fault.Refused.TheVariants as refused
use Rattle.ls_grammar.specs.declared.fault.LineFault.{LineFault}
use Rattle.ls_grammar.specs.declared.fault.LineFault.TheVariants as fault
use Rattle.ls_script.specs.Grammar.{grammar}
use Rattle.ls_script.specs.LineWords.{words_of, HasIds}
use Rattle.ls_script.specs.ScriptReading.{line_of, judged, read_as, reading_of}
use Rattle.ls_script.specs.declared.script_line.ScriptLine.{ScriptLine}
use Rattle.ls_script.specs.declared.script_line.ScriptLine.TheVariants as lines

line_of-words_of : (l : ScriptLine) → HasIds l → line_of (words_of l) ≡ Some l
line_of-words_of (lines.UserAdd user true) h = refl
line_of-words_of (lines.UserAdd user false) h = refl
line_of-words_of (lines.UserDrop user) h = refl
line_of-words_of (lines.Unlock user c) h = refl
line_of-words_of (lines.Change user old new) h = refl
line_of-words_of (lines.Lock user) h = refl
line_of-words_of (lines.Status user) h = refl
line_of-words_of lines.Users h = refl
line_of-words_of (lines.TokenAdd user token) h = refl
line_of-words_of (lines.TokenDrop user id) h = ap (λ (n : ℕ). Some (lines.TokenDrop user n)) (from_be_bytes-to_be_bytes_8 id h)
line_of-words_of (lines.TokenState user id) h = ap (λ (n : ℕ). Some (lines.TokenState user n)) (from_be_bytes-to_be_bytes_8 id h)
line_of-words_of (lines.UnlockToken user id token) h = ap (λ (n : ℕ). Some (lines.UnlockToken user n token)) (from_be_bytes-to_be_bytes_8 id h)
line_of-words_of (lines.ChangeToken user id token new) h = ap (λ (n : ℕ). Some (lines.ChangeToken user n token new)) (from_be_bytes-to_be_bytes_8 id h)
line_of-words_of (lines.EscrowOff user) h = refl
line_of-words_of lines.ResumePrepare h = refl
line_of-words_of lines.ResumeArm h = refl
line_of-words_of lines.Resume h = refl
line_of-words_of (lines.AutoPin user true) h = refl
line_of-words_of (lines.AutoPin user false) h = refl
line_of-words_of (lines.PinLength user) h = refl

good : (l : ScriptLine) (o : Option CredentialFault) (line : Option ScriptLine) → o ≡ None
    → line ≡ Some l → judged o line ≡ Ok l
good l o line e f = ap (λ (x : Option CredentialFault). judged x line) e ∙ ap (judged None) f

pub ok_same : (text : List ℕ) (l : ScriptLine) → HasIds l → AgreesOnLine words_of (Ok l)
    (read_line grammar text) → reading_of text ≡ Ok l
unfolding reading_of
ok_same text l ids agrees =
    ap read_as agrees.0 ∙ good l (first_fault (words_of l).words) (line_of (words_of l)) agrees.1 (line_of-words_of l ids)

pub err_same : (text : List ℕ) (e : Refused) → AgreesOnLine words_of (Err e)
    (read_line grammar text)
    → (fault_of_refused e ≡ fault.Memory) ⊎ (reading_of text ≡ Err (fault_of_refused e))
unfolding reading_of
err_same text (refused.Mismatch mismatch) agrees = inr (ap read_as agrees)
err_same text (refused.BadCredential f) agrees =
    inr (ap read_as agrees.1 ∙ ap (λ (x : Option CredentialFault). judged x (line_of agrees.0)) agrees.2)
err_same text refused.Memory agrees = inl refl

abbrev answer : LineFault → Result ScriptLine LineFault
answer f = Err f

-- what a refused line is answered
pub err_answer : (text : List ℕ) (e : Refused) (f : LineFault) → f ≡ fault_of_refused e
    → AgreesOnLine words_of (Err e) (read_line grammar text)
    → (answer f ≡ answer fault.Memory) ⊎ (answer f ≡ reading_of text)
err_answer text e f is agrees =
    elim (err_same text e agrees) [
      | inl memory ↦ inl (ap answer (is ∙ memory))
      | inr same ↦ inr (ap answer is ∙ sym same)
    ]
