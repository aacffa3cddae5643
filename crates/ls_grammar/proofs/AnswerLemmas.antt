-- From what the row gives to what the text is, for any grammar that passes its test.
use Rattle.std.proofs.Common.{◌≡◌, ℕ, List, ◌++◌, length, Result, Ok, Err, Option, Some, None, true, refl, sym, ap, subst, ◌∙◌, arith}
use Rattle.std.specs.Prelude.{max, MatchResult}
use Rattle.ls_credential.specs.declared.fault.CredentialFault.{CredentialFault}
use Rattle.ls_grammar.specs.Words.{Word, Line, line_text, Row, IsLine}
use Rattle.ls_grammar.specs.Reading.{◌>>=◌, before_space, from_space, read_words, find_row, read_row, read_line, verbs_along}
use Rattle.ls_grammar.specs.LineAnswers.{first_fault, ReadsLine, AgreesOnWords, AgreesOnLine}
use Rattle.ls_grammar.specs.Refusals.{IsSmall, fault_of_refused}
use Rattle.ls_grammar.specs.declared.fault.Refused.{Refused}
use Rattle.ls_grammar.specs.declared.fault.Refused.TheVariants as refused
use Rattle.ls_grammar.proofs.GrammarTest.{grammar_test, grammar_read, stops_early}
use Rattle.ls_grammar.proofs.UnionLemmas.{union_reads}
use Rattle.ls_grammar.specs.declared.fault.LineFault.{LineFault}
use Rattle.ls_grammar.specs.declared.fault.LineFault.TheVariants as fault

same_said : (s : Line) (verb : List ℕ) → s.verb ≡ verb → s ≡ record { verb = verb; words = s.words }
same_said s verb e = ap (λ (x : List ℕ). let words_of : Line = record { verb = x; words = s.words } in words_of) e

abbrev made : List ℕ → Result (List Word) ℕ → Result Line ℕ
made verb read = read >>= λ words. Ok (record { verb = verb; words = words })

got : {L : Type 0} (words_of : L → Line) (verb : List ℕ) (result : Result L Refused)
    (read : Result (List Word) ℕ) → AgreesOnWords words_of verb result read
    → AgreesOnLine words_of result (made verb read)
got words_of verb (Ok l) read h = (ap (made verb) h.0 ∙ ap (λ (s : Line). let r : Result Line ℕ = Ok s in r) (sym (same_said (words_of l) verb h.1)), h.2)
got words_of verb (Err (refused.Mismatch mismatch)) read h = ap (made verb) h
got words_of verb (Err (refused.BadCredential f)) read h = (record { verb = verb; words = h.0 }, ap (made verb) h.1, h.2)
got words_of verb (Err refused.Memory) read h = (record { verb = verb; words = h.0 }, ap (made verb) h.1, h.2)

-- what the row gives is what the grammar gives
pub got_row : {L : Type 0} (words_of : L → Line) (rows : List Row) (row : Row) (text : List ℕ)
    (at : ℕ) (rest : List ℕ) (result : Result L Refused)
    → find_row rows (before_space text) ≡ Some row
    → at ≡ length (before_space text) → rest ≡ from_space text
    → AgreesOnWords words_of row.verb result (read_words row.fields at rest)
    → AgreesOnLine words_of result (read_line rows text)
got_row words_of rows row text at rest result found e f h =
    let k : AgreesOnWords words_of row.verb result (read_words row.fields (length (before_space text)) (from_space text)) = rw (e, f) at h in
    let g = got words_of row.verb result (read_words row.fields (length (before_space text)) (from_space text)) k in
    subst (λ (o : Option Row). AgreesOnLine words_of result (read_row rows (before_space text) (from_space text) o)) (sym found) g

pub no_row : (rows : List Row) (text : List ℕ) → find_row rows (before_space text) ≡ None
    → read_line rows text ≡ Err (verbs_along rows (before_space text))
no_row rows text found = ap (read_row rows (before_space text) (from_space text)) found

-- the answers, and that the column fits
pub ok_answers : {L : Type 0} (words_of : L → Line) (rows : List Row) → grammar_test rows ≡ true
    → (text : List ℕ) (l : L) → AgreesOnLine words_of (Ok l) (read_line rows text)
    → ReadsLine rows words_of text (Ok l)
ok_answers words_of rows test text l h = (rw h.0 at (grammar_read rows test text), h.1)

pub err_answers : {L : Type 0} (words_of : L → Line) (rows : List Row) → grammar_test rows ≡ true
    → (text : List ℕ) (e : Refused) → AgreesOnLine words_of (Err e) (read_line rows text)
    → ReadsLine rows words_of text (Err (fault_of_refused e))
err_answers words_of rows test text (refused.Mismatch mismatch) h = (mismatch.at, refl, rw h at (grammar_read rows test text))
err_answers words_of rows test text (refused.BadCredential f) h = (h.0, rw h.1 at (grammar_read rows test text), h.2)
err_answers words_of rows test text refused.Memory h = (h.0, rw h.1 at (grammar_read rows test text), h.2)

pub is_small : {L : Type 0} (words_of : L → Line) (rows : List Row) → grammar_test rows ≡ true
    → (text : List ℕ) (e : Refused) → AgreesOnLine words_of (Err e) (read_line rows text)
    → IsSmall e
is_small words_of rows test text (refused.Mismatch mismatch) h = omega (arith, stops_early rows test text mismatch.at h)
is_small words_of rows test text (refused.BadCredential f) h = tt
is_small words_of rows test text refused.Memory h = tt

-- The text of a line whose credentials keep their rules is read as that line.
pub again : {L : Type 0} (words_of : L → Line) (rows : List Row) (text : List ℕ)
    (r : Result L LineFault) → ReadsLine rows words_of text r
    → (s : Line) → IsLine rows s → line_text s ≡ text → first_fault s.words ≡ None
    → MatchResult r (λ l. words_of l ≡ s) (λ e. e ≡ fault.Memory)
again words_of rows text (Ok l) h s is e none = sym (h.0.2 s is e)
again words_of rows text (Err (fault.Syntax column)) h s is e none = absurd (h.2.1 s is e)
again words_of rows text (Err (fault.BadCredential f)) h s is e none =
    let same : s ≡ h.0 = h.1.2 s is e in
    let both : Some f ≡ None = sym h.2 ∙ sym (ap (λ (x : Line). first_fault x.words) same) ∙ none in
    absurd (cc both)
again words_of rows text (Err fault.Memory) h s is e none = refl

-- ---- two grammars

-- The line of the first grammar, seen by words_of.
pub first_ok : {K L : Type 0} (first : K → Line) (words_of : L → Line) (a b : List Row)
    → grammar_test b ≡ true → grammar_test (a ++ b) ≡ true → (text : List ℕ) (k : K) (l : L)
    → words_of l ≡ first k
    → ReadsLine a first text (Ok k) → ReadsLine (a ++ b) words_of text (Ok l)
first_ok first words_of a b test all text k l same h =
    let g = union_reads a b all text (Ok (first k)) (read_line b text) h.0 (grammar_read b test text) in
    rw same (g, h.1)

pub first_bad : {K L : Type 0} (first : K → Line) (words_of : L → Line) (a b : List Row)
    → grammar_test b ≡ true → grammar_test (a ++ b) ≡ true → (text : List ℕ) (f : CredentialFault)
    → ReadsLine a first text (Err (fault.BadCredential f))
    → ReadsLine (a ++ b) words_of text (Err (fault.BadCredential f))
first_bad first words_of a b test all text f h = (h.0, union_reads a b all text (Ok h.0) (read_line b text) h.1 (grammar_read b test text), h.2)

pub first_memory : {K L : Type 0} (first : K → Line) (words_of : L → Line) (a b : List Row)
    → grammar_test b ≡ true → grammar_test (a ++ b) ≡ true → (text : List ℕ)
    → ReadsLine a first text (Err fault.Memory)
    → ReadsLine (a ++ b) words_of text (Err fault.Memory)
first_memory first words_of a b test all text h = (h.0, union_reads a b all text (Ok h.0) (read_line b text) h.1 (grammar_read b test text), h.2)

pub then_ok : {J K L : Type 0} (first : J → Line) (second : K → Line) (words_of : L → Line)
    (a b : List Row) → grammar_test (a ++ b) ≡ true → (text : List ℕ) (column : ℕ) (k : K) (l : L)
    → words_of l ≡ second k
    → ReadsLine a first text (Err (fault.Syntax column)) → ReadsLine b second text (Ok k)
    → ReadsLine (a ++ b) words_of text (Ok l)
then_ok first second words_of a b all text column k l same g h =
    rw same (union_reads a b all text (Err g.0) (Ok (second k)) g.2 h.0, h.1)

pub then_bad : {J K L : Type 0} (first : J → Line) (second : K → Line) (words_of : L → Line)
    (a b : List Row) → grammar_test (a ++ b) ≡ true → (text : List ℕ) (column : ℕ)
    (f : CredentialFault)
    → ReadsLine a first text (Err (fault.Syntax column))
    → ReadsLine b second text (Err (fault.BadCredential f))
    → ReadsLine (a ++ b) words_of text (Err (fault.BadCredential f))
then_bad first second words_of a b all text column f g h = (h.0, union_reads a b all text (Err g.0) (Ok h.0) g.2 h.1, h.2)

pub then_memory : {J K L : Type 0} (first : J → Line) (second : K → Line) (words_of : L → Line)
    (a b : List Row) → grammar_test (a ++ b) ≡ true → (text : List ℕ) (column : ℕ)
    → ReadsLine a first text (Err (fault.Syntax column))
    → ReadsLine b second text (Err fault.Memory)
    → ReadsLine (a ++ b) words_of text (Err fault.Memory)
then_memory first second words_of a b all text column g h = (h.0, union_reads a b all text (Err g.0) (Ok h.0) g.2 h.1, h.2)

pub then_stop : {J K L : Type 0} (first : J → Line) (second : K → Line) (words_of : L → Line)
    (a b : List Row) → grammar_test (a ++ b) ≡ true → (text : List ℕ) (m n : ℕ)
    → ReadsLine a first text (Err (fault.Syntax m)) → ReadsLine b second text (Err (fault.Syntax n))
    → ReadsLine (a ++ b) words_of text (Err (fault.Syntax (max m n)))
then_stop first second words_of a b all text m n g h = (max g.0 h.0, omega (arith, g.1, h.1), union_reads a b all text (Err g.0) (Err h.0) g.2 h.2)
