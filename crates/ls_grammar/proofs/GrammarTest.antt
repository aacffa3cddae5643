-- A test that shows a grammar lawful: it computes, so a row costs no proof.
use Rattle.std.proofs.Common.{◌≡◌, ℕ, ◌+◌, ◌-◌, ◌≤◌, ◌≢◌, Bool, true, false, List, [], ◌∷◌, length, Err, refl, sym, ap, ◌∙◌, arith}
use Rattle.std.specs.Prelude.{◌&&◌, ◌==◌, not, nat_le}
use Rattle.std.specs.List.{AllByRecursion, list_all}
use Rattle.std.specs.Str.{bytes_eq}
use Rattle.std.proofs.lemmas.Bool.{false≢true}
use Rattle.std.proofs.lemmas.Bool.Decides.{nat_tests}
use Rattle.std.proofs.lemmas.Slice.Eq.{bytes_eq-Decides}
use Rattle.ls_grammar.specs.Words.{Field, either, a_number, some_hex, a_credential, Row, line_text, IsLine, longest_line}
use Rattle.ls_grammar.specs.Reads.{Reads}
use Rattle.ls_grammar.specs.Reading.{least, read_line}
use Rattle.ls_grammar.proofs.SequenceLemmas.{room_of, far_of, IsLawful, AllLawful, IsRoomy}
use Rattle.ls_grammar.proofs.EitherLemmas.{either_lawful}
use Rattle.ls_grammar.proofs.NumberLemmas.{number_lawful}
use Rattle.ls_grammar.proofs.HexTextLemmas.{hex_lawful}
use Rattle.ls_grammar.proofs.CredentialLemmas.{credential_lawful, no_space-test}
use Rattle.ls_grammar.proofs.LineLemmas.{IsLawfulRow, AreLawful, line_read}
use Rattle.ls_grammar.proofs.SharedLemmas.{shared-le}

both : (a b : Bool) → (a && b) ≡ true → (a ≡ true) × (b ≡ true)
both true b e = (refl, e)
both false b e = absurd (false≢true e)

le : (a b : ℕ) → nat_le a b ≡ true → a ≤ b
le a b h = grind (arith, nat_tests)

abbrev pub has_no_space : List ℕ → Bool
has_no_space text = list_all (λ b. not (b == 32)) text

abbrev pub field_test : Field → Bool
field_test (either this that) = has_no_space this && has_no_space that
field_test a_number = true
field_test (some_hex low high) = nat_le low high
field_test a_credential = true

field_lawful : (f : Field) → field_test f ≡ true → IsLawful f
field_lawful (either this that) h = let t = both (has_no_space this) (has_no_space that) h in either_lawful this that (no_space-test this t.0) (no_space-test that t.1)
field_lawful a_number h = number_lawful
field_lawful (some_hex low high) h = hex_lawful low high (le low high h)
field_lawful a_credential h = credential_lawful

abbrev pub fields_test : List Field → Bool
fields_test [] = true
fields_test (f ∷ fs) = field_test f && fields_test fs

fields_lawful : (fs : List Field) → fields_test fs ≡ true → AllLawful fs
fields_lawful [] h = tt
fields_lawful (f ∷ fs) h = let t = both (field_test f) (fields_test fs) h in (field_lawful f t.0, fields_lawful fs t.1)

abbrev pub roomy_test : List Field → ℕ → Bool
roomy_test [] at = nat_le at longest_line
roomy_test (f ∷ fs) at = nat_le (at + 1 + room_of f + least fs) longest_line && roomy_test fs (at + 1 + far_of f (longest_line - (at + 1 + least fs)))

roomy : (fs : List Field) (at : ℕ) → roomy_test fs at ≡ true → IsRoomy fs at
roomy [] at h = le at longest_line h
roomy (f ∷ fs) at h =
    let t = both (nat_le (at + 1 + room_of f + least fs) longest_line) (roomy_test fs (at + 1 + far_of f (longest_line - (at + 1 + least fs)))) h in
    (le (at + 1 + room_of f + least fs) longest_line t.0, roomy fs (at + 1 + far_of f (longest_line - (at + 1 + least fs))) t.1)

abbrev pub row_test : Row → Bool
row_test row = has_no_space row.verb && (fields_test row.fields && (roomy_test row.fields (length row.verb) && nat_le (length row.verb + least row.fields) longest_line))

row_lawful : (row : Row) → row_test row ≡ true → IsLawfulRow row
row_lawful row h =
    let a = both (has_no_space row.verb) (fields_test row.fields && (roomy_test row.fields (length row.verb) && nat_le (length row.verb + least row.fields) longest_line)) h in
    let b = both (fields_test row.fields) (roomy_test row.fields (length row.verb) && nat_le (length row.verb + least row.fields) longest_line) a.1 in
    let c = both (roomy_test row.fields (length row.verb)) (nat_le (length row.verb + least row.fields) longest_line) b.1 in
    record {
      no_space = no_space-test row.verb a.0;
      fields = fields_lawful row.fields b.0;
      roomy = roomy row.fields (length row.verb) c.0;
      fits = le (length row.verb + least row.fields) longest_line c.1;
    }

abbrev pub apart_test : List ℕ → List Row → Bool
apart_test verb [] = true
apart_test verb (row ∷ rows) = not (bytes_eq verb row.verb) && apart_test verb rows

apart : (verb : List ℕ) (rows : List Row) → apart_test verb rows ≡ true
    → AllByRecursion (λ other. verb ≢ other.verb) rows
apart verb [] h = tt
apart verb (row ∷ rows) h =
    let t = both (not (bytes_eq verb row.verb)) (apart_test verb rows) h in
    (λ e. absurd (false≢true (sym (ap not ((bytes_eq-Decides verb row.verb).1 e)) ∙ t.0)), apart verb rows t.1)

-- each row is lawful, and no two begin alike
abbrev pub rows_test : List Row → Bool
rows_test [] = true
rows_test (row ∷ rows) = row_test row && (apart_test row.verb rows && rows_test rows)

pub rows_lawful : (rows : List Row) → rows_test rows ≡ true → AreLawful rows
rows_lawful [] h = tt
rows_lawful (row ∷ rows) h =
    let a = both (row_test row) (apart_test row.verb rows && rows_test rows) h in
    let b = both (apart_test row.verb rows) (rows_test rows) a.1 in
    (row_lawful row a.0, apart row.verb rows b.0, rows_lawful rows b.1)

-- the rows are a grammar
abbrev pub grammar_test : List Row → Bool
grammar_test rows = not (length rows == 0) && rows_test rows

-- A grammar that passes the test is read exactly.
pub grammar_read : (rows : List Row) → grammar_test rows ≡ true → (text : List ℕ)
    → Reads (IsLine rows) line_text text (read_line rows text)
grammar_read [] h text = absurd (false≢true h)
grammar_read (row ∷ rows) h text = line_read row rows text (rows_lawful (row ∷ rows) (both (not (length (row ∷ rows) == 0)) (rows_test (row ∷ rows)) h).1)

-- no text goes along with a line for longer than a line is
pub stops_early : (rows : List Row) → grammar_test rows ≡ true → (text : List ℕ) (n : ℕ)
    → read_line rows text ≡ Err n → n ≤ longest_line
stops_early rows test text n e =
    let h = rw e at (grammar_read rows test text) in
    let best = h.0.reached in
    omega (arith, best.2, best.1.1, shared-le (line_text best.0) text)
