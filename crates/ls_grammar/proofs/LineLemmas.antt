-- A line is read exactly, where each row is lawful and no two begin with one word.
use Rattle.std.proofs.Common.{◌≡◌, ℕ, ◌+◌, ◌≤◌, ◌≢◌, List, [], ◌∷◌, ◌++◌, length, Result, Ok, Err, Option, Some, None, refl, sym, ap, subst, ◌∙◌, arith, inl, inr, ◌⊎◌, length-append}
use Rattle.std.specs.Prelude.{⊤}
use Rattle.std.specs.List.{AllByRecursion}
use Rattle.std.specs.Str.{bytes_eq}
use Rattle.std.proofs.lemmas.Bool.{cases_Bool, cases_lt, false≢true}
use Rattle.std.proofs.lemmas.Slice.Eq.{bytes_eq-Decides}
use Rattle.ls_grammar.specs.Words.{Word, spaced, AreOf, Line, line_text, Row, IsOfRow, IsLine, longest_line}
use Rattle.ls_grammar.specs.Reads.{shared, Reads}
use Rattle.ls_grammar.specs.Reading.{◌>>=◌, before_space, from_space, least, read_words, find_row, verbs_along, read_row, read_line}
use Rattle.ls_grammar.proofs.SharedLemmas.{shared-append, shared-words, shared-le, HasNoSpace, IsTail, parted, cases_list}
use Rattle.ls_grammar.proofs.FurthestLemmas.{furthest_at}
use Rattle.ls_grammar.proofs.SequenceLemmas.{AllLawful, IsRoomy, AreFit, ReadsFrom, GoesFrom, words_read, spaced_is_tail, shortest_words, split_text}

-- what a row is to keep
pub record IsLawfulRow (row : Row) : Type 0 where
  pub no_space : HasNoSpace row.verb
  pub fields : AllLawful row.fields
  pub roomy : IsRoomy row.fields (length row.verb)
  pub fits : length row.verb + least row.fields ≤ longest_line

-- each row, and none begins as an earlier one
abbrev pub AreLawful : List Row → Type 0
AreLawful [] = ⊤
AreLawful (row ∷ rows) = IsLawfulRow row × AllByRecursion (λ other. row.verb ≢ other.verb) rows × AreLawful rows

-- the row is one of them
abbrev Among : List Row → Row → Type 0
Among [] r = ⊥
Among (row ∷ rows) r = (r ≡ row) ⊎ Among rows r

lawful_among : (rows : List Row) (r : Row) → AreLawful rows → Among rows r → IsLawfulRow r
lawful_among [] r law h = absurd h
lawful_among (row ∷ rows) r law h = elim h [ inl e ↦ subst IsLawfulRow (sym e) law.0 | inr k ↦ lawful_among rows r law.2 k ]

row_of : (rows : List Row) (s : Line) → IsOfRow rows s
    → (r : Row) × Among rows r × (s.verb ≡ r.verb) × AreOf r.fields s.words
row_of [] s h = absurd h
row_of (row ∷ rows) s h =
    elim h [
      | inl k ↦ (row, inl refl, k.0, k.1)
      | inr k ↦ let r = row_of rows s k in (r.0, inr r.1, r.2, r.3)
    ]

of_row : (rows : List Row) (r : Row) (words : List Word) → Among rows r → AreOf r.fields words
    → IsOfRow rows (record { verb = r.verb; words = words })
of_row [] r words h k = absurd h
of_row (row ∷ rows) r words h k =
    elim h [
      | inl e ↦ inl (ap (λ (x : Row). x.verb) e, subst (λ (x : Row). AreOf x.fields words) e k)
      | inr j ↦ inr (of_row rows r words j k)
    ]

verb_differs : (rows : List Row) (row r : Row)
    → AllByRecursion (λ (other : Row). row.verb ≢ other.verb) rows → Among rows r
    → row.verb ≢ r.verb
verb_differs [] row r h k = absurd k
verb_differs (other ∷ rows) row r h k =
    elim k [ inl e ↦ subst (λ (x : Row). row.verb ≢ x.verb) (sym e) h.0 | inr j ↦ verb_differs rows row r h.1 j ]

-- one row begins with a word
one_row : (rows : List Row) (q r : Row) → AreLawful rows → Among rows q → Among rows r
    → q.verb ≡ r.verb → q ≡ r
one_row [] q r law h k e = absurd h
one_row (row ∷ rows) q r law h k e =
    elim h [
      | inl a ↦
          elim k [
            | inl b ↦ a ∙ sym b
            | inr b ↦ absurd (verb_differs rows row r law.1 b (ap (λ (x : Row). x.verb) (sym a) ∙ e))
          ]
      | inr a ↦
          elim k [
            | inl b ↦ absurd (verb_differs rows row q law.1 a (ap (λ (x : Row). x.verb) (sym b) ∙ sym e))
            | inr b ↦ one_row rows q r law.2 a b e
          ]
    ]

-- what looking a word up finds
pub record Found (rows : List Row) (word : List ℕ) (row : Row) : Type 0 where
  among : Among rows row
  verb : row.verb ≡ word

abbrev Looked : List Row → List ℕ → Option Row → Type 0
Looked rows word None = (r : Row) → Among rows r → r.verb ≢ word
Looked rows word (Some row) = Found rows word row

looked_later : (row : Row) (rows : List Row) (word : List ℕ) (found : Option Row) → row.verb ≢ word
    → Looked rows word found → Looked (row ∷ rows) word found
looked_later row rows word None ne h = λ r k. elim k [ inl e ↦ subst (λ (x : Row). x.verb ≢ word) (sym e) ne | inr j ↦ h r j ]
looked_later row rows word (Some found) ne h = record { among = inr h.among; verb = h.verb }

looked : (rows : List Row) (word : List ℕ) → Looked rows word (find_row rows word)
looked [] word = λ r k. absurd k
looked (row ∷ rows) word =
    elim (cases_Bool (bytes_eq word row.verb)) [
      | inl t ↦ rw t (record { among = inl refl; verb = sym ((bytes_eq-Decides word row.verb).0 t) })
      | inr f ↦ rw f (looked_later row rows word (find_row rows word) (λ e. false≢true (sym f ∙ (bytes_eq-Decides word row.verb).1 (sym e))) (looked rows word))
    ]

-- ---- a line behind its first word

-- a line of another row goes no further than the word
other_row : (r : Row) (s : Line) (a t : List ℕ) → IsLawfulRow r → s.verb ≡ r.verb → HasNoSpace a
    → IsTail t → r.verb ≢ a → shared (line_text s) (a ++ t) ≡ shared r.verb a
other_row r s a t law e na it ne =
    subst (λ (x : List ℕ). shared (x ++ spaced s.words) (a ++ t) ≡ shared r.verb a) (sym e)
    (shared-words r.verb (spaced s.words) a t law.no_space (spaced_is_tail s.words) na it ne)

-- a line of the row goes on behind the word
own_row : (r : Row) (s : Line) (a t : List ℕ) → s.verb ≡ r.verb → r.verb ≡ a → shared (line_text s)
    (a ++ t) ≡ length a + shared (spaced s.words) t
own_row r s a t e f =
    subst (λ (x : List ℕ). shared (x ++ spaced s.words) (a ++ t) ≡ length a + shared (spaced s.words) t) (sym (e ∙ f)) (shared-append a (spaced s.words) t)

fit_behind : (r : Row) (s : Line) (a : List ℕ) → s.verb ≡ r.verb → r.verb ≡ a
    → AreOf r.fields s.words → length (line_text s) ≤ longest_line
    → AreFit r.fields (length a) s.words
fit_behind r s a e f of fits = (of, omega (arith, ap length (e ∙ f), length-append s.verb (spaced s.words)))

same_said : (s : Line) (verb : List ℕ) (words : List Word) → s.verb ≡ verb → s.words ≡ words
    → s ≡ record { verb = verb; words = words }
same_said s verb words e f = ap (λ (x : List ℕ). let as_line : Line = record { verb = x; words = s.words } in as_line) e ∙ ap (λ (x : List Word). let as_line : Line = record { verb = verb; words = x } in as_line) f

behind_stops : (rows : List Row) (r : Row) (a t : List ℕ) (n : ℕ) → AreLawful rows → Found rows a r
    → HasNoSpace a → IsTail t → GoesFrom r.fields (length a) t n
    → Reads (IsLine rows) line_text (a ++ t) (Err n)
behind_stops rows r a t n law found na it h =
    let ws = h.reached in
    let line : Line = record { verb = r.verb; words = ws.0 } in (
      furthest_at (IsLine rows) line_text (a ++ t) n line
          (of_row rows r ws.0 found.among ws.1.0, omega (arith, ap length found.verb, length-append r.verb (spaced ws.0), ws.1.1))
          (omega (arith, own_row r line a t refl found.verb, ws.2)) furthest,
      none,
    )
  where
    furthest : (s : Line) → IsLine rows s → shared (line_text s) (a ++ t) ≤ n
    furthest s is =
        let q = row_of rows s is.0 in
        elim (cases_list q.0.verb a) [
          | inl e ↦
              let same : q.0 ≡ r = one_row rows q.0 r law q.1 found.among (e ∙ sym found.verb) in
              let of : AreOf r.fields s.words = subst (λ (x : Row). AreOf x.fields s.words) same q.3 in
              omega (arith, own_row q.0 s a t q.2 e, h.furthest s.words (fit_behind r s a (q.2 ∙ e ∙ sym found.verb) found.verb of is.1))
          | inr ne ↦ omega (arith, other_row q.0 s a t (lawful_among rows q.0 law q.1) q.2 na it ne, shared-le q.0.verb a, h.reached.2)
        ]

    none : (s : Line) → IsLine rows s → ¬ (line_text s ≡ a ++ t)
    none s is e =
        let q = row_of rows s is.0 in
        let p = parted s.verb (spaced s.words) a t (subst HasNoSpace (sym q.2) (lawful_among rows q.0 law q.1).no_space) (spaced_is_tail s.words) na it e in
        let same : q.0 ≡ r = one_row rows q.0 r law q.1 found.among (sym q.2 ∙ p.0 ∙ sym found.verb) in
        let of : AreOf r.fields s.words = subst (λ (x : Row). AreOf x.fields s.words) same q.3 in
        h.none s.words (fit_behind r s a (p.0 ∙ sym found.verb) found.verb of is.1) p.1

behind_done : (rows : List Row) (r : Row) (a t : List ℕ) (ws : List Word) → AreLawful rows
    → Found rows a r → HasNoSpace a → IsTail t → ReadsFrom r.fields (length a) t (Ok ws)
    → Reads (IsLine rows) line_text (a ++ t) (Ok (record { verb = r.verb; words = ws }))
behind_done rows r a t ws law found na it h = (
  (of_row rows r ws found.among h.0.0, omega (arith, ap length found.verb, length-append r.verb (spaced ws), h.0.1)),
  cc (found.verb, h.1),
  only,
)
  where
    only : (s : Line) → IsLine rows s → line_text s ≡ a ++ t → s ≡ record { verb = r.verb; words = ws }
    only s is e =
        let q = row_of rows s is.0 in
        let p = parted s.verb (spaced s.words) a t (subst HasNoSpace (sym q.2) (lawful_among rows q.0 law q.1).no_space) (spaced_is_tail s.words) na it e in
        let same : q.0 ≡ r = one_row rows q.0 r law q.1 found.among (sym q.2 ∙ p.0 ∙ sym found.verb) in
        let of : AreOf r.fields s.words = subst (λ (x : Row). AreOf x.fields s.words) same q.3 in
        let words : s.words ≡ ws = h.2 s.words (fit_behind r s a (p.0 ∙ sym found.verb) found.verb of is.1) p.1 in
        let verb : s.verb ≡ r.verb = p.0 ∙ sym found.verb in
        same_said s r.verb ws verb words

behind : (rows : List Row) (r : Row) (a t : List ℕ) (read : Result (List Word) ℕ) → AreLawful rows
    → Found rows a r → HasNoSpace a → IsTail t → ReadsFrom r.fields (length a) t read
    → Reads (IsLine rows) line_text (a ++ t)
    (read >>= λ words. Ok (record { verb = r.verb; words = words }))
behind rows r a t (Ok ws) law found na it h = behind_done rows r a t ws law found na it h
behind rows r a t (Err n) law found na it h = behind_stops rows r a t n law found na it h

-- ---- a word that no row begins with

verbs-le : (rows : List Row) (r : Row) (a : List ℕ) → Among rows r
    → shared r.verb a ≤ verbs_along rows a
verbs-le [] r a h = absurd h
verbs-le (row ∷ rows) r a h =
    elim h [
      | inl e ↦ omega (arith, ap (λ (x : Row). shared x.verb a) e)
      | inr k ↦ omega (arith, verbs-le rows r a k)
    ]

verbs_reached : (row : Row) (rows : List Row) (a : List ℕ)
    → (r : Row) × Among (row ∷ rows) r × (verbs_along (row ∷ rows) a ≡ shared r.verb a)
verbs_reached row [] a = (row, inl refl, omega arith)
verbs_reached row (next ∷ rows) a =
    let others = verbs_reached next rows a in
    elim (cases_lt (shared row.verb a) (verbs_along (next ∷ rows) a)) [
      | inl lt ↦ (others.0, inr others.1, omega (arith, others.2))
      | inr le ↦ (row, inl refl, omega arith)
    ]

no_verb : (row : Row) (rows : List Row) (a t : List ℕ) → AreLawful (row ∷ rows)
    → ((r : Row) → Among (row ∷ rows) r → r.verb ≢ a) → HasNoSpace a → IsTail t
    → Reads (IsLine (row ∷ rows)) line_text (a ++ t) (Err (verbs_along (row ∷ rows) a))
no_verb row rows a t law ne na it =
    let best = verbs_reached row rows a in
    let lawful = lawful_among (row ∷ rows) best.0 law best.1 in
    let ws = shortest_words best.0.fields lawful.fields in
    let line : Line = record { verb = best.0.verb; words = ws.0 } in (
      furthest_at (IsLine (row ∷ rows)) line_text (a ++ t) (verbs_along (row ∷ rows) a) line
          (of_row (row ∷ rows) best.0 ws.0 best.1 ws.1, omega (arith, length-append best.0.verb (spaced ws.0), ws.2, lawful.fits))
          (omega (arith, other_row best.0 line a t lawful refl na it (ne best.0 best.1), best.2)) furthest,
      none,
    )
  where
    furthest : (s : Line) → IsLine (row ∷ rows) s → shared (line_text s)
        (a ++ t) ≤ verbs_along (row ∷ rows) a
    furthest s is =
        let q = row_of (row ∷ rows) s is.0 in
        omega (arith, other_row q.0 s a t (lawful_among (row ∷ rows) q.0 law q.1) q.2 na it (ne q.0 q.1), verbs-le (row ∷ rows) q.0 a q.1)

    none : (s : Line) → IsLine (row ∷ rows) s → ¬ (line_text s ≡ a ++ t)
    none s is e =
        let q = row_of (row ∷ rows) s is.0 in
        let p = parted s.verb (spaced s.words) a t (subst HasNoSpace (sym q.2) (lawful_among (row ∷ rows) q.0 law q.1).no_space) (spaced_is_tail s.words) na it e in
        ne q.0 q.1 (sym q.2 ∙ p.0)

looked_read : (row : Row) (rows : List Row) (a t : List ℕ) (found : Option Row)
    → AreLawful (row ∷ rows) → Looked (row ∷ rows) a found → HasNoSpace a → IsTail t
    → Reads (IsLine (row ∷ rows)) line_text (a ++ t) (read_row (row ∷ rows) a t found)
looked_read row rows a t None law h na it = no_verb row rows a t law h na it
looked_read row rows a t (Some r) law h na it =
    let lawful = lawful_among (row ∷ rows) r law h.among in
    behind (row ∷ rows) r a t (read_words r.fields (length a) t) law h na it
    (words_read r.fields (length a) t lawful.fields (subst (λ (x : List ℕ). IsRoomy r.fields (length x)) h.verb lawful.roomy) it)

-- A grammar of at least one row is read exactly.
pub line_read : (row : Row) (rows : List Row) (text : List ℕ) → AreLawful (row ∷ rows)
    → Reads (IsLine (row ∷ rows)) line_text text (read_line (row ∷ rows) text)
line_read row rows text law =
    let parts = split_text text in
    let h = looked_read row rows (before_space text) (from_space text) (find_row (row ∷ rows) (before_space text)) law (looked (row ∷ rows) (before_space text)) parts.1 parts.2 in
    let result = read_line (row ∷ rows) text in
    subst (λ (x : List ℕ). Reads (IsLine (row ∷ rows)) line_text x result) parts.0 h
