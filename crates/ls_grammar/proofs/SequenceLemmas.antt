-- Fields one after another: where each is read exactly, so are all of them.
use Rattle.std.proofs.Common.{◌≡◌, ℕ, suc, ◌+◌, ◌-◌, ◌*◌, ◌≤◌, ◌≢◌, true, false, List, [], ◌∷◌, ◌++◌, length, Result, Ok, Err, refl, sym, ap, subst, ◌∙◌, arith, inl, inr, length-append}
use Rattle.std.specs.Prelude.{◌==◌, max}
use Rattle.std.specs.List.{AllByRecursion, position_or_len}
use Rattle.std.proofs.lemmas.Bool.{cases_eq}
use Rattle.std.proofs.lemmas.Bool.Decides.{nat_tests}
use Rattle.ls_grammar.specs.Words.{Word, word_text, spaced, Field, either, a_number, some_hex, a_credential, IsOf, AreOf, longest_line}
use Rattle.ls_grammar.specs.Reads.{shared, Reads}
use Rattle.ls_grammar.specs.Reading.{◌>>=◌, before_space, from_space, read_word, least_of, least, stepped, read_words}
use Rattle.ls_grammar.proofs.SharedLemmas.{shared-same, shared-append, shared-words, shared-nil, shared-le, HasNoSpace, IsTail, parted, cases_list}

-- a word of the field of at most so many bytes
abbrev pub Fits : Field → ℕ → Word → Type 0
Fits f room w = IsOf f w × (length (word_text w) ≤ room)

-- how much room a field is to have
abbrev pub room_of : Field → ℕ
room_of (either this that) = max (length this) (length that)
room_of a_number = 10
room_of (some_hex low high) = 2 * high
room_of a_credential = 4

-- how long its word is at most
abbrev pub far_of : Field → ℕ → ℕ
far_of (either this that) room = max (length this) (length that)
far_of a_number room = 10
far_of (some_hex low high) room = 2 * high
far_of a_credential room = room

-- what a field is to keep
pub record IsLawful (f : Field) : Type 0 where
  pub reads : (room : ℕ) (text : List ℕ) → room_of f ≤ room → Reads (Fits f room) word_text text (read_word f room text)
  pub no_space : (w : Word) → IsOf f w → HasNoSpace (word_text w)
  pub shortest : Word
  pub shortest_is : IsOf f shortest
  pub shortest_len : length (word_text shortest) ≡ least_of f
  pub at_least : (w : Word) → IsOf f w → least_of f ≤ length (word_text w)
  pub at_most : (room : ℕ) (w : Word) → Fits f room w → length (word_text w) ≤ far_of f room
  pub least_room : least_of f ≤ room_of f

abbrev pub AllLawful : List Field → Type 0
AllLawful fs = AllByRecursion IsLawful fs

-- the fields have their room wherever the words before them end
abbrev pub IsRoomy : List Field → ℕ → Type 0
IsRoomy [] at = at ≤ longest_line
IsRoomy (f ∷ fs) at = (at + 1 + room_of f + least fs ≤ longest_line) × IsRoomy fs (at + 1 + far_of f (longest_line - (at + 1 + least fs)))

far-le : (f : Field) (k a b : ℕ) → a ≤ b → b + 1 + k ≤ longest_line
    → a + 1 + far_of f (longest_line - (a + 1 + k)) ≤ b + 1 + far_of f (longest_line - (b + 1 + k))
far-le (either this that) k a b le fit = omega arith
far-le a_number k a b le fit = omega arith
far-le (some_hex low high) k a b le fit = omega arith
far-le a_credential k a b le fit = omega arith

pub IsRoomy-le : (fs : List Field) (a b : ℕ) → a ≤ b → IsRoomy fs b → IsRoomy fs a
IsRoomy-le [] a b le h = omega arith
IsRoomy-le (f ∷ fs) a b le h =
    (omega (arith, h.0), IsRoomy-le fs _ _ (far-le f (least fs) a b le (omega (arith, h.0))) h.1)

-- ---- words

pub least-le : (fs : List Field) (ws : List Word) → AllLawful fs → AreOf fs ws
    → least fs ≤ length (spaced ws)
least-le [] [] law h = omega arith
least-le [] (w ∷ ws) law h = absurd h
least-le (f ∷ fs) [] law h = absurd h
least-le (f ∷ fs) (w ∷ ws) law h =
    omega (arith, law.0.at_least w h.0, least-le fs ws law.1 h.1, length-append (word_text w) (spaced ws))

pub shortest_words : (fs : List Field) → AllLawful fs
    → (ws : List Word) × AreOf fs ws × (length (spaced ws) ≡ least fs)
shortest_words [] law = ([], tt, refl)
shortest_words (f ∷ fs) law =
    let others = shortest_words fs law.1 in
    (law.0.shortest ∷ others.0, (law.0.shortest_is, others.1), omega (arith, law.0.shortest_len, others.2, length-append (word_text law.0.shortest) (spaced others.0)))

pub spaced_is_tail : (ws : List Word) → IsTail (spaced ws)
spaced_is_tail [] = tt
spaced_is_tail (w ∷ ws) = refl

-- the words fit the line behind the place
abbrev pub AreFit : List Field → ℕ → List Word → Type 0
AreFit fs at ws = AreOf fs ws × (at + length (spaced ws) ≤ longest_line)

-- how far a text that begins at the place goes along with words of the fields
pub record GoesFrom (fs : List Field) (at : ℕ) (text : List ℕ) (n : ℕ) : Type 0 where
  pub reached : (ws : List Word) × AreFit fs at ws × (at + shared (spaced ws) text ≡ n)
  pub furthest : (ws : List Word) → AreFit fs at ws → at + shared (spaced ws) text ≤ n
  pub none : (ws : List Word) → AreFit fs at ws → ¬ (spaced ws ≡ text)

abbrev pub ReadsFrom : List Field → ℕ → List ℕ → Result (List Word) ℕ → Type 0
ReadsFrom fs at text (Ok ws) = AreFit fs at ws × (spaced ws ≡ text) × ((vs : List Word) → AreFit fs at vs → spaced vs ≡ text → vs ≡ ws)
ReadsFrom fs at text (Err n) = GoesFrom fs at text n

-- ---- one field, and those behind it

abbrev room_at : List Field → ℕ → ℕ
room_at fs at = longest_line - (at + 1 + least fs)

first_fits : (f : Field) (fs : List Field) (at : ℕ) (w : Word) (ws : List Word) → AllLawful fs
    → AreFit (f ∷ fs) at (w ∷ ws) → Fits f (room_at fs at) w
first_fits f fs at w ws law h =
    (h.0.0, omega (arith, h.1, least-le fs ws law h.0.1, length-append (word_text w) (spaced ws)))

others_fit : (f : Field) (fs : List Field) (at : ℕ) (w : Word) (ws : List Word) (a : List ℕ)
    → word_text w ≡ a → AreFit (f ∷ fs) at (w ∷ ws) → AreFit fs (at + 1 + length a) ws
others_fit f fs at w ws a e h =
    (h.0.1, omega (arith, h.1, ap length e, length-append (word_text w) (spaced ws)))

both_fit : (f : Field) (fs : List Field) (at : ℕ) (w : Word) (ws : List Word) (a : List ℕ)
    → word_text w ≡ a → IsOf f w → AreFit fs (at + 1 + length a) ws → AreFit (f ∷ fs) at (w ∷ ws)
both_fit f fs at w ws a e of h =
    ((of, h.0), omega (arith, h.1, ap length e, length-append (word_text w) (spaced ws)))

-- the text shares a prefix of another word
apart : (f : Field) (w : Word) (ws : List Word) (a t : List ℕ) → IsLawful f → IsOf f w
    → HasNoSpace a → IsTail t → word_text w ≢ a
    → shared (spaced (w ∷ ws)) (32 ∷ (a ++ t)) ≡ 1 + shared (word_text w) a
apart f w ws a t law of na it ne =
    shared-same 32 (word_text w ++ spaced ws) (a ++ t)
    ∙ ap (λ (n : ℕ). 1 + n) (shared-words (word_text w) (spaced ws) a t (law.no_space w of) (spaced_is_tail ws) na it ne)

-- the text shares the whole word
along_with : (w : Word) (ws : List Word) (a t : List ℕ) → word_text w ≡ a → shared (spaced (w ∷ ws))
    (32 ∷ (a ++ t)) ≡ 1 + length a + shared (spaced ws) t
along_with w ws a t e =
    subst (λ (x : List ℕ). shared (32 ∷ (x ++ spaced ws)) (32 ∷ (a ++ t)) ≡ 1 + length a + shared (spaced ws) t) (sym e)
    (omega (arith, shared-same 32 (a ++ spaced ws) (a ++ t), shared-append a (spaced ws) t))

parts_of : (f : Field) (w : Word) (ws : List Word) (a t : List ℕ) → IsLawful f → IsOf f w
    → HasNoSpace a → IsTail t → spaced (w ∷ ws) ≡ 32 ∷ (a ++ t)
    → (word_text w ≡ a) × (spaced ws ≡ t)
parts_of f w ws a t law of na it e =
    let k : word_text w ++ spaced ws ≡ a ++ t = cc e in
    parted (word_text w) (spaced ws) a t (law.no_space w of) (spaced_is_tail ws) na it k

word_stops : (f : Field) (fs : List Field) (at : ℕ) (a t : List ℕ) (n : ℕ) → AllLawful (f ∷ fs)
    → IsRoomy (f ∷ fs) at → HasNoSpace a → IsTail t
    → Reads (Fits f (room_at fs at)) word_text a (Err n) → GoesFrom (f ∷ fs) at (32 ∷ (a ++ t))
    (at + 1 + n)
word_stops f fs at a t n law roomy na it h =
    let ne : (w : Word) → Fits f (room_at fs at) w → word_text w ≢ a = h.1 in
    let best = h.0.reached in
    let others = shortest_words fs law.1 in
    let fit : AreFit (f ∷ fs) at (best.0 ∷ others.0) =
    ((best.1.0, others.1), omega (arith, roomy.0, best.1.1, others.2, law.0.least_room, length-append (word_text best.0) (spaced others.0))) in
    record {
      reached = (best.0 ∷ others.0, fit, omega (arith, apart f best.0 others.0 a t law.0 best.1.0 na it (ne best.0 best.1), best.2));
      furthest = furthest;
      none = none;
    }
  where
    furthest : (ws : List Word) → AreFit (f ∷ fs) at ws → at + shared (spaced ws)
        (32 ∷ (a ++ t)) ≤ at + 1 + n
    furthest [] g = absurd g.0
    furthest (w ∷ ws) g =
        let fits = first_fits f fs at w ws law.1 g in
        omega (arith, apart f w ws a t law.0 g.0.0 na it (h.1 w fits), h.0.furthest w fits)

    none : (ws : List Word) → AreFit (f ∷ fs) at ws → ¬ (spaced ws ≡ 32 ∷ (a ++ t))
    none [] g e = absurd g.0
    none (w ∷ ws) g e = h.1 w (first_fits f fs at w ws law.1 g) (parts_of f w ws a t law.0 g.0.0 na it e).0

word_goes : (f : Field) (fs : List Field) (at : ℕ) (a t : List ℕ) (w : Word) (n : ℕ)
    → AllLawful (f ∷ fs) → HasNoSpace a → IsTail t
    → IsOf f w → word_text w ≡ a → GoesFrom fs (at + 1 + length a) t n
    → GoesFrom (f ∷ fs) at (32 ∷ (a ++ t)) n
word_goes f fs at a t w n law na it of same h =
    let best = h.reached in
    record {
      reached = (w ∷ best.0, both_fit f fs at w best.0 a same of best.1, omega (arith, along_with w best.0 a t same, best.2));
      furthest = furthest;
      none = none;
    }
  where
    furthest : (ws : List Word) → AreFit (f ∷ fs) at ws → at + shared (spaced ws)
        (32 ∷ (a ++ t)) ≤ n
    furthest [] g = absurd g.0
    furthest (v ∷ ws) g =
        elim (cases_list (word_text v) a) [
          | inl e ↦ omega (arith, along_with v ws a t e, h.furthest ws (others_fit f fs at v ws a e g))
          | inr ne ↦ omega (arith, apart f v ws a t law.0 g.0.0 na it ne, shared-le (word_text v) a, h.reached.2)
        ]

    none : (ws : List Word) → AreFit (f ∷ fs) at ws → ¬ (spaced ws ≡ 32 ∷ (a ++ t))
    none [] g e = absurd g.0
    none (v ∷ ws) g e = let p = parts_of f v ws a t law.0 g.0.0 na it e in h.none ws (others_fit f fs at v ws a p.0 g) p.1

word_done : (f : Field) (fs : List Field) (at : ℕ) (a t : List ℕ) (w : Word) (ws : List Word)
    → AllLawful (f ∷ fs) → HasNoSpace a → IsTail t
    → Reads (Fits f (room_at fs at)) word_text a (Ok w) → ReadsFrom fs (at + 1 + length a) t (Ok ws)
    → ReadsFrom (f ∷ fs) at (32 ∷ (a ++ t)) (Ok (w ∷ ws))
word_done f fs at a t w ws law na it h k =
    (both_fit f fs at w ws a h.1 h.0.0 k.0, spells, only)
  where
    spells : spaced (w ∷ ws) ≡ 32 ∷ (a ++ t)
    spells = cc (h.1, k.1)

    only : (vs : List Word) → AreFit (f ∷ fs) at vs → spaced vs ≡ 32 ∷ (a ++ t) → vs ≡ w ∷ ws
    only [] g e = absurd g.0
    only (v ∷ vs) g e =
        let p = parts_of f v vs a t law.0 g.0.0 na it e in
        cc (h.2 v (first_fits f fs at v vs law.1 g) p.0, k.2 vs (others_fit f fs at v vs a p.0 g) p.1)

-- ---- all fields

-- a text is its first word and the rest
pub split_text : (text : List ℕ)
    → (before_space text ++ from_space text ≡ text) × HasNoSpace (before_space text) × IsTail (from_space text)
split_text [] = (refl, tt, tt)
split_text (b ∷ text) =
    elim (cases_eq b 32) [
      | inl e ↦
          let k : (b == 32) ≡ true = grind (arith, nat_tests) in
          let n : position_or_len (λ x. x == 32) (b ∷ text) ≡ 0 = rw k refl in
          rw n (refl, tt, e)
      | inr e ↦
          let k : (b == 32) ≡ false = grind (arith, nat_tests) in
          let n : position_or_len (λ x. x == 32) (b ∷ text) ≡ suc (position_or_len (λ x. x == 32) text) = rw k (omega arith) in
          let h = split_text text in
          rw n (ap (λ (x : List ℕ). b ∷ x) h.0, (e, h.1), h.2)
    ]

after_word : (f : Field) (fs : List Field) (at : ℕ) (a t : List ℕ) (w : Word)
    (s : Result (List Word) ℕ) → AllLawful (f ∷ fs) → HasNoSpace a → IsTail t
    → Reads (Fits f (room_at fs at)) word_text a (Ok w) → ReadsFrom fs (at + 1 + length a) t s
    → ReadsFrom (f ∷ fs) at (32 ∷ (a ++ t)) (s >>= λ words. Ok (w ∷ words))
after_word f fs at a t w (Ok ws) law na it h k = word_done f fs at a t w ws law na it h k
after_word f fs at a t w (Err n) law na it h k = word_goes f fs at a t w n law na it h.0.0 h.1 k

in_word : (f : Field) (fs : List Field) (at : ℕ) (text : List ℕ) (r : Result Word ℕ)
    → AllLawful (f ∷ fs) → IsRoomy (f ∷ fs) at
    → Reads (Fits f (room_at fs at)) word_text (before_space text) r
    → ((w : Word) → Fits f (room_at fs at) w → word_text w ≡ before_space text → ReadsFrom fs (at + 1 + length (before_space text)) (from_space text) (read_words fs (at + 1 + length (before_space text)) (from_space text)))
    → ReadsFrom (f ∷ fs) at (32 ∷ (before_space text ++ from_space text))
    (stepped (at + 1) text r >>= λ step. read_words fs step.at step.rest >>= λ words. Ok (step.word ∷ words))
in_word f fs at text (Ok w) law roomy h more =
    after_word f fs at (before_space text) (from_space text) w (read_words fs (at + 1 + length (before_space text)) (from_space text)) law (split_text text).1 (split_text text).2 h (more w h.0 h.1)
in_word f fs at text (Err n) law roomy h more = word_stops f fs at (before_space text) (from_space text) n law roomy (split_text text).1 (split_text text).2 h

ends_early : (f : Field) (fs : List Field) (at : ℕ) → AllLawful (f ∷ fs) → IsRoomy (f ∷ fs) at
    → GoesFrom (f ∷ fs) at [] at
ends_early f fs at law roomy =
    let ws = shortest_words (f ∷ fs) law in
    record {
      reached = (ws.0, (ws.1, omega (arith, ws.2, roomy.0, law.0.least_room)), omega (arith, shared-nil (spaced ws.0)));
      furthest = λ vs h. omega (arith, shared-nil (spaced vs));
      none = none;
    }
  where
    none : (vs : List Word) → AreFit (f ∷ fs) at vs → ¬ (spaced vs ≡ [])
    none [] g e = absurd g.0
    none (v ∷ vs) g e = cc e

goes_on : (at : ℕ) (b : ℕ) (text : List ℕ) → at ≤ longest_line → GoesFrom [] at (b ∷ text) at
goes_on at b text le = record { reached = ([], (tt, omega arith), omega arith); furthest = furthest; none = none }
  where
    furthest : (vs : List Word) → AreFit [] at vs → at + shared (spaced vs) (b ∷ text) ≤ at
    furthest [] g = omega arith
    furthest (v ∷ vs) g = absurd g.0

    none : (vs : List Word) → AreFit [] at vs → ¬ (spaced vs ≡ b ∷ text)
    none [] g e = cc e
    none (v ∷ vs) g e = absurd g.0

only_nil : (at : ℕ) (vs : List Word) → AreFit [] at vs → spaced vs ≡ [] → vs ≡ []
only_nil at [] g e = refl
only_nil at (v ∷ vs) g e = absurd g.0

-- Fields that are lawful and have room are read exactly.
pub words_read : (fs : List Field) (at : ℕ) (text : List ℕ) → AllLawful fs → IsRoomy fs at
    → IsTail text → ReadsFrom fs at text (read_words fs at text)
words_read [] at [] law roomy it = ((tt, omega arith), refl, only_nil at)
words_read [] at (b ∷ text) law roomy it = goes_on at b text roomy
words_read (f ∷ fs) at [] law roomy it = ends_early f fs at law roomy
words_read (f ∷ fs) at (b ∷ text) law roomy it =
    let room = longest_line - (at + 1 + least fs) in
    let result = read_words (f ∷ fs) at (b ∷ text) in
    let h = in_word f fs at text (read_word f room (before_space text)) law roomy
    (law.0.reads room (before_space text) (omega (arith, roomy.0)))
    (λ w fits e. words_read fs (at + 1 + length (before_space text)) (from_space text) law.1
    (IsRoomy-le fs _ _ (omega (arith, law.0.at_most room w fits, ap length e)) roomy.1) (split_text text).2) in
    let whole : 32 ∷ (before_space text ++ from_space text) ≡ b ∷ text = cc (it, (split_text text).0) in
    subst (λ (x : List ℕ). ReadsFrom (f ∷ fs) at x result) whole h
