-- A credential: `none`, or a mark and visible bytes up to the end of the room.
use Rattle.std.proofs.Common.{◌≡◌, ℕ, zero, suc, ◌+◌, ◌-◌, ◌<◌, ◌≤◌, ◌≢◌, Bool, true, false, List, [], ◌∷◌, ◌++◌, length, get_or, drop, Ok, refl, sym, ap, subst, ◌∙◌, arith, inl, inr, ◌⊎◌, length-append}
use Rattle.std.specs.Prelude.{nat_lt, nat_le, ◌&&◌, ◌==◌, min, max, codes, not}
use Rattle.std.specs.List.{prefix_len, AllByRecursion, list_all}
use Rattle.std.specs.Str.{bytes_eq}
use Rattle.std.proofs.lemmas.Bool.{cases_Bool, cases_lt, cases_eq, false≢true}
use Rattle.std.proofs.lemmas.Bool.Decides.{nat_tests}
use Rattle.std.proofs.lemmas.Slice.Eq.{bytes_eq-Decides}
use Rattle.ls_credential.specs.declared.kind.Kind.{Kind}
use Rattle.ls_credential.specs.declared.kind.Kind.TheVariants.{Empty, Pattern, Pin, Password}
use Rattle.ls_grammar.specs.Words.{Word, fixed, number, hex, credential, credential_text, word_text, a_credential, IsOf, IsCredentialText}
use Rattle.ls_grammar.specs.Reads.{shared, Reads}
use Rattle.ls_grammar.specs.Reading.{read_credential, is_visible, along, is_marked}
use Rattle.ls_grammar.proofs.SharedLemmas.{HasNoSpace, shared-le, shared-self, shared-append, shared-same, shared-apart}
use Rattle.ls_grammar.proofs.FurthestLemmas.{furthest_at}
use Rattle.ls_grammar.proofs.SequenceLemmas.{Fits, IsLawful}

abbrev pub AreVisible : List ℕ → Type 0
AreVisible text = AllByRecursion (λ b. (33 ≤ b) × (b ≤ 126)) text

visible_is : (b : ℕ) → is_visible b ≡ true → (33 ≤ b) × (b ≤ 126)
visible_is b h = grind (arith, nat_tests)

visible_holds : (b : ℕ) → 33 ≤ b → b ≤ 126 → is_visible b ≡ true
visible_holds b l h = grind (arith, nat_tests)

-- ---- how far visible bytes go

run_yes : (b : ℕ) (text : List ℕ) → is_visible b ≡ true
    → prefix_len is_visible (b ∷ text) ≡ 1 + prefix_len is_visible text
run_yes b text t = rw t refl

run_no : (b : ℕ) (text : List ℕ) → is_visible b ≡ false → prefix_len is_visible (b ∷ text) ≡ 0
run_no b text f = rw f refl

run_is_visible : (text : List ℕ) → prefix_len is_visible text ≡ length text → AreVisible text
run_is_visible [] h = tt
run_is_visible (b ∷ text) h =
    elim (cases_Bool (is_visible b)) [
      | inl t ↦ (visible_is b t, run_is_visible text (omega (arith, run_yes b text t)))
      | inr f ↦ absurd (omega (arith, run_no b text f))
    ]

visible_is_run : (text : List ℕ) → AreVisible text → prefix_len is_visible text ≡ length text
visible_is_run [] h = refl
visible_is_run (b ∷ text) h = omega (arith, run_yes b text (visible_holds b h.0.0 h.0.1), visible_is_run text h.1)

run-le : (text : List ℕ) → prefix_len is_visible text ≤ length text
run-le [] = omega arith
run-le (b ∷ text) =
    elim (cases_Bool (is_visible b)) [
      | inl t ↦ omega (arith, run_yes b text t, run-le text)
      | inr f ↦ omega (arith, run_no b text f)
    ]

shared_is_visible : (x text : List ℕ) → AreVisible x → shared x text ≤ prefix_len is_visible text
shared_is_visible [] text h = omega arith
shared_is_visible (c ∷ x) [] h = omega arith
shared_is_visible (c ∷ x) (b ∷ text) h =
    elim (cases_eq c b) [
      | inl e ↦
          let t : is_visible b ≡ true = subst (λ (y : ℕ). is_visible y ≡ true) e (visible_holds c h.0.0 h.0.1) in
          subst (λ (y : ℕ). shared (y ∷ x) (b ∷ text) ≤ prefix_len is_visible (b ∷ text)) (sym e) (omega (arith, run_yes b text t, shared-same b x text, shared_is_visible x text h.1))
      | inr e ↦ omega (arith, shared-apart c b x text e)
    ]

-- the first n of them
run_of : (n : ℕ) (text : List ℕ) → n ≤ prefix_len is_visible text
    → (x : List ℕ) × AreVisible x × (length x ≡ n) × (n ≤ shared x text)
run_of zero text h = ([], tt, refl, omega arith)
run_of (suc n) [] h = absurd (omega arith)
run_of (suc n) (b ∷ text) h =
    elim (cases_Bool (is_visible b)) [
      | inl t ↦
          let x = run_of n text (omega (arith, run_yes b text t)) in
          (b ∷ x.0, (visible_is b t, x.1), omega (arith, x.2), omega (arith, shared-same b x.0 text, x.3))
      | inr f ↦ absurd (omega (arith, run_no b text f))
    ]

-- ---- a mark and visible bytes

-- the three cases of how far they go
pub record Along (mark : List ℕ) (room : ℕ) (text : List ℕ) : Type 0 where
  pub furthest : (x : List ℕ) → AreVisible x → length (mark ++ x) ≤ room → shared (mark ++ x) text ≤ along mark room text
  pub reached : length mark ≤ room → (x : List ℕ) × AreVisible x × (length (mark ++ x) ≤ room) × (along mark room text ≤ shared (mark ++ x) text)
  pub no_room : room < length mark → along mark room text ≡ 0
  pub whole : 0 < length mark → length mark ≤ length text → along mark room text ≡ length text → (text ≡ mark ++ drop (length mark) text) × AreVisible (drop (length mark) text) × (length text ≤ room)

past_mark : (mark x rest : List ℕ) → AreVisible x → shared (mark ++ x)
    (mark ++ rest) ≤ length mark + prefix_len is_visible rest
past_mark mark x rest h = omega (arith, shared-append mark x rest, shared_is_visible x rest h)

-- a text that begins with the mark
begins : (mark text : List ℕ) → shared mark text ≡ length mark
    → text ≡ mark ++ drop (length mark) text
begins [] text h = refl
begins (b ∷ mark) [] h = absurd (omega arith)
begins (b ∷ mark) (c ∷ text) h =
    elim (cases_eq b c) [
      | inl e ↦
          let k : shared (b ∷ mark) (b ∷ text) ≡ length (b ∷ mark) = subst (λ (x : ℕ). shared (b ∷ mark) (x ∷ text) ≡ length (b ∷ mark)) (sym e) h in
          let ih = begins mark text (omega (arith, shared-same b mark text)) in
          cc (e, ih)
      | inr e ↦ absurd (omega (arith, shared-apart b c mark text e))
    ]

-- a text that leaves the mark leaves what follows it
leaves : (mark x text : List ℕ) → shared mark text < length mark
    → shared (mark ++ x) text ≡ shared mark text
leaves [] x text h = absurd (omega arith)
leaves (b ∷ mark) x [] h = refl
leaves (b ∷ mark) x (c ∷ text) h =
    elim (cases_eq b c) [
      | inl e ↦
          subst (λ (y : ℕ). shared (b ∷ (mark ++ x)) (y ∷ text) ≡ shared (b ∷ mark) (y ∷ text)) e
          (let k : shared (b ∷ mark) (b ∷ text) < length (b ∷ mark) = subst (λ (y : ℕ). shared (b ∷ mark) (y ∷ text) < length (b ∷ mark)) (sym e) h in
          omega (arith, shared-same b (mark ++ x) text, shared-same b mark text, leaves mark x text (omega (arith, shared-same b mark text))))
      | inr e ↦ shared-apart b c (mark ++ x) text e ∙ sym (shared-apart b c mark text e)
    ]

along_law : (mark : List ℕ) (room : ℕ) (text : List ℕ) → Along mark room text
along_law mark room text =
    elim (cases_lt room (length mark)) [
      | inl lt ↦
          let t : nat_lt room (length mark) ≡ true = grind (arith, nat_tests) in
          let a : along mark room text ≡ 0 = rw t refl in
          record {
            furthest = λ x h fits. absurd (omega (arith, length-append mark x));
            reached = λ le. absurd (omega arith);
            no_room = λ lt. a;
            whole = λ some le e. absurd (omega arith);
          }
      | inr le ↦
          let f : nat_lt room (length mark) ≡ false = grind (arith, nat_tests) in
          elim (cases_eq (shared mark text) (length mark)) [
            | inl e ↦
                let t : (shared mark text == length mark) ≡ true = grind (arith, nat_tests) in
                let rest = drop (length mark) text in
                let a : along mark room text ≡ min (length mark + prefix_len is_visible rest) room = rw (f, t) refl in
                let b = begins mark text e in
                let n = min (prefix_len is_visible rest) (room - length mark) in
                let x = run_of n rest (omega arith) in
                record {
                  furthest = λ x h fits.
                      let k : shared (mark ++ x) text ≤ length mark + prefix_len is_visible rest = subst (λ (y : List ℕ). shared (mark ++ x) y ≤ length mark + prefix_len is_visible rest) (sym b) (past_mark mark x rest h) in
                      omega (arith, a, shared-le (mark ++ x) text);
                  reached = λ le. (
                    x.0,
                    x.1,
                    omega (arith, length-append mark x.0, x.2),
                    let k : length mark + n ≤ shared (mark ++ x.0) text = subst (λ (y : List ℕ). length mark + n ≤ shared (mark ++ x.0) y) (sym b) (omega (arith, shared-append mark x.0 rest, x.3)) in
                        omega (arith, a),
                  );
                  no_room = λ lt. absurd (omega arith);
                  whole = λ some le all. (b, run_is_visible rest (omega (arith, a, run-le rest, ap length b, length-append mark rest)), omega (arith, a));
                }
            | inr ne ↦
                let t : (shared mark text == length mark) ≡ false = grind (arith, nat_tests) in
                let a : along mark room text ≡ shared mark text = rw (f, t) refl in
                let lt : shared mark text < length mark = omega (arith, shared-le mark text) in
                record {
                  furthest = λ x h fits. omega (arith, a, leaves mark x text lt);
                  reached = λ le. ([], tt, omega (arith, length-append mark []), omega (arith, a, leaves mark [] text lt));
                  no_room = λ lt. absurd (omega arith);
                  whole = λ some le all. absurd (omega (arith, a));
                }
          ]
    ]

both : (a b : Bool) → (a && b) ≡ true → (a ≡ true) × (b ≡ true)
both true b e = (refl, e)
both false b e = absurd (false≢true e)

both_hold : (a b : Bool) → a ≡ true → b ≡ true → (a && b) ≡ true
both_hold a b e f = rw (e, f) refl

-- a text with the mark is the mark and visible bytes, and has room
marked : (mark : List ℕ) (room : ℕ) (text : List ℕ) → 0 < length mark
    → is_marked mark room text ≡ true
    → (text ≡ mark ++ drop (length mark) text) × AreVisible (drop (length mark) text) × (length text ≤ room)
marked mark room text some h =
    let two = both (nat_le (length mark) (length text)) (along mark room text == length text) h in
    let le : length mark ≤ length text = let t = two.0 in grind (arith, nat_tests) in
    let e : along mark room text ≡ length text = let t = two.1 in grind (arith, nat_tests) in
    (along_law mark room text).whole some le e

along-le : (mark : List ℕ) (room : ℕ) (text : List ℕ) → along mark room text ≤ length text
along-le mark room text =
    let law = along_law mark room text in
    elim (cases_lt room (length mark)) [
      | inl lt ↦ omega (arith, law.no_room lt)
      | inr fits ↦ let x = law.reached fits in omega (arith, x.3, shared-le (mark ++ x.0) text)
    ]

is_marked_holds : (mark x : List ℕ) (room : ℕ) (text : List ℕ) → AreVisible x → mark ++ x ≡ text
    → length text ≤ room → is_marked mark room text ≡ true
is_marked_holds mark x room text h e fits =
    let f = (along_law mark room text).furthest x h (omega (arith, ap length e)) in
    let k : length text ≤ along mark room text = omega (arith, f, subst (λ (y : List ℕ). shared y text ≡ length text) (sym e) (shared-self text)) in
    let a : along mark room text ≡ length text = omega (arith, along-le mark room text) in
    let l : length mark ≤ length text = omega (arith, ap length e, length-append mark x) in
    both_hold (nat_le (length mark) (length text)) (along mark room text == length text) (grind (arith, nat_tests)) (grind (arith, nat_tests))

-- ---- the words

no_others : (P : Word → Type 0)
    → ((kind : Kind) (x : List ℕ) → IsCredentialText kind x → P (credential kind x)) → (w : Word)
    → IsOf a_credential w → P w
no_others P h (fixed y) g = absurd g
no_others P h (number m) g = absurd g
no_others P h (hex bytes) g = absurd g
no_others P h (credential kind x) g = h kind x g

-- no text is that of two credentials
one_text : (j k : Kind) (x y : List ℕ) → IsCredentialText j x → IsCredentialText k y
    → credential_text j x ≡ credential_text k y → credential j x ≡ credential k y
one_text Empty Empty x y a b e = ap (credential Empty) (a ∙ sym b)
one_text Empty Pattern x y a b e = absurd (let h = ap (λ (l : List ℕ). get_or l 0 0) e in omega (arith, h))
one_text Empty Pin x y a b e = absurd (let h = ap (λ (l : List ℕ). get_or l 0 0) e in omega (arith, h))
one_text Empty Password x y a b e = absurd (let h = ap (λ (l : List ℕ). get_or l 0 0) e in omega (arith, h))
one_text Pattern Empty x y a b e = absurd (let h = ap (λ (l : List ℕ). get_or l 0 0) e in omega (arith, h))
one_text Pattern Pattern x y a b e = ap (credential Pattern) (ap (drop 8) e)
one_text Pattern Pin x y a b e = absurd (let h = ap (λ (l : List ℕ). get_or l 1 0) e in omega (arith, h))
one_text Pattern Password x y a b e = absurd (let h = ap (λ (l : List ℕ). get_or l 2 0) e in omega (arith, h))
one_text Pin Empty x y a b e = absurd (let h = ap (λ (l : List ℕ). get_or l 0 0) e in omega (arith, h))
one_text Pin Pattern x y a b e = absurd (let h = ap (λ (l : List ℕ). get_or l 1 0) e in omega (arith, h))
one_text Pin Pin x y a b e = ap (credential Pin) (ap (drop 4) e)
one_text Pin Password x y a b e = absurd (let h = ap (λ (l : List ℕ). get_or l 1 0) e in omega (arith, h))
one_text Password Empty x y a b e = absurd (let h = ap (λ (l : List ℕ). get_or l 0 0) e in omega (arith, h))
one_text Password Pattern x y a b e = absurd (let h = ap (λ (l : List ℕ). get_or l 2 0) e in omega (arith, h))
one_text Password Pin x y a b e = absurd (let h = ap (λ (l : List ℕ). get_or l 1 0) e in omega (arith, h))
one_text Password Password x y a b e = ap (credential Password) (ap (drop 9) e)

found : (kind : Kind) (x : List ℕ) (room : ℕ) (text : List ℕ) → IsCredentialText kind x
    → credential_text kind x ≡ text → length text ≤ room
    → Reads (Fits a_credential room) word_text text (Ok (credential kind x))
found kind x room text is e fits = (
  (is, omega (arith, ap length e)),
  e,
  λ w g h. no_others (λ w. word_text w ≡ text → w ≡ credential kind x) (λ k y of j. one_text k kind y x of is (j ∙ sym e)) w g.0 h,
)

abbrev best : ℕ → List ℕ → ℕ
best room text = max (shared (codes "none") text) (max (along (codes "pattern:") room text) (max (along (codes "pin:") room text) (along (codes "password:") room text)))

furthest_of : (room : ℕ) (text : List ℕ) (kind : Kind) (x : List ℕ) → IsCredentialText kind x
    → length (credential_text kind x) ≤ room → shared (credential_text kind x) text ≤ best room text
furthest_of room text Empty x is fits = omega arith
furthest_of room text Pattern x is fits = omega (arith, (along_law (codes "pattern:") room text).furthest x is fits)
furthest_of room text Pin x is fits = omega (arith, (along_law (codes "pin:") room text).furthest x is fits)
furthest_of room text Password x is fits = omega (arith, (along_law (codes "password:") room text).furthest x is fits)

furthest : (room : ℕ) (text : List ℕ) (w : Word) → Fits a_credential room w
    → shared (word_text w) text ≤ best room text
furthest room text w g = no_others (λ w. length (word_text w) ≤ room → shared (word_text w) text ≤ best room text) (furthest_of room text) w g.0 g.1

-- the one of the four that goes furthest
record Best (room : ℕ) (text : List ℕ) (n : ℕ) : Type 0 where
  kind : Kind
  x : List ℕ
  is : IsCredentialText kind x
  fits : length (credential_text kind x) ≤ room
  far : n ≤ shared (credential_text kind x) text

none_best : (room : ℕ) (text : List ℕ) (n : ℕ) → 4 ≤ room → n ≤ shared (codes "none") text
    → Best room text n
none_best room text n fits le = record { kind = Empty; x = []; is = refl; fits = fits; far = le }

pattern_best : (room : ℕ) (text : List ℕ) (n : ℕ) → 4 ≤ room
    → n ≤ along (codes "pattern:") room text → Best room text n
pattern_best room text n fits le =
    let law = along_law (codes "pattern:") room text in
    elim (cases_lt room 8) [
      | inl lt ↦ none_best room text n fits (omega (arith, law.no_room lt))
      | inr ge ↦ let b = law.reached ge in record { kind = Pattern; x = b.0; is = b.1; fits = b.2; far = omega (arith, b.3) }
    ]

pin_best : (room : ℕ) (text : List ℕ) (n : ℕ) → 4 ≤ room → n ≤ along (codes "pin:") room text
    → Best room text n
pin_best room text n fits le =
    let b = (along_law (codes "pin:") room text).reached fits in record { kind = Pin; x = b.0; is = b.1; fits = b.2; far = omega (arith, b.3) }

password_best : (room : ℕ) (text : List ℕ) (n : ℕ) → 4 ≤ room
    → n ≤ along (codes "password:") room text → Best room text n
password_best room text n fits le =
    let law = along_law (codes "password:") room text in
    elim (cases_lt room 9) [
      | inl lt ↦ none_best room text n fits (omega (arith, law.no_room lt))
      | inr ge ↦ let b = law.reached ge in record { kind = Password; x = b.0; is = b.1; fits = b.2; far = omega (arith, b.3) }
    ]

max_is : (a b : ℕ) → (max a b ≡ a) ⊎ (max a b ≡ b)
max_is a b = elim (cases_lt a b) [ inl lt ↦ inr (omega arith) | inr le ↦ inl (omega arith) ]

best_of : (room : ℕ) (text : List ℕ) → 4 ≤ room → Best room text (best room text)
best_of room text fits =
    let n = shared (codes "none") text in
    let a = along (codes "pattern:") room text in
    let b = along (codes "pin:") room text in
    let c = along (codes "password:") room text in
    elim (max_is n (max a (max b c))) [
      | inl e ↦ none_best room text (max n (max a (max b c))) fits (omega (arith, e))
      | inr e ↦
          elim (max_is a (max b c)) [
            | inl f ↦ pattern_best room text (max n (max a (max b c))) fits (omega (arith, e, f))
            | inr f ↦
                elim (max_is b c) [
                  | inl g ↦ pin_best room text (max n (max a (max b c))) fits (omega (arith, e, f, g))
                  | inr g ↦ password_best room text (max n (max a (max b c))) fits (omega (arith, e, f, g))
                ]
          ]
    ]

none_of : (room : ℕ) (text : List ℕ) → text ≢ codes "none"
    → is_marked (codes "pattern:") room text ≡ false → is_marked (codes "pin:") room text ≡ false
    → is_marked (codes "password:") room text ≡ false
    → (kind : Kind) (x : List ℕ) → IsCredentialText kind x → length (credential_text kind x) ≤ room
    → ¬ (credential_text kind x ≡ text)
none_of room text a b c d Empty x is fits e = a (sym e)
none_of room text a b c d Pattern x is fits e = false≢true (sym b ∙ is_marked_holds (codes "pattern:") x room text is e (omega (arith, ap length e)))
none_of room text a b c d Pin x is fits e = false≢true (sym c ∙ is_marked_holds (codes "pin:") x room text is e (omega (arith, ap length e)))
none_of room text a b c d Password x is fits e = false≢true (sym d ∙ is_marked_holds (codes "password:") x room text is e (omega (arith, ap length e)))

credential_reads : (room : ℕ) (text : List ℕ) → 4 ≤ room
    → Reads (Fits a_credential room) word_text text (read_credential room text)
unfolding read_credential
credential_reads room text fits =
    elim (cases_Bool (bytes_eq text (codes "none"))) [
      | inl a ↦ let e = (bytes_eq-Decides text (codes "none")).0 a in rw a (found Empty [] room text refl (sym e) (omega (arith, ap length e)))
      | inr a ↦
          elim (cases_Bool (is_marked (codes "pattern:") room text)) [
            | inl b ↦ let m = marked (codes "pattern:") room text (omega arith) b in rw (a, b) (found Pattern (drop 8 text) room text m.1 (sym m.0) m.2)
            | inr b ↦
                elim (cases_Bool (is_marked (codes "pin:") room text)) [
                  | inl c ↦ let m = marked (codes "pin:") room text (omega arith) c in rw (a, b, c) (found Pin (drop 4 text) room text m.1 (sym m.0) m.2)
                  | inr c ↦
                      elim (cases_Bool (is_marked (codes "password:") room text)) [
                        | inl d ↦ let m = marked (codes "password:") room text (omega arith) d in rw (a, b, c, d) (found Password (drop 9 text) room text m.1 (sym m.0) m.2)
                        | inr d ↦
                            let w = best_of room text fits in
                            rw (a, b, c, d) (
                              furthest_at (Fits a_credential room) word_text text (best room text) (credential w.kind w.x) (w.is, w.fits) w.far (furthest room text),
                              λ v g e. no_others (λ v. length (word_text v) ≤ room → ¬ (word_text v ≡ text))
                                  (none_of room text (λ e. false≢true (sym a ∙ (bytes_eq-Decides text (codes "none")).1 e)) b c d) v g.0 g.1 e,
                            )
                      ]
                ]
          ]
    ]

no_space-append : (x y : List ℕ) → HasNoSpace x → HasNoSpace y → HasNoSpace (x ++ y)
no_space-append [] y h k = k
no_space-append (b ∷ x) y h k = (h.0, no_space-append x y h.1 k)

pub no_space-test : (x : List ℕ) → list_all (λ b. not (b == 32)) x ≡ true → HasNoSpace x
no_space-test [] h = tt
no_space-test (b ∷ x) h =
    let two = both (not (b == 32)) (list_all (λ b. not (b == 32)) x) h in
    (λ e. let t : (b == 32) ≡ true = grind (arith, nat_tests) in absurd (false≢true (sym (ap not t) ∙ two.0)), no_space-test x two.1)

no_space-visible : (x : List ℕ) → AreVisible x → HasNoSpace x
no_space-visible [] h = tt
no_space-visible (b ∷ x) h = (λ e. absurd (omega (arith, h.0)), no_space-visible x h.1)

no_space_in : (kind : Kind) (x : List ℕ) → IsCredentialText kind x
    → HasNoSpace (credential_text kind x)
no_space_in Empty x h = no_space-test (codes "none") refl
no_space_in Pattern x h = no_space-append (codes "pattern:") x (no_space-test (codes "pattern:") refl) (no_space-visible x h)
no_space_in Pin x h = no_space-append (codes "pin:") x (no_space-test (codes "pin:") refl) (no_space-visible x h)
no_space_in Password x h = no_space-append (codes "password:") x (no_space-test (codes "password:") refl) (no_space-visible x h)

four : (kind : Kind) (x : List ℕ) → IsCredentialText kind x → 4 ≤ length (credential_text kind x)
four Empty x h = omega arith
four Pattern x h = omega (arith, length-append (codes "pattern:") x)
four Pin x h = omega (arith, length-append (codes "pin:") x)
four Password x h = omega (arith, length-append (codes "password:") x)

pub credential_lawful : IsLawful a_credential
credential_lawful = record {
  reads = λ room text fits. credential_reads room text fits;
  no_space = no_others (λ w. HasNoSpace (word_text w)) no_space_in;
  shortest = credential Empty [];
  shortest_is = refl;
  shortest_len = refl;
  at_least = no_others (λ w. 4 ≤ length (word_text w)) four;
  at_most = λ room w g. g.1;
  least_room = omega arith;
}
