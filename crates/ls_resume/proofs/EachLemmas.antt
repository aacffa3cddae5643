-- What is found for each element of a list, over a board.
use Rattle.std.proofs.Common.{◌≡◌, ◌≤◌, ◌-◌, ℕ, List, [], ◌∷◌, ◌++◌, length, get_or, take, drop, None, Result, Ok, Err, append_assoc, refl, sym, ◌∙◌, ap, subst, arith}
use Rattle.std.proofs.lemmas.List.{take_all, append-nil}
use Rattle.ls_board.specs.declared.action.BoardFault.{BoardFault}
use Rattle.ls_board.specs.declared.world.World.{World}
use Rattle.ls_board.specs.Acts.{Sight}
use Rattle.ls_resume.specs.declared.fault.FileFault.{FileFault}
use Rattle.ls_resume.specs.Learning.{Learns}
use Rattle.ls_resume.specs.Each.{next_by, each_of, found_behind}
use Rattle.ls_resume.proofs.LearnLemmas.{learn_known, learn_value, learn_look, no_action}

-- what stands behind the first element, as a pattern gives it
abbrev pub behind : {A : Type 0} → List A → List A
behind xs = take (length xs - 1) (drop 1 xs)

pub behind_first : {A : Type 0} (x : A) (xs : List A) → behind (x ∷ xs) ≡ xs
behind_first x xs = take_all (length (x ∷ xs) - 1) xs (omega arith)

-- and the first one of a list of numbers
pub first_at : (xs : List ℕ) → 1 ≤ length xs → get_or xs 0 0 ≡ get_or xs 0 (get_or xs 0 0)
first_at [] some = absurd (omega (arith, some))
first_at (x ∷ xs) some = refl

-- ---- in one world

-- one more in front
pub more_behind : {B E : Type 0} (before : List B) (b : B) (r : Result (List B) E) → found_behind (before ++ b ∷ []) r ≡ found_behind before (next_by r (λ found. Ok (b ∷ found)))
more_behind {B} before b (Ok more) = ap (λ (l : List B). Ok l) (append_assoc before (b ∷ []) more)
more_behind before b (Err e) = refl

module _ {A B E : Type 0} (look : A → Result B E) (before : List B) where
  each_more : (a : A) (more : List A) (b : B) → look a ≡ Ok b → found_behind (before ++ b ∷ []) (each_of look more) ≡ found_behind before (each_of look (a ∷ more))
  each_more a more b is =
      more_behind before b (each_of look more)
      ∙ ap (λ (x : Result B E). found_behind before (next_by x (λ c. next_by (each_of look more) (λ found. Ok (c ∷ found))))) (sym is)

  each_fault : (a : A) (more : List A) (e : E) → look a ≡ Err e → Err e ≡ found_behind before (each_of look (a ∷ more))
  each_fault a more e is = ap (λ (x : Result B E). found_behind before (next_by x (λ c. next_by (each_of look more) (λ found. Ok (c ∷ found))))) (sym is)

-- ---- over a board

module _ {A B : Type 0} (look : World → A → Result B FileFault) where
  abbrev eachs : List A → List B → World → Result (List B) FileFault
  eachs xs before w = found_behind before (each_of (look w) xs)

  -- there is none
  pub each_none : (xs : List A) (before : List B) (s : Sight) → xs ≡ [] → Learns None (eachs xs before) s (Ok (Ok before)) s
  each_none xs before s none =
      learn_known (eachs xs before) s (Ok before)
      (λ w. ap (λ (l : List B). Ok l) (sym (append-nil before)) ∙ ap (λ (l : List A). eachs l before w) (sym none))

  -- the first is at fault
  pub each_stop : (xs : List A) (before : List B) (old mid : Sight) (a : A) (fault : FileFault) → 1 ≤ length xs → a ≡ get_or xs 0 a
      → Learns None (λ w. look w a) old (Ok (Err fault)) mid → Learns None (eachs xs before) old (Ok (Err fault)) mid
  each_stop [] before old mid a fault some is first = absurd (omega (arith, some))
  each_stop (x ∷ more) before old mid a fault some is first =
      learn_value None (λ w. look w x) (eachs (x ∷ more) before) old mid (Err fault) (Err fault)
      (λ w e. each_fault (look w) before x more fault (sym e))
      (subst (λ (y : A). Learns None (λ w. look w y) old (Ok (Err fault)) mid) is first)

  -- the first is found, and then the others
  pub each_next : (xs : List A) (before : List B) (old mid new : Sight) (a : A) (b : B) (all : List B) (r : Result (Result (List B) FileFault) BoardFault) → 1 ≤ length xs → a ≡ get_or xs 0 a
      → Learns None (λ w. look w a) old (Ok (Ok b)) mid → all ≡ before ++ b ∷ [] → Learns None (eachs (behind xs) all) mid r new → Learns None (eachs xs before) old r new
  each_next [] before old mid new a b all r some is first put rest = absurd (omega (arith, some))
  each_next (x ∷ more) before old mid new a b all r some is first put rest =
      learn_look None (λ w. look w x) (eachs (x ∷ more) before) old mid no_action (eachs more (before ++ b ∷ [])) new (Ok b) r
      (λ w e. each_more (look w) before x more b (sym e))
      (subst (λ (y : A). Learns None (λ w. look w y) old (Ok (Ok b)) mid) is first)
      (subst (λ (l : List B). Learns None (eachs more l) mid r new) put
      (subst (λ (l : List A). Learns None (eachs l all) mid r new) (behind_first x more) rest))
