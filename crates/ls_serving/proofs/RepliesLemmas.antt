-- Lines in a row: their replies, their commands, and how many were answered.
use Rattle.std.proofs.Common.{◌≡◌, ◌≤◌, ◌+◌, ◌++◌, ℕ, zero, suc, List, [], ◌∷◌, length, take, refl, sym, ◌∙◌, ap, subst, arith, append_assoc, length-append}
use Rattle.std.proofs.lemmas.List.{append-nil, take_at, take-append-drop}
use Rattle.std.specs.Prelude.{drop}
use Rattle.ls_board.specs.declared.world.World.{World}
use Rattle.ls_lines.specs.Lines.{lines_of, ended_count}
use Rattle.ls_lines.proofs.PartingLemmas.{ended_append, ended_front}
use Rattle.ls_serving.specs.Machine.{Machine, reached, replies_of, states_of, stage_after}
use Rattle.ls_serving.specs.Held.{commands_in, SaysFront, IsHeld}
use Rattle.ls_serving.specs.Serving.{IsOnTheWay}

-- ---- states in a row

pub reached-append : {S : Type 0} (s : S) (xs ys : List S) (k : ℕ)
    → reached s (xs ++ ys) (length xs + k) ≡ reached (reached s xs (length xs)) ys k
reached-append s [] ys k = ap (λ (n : ℕ). reached s ys n) (omega arith)
reached-append s (x ∷ xs) ys k = ap (λ (n : ℕ). reached s (x ∷ (xs ++ ys)) n) (moved (length xs)) ∙ reached-append x xs ys k
  where
    moved : (n : ℕ) → suc n + k ≡ suc (n + k)
    moved n = omega arith

pub reached-front : {S : Type 0} (s : S) (xs ys : List S) (k : ℕ) → k ≤ length xs → reached s (xs ++ ys) k ≡ reached s xs k
reached-front s [] ys zero few = reached-zero s ys
  where
    reached-zero : {S : Type 0} (s : S) (ys : List S) → reached s ys 0 ≡ s
    reached-zero s [] = refl
    reached-zero s (y ∷ ys) = refl
reached-front s [] ys (suc k) few = absurd (omega arith)
reached-front s (x ∷ xs) ys zero few = refl
reached-front s (x ∷ xs) ys (suc k) few = reached-front x xs ys k (omega arith)

-- ---- lines in a row

take_one_more : (lines : List (List ℕ)) (line : List ℕ) (more : List (List ℕ)) → take (length lines + 1) (lines ++ line ∷ more) ≡ lines ++ line ∷ []
take_one_more lines line more =
    ap (take (length lines + 1)) (sym (append_assoc lines (line ∷ []) more))
    ∙ take_at (lines ++ line ∷ []) more (length lines + 1) (length-append lines (line ∷ []))

module _ (m : Machine) where
  -- ---- lines in a row

  pub replies-append : (at : m.Stage) (lines more : List (List ℕ)) → replies_of m at (lines ++ more) ≡ replies_of m at lines ++ replies_of m (stage_after m at lines) more
  replies-append at [] more = refl
  replies-append at (line ∷ lines) more =
      ap (λ (l : List ℕ). m.printed at line ++ l) (replies-append (m.next at line) lines more)
      ∙ sym (append_assoc (m.printed at line) (replies_of m (m.next at line) lines) (replies_of m (stage_after m (m.next at line) lines) more))

  pub stage-append : (at : m.Stage) (lines more : List (List ℕ)) → stage_after m at (lines ++ more) ≡ stage_after m (stage_after m at lines) more
  stage-append at [] more = refl
  stage-append at (line ∷ lines) more = stage-append (m.next at line) lines more

  pub states-append : (at : m.Stage) (lines more : List (List ℕ)) → states_of m at (lines ++ more) ≡ states_of m at lines ++ states_of m (stage_after m at lines) more
  states-append at [] more = refl
  states-append at (line ∷ lines) more =
      ap (λ (l : List m.State). m.states at line ++ l) (states-append (m.next at line) lines more)
      ∙ sym (append_assoc (m.states at line) (states_of m (m.next at line) lines) (states_of m (stage_after m (m.next at line) lines) more))

  pub replies_more : (at : m.Stage) (lines : List (List ℕ)) (line : List ℕ)
      → replies_of m at (lines ++ line ∷ []) ≡ replies_of m at lines ++ m.printed (stage_after m at lines) line
  replies_more at lines line =
      replies-append at lines (line ∷ [])
      ∙ ap (λ (l : List ℕ). replies_of m at lines ++ l) (append-nil (m.printed (stage_after m at lines) line))

  commands_more : (at : m.Stage) (lines : List (List ℕ)) (line : List ℕ)
      → length (states_of m at (lines ++ line ∷ [])) ≡ length (states_of m at lines) + length (m.states (stage_after m at lines) line)
  commands_more at lines line =
      ap length (states-append at lines (line ∷ []))
      ∙ length-append (states_of m at lines) (states_of m (stage_after m at lines) (line ∷ []))
      ∙ ap (λ (l : List m.State). length (states_of m at lines) + length l) (append-nil (m.states (stage_after m at lines) line))

  -- more lines have more commands
  pub commands_grow : (at : m.Stage) (lines : List (List ℕ)) (n k : ℕ) → n ≤ k
      → length (states_of m at (take n lines)) ≤ length (states_of m at (take k lines))
  commands_grow at lines zero k le = omega arith
  commands_grow at [] (suc n) k le = omega arith
  commands_grow at (line ∷ lines) (suc n) zero le = absurd (omega arith)
  commands_grow at (line ∷ lines) (suc n) (suc k) le =
      omega (
        arith,
        length-append (m.states at line) (states_of m (m.next at line) (take n lines)),
        length-append (m.states at line) (states_of m (m.next at line) (take k lines)),
        commands_grow (m.next at line) lines n k (omega arith),
      )

  module _ (ends : (at : m.Stage) (line : List ℕ) → ended_count (m.printed at line) ≡ 1)
      (joins : (at : m.Stage) (line : List ℕ) → m.state (m.next at line) ≡ reached (m.state at) (m.states at line) (length (m.states at line))) where
    pub ended_lines : (at : m.Stage) (lines : List (List ℕ)) → ended_count (replies_of m at lines) ≡ length lines
    ended_lines at [] = refl
    ended_lines at (line ∷ lines) = ended_append (m.printed at line) (replies_of m (m.next at line) lines)
        ∙ omega (arith, ends at line, ended_lines (m.next at line) lines)

    -- the state after lines is that after their last command
    pub state_lines : (at : m.Stage) (lines : List (List ℕ))
        → m.state (stage_after m at lines) ≡ reached (m.state at) (states_of m at lines) (length (states_of m at lines))
    state_lines at [] = refl
    state_lines at (line ∷ lines) = state_lines (m.next at line) lines
        ∙ ap (λ (s : m.State). reached s (states_of m (m.next at line) lines) (length (states_of m (m.next at line) lines))) (joins at line)
        ∙ sym (reached-append (m.state at) (m.states at line) (states_of m (m.next at line) lines) (length (states_of m (m.next at line) lines)))
        ∙ ap (λ (n : ℕ). reached (m.state at) (states_of m at (line ∷ lines)) n) (sym (length-append (m.states at line) (states_of m (m.next at line) lines)))

    module _ (start : World) (first : m.Stage) (lines more : List (List ℕ)) (front : lines_of start.input ≡ lines ++ more) where
      all_states : states_of m first (lines_of start.input) ≡ states_of m first lines ++ states_of m (stage_after m first lines) more
      all_states = ap (states_of m first) front ∙ states-append first lines more

      -- after the replies to these lines were said
      abbrev pub says_lines : (w : World) → w.said ≡ start.said ++ replies_of m first lines → SaysFront m start first w
      says_lines w said = record {
        said = replies_of m first lines;
        is = said;
        more = replies_of m (stage_after m first lines) more;
        front = ap (replies_of m first) front ∙ replies-append first lines more;
      }

      commands_lines : commands_in m first start.input (ended_count (replies_of m first lines)) ≡ length (states_of m first lines)
      commands_lines = ap (λ (l : List (List ℕ)). length (states_of m first l))
          (ap (λ (n : ℕ). take n (lines_of start.input)) (ended_lines first lines) ∙ ap (take (length lines)) front ∙ take_at lines more (length lines) refl)

      state_is : reached (m.state first) (states_of m first (lines_of start.input)) (length (states_of m first lines)) ≡ m.state (stage_after m first lines)
      state_is = ap (λ (l : List m.State). reached (m.state first) l (length (states_of m first lines))) all_states
          ∙ reached-front (m.state first) (states_of m first lines) (states_of m (stage_after m first lines) more) (length (states_of m first lines)) (omega arith)
          ∙ sym (state_lines first lines)

      pub held_between : (w : World) → w.said ≡ start.said ++ replies_of m first lines → m.stands w (m.state (stage_after m first lines)) → IsHeld m start first w
      held_between w said stands = record {
        says = says_lines w said;
        done = length (states_of m first lines);
        enough = subst (λ (n : ℕ). n ≤ length (states_of m first lines)) (sym commands_lines) (omega arith);
        few = subst (λ (n : ℕ). n ≤ commands_in m first start.input (ended_count (replies_of m first lines) + 1)) commands_lines
            (commands_grow first (lines_of start.input) (ended_count (replies_of m first lines)) (ended_count (replies_of m first lines) + 1) (omega arith));
        stands = subst (λ (s : m.State). m.stands w s) (sym state_is) stands;
      }

    module _ (start : World) (first : m.Stage) (lines : List (List ℕ)) (line : List ℕ) (more : List (List ℕ)) (front : lines_of start.input ≡ lines ++ line ∷ more) where
      abbrev pub at : m.Stage
      at = stage_after m first lines

      commands_next : commands_in m first start.input (length lines + 1) ≡ length (states_of m first lines) + length (m.states at line)
      commands_next = ap (λ (l : List (List ℕ)). length (states_of m first l)) (ap (take (length lines + 1)) front ∙ take_one_more lines line more) ∙ commands_more first lines line

      commands_now : commands_in m first start.input (length lines) ≡ length (states_of m first lines)
      commands_now = ap (λ (l : List (List ℕ)). length (states_of m first l)) (ap (take (length lines)) front ∙ take_at lines (line ∷ more) (length lines) refl)

      all_states_2 : states_of m first (lines_of start.input) ≡ states_of m first lines ++ (m.states at line ++ states_of m (m.next at line) more)
      all_states_2 = ap (states_of m first) front ∙ states-append first lines (line ∷ more)

      on_the_way : (k : ℕ) → k ≤ length (m.states at line)
          → reached (m.state first) (states_of m first (lines_of start.input)) (length (states_of m first lines) + k) ≡ reached (m.state at) (m.states at line) k
      on_the_way k few = ap (λ (l : List m.State). reached (m.state first) l (length (states_of m first lines) + k)) all_states_2
          ∙ reached-append (m.state first) (states_of m first lines) (m.states at line ++ states_of m (m.next at line) more) k
          ∙ ap (λ (s : m.State). reached s (m.states at line ++ states_of m (m.next at line) more) k) (sym (state_lines first lines))
          ∙ reached-front (m.state at) (m.states at line) (states_of m (m.next at line) more) k few

      -- while the commands of the next line are done
      pub held_on_the_way : (w : World) (said : List ℕ) → said ≡ start.said ++ replies_of m first lines → IsOnTheWay m said at line w → IsHeld m start first w
      held_on_the_way w said is way = record {
        says = says_lines start first lines (line ∷ more) front w (way.same ∙ is);
        done = length (states_of m first lines) + way.done;
        enough = subst (λ (n : ℕ). n ≤ length (states_of m first lines) + way.done)
            (sym (ap (λ (n : ℕ). commands_in m first start.input n) (ended_lines first lines) ∙ commands_now)) (omega arith);
        few = subst (λ (n : ℕ). length (states_of m first lines) + way.done ≤ n)
            (sym (ap (λ (n : ℕ). commands_in m first start.input (n + 1)) (ended_lines first lines) ∙ commands_next)) (omega (arith, way.few));
        stands = subst (λ (s : m.State). m.stands w s) (sym (on_the_way way.done way.few)) way.stands;
      }

      -- while its reply is said
      abbrev pub says_part : (w : World) (k : ℕ) → w.said ≡ start.said ++ (replies_of m first lines ++ take k (m.printed at line)) → SaysFront m start first w
      says_part w k said = record {
        said = replies_of m first lines ++ take k (m.printed at line);
        is = said;
        more = drop k (m.printed at line) ++ replies_of m (m.next at line) more;
        front = ap (replies_of m first) front ∙ replies-append first lines (line ∷ more)
            ∙ ap (λ (l : List ℕ). replies_of m first lines ++ (l ++ replies_of m (m.next at line) more)) (sym (take-append-drop k (m.printed at line)))
            ∙ ap (λ (l : List ℕ). replies_of m first lines ++ l) (append_assoc (take k (m.printed at line)) (drop k (m.printed at line)) (replies_of m (m.next at line) more))
            ∙ sym (append_assoc (replies_of m first lines) (take k (m.printed at line)) (drop k (m.printed at line) ++ replies_of m (m.next at line) more));
      }

      pub held_saying : (w : World) (k : ℕ) → w.said ≡ start.said ++ (replies_of m first lines ++ take k (m.printed at line))
          → m.stands w (m.state (m.next at line)) → IsHeld m start first w
      held_saying w k said stands =
          let part = take k (m.printed at line) in
          let counted : ended_count (replies_of m first lines ++ part) ≡ length lines + ended_count part =
          ended_append (replies_of m first lines) part ∙ ap (λ (n : ℕ). n + ended_count part) (ended_lines first lines) in
          let few : ended_count part ≤ 1 = omega (arith, ended_front k (m.printed at line), ends at line) in
          record {
            says = says_part w k said;
            done = length (states_of m first lines) + length (m.states at line);
            enough = subst (λ (n : ℕ). commands_in m first start.input (ended_count (replies_of m first lines ++ part)) ≤ n) commands_next
                (commands_grow first (lines_of start.input) (ended_count (replies_of m first lines ++ part)) (length lines + 1) (omega arith));
            few = subst (λ (n : ℕ). n ≤ commands_in m first start.input (ended_count (replies_of m first lines ++ part) + 1)) commands_next
                (commands_grow first (lines_of start.input) (length lines + 1) (ended_count (replies_of m first lines ++ part) + 1) (omega arith));
            stands = subst (λ (s : m.State). m.stands w s)
                (joins at line ∙ sym (on_the_way (length (m.states at line)) (omega arith))) stands;
          }
