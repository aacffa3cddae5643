-- What a script does is a history.
use Rattle.std.proofs.Common.{◌≡◌, ◌++◌, ℕ, zero, suc, Bool, true, false, cond, List, [], ◌∷◌, Option, Some, length, take, refl, sym, ◌∙◌, ap, subst}
use Rattle.std.specs.Prelude.{map, flat_map, Result, Ok, Err}
use Rattle.ls_grammar.specs.declared.fault.LineFault.{LineFault}
use Rattle.ls_lines.specs.Lines.{lines_of}
use Rattle.ls_script.specs.Commands.{is_refusal}
use Rattle.ls_script.specs.ScriptReading.{reading_of}
use Rattle.ls_script.specs.declared.command.Command.{Command}
use Rattle.ls_script.specs.declared.reply.Reply.{Reply}
use Rattle.ls_script.specs.declared.script_line.ScriptLine.{ScriptLine}
use Rattle.ls_vault.proofs.ScriptLemmas.{after_served}
use Rattle.ls_vault.specs.Histories.{history, state_after}
use Rattle.ls_vault.specs.Script.{Stage, Entry, entry_of, stage_after, carried, commands_of, served_as, served_text, told_lines, begun, told, after, event_of}
use Rattle.ls_vault.specs.Step.{step}
use Rattle.ls_vault.specs.declared.state.State.{State}

module _ (slots : ℕ) where
  -- each entry is a step from the state before it
  abbrev pub Chained : State → List Entry → Type 0
  Chained s [] = Unit {0}
  Chained s (e ∷ es) =
      ((step slots s e.command e.moment e.drawn).reply ≡ e.reply) × ((step slots s e.command e.moment e.drawn).state ≡ e.state) × Chained e.state es

  chained_append : (s : State) (xs ys : List Entry) → Chained s xs → Chained (after s xs (length xs)) ys → Chained s (xs ++ ys)
  chained_append s [] ys c d = d
  chained_append s (x ∷ xs) ys c d = (c.0, c.1, chained_append x.state xs ys c.2 d)

  chained_carried : (at : Stage) (cs : List Command) → Chained at.state (carried slots at cs).entries
  chained_carried at [] = tt
  chained_carried at (c ∷ cs) = (refl, refl, by_test (is_refusal (entry_of slots at c).reply) (chained_carried (stage_after slots at c) cs))
    where
      by_test : (b : Bool) → Chained (stage_after slots at c).state (carried slots (stage_after slots at c) cs).entries
          → Chained (stage_after slots at c).state (cond b (record { entries = []; stage = stage_after slots at c }) (carried slots (stage_after slots at c) cs)).entries
      by_test true rest = tt
      by_test false rest = rest

  chained_served : (at : Stage) (r : Result ScriptLine LineFault) → Chained at.state (served_as slots at r).entries
  chained_served at (Ok line) = chained_carried at (commands_of at.state line)
  chained_served at (Err why) = tt

  chained_told : (at : Stage) (texts : List (List ℕ)) → Chained at.state (flat_map (λ line. line.entries) (told_lines slots at texts))
  chained_told at [] = tt
  chained_told at (text ∷ texts) =
      chained_append at.state (served_text slots at text).entries (flat_map (λ line. line.entries) (told_lines slots (served_text slots at text).stage texts))
      (chained_served at (reading_of text))
      (subst (λ (s : State). Chained s (flat_map (λ line. line.entries) (told_lines slots (served_text slots at text).stage texts)))
      (sym (after_served slots at (reading_of text))) (chained_told (served_text slots at text).stage texts))

  pub told_chained : (s : State) (script moments noise : List ℕ) → Chained s (told slots s script moments noise)
  told_chained s script moments noise = chained_told (begun s moments noise) (lines_of script)

  pub same_states : (s : State) (es : List Entry) (count : ℕ) → Chained s es → state_after slots s (map event_of (take count es)) ≡ after s es count
  same_states s es zero c = refl
  same_states s [] (suc count) c = refl
  same_states s (e ∷ es) (suc count) c =
      ap (λ (t : State). state_after slots t (map event_of (take count es))) c.1 ∙ same_states e.state es count c.2

  pub same_replies : (s : State) (es : List Entry) → Chained s es → map (λ h. h.reply) (history slots s (map event_of es)) ≡ map (λ e. Some e.reply) es
  same_replies s [] c = refl
  same_replies s (e ∷ es) c =
      ap (λ (r : Reply). Some r ∷ map (λ h. h.reply) (history slots (step slots s e.command e.moment e.drawn).state (map event_of es))) c.0
      ∙ ap (λ (rs : List (Option Reply)). Some e.reply ∷ rs)
      (ap (λ (t : State). map (λ h. h.reply) (history slots t (map event_of es))) c.1 ∙ same_replies e.state es c.2)
