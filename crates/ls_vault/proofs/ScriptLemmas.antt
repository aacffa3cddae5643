-- The states after the lines of a script.
use Rattle.std.proofs.Common.{◌≡◌, ◌++◌, ℕ, true, false, cond, List, [], ◌∷◌, length, refl, sym, ◌∙◌, ap}
use Rattle.std.specs.Prelude.{flat_map, Result, Ok, Err}
use Rattle.ls_grammar.specs.declared.fault.LineFault.{LineFault}
use Rattle.ls_lines.specs.Lines.{lines_of}
use Rattle.ls_script.specs.Commands.{is_refusal}
use Rattle.ls_script.specs.ScriptReading.{reading_of}
use Rattle.ls_script.specs.declared.command.Command.{Command}
use Rattle.ls_script.specs.declared.script_line.ScriptLine.{ScriptLine}
use Rattle.ls_vault.specs.Script.{Stage, Entry, put_first, entry_of, stage_after, carried, commands_of, served_as, served_text, told_lines, begun, told, after}
use Rattle.ls_vault.specs.declared.state.State.{State}

-- ---- commands, one after another

-- the first refusal ends them
pub carried_end : (slots : ℕ) (at : Stage) (c : Command) (cs : List Command) → is_refusal (entry_of slots at c).reply ≡ true
    → carried slots at (c ∷ cs) ≡ record { entries = entry_of slots at c ∷ []; stage = stage_after slots at c }
carried_end slots at c cs is = ap (λ b. put_first (entry_of slots at c)
    (cond b (record { entries = []; stage = stage_after slots at c }) (carried slots (stage_after slots at c) cs))) is

pub carried_on : (slots : ℕ) (at : Stage) (c : Command) (cs : List Command) → is_refusal (entry_of slots at c).reply ≡ false
    → carried slots at (c ∷ cs) ≡ put_first (entry_of slots at c) (carried slots (stage_after slots at c) cs)
carried_on slots at c cs is = ap (λ b. put_first (entry_of slots at c)
    (cond b (record { entries = []; stage = stage_after slots at c }) (carried slots (stage_after slots at c) cs))) is

-- ---- the state after commands

-- it is reached
abbrev pub Reached : State → List Entry → State → Type 0
Reached s entries t = after s entries (length entries) ≡ t

pub after_append : (s : State) (xs ys : List Entry) → after s (xs ++ ys) (length (xs ++ ys)) ≡ after (after s xs (length xs)) ys (length ys)
after_append s [] ys = refl
after_append s (x ∷ xs) ys = after_append x.state xs ys

pub after_carried : (slots : ℕ) (at : Stage) (cs : List Command) → Reached at.state (carried slots at cs).entries (carried slots at cs).stage.state
after_carried slots at [] = refl
after_carried slots at (c ∷ cs) = elim (is_refusal (entry_of slots at c).reply) as (λ b.
    after (stage_after slots at c).state
    (cond b (record { entries = []; stage = stage_after slots at c }) (carried slots (stage_after slots at c) cs)).entries
    (length (cond b (record { entries = []; stage = stage_after slots at c }) (carried slots (stage_after slots at c) cs)).entries)
    ≡ (cond b (record { entries = []; stage = stage_after slots at c }) (carried slots (stage_after slots at c) cs)).stage.state) [
      | true ↦ refl
      | false ↦ after_carried slots (stage_after slots at c) cs
    ]

pub after_served : (slots : ℕ) (at : Stage) (r : Result ScriptLine LineFault) → Reached at.state (served_as slots at r).entries (served_as slots at r).stage.state
after_served slots at (Ok line) = after_carried slots at (commands_of at.state line)
after_served slots at (Err why) = refl

-- the stage after these lines
abbrev pub stage_at : ℕ → Stage → List (List ℕ) → Stage
stage_at slots at [] = at
stage_at slots at (text ∷ texts) = stage_at slots (served_text slots at text).stage texts

pub after_told : (slots : ℕ) (at : Stage) (texts : List (List ℕ))
    → Reached at.state (flat_map (λ line. line.entries) (told_lines slots at texts)) (stage_at slots at texts).state
after_told slots at [] = refl
after_told slots at (text ∷ texts) =
    after_append at.state (served_text slots at text).entries (flat_map (λ line. line.entries) (told_lines slots (served_text slots at text).stage texts))
    ∙ (ap (λ (s : State). after s (flat_map (λ line. line.entries) (told_lines slots (served_text slots at text).stage texts))
    (length (flat_map (λ line. line.entries) (told_lines slots (served_text slots at text).stage texts)))) (after_served slots at (reading_of text))
    ∙ after_told slots (served_text slots at text).stage texts)

-- where no line is left, the state is the one after all commands
pub reached_end : (slots : ℕ) (s : State) (script moments noise rest : List ℕ) (at : Stage) → rest ≡ []
    → stage_at slots at (lines_of rest) ≡ stage_at slots (begun s moments noise) (lines_of script)
    → at.state ≡ after s (told slots s script moments noise) (length (told slots s script moments noise))
reached_end slots s script moments noise rest at none same =
    ap (λ (g : Stage). g.state) (sym (ap (λ (r : List ℕ). stage_at slots at (lines_of r)) none) ∙ same)
    ∙ sym (after_told slots (begun s moments noise) (lines_of script))
