-- A change of the vault by protectors: as the actions that it does, in order.
use Rattle.std.specs.Prelude.{◌≡◌, ◌++◌, ◌∷◌, [], List, map}
use Rattle.std.specs.List.{Contains, flat_map}
use Rattle.ls_board.specs.declared.action.Action.{Action}
use Rattle.ls_board.specs.declared.action.Action.TheVariants.{Sync}
use Rattle.ls_board.specs.declared.world.World.{World}
use Rattle.ls_formats.specs.declared.parts.Parts.{Parts}
use Rattle.ls_settings.specs.Commits.{Prepared}
use Rattle.ls_settings.specs.Loaded.{Loaded}
use Rattle.ls_change.specs.declared.work.Work.{Work}
use Rattle.ls_change.specs.Work.{next_of, staged}
use Rattle.ls_protector.specs.Clear.{IsClear, NamesParts}
use Rattle.ls_protector.specs.Parts.{erasing_of}
use Rattle.ls_protector.specs.Steps.{Drafted}

-- What is seen of it: the new protectors, what else is built, the commit, the protectors that the
-- next record leaves out, and what else is taken away.
pub record Exchanged : Type 0 where
  pub drafts : List Drafted
  pub others : List Action
  pub commit : Prepared
  pub retire : List Parts
  pub after : List Action

-- the parts of the new protectors
abbrev pub new_parts : List Drafted → List Parts
new_parts drafts = map (λ draft. draft.parts) drafts

-- the plans of the new protectors, one behind another
abbrev pub staging_of : List Drafted → List Action
staging_of drafts = flat_map (λ draft. draft.plan) drafts

-- a sync for each of these
abbrev pub settling_of : List Parts → List Action
settling_of all = flat_map (λ parts. Sync ∷ []) all

-- each of these is erased, one behind another
abbrev pub retiring_of : List Parts → List Action
retiring_of all = flat_map erasing_of all

-- The change by its actions. The new protectors are staged, other actions are done, and each is
-- settled; then comes the commit; then those that are left out are erased, and other actions are
-- done.
abbrev pub plain : Exchanged → Work
plain x = record {
  before = staging_of x.drafts ++ (x.others ++ settling_of (new_parts x.drafts));
  commit = x.commit;
  after = retiring_of x.retire ++ x.after;
}

-- ---- what it takes beside that

-- the record of the settings, and the files that it names, name nothing of the new protectors
abbrev pub AreNew : World → Loaded → Exchanged → Type 0
AreNew w s x = (p : Parts) → Contains (new_parts x.drafts) p → IsClear w s.settled.rec p

-- the next record names each of them
abbrev pub AreNamed : Exchanged → Type 0
AreNamed x = (p : Parts) → Contains (new_parts x.drafts) p → NamesParts (next_of (plain x)) p

-- the next record, and the files that it names where it is committed, name nothing of those that are
-- let go
abbrev pub AreLeftOut : World → Exchanged → Type 0
AreLeftOut w x =
    (p : Parts) → Contains x.retire p → IsClear (staged w (plain x)) (next_of (plain x)) p

-- ---- what becomes of a list when only some were added

-- the new list is the old one with the first few of these behind it
abbrev pub HasFirstOf : List Parts → List Parts → List Parts → Type 0
HasFirstOf old more new = (first rest : List Parts) × (more ≡ first ++ rest) × (new ≡ old ++ first)
