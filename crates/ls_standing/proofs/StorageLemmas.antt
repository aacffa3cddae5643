-- What a world stands for is in its files and its devices.
use Rattle.std.proofs.Common.{◌≡◌, ℕ, List, sym, subst}
use Rattle.ls_record.specs.Rows.{Rec}
use Rattle.ls_naming.specs.Current.{Settled}
use Rattle.ls_board.specs.declared.world.World.{World}
use Rattle.ls_settings.specs.Loaded.{Loaded, IsReady}
use Rattle.ls_vault.specs.declared.vault.Vault.{Vault}
use Rattle.ls_standing.specs.Bare.{IsBare}
use Rattle.ls_standing.specs.Same.{SameStorage}
use Rattle.ls_standing.specs.Standing.{Holds, StandsBy, StandsDurably}

module _ (w mid : World) (same : SameStorage w mid) where
  -- the other world with the storage of the first
  abbrev here : World
  here = record mid {
    files = w.files;
    touched = w.touched;
    slots = w.slots;
    gk_key = w.gk_key;
    gk = w.gk;
    keys = w.keys;
    cell = w.cell;
  }

  is : here ≡ mid
  is = λ i. record mid {
    files = sym same.files i;
    touched = sym same.touched i;
    slots = sym same.slots i;
    gk_key = sym same.gk_key i;
    gk = sym same.gk i;
    keys = sym same.keys i;
    cell = sym same.cell i;
  }

  holds_here : (r : Rec) (v : Vault) → Holds w r v → Holds here r v
  holds_here r v h = record { users = h.users; files = h.files; arming = h.arming }

  stands_here : (s : Settled) (v : Vault) → StandsBy w s v → StandsBy here s v
  stands_here s v h = record { settings = h.settings; target = h.target; holds = holds_here s.rec v h.holds }

  pub storage_holds : (r : Rec) (v : Vault) → Holds w r v → Holds mid r v
  storage_holds r v h = subst (λ (x : World). Holds x r v) is (holds_here r v h)

  pub storage_stands : (s : Settled) (v : Vault) → StandsBy w s v → StandsBy mid s v
  storage_stands s v h = subst (λ (x : World). StandsBy x s v) is (stands_here s v h)

  pub storage_durably : (s : Settled) (v : Vault) → StandsDurably w s v → StandsDurably mid s v
  storage_durably s v h =
      subst (λ (x : World). StandsDurably x s v) is (record { stands = stands_here s v h.stands; settings = h.settings; named = h.named })

  pub storage_ready : (l : Loaded) → IsReady w l → IsReady mid l
  storage_ready l h =
      subst (λ (x : World). IsReady x l) is (record {
        are = record { settled = h.are.settled; target = h.are.target };
        whole = h.whole;
        untouched = h.untouched;
      })

  pub storage_bare : (start : World) (r : Rec) (retired : List (List ℕ)) → IsBare start w r retired → IsBare start mid r retired
  storage_bare start r retired h =
      subst (λ (x : World). IsBare start x r retired) is (record {
        files = h.files;
        strange = h.strange;
        slots = h.slots;
        counters = h.counters;
        keys = h.keys;
        cell = h.cell;
      })
