-- A device is asked in a world that stands for a vault.
use Rattle.std.proofs.Common.{◌≡◌, ◌⊎◌, inl, inr, ℕ, Bool, true, List, Option, None, Some, sym, ◌∙◌, ap, get_or-set_same}
use Rattle.std.specs.Prelude.{slice_get}
use Rattle.std.specs.Ordering.{nat_cmp}
use Rattle.std.proofs.lemmas.Option.{slice_get_within}
use Rattle.std.proofs.lemmas.Cmp.{nat_cmp_total}
use Rattle.ls_board.specs.declared.action.Action.{Action}
use Rattle.ls_board.specs.declared.action.Action.TheVariants.{WeaverRead, GkVerify}
use Rattle.ls_board.specs.declared.devices.Counter.{Counter}
use Rattle.ls_board.specs.declared.world.World.{World}
use Rattle.ls_board.specs.Effect.{after, slot_at}
use Rattle.ls_board.specs.Gatekeeper.{sid_of, is_signed, no_fails, record_at, counter_of, with_counter}
use Rattle.ls_board.specs.Reach.{TouchesOnly}
use Rattle.ls_board.proofs.LookupLemmas.{put_same}
use Rattle.ls_chain.specs.Trying.{LeavesAsked, after_asked}
use Rattle.ls_naming.specs.Current.{Settled}
use Rattle.ls_record.specs.Rows.{IsRecord}
use Rattle.ls_standing.specs.Asking.{IsAsking}
use Rattle.ls_standing.specs.Bare.{IsBare}
use Rattle.ls_standing.specs.Clearing.{named_devices}
use Rattle.ls_standing.specs.Quiet.{IsQuiet}
use Rattle.ls_standing.specs.Standing.{StandsDurably}
use Rattle.ls_standing.proofs.AskingLemmas.{asked_cut}
use Rattle.ls_standing.proofs.BareLemmas.{bare_done}
use Rattle.ls_standing.proofs.QuietLemmas.{durably_left, quiet_done, quiet_cut}
use Rattle.ls_vault.specs.declared.vault.Vault.{Vault}
use Rattle.ls_weaver.specs.Slots.{blank_slot, slot_after}

-- Behind the asking the world stands for the vault `then`, a crash within it leaves that one or the one
-- before, and a bare world is bare again.
pub record Leads (w : World) (s : Settled) (v then : Vault) (a : Option Action) : Type 0 where
  pub stands : StandsDurably (after_asked w a) s then
  pub cut : (image : World) → LeavesAsked w a image → StandsDurably image s v ⊎ StandsDurably image s then
  pub bare : (start : World) (retired : List (List ℕ)) → IsBare start w s.rec retired → IsBare start (after_asked w a) s.rec retired

module _ (w : World) (s : Settled) (v : Vault) (stands : StandsDurably w s v) where
  -- no device
  pub leads_none : Leads w s v v None
  leads_none = record {
    stands = stands;
    cut = λ image left. inl (durably_left w image s v stands left);
    bare = λ start retired bare. bare;
  }

  -- one that counts
  pub leads_one : (then : Vault) (a : Action) → IsRecord s.rec → IsAsking a → StandsDurably (after w a 0) s then → TouchesOnly (named_devices w s.rec) a → Leads w s v then (Some a)
  leads_one then a is asks counts only = record {
    stands = counts;
    cut = λ image left. asked_cut w image s v then a asks stands counts left;
    bare = λ start retired bare. bare_done start w s.rec retired is bare a 0 (inr only);
  }

  -- one that is as it was
  pub leads_quiet : (a : Action) → IsRecord s.rec → IsQuiet w s.rec a → TouchesOnly (named_devices w s.rec) a → Leads w s v v (Some a)
  leads_quiet a is quiet only = record {
    stands = quiet_done s v w a 0 stands quiet;
    cut = λ image left. inl (quiet_cut s v w image a stands quiet left);
    bare = λ start retired bare. bare_done start w s.rec retired is bare a 0 (inr only);
  }

-- the slot is as it was where its reading leaves it so
pub slot_stays : (w : World) (n : ℕ) (key : List ℕ) (moment : ℕ) → (slot_after (slot_at w n) key moment ≡ slot_at w n) → (x : _) → slice_get w.slots n ≡ Some x
    → slot_at (after w (WeaverRead n key moment) 0) n ≡ slot_at w n
slot_stays w n key moment same x there = get_or-set_same w.slots n (slot_after (slot_at w n) key moment) blank_slot (slice_get_within w.slots n x there) ∙ same

-- so is a record without failures behind a right handle
pub record_stays : (w : World) (handle password : List ℕ) → counter_of w.gk handle ≡ Some no_fails → record_at w.gk (sid_of handle) ≡ Some no_fails → is_signed w.gk_key handle password ≡ true
    → record_at (after w (GkVerify handle password 0) 0).gk (sid_of handle) ≡ record_at w.gk (sid_of handle)
record_stays w handle password counter there signs =
    ap (λ (o : Option Counter). record_at (with_counter w.gk (sid_of handle) (is_signed w.gk_key handle password) 0 o) (sid_of handle)) counter
    ∙ ap (λ (b : Bool). record_at (with_counter w.gk (sid_of handle) b 0 (Some no_fails)) (sid_of handle)) signs
    ∙ put_same nat_cmp nat_cmp_total w.gk (sid_of handle) no_fails
    ∙ sym there
