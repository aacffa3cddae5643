-- The parts of a change by protectors: what each call of it may ask.
use Rattle.std.proofs.Common.{IsTrue, ◌++◌, length-append, arith, subst}
use Rattle.std.proofs.lemmas.List.Sums.{sum_by-append}
use Rattle.ls_board.specs.declared.world.World.{World}
use Rattle.ls_board.specs.Acts.{Sight}
use Rattle.ls_board.specs.Effect.{weight_of}
use Rattle.ls_board.specs.Reach.{AllTouchOnly, SameBut}
use Rattle.ls_board.specs.Runs.{CanRun, Did}
use Rattle.ls_board.proofs.CallLemmas.{still_told, was_told}
use Rattle.ls_settings.specs.Loaded.{Loaded, IsReady, settings_reach}
use Rattle.ls_standing.specs.Quiet.{unnamed}
use Rattle.ls_standing.proofs.ContainsLemmas.{in_map}
use Rattle.ls_standing.proofs.SameLemmas.{named_but_settings}
use Rattle.ls_change.specs.declared.work.Work.{Work}
use Rattle.ls_change.specs.Work.{HasRoom, IsQuietWork, next_of, staged}
use Rattle.ls_change.proofs.ChangeLemmas.{after_only}
use Rattle.ls_protector.specs.Parts.{erasing_of}
use Rattle.ls_protector.specs.Steps.{Drafted}
use Rattle.ls_exchange.specs.Exchanges.{Exchanged, plain, new_parts, staging_of, settling_of, retiring_of, AreNew, AreLeftOut}
use Rattle.ls_exchange.specs.Turns.{DraftsAreClear, RetiredAreClear, storage}
use Rattle.ls_exchange.proofs.ClearLemmas.{touch_front, touch_rest, is_stored, clear_later, clear_in_turn}

module _ (s0 : Sight) (s : Loaded) (x : Exchanged) (room : HasRoom s0 (plain x)) (quiet : IsTrue s0.told → IsQuietWork s0.world s (plain x)) where
  abbrev k : Work
  k = plain x

  -- ---- before the commit

  pub can_build : CanRun s0 k.before
  can_build = record {
    actions = let n = room.actions in omega (arith, n, length-append k.before (k.commit.actions ++ k.after));
    bytes = let n = room.bytes in omega (arith, n, sum_by-append weight_of k.before (k.commit.actions ++ k.after));
    sound = room.before;
    applies = λ told. (quiet told).applies;
  }

  pub others_stored : IsTrue s0.told → AllTouchOnly storage x.others
  others_stored told =
      is_stored (unnamed s0.world s.settled.rec) x.others
      (touch_front (unnamed s0.world s.settled.rec) x.others (settling_of (new_parts x.drafts))
      (touch_rest (unnamed s0.world s.settled.rec) (staging_of x.drafts) (x.others ++ settling_of (new_parts x.drafts)) (quiet told).before))

  pub drafts_clear : (IsTrue s0.told → AreNew s0.world s x) → IsTrue s0.told → DraftsAreClear s0.world x.drafts
  drafts_clear fresh told =
      clear_in_turn (λ draft. draft.parts) (λ draft. draft.plan) s s0.world x.drafts (quiet told).ready
      (touch_front (unnamed s0.world s.settled.rec) (staging_of x.drafts) (x.others ++ settling_of (new_parts x.drafts)) (quiet told).before)
      (λ (draft : Drafted) has. fresh told draft.parts (in_map (λ (d : Drafted). d.parts) x.drafts draft has))

  module _ (s1 : Sight) (did : Did s0 k.before s1) where
    -- ---- behind the commit

    module _ (s2 : Sight) (done : Did s1 k.commit.actions s2) (settled : IsTrue s1.told → IsReady s2.world k.commit.to) (but : IsTrue s1.told → SameBut settings_reach s1.world s2.world) where
      first_told : IsTrue s2.told → IsTrue s0.told
      first_told told = was_told s0 s1 k.before did (was_told s1 s2 k.commit.actions done told)

      but_here : IsTrue s0.told → SameBut settings_reach (staged s0.world k) s2.world
      but_here told = subst (λ (w : World). SameBut settings_reach w s2.world) (did.world told) (but (still_told s0 s1 k.before did told))

      ready_here : IsTrue s0.told → IsReady s2.world k.commit.to
      ready_here told = settled (still_told s0 s1 k.before did told)

      only_after : IsTrue s0.told → AllTouchOnly (unnamed s2.world (next_of k)) k.after
      only_after told = after_only s0.world s k (quiet told) s2.world (but_here told) (ready_here told)

      pub after_stored : IsTrue s2.told → AllTouchOnly storage x.after
      after_stored told =
          let reach = unnamed s2.world (next_of k) in
          is_stored reach x.after (touch_rest reach (retiring_of x.retire) x.after (only_after (first_told told)))

      pub retire_clear : (IsTrue s0.told → AreLeftOut s0.world x) → IsTrue s2.told → RetiredAreClear s2.world x.retire
      retire_clear left told =
          let was = first_told told in
          clear_in_turn (λ parts. parts) erasing_of x.commit.to s2.world x.retire (ready_here was)
          (touch_front (unnamed s2.world (next_of k)) (retiring_of x.retire) x.after (only_after was))
          (λ p has. clear_later (staged s0.world k) s2.world (next_of k) p (named_but_settings (staged s0.world k) s2.world (next_of k) (but_here was)) (left was p has))
