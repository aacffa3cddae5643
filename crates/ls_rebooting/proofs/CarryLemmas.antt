-- The end of an arming is committed, as the machine keeps it.
use Rattle.std.proofs.Common.{◌≡◌, ◌++◌, ◌+◌, ℕ, Bool, IsTrue, List, [], None, Some, refl, sym, ◌∙◌, ap, subst}
use Rattle.std.specs.Prelude.{is_some}
use Rattle.std.specs.List.{Contains}
use Rattle.ls_arming.specs.declared.arming.Arming.{Arming}
use Rattle.ls_board.specs.declared.action.Action.{Action}
use Rattle.ls_board.specs.declared.world.World.{World}
use Rattle.ls_board.specs.Acts.{Sight}
use Rattle.ls_board.specs.Effect.{file_at}
use Rattle.ls_board.specs.Reach.{AllTouchOnly, SameBut}
use Rattle.ls_board.specs.Runs.{AllApply, AllSound, after_all}
use Rattle.ls_board.proofs.FrameLemmas.{plan_same}
use Rattle.ls_board.proofs.RunLemmas.{after_all-append}
use Rattle.ls_change.specs.declared.work.Work.{Work}
use Rattle.ls_change.specs.Work.{IsQuietWork, actions_of, next_of, staged}
use Rattle.ls_edits.proofs.ArmLemmas.{arm_untouched, cleared_holds}
use Rattle.ls_protector.specs.Clear.{AreUnnamed}
use Rattle.ls_protector.specs.Parts.{parts_of}
use Rattle.ls_record.specs.declared.edit.Edit.TheVariants.{ClearArmed}
use Rattle.ls_record.specs.Edits.{changed as edited}
use Rattle.ls_record.specs.Rows.{Rec, IsRecord}
use Rattle.ls_sealing.specs.Protectors.{Protector, has_weaver, held_number}
use Rattle.ls_settings.specs.Loaded.{IsReady, settings_reach}
use Rattle.ls_standing.specs.Bare.{IsBare}
use Rattle.ls_standing.specs.Books.{dead_users}
use Rattle.ls_standing.specs.NamedProtectors.{NamesProtector}
use Rattle.ls_standing.specs.Quiet.{unnamed}
use Rattle.ls_standing.specs.Standing.{Holds, NamedAreUntouched}
use Rattle.ls_standing.proofs.FrameLemmas.{weaver_same}
use Rattle.ls_vault.specs.declared.state.State.{State}
use Rattle.ls_vault.specs.declared.vault.Books.{Books}
use Rattle.ls_turn.specs.declared.session.Session.{Session}
use Rattle.ls_turn.specs.Agreeing.{Agrees, AreNamed, parts_in, retired_files}
use Rattle.ls_turn.specs.Serving.{CanServe, KeepApart, stage_in}
use Rattle.ls_turn.specs.Waiting.{CanWait}
use Rattle.ls_turn.specs.Working.{Commits, KeepsNamed, LeadsTo, LeavesKept}
use Rattle.ls_rebooting.specs.Clearing.{EndsArming, clearing}
use Rattle.ls_rebooting.specs.Ending.{clears}
use Rattle.ls_rebooting.proofs.ClearingLemmas.{bare_end, clearing_applies, clearing_sound, clearing_touch, next_is, number_end, same_end, strange_end, unnamed_end}

module _ (x : Session) (k : Work) (ends : EndsArming x.settings k) where
  abbrev r : Rec
  r = x.settings.settled.rec

  abbrev a : Arming
  a = ends.armed

  abbrev next : Rec
  next = edited r ClearArmed

  -- ---- on any board

  pub clears_sound : (slots : ℕ) → AllSound slots k.before × AllSound slots k.after
  clears_sound slots = (subst (AllSound slots) (sym ends.clears.before) tt, subst (AllSound slots) (sym ends.clears.after) (clearing_sound slots a.users))

  on_next : (p : Protector) → NamesProtector r p → NamesProtector (next_of k) p
  on_next p has = subst (λ (z : Rec). NamesProtector z p) (sym ends.clears.next) has

  back : (p : Protector) → NamesProtector (next_of k) p → NamesProtector r p
  back p has = subst (λ (z : Rec). NamesProtector z p) ends.clears.next has

  pub clears_named : (b : Sight) → CanServe b x → KeepsNamed x.slots k x.named.items
  clears_named b can = record {
    each = λ p has. can.each p (back p has);
    only = λ q has. let o = can.only q has in (o.0, on_next o.0 o.1, o.2);
    once = can.once;
  }

  pub clears_waits : (b : Sight) → CanServe b x → CanWait (next_of k).users x.pending.items
  clears_waits b can = subst (λ (z : Rec). CanWait z.users x.pending.items) (sym ends.clears.next) can.waits

  -- ---- in a told world

  module _ (commits : AllTouchOnly settings_reach k.commit.actions) (w : World) where
    abbrev then : World
    then = after_all w k.commit.actions

    abbrev end : World
    end = after_all then (clearing a.users)

    abbrev seen : World
    seen = after_all w (actions_of k)

    seen_is : seen ≡ end
    seen_is =
        ap (λ (l : List Action). after_all w (l ++ (k.commit.actions ++ k.after))) ends.clears.before
        ∙ after_all-append w k.commit.actions k.after
        ∙ ap (after_all then) ends.clears.after

    staged_is : staged w k ≡ w
    staged_is = ap (after_all w) ends.clears.before

    settings : SameBut settings_reach w then
    settings = plan_same settings_reach w k.commit.actions commits

    -- in the end
    in_end : (P : World → Rec → Type 0) → P end next → P seen (next_of k)
    in_end P h = subst (λ (z : Rec). P seen z) (sym ends.clears.next) (subst (λ (v : World). P v next) (sym seen_is) h)

    -- where it is committed
    in_staged : (P : World → Rec → Type 0) → P w next → P (staged w k) (next_of k)
    in_staged P h = subst (λ (z : Rec). P (staged w k) z) (sym ends.clears.next) (subst (λ (v : World). P v next) (sym staged_is) h)

    pub clears_quiet : IsReady w x.settings → IsQuietWork w x.settings k
    clears_quiet ready = record {
      ready = ready;
      before = subst (AllTouchOnly (unnamed w r)) (sym ends.clears.before) tt;
      applies = subst (AllApply w) (sym ends.clears.before) tt;
      after = subst (AllTouchOnly (unnamed (staged w k) (next_of k))) (sym ends.clears.after)
          (in_staged (λ v z. AllTouchOnly (unnamed v z) (clearing a.users)) (clearing_touch w r ends.rules a ends.named));
      follows = subst (AllApply (after_all w (k.before ++ k.commit.actions))) (sym ends.clears.after) (clearing_applies a.users (after_all w (k.before ++ k.commit.actions)));
    }

    pub clears_left : ((p : Protector) → NamesProtector r p → (n : ℕ) → held_number w p ≡ Some n → Contains x.named.items (parts_of (is_some (Some n)) p (Some n)))
        → KeepApart x.named.items → AreUnnamed w r (retired_files x) → LeavesKept w k x.named.items x.retired.items
    clears_left numbers apart unnamed_before = record {
      numbers = λ p has n held. numbers p (back p has) n (sym (number_end w r ends.rules a ends.named then settings p (back p has)) ∙ (sym (ap (λ (v : World). held_number v p) seen_is) ∙ held));
      apart = apart;
      are_retired = in_end (λ v z. AreUnnamed v z (retired_files x)) (unnamed_end w r ends.rules a ends.named then settings (retired_files x) unnamed_before);
      strange = λ n strange. ap (λ (v : World). file_at v n) seen_is ∙ strange_end w r ends.rules a ends.named then settings n strange;
    }

    -- ---- where it leads

    module _ (s : State) (agrees : Agrees w x s) where
      weaver_end : has_weaver end ≡ has_weaver w
      weaver_end = weaver_same next w end (same_end w r ends.rules a ends.named then settings)

      parts_end : (p : Protector) → NamesProtector next p → parts_in end p ≡ parts_in w p
      parts_end p has =
          ap (λ (b : Bool). parts_of b p (held_number end p)) weaver_end
          ∙ ap (parts_of (has_weaver w) p) (number_end w r ends.rules a ends.named then settings p has)

      named_end : AreNamed end next x.named.items
      named_end = record {
        each = λ p has. subst (Contains x.named.items) (sym (parts_end p has)) (agrees.named.each p has);
        only = λ q has. let found = agrees.named.only q has in (found.0, found.1, found.2 ∙ sym (parts_end found.0 found.1));
      }

      kept_end : s.books.kept + 1 ≡ k.commit.to.settled.sequence
      kept_end = ap (λ (b : Books). b.kept + 1) agrees.books_are ∙ sym ends.clears.commit.below

      dead_end : [] ≡ dead_users (next_of k).armed seen.cell
      dead_end = ap (λ (z : Rec). dead_users z.armed seen.cell) (sym ends.clears.next)

      pub clears_leads : w.cell ≡ None → LeadsTo w x x.named.items x.retired.items k s (clears (stage_in w s))
      clears_leads empty = record {
        reply = refl;
        keeps = subst IsRecord (sym ends.clears.next) (next_is w r ends.rules a ends.named);
        readies = record {
          holds = in_staged (λ v z. Holds v z (record s.vault { arming = None })) (cleared_holds w r s.vault ends.rules agrees.stands.stands.holds);
          untouched = in_staged NamedAreUntouched (arm_untouched w r None agrees.stands.named (λ row has armed. absurd (cc)));
        };
        session = agrees.session;
        books_are = λ i. record { kept = kept_end i; dead = dead_end i };
        moments = refl;
        noise = refl;
        opened = agrees.opened;
        metrics = agrees.metrics;
        captured = agrees.captured;
        are_named = in_end (λ v z. AreNamed v z x.named.items) named_end;
        are_retired = in_end (λ v z. AreUnnamed v z (retired_files x)) (unnamed_end w r ends.rules a ends.named then settings (retired_files x) agrees.retired);
        prepared = λ flag last. ap (λ (z : Rec). z.armed) ends.clears.next;
        bare = λ start bare. in_end (λ v z. IsBare start v z (retired_files x)) (bare_end w r ends.rules a ends.named then settings start (retired_files x) empty bare);
      }

-- in each state with which the session agrees
pub clears_commits : (b : Sight) (x : Session) (k : Work) → EndsArming x.settings k → AllTouchOnly settings_reach k.commit.actions → (IsTrue b.told → b.world.cell ≡ None)
    → Commits b x x.named.items x.retired.items k clears
clears_commits b x k ends commits empty told s agrees = clears_leads x k ends commits b.world s agrees (empty told)
