-- What is served where an arming was ended, and users are captured from then on.
use Rattle.std.proofs.Common.{◌≡◌, ◌≢◌, true, [], None, refl, sym, ap, subst}
use Rattle.std.specs.Prelude.{Ok}
use Rattle.ls_board.specs.declared.world.World.{World}
use Rattle.ls_board.specs.Acts.{Sight}
use Rattle.ls_drawing.specs.Passing.{IsStored}
use Rattle.ls_naming.specs.Current.{last_sequence}
use Rattle.ls_script.specs.declared.command.Command.TheVariants as command
use Rattle.ls_script.specs.declared.reply.Reply.{Reply}
use Rattle.ls_script.specs.declared.reply.Reply.TheVariants.{Fine}
use Rattle.ls_standing.proofs.ContainsLemmas.{none_in}
use Rattle.ls_vault.specs.declared.state.State.{State}
use Rattle.ls_vault.specs.States.{with_session}
use Rattle.ls_turn.specs.declared.session.Session.{Session}
use Rattle.ls_turn.specs.Agreeing.{Agrees, HaveSecrets, users_in}
use Rattle.ls_turn.specs.Serving.{Always, Serves, stage_in, turned}
use Rattle.ls_turn.proofs.StillLemmas.{HasKept, can_still}
use Rattle.ls_rebooting.specs.Ending.{unarming}

module _ (m y : Session) where
  -- the session that captures
  abbrev pub capturing : Session
  capturing = record m { prepared = true; captured = y.captured }

  has_kept : HasKept m capturing
  has_kept = record { slots = refl; boot = refl; settings = refl; named = refl; retired = refl }

  module _ (empty : y.captured.items ≡ []) (ended : m.settings.settled.sequence ≢ last_sequence → m.settings.settled.rec.armed ≡ None) where
    -- the state of which each user who is unlocked is captured
    abbrev captures : State → State
    captures s = with_session s (record s.session { prepared = true; captured = [] })

    capturing_agrees : (w : World) (s : State) → Agrees w m s → Agrees w capturing (captures s)
    capturing_agrees w s a = record {
      keeps = a.keeps;
      stands = a.stands;
      ready = a.ready;
      books_are = a.books_are;
      session = λ i. record (a.session i) { prepared = true; captured = users_in (empty i) };
      opened = a.opened;
      metrics = a.metrics;
      captured = subst (HaveSecrets s.vault.users) (sym empty) (λ o k. absurd (none_in o k));
      named = a.named;
      slots = a.slots;
      retired = a.retired;
      going = a.going;
      prepared = λ flag fresh. ended fresh;
    }

    pub capturing_serves : (old new : Sight) (x : Session) (reply : Reply) → reply ≡ Fine → Serves old x unarming Always (Ok reply) m new
        → Serves old x (turned x.slots command.Prepare) Always (Ok Fine) capturing new
    capturing_serves old new x reply fine served = by (subst (λ (r : Reply). Serves old x unarming Always (Ok r) m new) fine served)
      where
        by : Serves old x unarming Always (Ok Fine) m new → Serves old x (turned x.slots command.Prepare) Always (Ok Fine) capturing new
        by s = record {
          keeps = s.keeps;
          slots = s.slots;
          boot = s.boot;
          cause = s.cause;
          going = s.going;
          can = can_still new m capturing has_kept s.can refl s.can.waits;
          few = s.few;
          silent = s.silent;
          inside = s.inside;
          strange = s.strange;
          crash = s.crash;
          done = λ told t a fairly. let was = s.done told t a fairly in record {
            reply_is = refl;
            agrees = capturing_agrees new.world (unarming (stage_in old.world t)).stage.state was.agrees;
            moments = was.moments;
            noise = was.noise;
          };
          bare = s.bare;
        }

-- a command that changed nothing but the room
pub stored_all : (old new : Sight) → new ≡ record old { actions = new.actions; bytes = new.bytes } → IsStored old.world new.world
stored_all old new is = subst (IsStored old.world) (sym (ap (λ (s : Sight). s.world) is)) refl
