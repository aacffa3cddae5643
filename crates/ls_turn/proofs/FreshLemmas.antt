-- A session as opening leaves it, and one of a board on which nothing is kept.
use Rattle.std.proofs.Common.{◌≡◌, ◌≤◌, ℕ, true, false, IsTrue, List, [], map, length, Option, None, Some, refl, sym, ◌∙◌, ap, subst, arith}
use Rattle.std.specs.Prelude.{Ok}
use Rattle.std.specs.List.{Contains}
use Rattle.std.proofs.lemmas.List.{length-replicate}
use Rattle.ls_arming.specs.declared.arming.Arming.{Arming}
use Rattle.ls_board.specs.declared.world.World.{World}
use Rattle.ls_board.specs.Acts.{Sight}
use Rattle.ls_board.specs.Effect.{file_at}
use Rattle.ls_formats.specs.declared.side.Side.{Side}
use Rattle.ls_formats.specs.declared.side.Side.TheVariants.{First, Second}
use Rattle.ls_formats.specs.PartNames.{settings_text}
use Rattle.ls_naming.specs.Current.{current, unsettled, settings_of, is_open}
use Rattle.ls_protector.specs.Clear.{AreUnnamed}
use Rattle.ls_record.specs.Rows.{Rec, IsRecord}
use Rattle.ls_sealing.specs.Protectors.{Protector}
use Rattle.ls_settings.specs.Loaded.{Loaded, IsReady, IsWhole, AreUntouched}
use Rattle.ls_standing.specs.NamedProtectors.{NamesProtector}
use Rattle.ls_standing.specs.Standing.{StandsDurably, kept_arming}
use Rattle.ls_standing.proofs.ContainsLemmas.{none_in}
use Rattle.ls_vault.specs.declared.vault.Vault.{Vault}
use Rattle.ls_turn.specs.declared.session.Session.{Session}
use Rattle.ls_turn.specs.Agreeing.{Agrees, AreNamed, ArePartNames, files_of, pending_token, retired_files, users_in}
use Rattle.ls_turn.specs.Fresh.{IsFresh, HasZeros, empty_vault, empty_world, nothing_loaded, opened_state}
use Rattle.ls_turn.specs.Serving.{CanServe, KeepOnce, KeepApart}
use Rattle.ls_turn.proofs.WaitLemmas.{none_wait}

nothing_in : {X : Type 0} (xs : List X) (x : X) → xs ≡ [] → Contains xs x → ⊥
nothing_in xs x none has = none_in x (subst (λ l. Contains l x) none has)

pub none_retired : (w : World) (r : Rec) (x : Session) → x.retired.items ≡ [] → AreUnnamed w r (retired_files x)
none_retired w r x none n has = absurd (nothing_in (retired_files x) n (ap files_of none) has)

-- a session that has retired nothing has left no file
pub none_left : (x : Session) → x.retired.items ≡ [] → ArePartNames (retired_files x)
none_left x none n has = absurd (nothing_in (retired_files x) n (ap files_of none) has)

-- one that names nothing keeps each protector once, and no slot of two
pub none_twice : (x : Session) → x.named.items ≡ [] → KeepOnce x.named.items
none_twice x none = subst KeepOnce (sym none) tt

pub none_shared : (x : Session) → x.named.items ≡ [] → KeepApart x.named.items
none_shared x none = subst KeepApart (sym none) tt

pub fresh_agrees : (w : World) (x : Session) (boot slots : ℕ) (v : Vault) → IsFresh boot slots x → length w.slots ≡ slots → IsRecord x.settings.settled.rec
    → StandsDurably w x.settings.settled v → IsReady w x.settings → AreNamed w x.settings.settled.rec x.named.items → Agrees w x (opened_state w x.settings.settled boot v)
fresh_agrees w x boot slots v fresh count keeps stands ready named = record {
  keeps = keeps;
  stands = stands;
  ready = ready;
  books_are = refl;
  session = λ i. record {
    boot = fresh.boot_is i;
    opened = users_in (fresh.opened i);
    pending = map pending_token (fresh.pending i);
    prepared = fresh.prepared i;
    captured = users_in (fresh.captured i);
  };
  opened = λ o has. absurd (nothing_in x.opened.items o fresh.opened has);
  metrics = λ o has. absurd (nothing_in x.opened.items o fresh.opened has);
  captured = λ o has. absurd (nothing_in x.captured.items o fresh.captured has);
  named = named;
  slots = count ∙ sym fresh.slots_are;
  retired = none_retired w x.settings.settled.rec x fresh.retired;
  going = fresh.stopped;
  prepared = λ flag. absurd (let e : true ≡ false = sym flag ∙ fresh.prepared in cc);
}

-- ---- nothing is kept

none_armed : (cell : Option (List ℕ)) → ◌≡◌ {A = Option Arming} None (kept_arming None cell)
none_armed None = refl
none_armed (Some once) = refl

no_rows : IsRecord unsettled.rec
no_rows = record { few = omega arith; rows = tt; pairs = tt; armed = tt }

module _ (w : World) (files : HasZeros w) where
  says : current (file_at w) ≡ Ok unsettled
  says = λ i. settings_of (files First i) (files Second i)

  whole : (side : Side) → IsWhole (file_at w (settings_text side))
  whole side = subst IsWhole (sym (files side)) (length-replicate {A = ℕ} 4096 0)

  module _ (untouched : AreUntouched w) where
    pub empty_stands : StandsDurably w unsettled empty_vault
    empty_stands = record {
      stands = record {
        settings = says;
        target = λ side other opened. whole side;
        holds = record { users = tt; files = refl; arming = none_armed w.cell };
      };
      settings = untouched;
      named = λ name named. absurd (none_in name named);
    }

    pub empty_ready : IsReady w nothing_loaded
    empty_ready = record {
      are = record { settled = says; target = sym (ap is_open (files First)) };
      whole = λ side other. whole side;
      untouched = untouched;
    }

-- a session that was opened there names nothing
module _ (x : Session) (loaded : x.settings ≡ nothing_loaded) where
  no_protector : (p : Protector) → NamesProtector x.settings.settled.rec p → ⊥
  no_protector p has = none_in p (subst (λ (s : Loaded). NamesProtector s.settled.rec p) loaded has)

  its_record : IsRecord x.settings.settled.rec
  its_record = subst (λ (s : Loaded). IsRecord s.settled.rec) (sym loaded) no_rows

  pub empty_agrees : (w : World) (boot slots : ℕ) → HasZeros w → AreUntouched w → IsFresh boot slots x → length w.slots ≡ slots → x.named.items ≡ []
      → Agrees w x (opened_state w unsettled boot empty_vault)
  empty_agrees w boot slots files untouched fresh count named =
      subst (λ (s : Loaded). Agrees w x (opened_state w s.settled boot empty_vault)) loaded
      (fresh_agrees w x boot slots empty_vault fresh count
      its_record
      (subst (λ (s : Loaded). StandsDurably w s.settled empty_vault) (sym loaded) (empty_stands w files untouched))
      (subst (IsReady w) (sym loaded) (empty_ready w files untouched))
      (record {
        each = λ p has. absurd (no_protector p has);
        only = λ q has. absurd (nothing_in x.named.items q named has);
      }))

  pub empty_can : (b : Sight) (boot : ℕ) → IsFresh boot b.slots x → x.named.items ≡ [] → (IsTrue b.told → HasZeros b.world × AreUntouched b.world) → CanServe b x
  empty_can b boot fresh named empty = record {
    going = fresh.stopped;
    slots = fresh.slots_are;
    each = λ p has. absurd (no_protector p has);
    only = λ q has. absurd (nothing_in x.named.items q named has);
    once = none_twice x named;
    names = none_left x fresh.retired;
    ready = λ told. let e = empty told in subst (IsReady b.world) (sym loaded) (empty_ready b.world e.0 e.1);
    numbers = λ told p has. absurd (no_protector p has);
    apart = λ told. none_shared x named;
    retired = λ told. none_retired b.world x.settings.settled.rec x fresh.retired;
    waits = none_wait x.settings.settled.rec its_record x.pending.items fresh.pending;
  }

-- ---- there is such a board

pub empty_has_zeros : (slots : ℕ) → HasZeros (empty_world slots)
empty_has_zeros slots First = refl
empty_has_zeros slots Second = refl

pub empty_untouched : (slots : ℕ) → AreUntouched (empty_world slots)
empty_untouched slots side = refl
