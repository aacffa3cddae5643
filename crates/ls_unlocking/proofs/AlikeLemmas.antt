-- Worlds in which devices were asked: what a session knows of one is so in the other.
use Rattle.std.proofs.Common.{◌≡◌, ℕ, Bool, IsTrue, List, Option, Some, refl, sym, ◌∙◌, ap, subst}
use Rattle.std.specs.Prelude.{nat_lt, length, is_some}
use Rattle.std.specs.List.{Contains}
use Rattle.std.specs.Option.{option_and_then}
use Rattle.ls_board.specs.declared.devices.Counter.{Counter}
use Rattle.ls_board.specs.declared.world.World.{World}
use Rattle.ls_board.specs.Acts.{Sight}
use Rattle.ls_board.specs.Effect.{file_at}
use Rattle.ls_formats.specs.declared.part.FilePart.TheVariants.{Weaver}
use Rattle.ls_formats.specs.declared.parts.Parts.{Parts}
use Rattle.ls_naming.specs.Named.{NamesFile}
use Rattle.ls_protector.specs.Clear.{AreUnnamed}
use Rattle.ls_protector.specs.Parts.{parts_of}
use Rattle.ls_record.specs.Rows.{Rec, IsRecord}
use Rattle.ls_sealing.specs.Protectors.{Protector, held_number, has_weaver, has_part, where_it_has, slot_number, file_name}
use Rattle.ls_serving.specs.Calls.{IsSilent}
use Rattle.ls_settings.specs.Loaded.{Loaded, IsReady}
use Rattle.ls_standing.specs.Books.{books}
use Rattle.ls_standing.specs.NamedProtectors.{NamesProtector}
use Rattle.ls_standing.specs.Standing.{StandsDurably}
use Rattle.ls_turn.specs.declared.session.Session.{Session}
use Rattle.ls_turn.specs.Agreeing.{Agrees, AreNamed, ArePartNames, HaveMetrics, HaveSecrets, files_of, parts_in, retired_files, session_of}
use Rattle.ls_turn.specs.Serving.{CanServe, IsKeptAs, KeepApart, KeepOnce, KeepsStrange}
use Rattle.ls_turn.proofs.StillLemmas.{HasKept}
use Rattle.ls_turn.proofs.WaitLemmas.{waits_kept}
use Rattle.ls_vault.specs.declared.state.State.{State}
use Rattle.ls_weaver.specs.declared.slot.Slot.{Slot}

-- the world with other devices, and other moments left
abbrev with_devices : World → List Slot → List (ℕ × Counter) → List ℕ → World
with_devices w slots gk moments = record w { slots = slots; gk = gk; moments = moments }

-- Slots and Gatekeeper records may be others, and moments may be taken. There are as many slots.
pub record Alike (w mid : World) : Type 0 where
  pub is : mid ≡ with_devices w mid.slots mid.gk mid.moments
  pub count : length mid.slots ≡ length w.slots

pub alike_refl : (w : World) → Alike w w
alike_refl w = record { is = refl; count = refl }

pub alike_trans : (u v w : World) → Alike u v → Alike v w → Alike u w
alike_trans u v w first second = record {
  is = second.is ∙ ap (λ (x : World). with_devices x w.slots w.gk w.moments) first.is;
  count = second.count ∙ first.count;
}

module _ (w mid : World) (a : Alike w mid) where
  pub alike_silent : IsSilent w mid
  alike_silent = record { said = ap (λ (u : World). u.said) a.is; input = ap (λ (u : World). u.input) a.is }

  pub alike_strange : KeepsStrange w mid
  alike_strange n strange = ap (λ (u : World). file_at u n) a.is

  pub alike_ready : (l : Loaded) → IsReady w l → IsReady mid l
  alike_ready l h = subst (λ (u : World). IsReady u l) (sym a.is) (record {
    are = record { settled = h.are.settled; target = h.are.target };
    whole = h.whole;
    untouched = h.untouched;
  })

  pub alike_file : (n : List ℕ) → file_at mid n ≡ file_at w n
  alike_file n = ap (λ (u : World). file_at u n) a.is

  alike_weaver : has_weaver mid ≡ has_weaver w
  alike_weaver = ap (nat_lt 0) a.count

  pub alike_number : (p : Protector) → held_number mid p ≡ held_number w p
  alike_number p =
      ap (λ (n : ℕ). option_and_then slot_number (where_it_has (has_part (nat_lt 0 n) p.purpose Weaver) (file_at mid (file_name p Weaver)))) a.count
      ∙ ap (λ (f : Option (List ℕ)). option_and_then slot_number (where_it_has (has_part (has_weaver w) p.purpose Weaver) f)) (alike_file (file_name p Weaver))

  pub alike_parts : (p : Protector) → parts_in mid p ≡ parts_in w p
  alike_parts p = ap (λ (b : Bool). parts_of b p (held_number mid p)) alike_weaver ∙ ap (parts_of (has_weaver w) p) (alike_number p)

  pub alike_unnamed : (r : Rec) (names : List (List ℕ)) → AreUnnamed w r names → AreUnnamed mid r names
  alike_unnamed r names h n has = record {
    settings = (h n has).settings;
    named = λ name named. (h n has).named name (subst (λ (b : Bool). NamesFile b r name) alike_weaver named);
  }

  pub alike_named : (r : Rec) (parts : List Parts) → AreNamed w r parts → AreNamed mid r parts
  alike_named r parts h = record {
    each = λ p has. subst (Contains parts) (sym (alike_parts p)) (h.each p has);
    only = λ q has. let found = h.only q has in (found.0, found.1, found.2 ∙ sym (alike_parts found.0));
  }

-- the next call may be made
pub alike_can : (old new : Sight) (x y : Session) → HasKept x y → new.told ≡ old.told → new.slots ≡ old.slots → (IsTrue old.told → Alike old.world new.world)
    → y.stopped ≡ x.stopped → y.pending.items ≡ x.pending.items → CanServe old x → CanServe new y
alike_can old new x y k told slots alike stopped pending can = record {
  going = stopped ∙ can.going;
  slots = k.slots ∙ can.slots ∙ sym slots;
  each = λ p has.
      let was = can.each p (subst (λ (s : Loaded). NamesProtector s.settled.rec p) k.settings has) in
      (was.0, subst (λ (l : List Parts). Contains l was.0) (sym k.named) was.1, subst (λ (n : ℕ). IsKeptAs n p was.0) (sym k.slots) was.2);
  only = λ q has.
      let was = can.only q (subst (λ (l : List Parts). Contains l q) k.named has) in
      (was.0, subst (λ (s : Loaded). NamesProtector s.settled.rec was.0) (sym k.settings) was.1, subst (λ (n : ℕ). IsKeptAs n was.0 q) (sym k.slots) was.2);
  once = subst KeepOnce (sym k.named) can.once;
  names = subst (λ (l : List Parts). ArePartNames (files_of l)) (sym k.retired) can.names;
  ready = λ now. subst (IsReady new.world) (sym k.settings) (alike_ready old.world new.world (alike (was_told now)) x.settings (can.ready (was_told now)));
  numbers = λ now p has m held.
      subst (λ (l : List Parts). Contains l (parts_of (is_some (Some m)) p (Some m))) (sym k.named)
      (can.numbers (was_told now) p (subst (λ (s : Loaded). NamesProtector s.settled.rec p) k.settings has) m
      (sym (alike_number old.world new.world (alike (was_told now)) p) ∙ held));
  apart = λ now. subst KeepApart (sym k.named) (can.apart (was_told now));
  retired = λ now.
      subst (λ (l : List Parts). AreUnnamed new.world y.settings.settled.rec (files_of l)) (sym k.retired)
      (subst (λ (s : Loaded). AreUnnamed new.world s.settled.rec (retired_files x)) (sym k.settings)
      (alike_unnamed old.world new.world (alike (was_told now)) x.settings.settled.rec (retired_files x) (can.retired (was_told now))));
  waits = waits_kept x y k.settings pending can.waits;
}
  where
    was_told : IsTrue new.told → IsTrue old.told
    was_told now = subst (λ (b : Bool). IsTrue b) told now

-- a session agrees with the state behind it
pub alike_agrees : (w mid : World) (x y : Session) (s t : State) → Agrees w x s → Alike w mid → StandsDurably mid x.settings.settled t.vault → HasKept x y
    → session_of y ≡ t.session → t.books ≡ s.books → HaveSecrets t.vault.users y.opened.items → HaveMetrics t.vault.users y.opened.items
    → HaveSecrets t.vault.users y.captured.items → y.stopped ≡ x.stopped → y.prepared ≡ x.prepared → Agrees mid y t
alike_agrees w mid x y s t a alike stands k session kept opened metrics captured stopped prepared = record {
  keeps = subst (λ (l : Loaded). IsRecord l.settled.rec) (sym k.settings) a.keeps;
  stands = subst (λ (l : Loaded). StandsDurably mid l.settled t.vault) (sym k.settings) stands;
  ready = subst (IsReady mid) (sym k.settings) (alike_ready w mid alike x.settings a.ready);
  books_are = kept ∙ a.books_are ∙ sym (ap (λ (l : Loaded). books mid l.settled) k.settings ∙ ap (λ (u : World). books u x.settings.settled) alike.is);
  session = session;
  opened = opened;
  metrics = metrics;
  captured = captured;
  named = subst (λ (l : Loaded). AreNamed mid l.settled.rec y.named.items) (sym k.settings)
      (subst (AreNamed mid x.settings.settled.rec) (sym k.named) (alike_named w mid alike x.settings.settled.rec x.named.items a.named));
  slots = alike.count ∙ a.slots ∙ sym k.slots;
  retired = subst (λ (l : List Parts). AreUnnamed mid y.settings.settled.rec (files_of l)) (sym k.retired)
      (subst (λ (l : Loaded). AreUnnamed mid l.settled.rec (retired_files x)) (sym k.settings)
      (alike_unnamed w mid alike x.settings.settled.rec (retired_files x) a.retired));
  going = stopped ∙ a.going;
  prepared = λ flag last.
      ap (λ (l : Loaded). l.settled.rec.armed) k.settings
      ∙ a.prepared (sym prepared ∙ flag) (λ e. last (ap (λ (l : Loaded). l.settled.sequence) k.settings ∙ e));
}
