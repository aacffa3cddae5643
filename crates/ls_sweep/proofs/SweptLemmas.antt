-- What is seen of a sweep of all that is left over.
use Rattle.std.proofs.Common.{◌≡◌, inl, inr, ◌≤◌, ℕ, Bool, IsTrue, List, [], Option, None, Some, refl, sym, ◌∙◌, ap, subst}
use Rattle.std.specs.Prelude.{Result, Ok, Err}
use Rattle.ls_arming.specs.declared.arming.Arming.{Arming}
use Rattle.ls_board.specs.declared.action.Action.{Action}
use Rattle.ls_board.specs.declared.action.BoardFault.{BoardFault}
use Rattle.ls_board.specs.declared.action.BoardFault.TheVariants.{Failed, Memory}
use Rattle.ls_board.specs.declared.action.Part.{Part}
use Rattle.ls_board.specs.declared.world.World.{World}
use Rattle.ls_board.specs.Acts.{Sight, Rose}
use Rattle.ls_board.specs.Effect.{file_at}
use Rattle.ls_board.specs.Images.{Leaves}
use Rattle.ls_board.specs.Reach.{AllTouchOnly, SameBut, LeavesBut}
use Rattle.ls_board.specs.Runs.{after_all, LeavesOnly, PlanImage}
use Rattle.ls_board.proofs.FrameLemmas.{same_refl, plan_but}
use Rattle.ls_board.proofs.RestLemmas.{but_rest}
use Rattle.ls_board.proofs.RunLemmas.{joins, weaker}
use Rattle.ls_naming.specs.Current.{Settled}
use Rattle.ls_record.specs.Rows.{Rec, IsRecord}
use Rattle.ls_reading.specs.Reading.{Reads}
use Rattle.ls_reading.proofs.SeeLemmas.{reads_err, reads_both, reads_value, reads_lacks}
use Rattle.ls_protector.specs.Steps.{Steps}
use Rattle.ls_protector.proofs.StandLemmas.{world_same}
use Rattle.ls_settings.specs.Loaded.{Loaded, IsReady}
use Rattle.ls_standing.specs.Bare.{IsBare, IsStrange}
use Rattle.ls_standing.specs.Books.{books, dead_users}
use Rattle.ls_standing.specs.Clearing.{AreLeftovers}
use Rattle.ls_standing.specs.Quiet.{unnamed}
use Rattle.ls_standing.specs.Same.{SameNamed}
use Rattle.ls_standing.specs.Standing.{StandsDurably}
use Rattle.ls_standing.proofs.FrameLemmas.{durably_same}
use Rattle.ls_standing.proofs.ListedLemmas.{listed_left}
use Rattle.ls_standing.proofs.LoadingLemmas.{ready_kept}
use Rattle.ls_standing.proofs.QuietLemmas.{durably_left}
use Rattle.ls_standing.proofs.SameLemmas.{named_but, settings_but}
use Rattle.ls_standing.proofs.SweepLemmas.{sweep_touches, sweep_bare}
use Rattle.ls_vault.specs.declared.vault.Books.{Books}
use Rattle.ls_vault.specs.declared.vault.Vault.{Vault}
use Rattle.ls_sweep.specs.declared.leftovers.Leftovers.{Leftovers}
use Rattle.ls_sweep.specs.NamedSlots.{slots_named}
use Rattle.ls_sweep.specs.Swept.{AreLeftOver, sweep_of, IsSweepOf, IsSweepImage, Sweeps}
use Rattle.ls_sweep.proofs.LeftLemmas.{listed}
use Rattle.ls_sweep.proofs.NamedSlotLemmas.{slots_are_named}

-- ---- what stays where only what isn't named is reached

dead_same : (armed : Option Arming) (old new : Option (List ℕ)) → (¬ (armed ≡ None) → new ≡ old) → dead_users armed new ≡ dead_users armed old
dead_same None old new same = refl
dead_same (Some a) old new same = ap (dead_users (Some a)) (same (λ none. cc))

abbrev books_with : Settled → List ℕ → Books
books_with s dead = record { kept = s.sequence; dead = dead }

module _ (w mid : World) (r : Rec) (same : SameBut (unnamed w r) w mid) where
  but_ready : (l : Loaded) → IsReady w l → IsReady mid l
  but_ready l ready = ready_kept w mid l (settings_but w mid r same) ready

  but_books : (s : Settled) → s.rec ≡ r → books mid s ≡ books w s
  but_books s its =
      ap (books_with s)
      (dead_same s.rec.armed w.cell mid.cell (λ some. same.cell (λ none. some (ap (λ (x : Rec). x.armed) its ∙ none))))

  but_stands : (s : Settled) (v : Vault) → s.rec ≡ r → StandsDurably w s v → StandsDurably mid s v
  but_stands s v its was =
      durably_same w mid s v (subst (λ (x : Rec). SameNamed x w mid) (sym its) (named_but w mid r same)) (settings_but w mid r same) was

-- an image of a world in which they stayed
but_left : (w image : World) (r : Rec) (s : Settled) (v : Vault) → s.rec ≡ r → StandsDurably w s v → LeavesBut (unnamed w r) w image → StandsDurably image s v
but_left w image r s v its was left = durably_left left.0 image s v (but_stands w left.0 r left.1 s v its was) left.2

-- ---- the actions of a sweep

module _ (w : World) (r : Rec) (actions : List Action) (is : IsRecord r) (sweep : IsSweepOf w r actions) where
  left_over : AreLeftovers w r sweep.left.files sweep.left.slots sweep.left.enrolled sweep.left.keys sweep.left.cell
  left_over =
      listed_left w r sweep.left.files sweep.left.slots sweep.left.enrolled sweep.left.keys sweep.left.cell
      (listed w r (slots_named w r) sweep.left (slots_are_named w r) sweep.all)

  sweep_only : AllTouchOnly (unnamed w r) actions
  sweep_only =
      subst (AllTouchOnly (unnamed w r)) (sym sweep.is)
      (sweep_touches w r sweep.left.files sweep.left.slots sweep.left.enrolled sweep.left.keys sweep.left.cell is left_over)

  swept_bare : (start : World) → ((n : List ℕ) → IsStrange n → file_at w n ≡ file_at start n) → IsBare start (after_all w actions) r []
  swept_bare start strange =
      subst (λ (l : List Action). IsBare start (after_all w l) r []) (sym sweep.is)
      (sweep_bare w r sweep.left.files sweep.left.slots sweep.left.enrolled sweep.left.keys sweep.left.cell is left_over start strange)

-- ---- the sweep, read over a board

module _ (s0 s1 s2 : Sight) (r : Rec) (used slice : List ℕ) (first : Reads {T = List ℕ} (λ w slots. slots ≡ slots_named w r) s0 (Ok used) s1) where
  -- nothing was read of what is left over
  pub none_left : (e : BoardFault) → Reads {T = Leftovers} (λ w left. AreLeftOver w r slice left) s1 (Err e) s2 → Reads {T = List Action} (λ w actions. IsSweepOf w r actions) s0 (Err e) s2
  none_left e second =
      reads_both (λ w slots. slots ≡ slots_named w r) (λ w actions. IsSweepOf w r actions) s0 s1 (λ w actions. IsSweepOf w r actions) s2 used (Err e) (λ w actions p q. q) first
      (reads_err (λ w left. AreLeftOver w r slice left) (λ w actions. IsSweepOf w r actions) s1 s2 e second)

  module _ (left : Leftovers) (same : slice ≡ used) (second : Reads {T = Leftovers} (λ w left. AreLeftOver w r slice left) s1 (Ok left) s2) where
    all_left_over : Reads {T = Leftovers} (λ w left. AreLeftOver w r (slots_named w r) left) s0 (Ok left) s2
    all_left_over =
        reads_both (λ w slots. slots ≡ slots_named w r) (λ w left. AreLeftOver w r (slots_named w r) left) s0 s1 (λ w left. AreLeftOver w r slice left) s2 used (Ok left)
        (λ w l named all. subst (λ (u : List ℕ). AreLeftOver w r u l) (same ∙ named) all) first second

    -- a sweep of what was read
    pub planned_of : (actions : List Action) → actions ≡ sweep_of left → Reads {T = List Action} (λ w actions. IsSweepOf w r actions) s0 (Ok actions) s2
    planned_of actions is =
        reads_value (λ w left. AreLeftOver w r (slots_named w r) left) (λ w actions. IsSweepOf w r actions) s0 s2 left actions all_left_over
        (λ w all. record { left = left; all = all; is = is })

    -- or no memory for it
    pub not_planned : Reads {T = List Action} (λ w actions. IsSweepOf w r actions) s0 (Err Memory) s2
    not_planned = reads_lacks (λ w left. AreLeftOver w r (slots_named w r) left) (λ w actions. IsSweepOf w r actions) s0 s2 left all_left_over

-- with room for it
module _ (s0 s1 s2 : Sight) (r : Rec) (actions : List Action) (first : Reads {T = List Action} (λ w actions. IsSweepOf w r actions) s0 (Ok actions) s1) where
  pub roomy : Reads {T = Unit {0}} (λ w done. Unit {0}) s1 (Ok tt) s2 → Reads {T = List Action} (λ w actions. IsSweepOf w r actions) s0 (Ok actions) s2
  roomy second =
      reads_value {A = Unit {0}} (λ w done. IsSweepOf w r actions) (λ w actions. IsSweepOf w r actions) s0 s2 tt actions
      (reads_both (λ w actions. IsSweepOf w r actions) (λ w done. IsSweepOf w r actions) s0 s1 (λ w done. Unit {0}) s2 actions (Ok tt) (λ w done is made. is) first second)
      (λ w is. is)

  pub not_roomy : (e : BoardFault) → Reads {T = Unit {0}} (λ w done. Unit {0}) s1 (Err e) s2 → Reads {T = List Action} (λ w actions. IsSweepOf w r actions) s0 (Err e) s2
  not_roomy e second =
      reads_both (λ w actions. IsSweepOf w r actions) (λ w actions. IsSweepOf w r actions) s0 s1 (λ w actions. IsSweepOf w r actions) s2 actions (Err e) (λ w other p q. q) first
      (reads_err {A = Unit {0}} (λ w done. Unit {0}) (λ w actions. IsSweepOf w r actions) s1 s2 e second)

-- ---- in all

same_part : (p q : Part) → ◌≡◌ {A = Result (Unit {0}) BoardFault} (Err (Failed p)) (Err (Failed q)) → p ≡ q
same_part p q e = cc

same_fault : (p : Part) (e : BoardFault) → ◌≡◌ {A = Result (Unit {0}) BoardFault} (Err (Failed p)) (Err e) → Failed p ≡ e
same_fault p e of = cc

-- nothing was done yet
pub not_begun : {T : Type 0} (P : World → T → Type 0) (old new : Sight) (r : Rec) (e : BoardFault) → Reads P old (Err e) new → Sweeps {T = Unit {0}} old r (Err e) new
not_begun P old new r e first = record {
  keeps = (reads_err P (λ w done. Unit {0}) old new e first).keeps;
  lacking = λ told is. first.same told;
  swept = λ told. tt;
  bare = λ told start strange. tt;
  cut = λ told. weaker old new (Leaves old.world) (IsSweepImage old.world r) (λ image left. inl left) (first.crash told);
  named = λ told. stayed told;
  images = λ told. weaker old new (Leaves old.world) (LeavesBut (unnamed old.world r) old.world)
      (λ image left. (old.world, same_refl (unnamed old.world r) old.world, left)) (first.crash told);
  rest = λ told. but_rest (unnamed old.world r) old.world new.world (stayed told);
  ready = λ told. but_ready old.world new.world r (stayed told);
  books = λ told. but_books old.world new.world r (stayed told);
  stands = λ told. but_stands old.world new.world r (stayed told);
  crash = λ told s v same was. weaker old new (Leaves old.world) (λ image. StandsDurably image s v) (λ image left. durably_left old.world image s v was left) (first.crash told);
}
  where
    stayed : IsTrue old.told → SameBut (unnamed old.world r) old.world new.world
    stayed told = subst (SameBut (unnamed old.world r) old.world) (sym (first.same told)) (same_refl (unnamed old.world r) old.world)

module _ (s0 s1 s2 : Sight) (r : Rec) (actions : List Action) (is : IsRecord r) (reads : Reads {T = List Action} (λ w a. IsSweepOf w r a) s0 (Ok actions) s1) where
  on : IsTrue s0.told → IsTrue s1.told
  on told = subst (λ (b : Bool). IsTrue b) (sym reads.keeps.told) told

  -- whatever the sweep itself answers
  module _ (result : Result (Unit {0}) Part) (c : Steps {T = Unit {0}} s1 actions result s2) (told : IsTrue s0.told) where
    only : AllTouchOnly (unnamed s0.world r) actions
    only = sweep_only s0.world r actions is (reads.finds told)

    named_at : SameBut (unnamed s0.world r) s0.world s2.world
    named_at = subst (λ (w : World). SameBut (unnamed s0.world r) w s2.world) (reads.same told) (world_same (unnamed s0.world r) s1.world s2.world actions only (c.world (on told)))

    -- before it and within it
    within : (P : World → Type 0) → ((image : World) → Leaves s0.world image → P image) → ((image : World) → PlanImage s0.world actions image → P image) → LeavesOnly s0 s2 P
    within P before during =
        joins s0 s1 s2 P (weaker s0 s1 (Leaves s0.world) P before (reads.crash told))
        (weaker s1 s2 (PlanImage s1.world actions) P (λ image left. during image (subst (λ (w : World). PlanImage w actions image) (reads.same told) left)) (c.crash (on told)))

    cut_at : LeavesOnly s0 s2 (IsSweepImage s0.world r)
    cut_at = within (IsSweepImage s0.world r) (λ image left. inl left) (λ image left. inr (actions, reads.finds told, left))

    images_at : LeavesOnly s0 s2 (LeavesBut (unnamed s0.world r) s0.world)
    images_at = within (LeavesBut (unnamed s0.world r) s0.world)
        (λ image left. (s0.world, same_refl (unnamed s0.world r) s0.world, left)) (λ image left. plan_but (unnamed s0.world r) s0.world actions image only left)

    crash_at : (s : Settled) (v : Vault) → s.rec ≡ r → StandsDurably s0.world s v → LeavesOnly s0 s2 (λ image. StandsDurably image s v)
    crash_at s v its was = weaker s0 s2 (LeavesBut (unnamed s0.world r) s0.world) (λ image. StandsDurably image s v) (λ image left. but_left s0.world image r s v its was left) images_at

  pub all_swept : Steps {T = Unit {0}} s1 actions (Ok tt) s2 → Sweeps {T = Unit {0}} s0 r (Ok tt) s2
  all_swept c = record {
    keeps = record {
      told = c.keeps.told ∙ reads.keeps.told;
      never_fails = c.keeps.never_fails ∙ reads.keeps.never_fails;
      slots = c.keeps.slots ∙ reads.keeps.slots;
      later = λ p. subst (λ (f : Part → ℕ). f p ≤ s2.faults p) reads.keeps.quiet (c.keeps.later p);
      quiet = c.keeps.quiet ∙ reads.keeps.quiet;
      other = λ e of apart. absurd (cc);
      cause = λ p of. absurd (cc);
    };
    lacking = λ told of. absurd (cc);
    swept = λ told. record { actions = actions; sweep = reads.finds told; is = after_at told };
    bare = λ told start strange.
        subst (λ (w : World). IsBare start w r []) (sym (after_at told)) (swept_bare s0.world r actions is (reads.finds told) start strange);
    cut = λ told. cut_at (Ok tt) c told;
    named = λ told. named_at (Ok tt) c told;
    images = λ told. images_at (Ok tt) c told;
    rest = λ told. but_rest (unnamed s0.world r) s0.world s2.world (named_at (Ok tt) c told);
    ready = λ told. but_ready s0.world s2.world r (named_at (Ok tt) c told);
    books = λ told. but_books s0.world s2.world r (named_at (Ok tt) c told);
    stands = λ told. but_stands s0.world s2.world r (named_at (Ok tt) c told);
    crash = λ told. crash_at (Ok tt) c told;
  }
    where
      after_at : IsTrue s0.told → s2.world ≡ after_all s0.world actions
      after_at told = c.did.world (on told) ∙ ap (λ (w : World). after_all w actions) (reads.same told)

  pub broken_off : (part : Part) → Steps {T = Unit {0}} s1 actions (Err part) s2 → Sweeps {T = Unit {0}} s0 r (Err (Failed part)) s2
  broken_off part c = record {
    keeps = record {
      told = c.keeps.told ∙ reads.keeps.told;
      never_fails = c.keeps.never_fails ∙ reads.keeps.never_fails;
      slots = c.keeps.slots ∙ reads.keeps.slots;
      later = λ p. subst (λ (f : Part → ℕ). f p ≤ s2.faults p) reads.keeps.quiet (c.keeps.later p);
      quiet = tt;
      other = λ e of apart. absurd (apart part (sym (same_fault part e of)));
      cause = λ p of. subst (λ (f : Part → ℕ). Rose (f p) (s2.faults p)) reads.keeps.quiet (c.keeps.cause p (ap (λ (q : Part). Err q) (same_part part p of)));
    };
    lacking = λ told of. absurd (cc);
    swept = λ told. tt;
    bare = λ told start strange. tt;
    cut = λ told. cut_at (Err part) c told;
    named = λ told. named_at (Err part) c told;
    images = λ told. images_at (Err part) c told;
    rest = λ told. but_rest (unnamed s0.world r) s0.world s2.world (named_at (Err part) c told);
    ready = λ told. but_ready s0.world s2.world r (named_at (Err part) c told);
    books = λ told. but_books s0.world s2.world r (named_at (Err part) c told);
    stands = λ told. but_stands s0.world s2.world r (named_at (Err part) c told);
    crash = λ told. crash_at (Err part) c told;
  }
