-- Loading, from its steps.
use Rattle.std.proofs.Common.{◌≡◌, ◌≤◌, ℕ, List, Result, Ok, Err, refl, sym, ◌∙◌, ap, subst}
use Rattle.ls_formats.specs.declared.side.Side.TheVariants.{First, Second}
use Rattle.ls_formats.specs.PartNames.{settings_text}
use Rattle.ls_naming.specs.Current.{Settled, Foreign as ForeignAt, settings_of, current}
use Rattle.ls_board.specs.declared.action.BoardFault.{BoardFault}
use Rattle.ls_board.specs.declared.action.BoardFault.TheVariants.{Failed, Memory as Lacking}
use Rattle.ls_board.specs.declared.action.Part.{Part}
use Rattle.ls_board.specs.declared.world.World.{World}
use Rattle.ls_board.specs.Acts.{Sight, Rose}
use Rattle.ls_board.specs.Effect.{file_at}
use Rattle.ls_board.specs.Images.{Leaves}
use Rattle.ls_board.specs.Reach.{SameBut}
use Rattle.ls_board.specs.Runs.{LeavesOnly}
use Rattle.ls_board.proofs.FrameLemmas.{same_refl}
use Rattle.ls_board.proofs.RunLemmas.{weaker, joins}
use Rattle.ls_settings.specs.declared.files.Pair.{Pair}
use Rattle.ls_settings.specs.declared.fault.OpenRefusal.{OpenRefusal}
use Rattle.ls_settings.specs.declared.fault.OpenRefusal.TheVariants.{Foreign}
use Rattle.ls_settings.specs.Refusals.{refusal_of}
use Rattle.ls_settings.specs.Loaded.{Loaded, AreUntouched, settings_reach}
use Rattle.ls_settings.specs.FileReading.{TellsForeign}
use Rattle.ls_board.specs.Keeping.{Keeps}
use Rattle.ls_settings.specs.Loading.{ReadsFiles, IsNotForeign, IsLoadImage, AreLoaded, MakesFiles, Loads}
use Rattle.ls_settings.proofs.MakeLemmas.{same_image}

-- ---- faults

-- what a later call keeps, behind one that was answered
pub keeps_after : {T U V E F : Type 0} (one : Part → F) (fault : Part → E) (old mid new : Sight) (v : T) → Keeps {T = T} {E = F} one old mid (Ok v) → (e : E) → Keeps {T = U} {E = E} fault mid new (Err e) → Keeps {T = V} {E = E} fault old new (Err e)
keeps_after {E = E} one fault old mid new v first e then = record {
  told = then.told ∙ first.told;
  never_fails = then.never_fails ∙ first.never_fails;
  slots = then.slots ∙ first.slots;
  later = λ p. subst (λ (f : Part → ℕ). f p ≤ new.faults p) first.quiet (then.later p);
  quiet = tt;
  other = λ x is no. then.other e refl (λ p same. no p (sym (err_same is) ∙ same)) ∙ first.quiet;
  cause = λ p is. subst (λ (f : Part → ℕ). Rose (f p) (new.faults p)) first.quiet (then.cause p (λ i. Err (err_same is i)));
}
  where
    err_same : {W : Type 0} {x y : E} → ◌≡◌ {A = Result W E} (Err x) (Err y) → x ≡ y
    err_same same = cc

-- what two calls keep that were both answered
pub keeps_both : {T U V E F : Type 0} (one : Part → F) (fault : Part → E) (old mid new : Sight) (v : T) → Keeps {T = T} {E = F} one old mid (Ok v) → (u : U) → Keeps {T = U} {E = E} fault mid new (Ok u) → (x : V) → Keeps {T = V} {E = E} fault old new (Ok x)
keeps_both one fault old mid new v first u then x = record {
  told = then.told ∙ first.told;
  never_fails = then.never_fails ∙ first.never_fails;
  slots = then.slots ∙ first.slots;
  later = λ p. subst (λ (f : Part → ℕ). f p ≤ new.faults p) first.quiet (then.later p);
  quiet = then.quiet ∙ first.quiet;
  other = λ e is no. then.quiet ∙ first.quiet;
  cause = λ p is. absurd (cc);
}

-- ---- the steps

refused_same : (x y : OpenRefusal) → ◌≡◌ {A = Result Loaded OpenRefusal} (Err x) (Err y) → x ≡ y
refused_same x y e = cc

not_foreign : (e : OpenRefusal) (name : List ℕ) (at : ℕ) → IsNotForeign e → e ≡ Foreign name at → ⊥
not_foreign e name at other is = subst IsNotForeign is other

refusal_other : (fault : BoardFault) → IsNotForeign (refusal_of fault)
refusal_other (Failed part) = tt
refusal_other Lacking = tt

-- the files weren't read
pub unread : (old new : Sight) (fault : BoardFault) → ReadsFiles old (Err fault) new → Loads old (Err (refusal_of fault)) new
unread old new fault reads = record {
  loaded = tt;
  foreign = λ name at is. absurd (not_foreign (refusal_of fault) name at (refusal_other fault) (refused_same _ _ is));
  but = subst (SameBut settings_reach old.world) (sym reads.same) (same_refl settings_reach old.world);
  crash = λ still. weaker old new (Leaves old.world) (IsLoadImage old.world) (λ image left. same_image old.world image still left) reads.crash;
}

module _ (old mid : Sight) (files : Pair) (reads : ReadsFiles old (Ok files) mid) where
  before : current (file_at old.world) ≡ settings_of files.first files.second
  before = λ i. settings_of (sym reads.first i) (sym reads.second i)

  crash : AreUntouched old.world → LeavesOnly old mid (IsLoadImage old.world)
  crash still = weaker old mid (Leaves old.world) (IsLoadImage old.world) (λ image left. same_image old.world image still left) reads.crash

  pub first_is : files.first ≡ file_at mid.world (settings_text First)
  first_is = reads.first ∙ ap (λ (w : World). file_at w (settings_text First)) (sym reads.same)

  pub second_is : files.second ≡ file_at mid.world (settings_text Second)
  second_is = reads.second ∙ ap (λ (w : World). file_at w (settings_text Second)) (sym reads.same)

  told_at : (says : Result Settled ForeignAt) (e : OpenRefusal) (name : List ℕ) (at : ℕ) → TellsForeign says e → e ≡ Foreign name at → says ≡ Err (record { name = name; at = at })
  told_at says e name at tells is = subst (TellsForeign says) is tells

  -- the current file is at fault, or memory ran out
  pub refused : (e : OpenRefusal) → TellsForeign (settings_of files.first files.second) e → Loads old (Err e) mid
  refused e tells = record {
    loaded = tt;
    foreign = λ name at is. (before ∙ told_at (settings_of files.first files.second) e name at tells (refused_same _ _ is), reads.same);
    but = subst (SameBut settings_reach old.world) (sym reads.same) (same_refl settings_reach old.world);
    crash = crash;
  }

  module _ (new : Sight) (s : Loaded) where
    joined : AreUntouched old.world → (AreUntouched mid.world → LeavesOnly mid new (IsLoadImage mid.world)) → LeavesOnly old new (IsLoadImage old.world)
    joined still then = joins old mid new (IsLoadImage old.world) (crash still)
        (subst (λ (w : World). LeavesOnly mid new (IsLoadImage w)) reads.same (then (subst AreUntouched (sym reads.same) still)))

    -- the files that had to be made weren't
    pub unmade : {T : Type 0} (e : OpenRefusal) → IsNotForeign e → MakesFiles mid s {T = T} {E = OpenRefusal} (Err e) new → Loads old (Err e) new
    unmade e other makes = record {
      loaded = tt;
      foreign = λ name at is. absurd (not_foreign e name at other (refused_same _ _ is));
      but = subst (λ (w : World). SameBut settings_reach w new.world) reads.same makes.but;
      crash = λ still. joined still makes.crash;
    }

    pub are_loaded : {T : Type 0} (v : T) → MakesFiles mid s {T = T} {E = OpenRefusal} (Ok v) new → Loads old (Ok s) new
    are_loaded v makes = record {
      loaded = subst (λ (w : World). AreLoaded w s new.world) reads.same makes.made;
      foreign = λ name at is. absurd (let no : ◌≡◌ {A = Result Loaded OpenRefusal} (Ok s) (Err (Foreign name at)) = is in cc);
      but = subst (λ (w : World). SameBut settings_reach w new.world) reads.same makes.but;
      crash = λ still. joined still makes.crash;
    }
