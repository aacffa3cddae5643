-- Opening, from its parts.
use Rattle.std.proofs.Common.{◌≡◌, ◌≢◌, ⊎_elim, inl, inr, ℕ, Bool, true, false, IsTrue, List, [], ◌∷◌, ◌++◌, length, Option, None, Some, refl, sym, ◌∙◌, ap, subst, arith, append_assoc}
use Rattle.std.specs.Prelude.{Result, Ok, Err, OnOk, map, is_some}
use Rattle.std.specs.List.{Contains, AllZip}
use Rattle.std.specs.Option.{option_and_then}
use Rattle.std.proofs.lemmas.List.{append_cancel_right}
use Rattle.ls_board.specs.declared.action.Action.{Action}
use Rattle.ls_board.specs.declared.action.Action.TheVariants.{Sync}
use Rattle.ls_board.specs.declared.action.BoardFault.{BoardFault}
use Rattle.ls_board.specs.declared.action.BoardFault.TheVariants.{Failed, Memory as NoMemory}
use Rattle.ls_board.specs.declared.action.Part.{Part}
use Rattle.ls_board.specs.declared.world.World.{World}
use Rattle.ls_board.specs.Acts.{Sight, Rose}
use Rattle.ls_board.specs.Effect.{file_at}
use Rattle.ls_board.specs.Images.{Leaves}
use Rattle.ls_board.specs.Keeping.{Keeps}
use Rattle.ls_board.specs.Reach.{Reach, SameBut, LeavesBut}
use Rattle.ls_board.specs.Rest.{SameRest}
use Rattle.ls_board.specs.Runs.{LeavesOnly, AllImages}
use Rattle.ls_board.proofs.RunLemmas.{joins, weaker}
use Rattle.ls_formats.specs.declared.part.FilePart.TheVariants.{Weaver}
use Rattle.ls_formats.specs.declared.parts.Parts.{Parts}
use Rattle.ls_formats.specs.PartNames.{PartOf, part_name_text}
use Rattle.ls_naming.specs.Current.{Settled, Foreign, current}
use Rattle.ls_naming.specs.Named.{row_files}
use Rattle.ls_record.specs.Rows.{Rec, IsRecord}
use Rattle.ls_sealing.specs.Protectors.{Protector, has_weaver, has_part, held_number, slot_number, where_it_has}
use Rattle.ls_serving.specs.Calls.{IsSilent}
use Rattle.ls_serving.specs.Settled.{LeavesOnlySettled}
use Rattle.ls_settings.specs.declared.fault.OpenRefusal.{OpenRefusal}
use Rattle.ls_settings.specs.declared.fault.OpenRefusal.TheVariants.{Foreign as IsForeign, Fault}
use Rattle.ls_settings.specs.Loaded.{Loaded, IsReady, settings_reach}
use Rattle.ls_settings.specs.Loading.{AreLoaded, IsLoadImage}
use Rattle.ls_settings.specs.Refusals.{refusal_of}
use Rattle.ls_standing.specs.Bare.{IsBare}
use Rattle.ls_standing.specs.Books.{books}
use Rattle.ls_standing.specs.NamedProtectors.{row_protectors, named_protectors, NamesProtector}
use Rattle.ls_standing.specs.Opening.{first_foreign}
use Rattle.ls_standing.specs.Quiet.{unnamed}
use Rattle.ls_standing.specs.Same.{SameNamed}
use Rattle.ls_standing.specs.Standing.{StandsBy, StandsDurably, NamedAreUntouched}
use Rattle.ls_standing.proofs.BareLemmas.{strange_kept}
use Rattle.ls_standing.proofs.ContainsLemmas.{none_in, at_first, behind_first, first_or_behind, in_map, of_map, of_flat, in_flat}
use Rattle.ls_standing.proofs.FrameLemmas.{foreign_same, holds_same, untouched_same, weaver_same}
use Rattle.ls_standing.proofs.LoadingLemmas.{load_cut, load_says, load_done, load_ready}
use Rattle.ls_standing.proofs.ProtectorLemmas.{in_row, protector_files}
use Rattle.ls_standing.proofs.QuietLemmas.{durably_left}
use Rattle.ls_standing.proofs.SameLemmas.{named_but, named_but_settings}
use Rattle.ls_vault.specs.declared.vault.Vault.{Vault}
use Rattle.ls_vault.specs.declared.vault.Books.{Books}
use Rattle.ls_sweep.specs.Swept.{Sweeps}
use Rattle.ls_turn.specs.declared.session.Session.{Session}
use Rattle.ls_turn.specs.Agreeing.{Agrees, AreNamed, parts_in}
use Rattle.ls_turn.specs.Fresh.{IsFresh, opened_state}
use Rattle.ls_turn.specs.Serving.{CanServe, IsKeptAs, KeepOnce, KeepApart}
use Rattle.ls_turn.proofs.FreshLemmas.{none_left, none_retired}
use Rattle.ls_turn.proofs.WaitLemmas.{none_wait}
use Rattle.ls_protector.specs.Parts.{parts_of}
use Rattle.ls_session.specs.Checking.{Checks}
use Rattle.ls_session.specs.Opening.{Begins, Opens, IsFirstFault, IsStillBy, BeginsWithSync, synced_world}
use Rattle.ls_session.proofs.KeepLemmas.{no_weaver, its_file, has_place}
use Rattle.ls_session.proofs.OnceLemmas.{kept_once, kept_apart}

-- ---- answers of calls in a row

err_as : {A B : Type 0} {old new : Sight} (e : OpenRefusal) → Keeps {T = A} {E = OpenRefusal} Fault old new (Err e) → Keeps {T = B} {E = OpenRefusal} Fault old new (Err e)
err_as {A} {B} e keeps = record {
  told = keeps.told;
  never_fails = keeps.never_fails;
  slots = keeps.slots;
  later = keeps.later;
  quiet = tt;
  other = λ f is apart. keeps.other f (again f is) apart;
  cause = λ p is. keeps.cause p (again (Fault p) is);
}
  where
    inside : (f : OpenRefusal) → ◌≡◌ {A = Result B OpenRefusal} (Err e) (Err f) → e ≡ f
    inside f is = cc

    again : (f : OpenRefusal) → ◌≡◌ {A = Result B OpenRefusal} (Err e) (Err f) → ◌≡◌ {A = Result A OpenRefusal} (Err e) (Err f)
    again f is = ap (λ (x : OpenRefusal). Err x) (inside f is)

-- one behind another that ended well
behind : {A B : Type 0} (old mid new : Sight) (a : A) (result : Result B OpenRefusal) → Keeps {T = A} {E = OpenRefusal} Fault old mid (Ok a) → Keeps {T = B} {E = OpenRefusal} Fault mid new result → Keeps {T = B} {E = OpenRefusal} Fault old new result
behind old mid new a result first second = record {
  told = second.told ∙ first.told;
  never_fails = second.never_fails ∙ first.never_fails;
  slots = second.slots ∙ first.slots;
  later = λ p. omega (arith, second.later p, first.later p);
  quiet = subst (λ (f : Part → ℕ). OnOk result (new.faults ≡ f)) first.quiet second.quiet;
  other = λ e is apart. second.other e is apart ∙ first.quiet;
  cause = λ p is. subst (λ (f : Part → ℕ). Rose (f p) (new.faults p)) first.quiet (second.cause p is);
}

-- the fault of a board, as a refusal
fault_as : {A B : Type 0} (old new : Sight) (b : BoardFault) → Keeps {T = A} {E = BoardFault} Failed old new (Err b) → Keeps {T = B} {E = OpenRefusal} Fault old new (Err (refusal_of b))
fault_as {A} {B} old new b keeps = record {
  told = keeps.told;
  never_fails = keeps.never_fails;
  slots = keeps.slots;
  later = keeps.later;
  quiet = tt;
  other = λ e is apart. by b keeps e is apart;
  cause = λ p is. because b keeps p is;
}
  where
    inside : (e f : OpenRefusal) → ◌≡◌ {A = Result B OpenRefusal} (Err e) (Err f) → e ≡ f
    inside e f is = cc

    by : (b : BoardFault) → Keeps {T = A} {E = BoardFault} Failed old new (Err b) → (e : OpenRefusal) → ◌≡◌ {A = Result B OpenRefusal} (Err (refusal_of b)) (Err e) → ((p : Part) → e ≢ Fault p) → new.faults ≡ old.faults
    by (Failed p) keeps e is apart = absurd (apart p (sym (inside (Fault p) e is)))
    by NoMemory keeps e is apart = keeps.other NoMemory refl (λ p nay. cc)

    because : (b : BoardFault) → Keeps {T = A} {E = BoardFault} Failed old new (Err b) → (p : Part) → ◌≡◌ {A = Result B OpenRefusal} (Err (refusal_of b)) (Err (Fault p)) → Rose (old.faults p) (new.faults p)
    because (Failed q) keeps p is = subst (λ (x : Part). Rose (old.faults x) (new.faults x)) (same is) (keeps.cause q refl)
      where
        same : ◌≡◌ {A = Result B OpenRefusal} (Err (Fault q)) (Err (Fault p)) → q ≡ p
        same e = cc
    because NoMemory keeps p is = absurd (cc)

-- another value
ok_as : {A B E : Type 0} {f : Part → E} (old new : Sight) (a : A) (b : B) → Keeps {T = A} {E = E} f old new (Ok a) → Keeps {T = B} {E = OpenRefusal} Fault old new (Ok b)
ok_as old new a b keeps = record {
  told = keeps.told;
  never_fails = keeps.never_fails;
  slots = keeps.slots;
  later = keeps.later;
  quiet = keeps.quiet;
  other = λ e is apart. absurd (cc);
  cause = λ p is. absurd (cc);
}

all_images : {P Q : World → Type 0} (calls : List (World × Option Action)) → ((image : World) → P image → Q image) → AllImages P calls → AllImages Q calls
all_images [] on all = tt
all_images (call ∷ calls) on all = (λ image left. on image (all.0 image left), λ image left. on image (all.1 image left), all_images calls on all.2)

rest_but : (reach : Reach) (old new : World) → SameBut reach old new → SameRest old new
rest_but reach old new same = record { is = same.rest; count = same.count }

rest_trans : (u v w : World) → SameRest u v → SameRest v w → SameRest u w
rest_trans u v w first second = record {
  is = second.is ∙ ap (λ (x : World). record x { files = w.files; touched = w.touched; slots = w.slots; gk = w.gk; keys = w.keys; cell = w.cell }) first.is;
  count = second.count ∙ first.count;
}

still_told : {A E : Type 0} {f : Part → E} {r : Result A E} (old new : Sight) → Keeps {T = A} {E = E} f old new r → IsTrue old.told → IsTrue new.told
still_told old new keeps told = subst (λ (b : Bool). IsTrue b) (sym keeps.told) told

-- ---- the vault behind the sync

synced_stands : (w : World) (s : Settled) (v : Vault) → StandsBy w s v → StandsDurably (synced_world w) s v
synced_stands w s v stands = record {
  stands = record {
    settings = stands.settings;
    target = stands.target;
    holds = holds_same s.rec w (synced_world w) (record {
      count = refl;
      file = λ name named. refl;
      touch = λ name named untouched. refl;
      slot = λ slot named. refl;
      counter = λ sid named. refl;
      device = refl;
      key = λ alias named. refl;
      cell = λ armed is. refl;
    }) v stands.holds;
  };
  settings = λ side. refl;
  named = λ name named. refl;
}

-- ---- nothing is said or heard

silent_trans : (u v w : World) → IsSilent u v → IsSilent v w → IsSilent u w
silent_trans u v w first second = record { said = second.said ∙ first.said; input = second.input ∙ first.input }

silent_but : (reach : Reach) (w v : World) → SameBut reach w v → IsSilent w v
silent_but reach w v but = record { said = ap (λ (x : World). x.said) but.rest; input = ap (λ (x : World). x.input) but.rest }

silent_left : (w image : World) → Leaves w image → IsSilent w image
silent_left w image left = record { said = ap (λ (x : World). x.said) left.rest; input = ap (λ (x : World). x.input) left.rest }

silent_left_but : (reach : Reach) (w image : World) → LeavesBut reach w image → IsSilent w image
silent_left_but reach w image (v, but, left) = silent_trans w v image (silent_but reach w v but) (silent_left v image left)

load_left : (w image : World) (s : Settled) (v : Vault) → StandsBy w s v → IsLoadImage (synced_world w) image → IsStillBy w s v image
load_left w image s v stands is =
    let silent = silent_left_but settings_reach (synced_world w) image is.rest in
    record {
      silent = record { said = silent.said; input = silent.input };
      stands = load_cut (synced_world w) image s v (synced_stands w s v stands) is;
    }

both_images : {P Q R : World → Type 0} (calls : List (World × Option Action)) → ((image : World) → P image → Q image → R image) → AllImages P calls → AllImages Q calls → AllImages R calls
both_images [] on first second = tt
both_images (call ∷ calls) on first second = (
  λ image left. on image (first.0 image left) (second.0 image left),
  λ image left. on image (first.1 image left) (second.1 image left),
  both_images calls on first.2 second.2,
)

-- what both say of a crash
both_left : {P Q R : World → Type 0} (old new : Sight) → ((image : World) → P image → Q image → R image) → LeavesOnly old new P → LeavesOnly old new Q → LeavesOnly old new R
both_left {P} {Q} {R} old new on first second = record {
  calls = first.calls;
  joined = first.joined;
  each = both_images first.calls on first.each
      (subst (AllImages Q) (append_cancel_right second.calls first.calls old.past (sym second.joined ∙ first.joined)) second.each);
  now = λ image left. on image (first.now image left) (second.now image left);
}

-- what is loaded, where the beginning ended well
module _ (old mid : Sight) (l : Loaded) (begins : Begins old (Ok l) mid) (told : IsTrue old.told) where
  are : AreLoaded (synced_world old.world) l mid.world
  are = (begins.loaded told).0

  but : SameBut settings_reach (synced_world old.world) mid.world
  but = (begins.loaded told).1

  pub is_current : current (file_at old.world) ≡ Ok l.settled
  is_current = are.found

  pub ready : IsReady mid.world l
  ready = load_ready (synced_world old.world) mid.world l (λ side. refl) are

  pub untouched : (r : Rec) → NamedAreUntouched mid.world r
  untouched r = untouched_same r (synced_world old.world) mid.world (named_but_settings (synced_world old.world) mid.world r but) (λ name named. refl)

  pub named_stays : (r : Rec) → SameNamed r old.world mid.world
  named_stays r = named_but_settings old.world mid.world r (begins.but told)

  pub foreign_stays : first_foreign mid.world l.settled.rec ≡ first_foreign old.world l.settled.rec
  foreign_stays = foreign_same l.settled.rec old.world mid.world (named_stays l.settled.rec)

  module _ (s : Settled) (v : Vault) (stands : StandsBy old.world s v) where
    pub says : l.settled ≡ s
    says = load_says (synced_world old.world) mid.world s v l (synced_stands old.world s v stands) are

    pub stands_there : StandsDurably mid.world s v
    stands_there = load_done (synced_world old.world) mid.world s v l (synced_stands old.world s v stands) are but

    -- what a crash leaves of the beginning, and of what follows
    pub settled_behind : (new : Sight) → LeavesOnly mid new (IsStillBy old.world s v) → LeavesOnlySettled old new (IsStillBy old.world s v)
    settled_behind new tail =
        let b = begins.begun told in
        let from : Sight = record old { past = (old.world, Some Sync) ∷ old.past } in
        let first : LeavesOnly from mid (IsLoadImage (synced_world old.world)) = record { calls = b.0; joined = b.1; each = b.2; now = b.3 } in
        let whole = joins from mid new (IsStillBy old.world s v)
        (weaker from mid (IsLoadImage (synced_world old.world)) (IsStillBy old.world s v) (λ image left. load_left old.world image s v stands left) first) tail in
        record { calls = whole.calls; joined = inr whole.joined; each = whole.each; now = λ settled. whole.now }

    -- and where no file was touched before
    pub left_behind : (new : Sight) → old.world.touched ≡ [] → LeavesOnly mid new (IsStillBy old.world s v) → LeavesOnly old new (IsStillBy old.world s v)
    left_behind new none tail = joins old mid new (IsStillBy old.world s v)
        (weaker old mid (IsLoadImage (synced_world old.world)) (IsStillBy old.world s v) (λ image left. load_left old.world image s v stands left) (begins.whole told none)) tail

    pub silent_there : IsSilent old.world mid.world
    silent_there =
        let silent = silent_but settings_reach (synced_world old.world) mid.world but in
        record { said = silent.said; input = silent.input }

    -- a look
    pub looked : (new : Sight) → LeavesOnly mid new (Leaves mid.world) → LeavesOnly mid new (IsStillBy old.world s v)
    looked new leaves = weaker mid new (Leaves mid.world) (IsStillBy old.world s v)
        (λ image left. record { silent = silent_trans old.world mid.world image silent_there (silent_left mid.world image left); stands = durably_left mid.world image s v stands_there left }) leaves

-- ---- refusals

-- the beginning is refused
pub begin_refused : (old new : Sight) (boot : ℕ) (e : OpenRefusal) → Begins old (Err e) new → Opens old boot (Err e) new
begin_refused old new boot e begins = record {
  keeps = err_as {A = Loaded} {B = Session} e begins.keeps;
  fresh = tt;
  can = tt;
  rest = λ told. rest_but settings_reach old.world new.world (begins.but told);
  begun = λ told. tt;
  foreign = λ told name at is. inl (begins.foreign told name at (again is));
  sound = λ told f fault x is. absurd (cc);
  agrees = λ told s v stands. tt;
  bare = λ told. tt;
  crash = λ told s v stands.
      let left = begins.settled told in
      record {
        calls = left.calls;
        joined = left.joined;
        each = all_images left.calls (λ image is. load_left old.world image s v stands is) left.each;
        now = λ settled image leaves. load_left old.world image s v stands (left.now settled image leaves);
      };
  left = λ told none s v stands. weaker old new (IsLoadImage (synced_world old.world)) (IsStillBy old.world s v) (λ image is. load_left old.world image s v stands is) (begins.whole told none);
}
  where
    inside : (f : OpenRefusal) → ◌≡◌ {A = Result Session OpenRefusal} (Err e) (Err f) → e ≡ f
    inside f is = cc

    again : {f : OpenRefusal} → ◌≡◌ {A = Result Session OpenRefusal} (Err e) (Err f) → ◌≡◌ {A = Result Loaded OpenRefusal} (Err e) (Err f)
    again {f} is = ap (λ (x : OpenRefusal). Err x) (inside f is)

-- a file is at fault
module _ (old mid new : Sight) (boot : ℕ) (l : Loaded) (begins : Begins old (Ok l) mid) where
  pub known_refused : {T : Type 0} (r : Rec) (e : OpenRefusal) → r ≡ l.settled.rec → Checks {T = T} r mid (Err e) new → Opens old boot (Err e) new
  known_refused {T} r e same checks = record {
    keeps = behind {A = Loaded} {B = Session} old mid new l (Err e) begins.keeps (err_as {A = T} {B = Session} e checks.keeps);
    fresh = tt;
    can = tt;
    rest = λ told. subst (SameRest old.world) (sym (checks.same (on told))) (rest_but settings_reach old.world mid.world (begins.but told));
    begun = λ told. tt;
    foreign = λ told name at is. inr (
      l.settled,
      is_current old mid l begins told,
      sym (foreign_stays old mid l begins told) ∙ ap (first_foreign mid.world) (sym same) ∙ checks.foreign (on told) name at (again is),
    );
    sound = λ told f fault x is. absurd (cc);
    agrees = λ told s v stands. tt;
    bare = λ told. tt;
    crash = λ told s v stands. settled_behind old mid l begins told s v stands new (looked old mid l begins told s v stands new (checks.crash (on told)));
    left = λ told none s v stands. left_behind old mid l begins told s v stands new none (looked old mid l begins told s v stands new (checks.crash (on told)));
  }
    where
      on : IsTrue old.told → IsTrue mid.told
      on told = still_told {A = Loaded} {r = Ok l} old mid begins.keeps told

      inside : (f : OpenRefusal) → ◌≡◌ {A = Result Session OpenRefusal} (Err e) (Err f) → e ≡ f
      inside f is = cc

      again : {f : OpenRefusal} → ◌≡◌ {A = Result Session OpenRefusal} (Err e) (Err f) → ◌≡◌ {A = Result T OpenRefusal} (Err e) (Err f)
      again {f} is = ap (λ (x : OpenRefusal). Err x) (inside f is)

-- ---- behind the checks

module _ (old mid far new : Sight) (boot : ℕ) (l : Loaded) (begins : Begins old (Ok l) mid) (r : Rec) (same : r ≡ l.settled.rec) {A B : Type 0} (named : A)
    (checks : Checks {T = A} r mid (Ok named) far) (swept : Result B BoardFault) (sweeps : Sweeps {T = B} far l.settled.rec swept new) where
  at_mid : IsTrue old.told → IsTrue mid.told
  at_mid told = still_told {A = Loaded} {r = Ok l} old mid begins.keeps told

  at_far : IsTrue old.told → IsTrue far.told
  at_far told = still_told {A = A} {r = Ok named} mid far checks.keeps (at_mid told)

  same_world : (told : IsTrue old.told) → far.world ≡ mid.world
  same_world told = checks.same (at_mid told)

  all_rest : (told : IsTrue old.told) → SameRest old.world new.world
  all_rest told = rest_trans old.world far.world new.world (subst (SameRest old.world) (sym (same_world told)) (rest_but settings_reach old.world mid.world (begins.but told))) (sweeps.rest (at_far told))

  -- the calls behind the sync
  all_begun : (told : IsTrue old.told) → BeginsWithSync old new
  all_begun told =
      let first = begins.begun told in
      let second = checks.crash (at_mid told) in
      let third = sweeps.cut (at_far told) in
      let after : List (World × Option Action) = (old.world, Some Sync) ∷ old.past in (
        third.calls ++ (second.calls ++ first.0),
        third.joined ∙ ap (λ (past : List (World × Option Action)). third.calls ++ past) (second.joined ∙ ap (λ (past : List (World × Option Action)). second.calls ++ past) first.1
            ∙ sym (append_assoc second.calls first.0 after)) ∙ sym (append_assoc third.calls (second.calls ++ first.0) after),
      )

  no_fault : (told : IsTrue old.told) → first_foreign old.world l.settled.rec ≡ None
  no_fault told = sym (foreign_stays old mid l begins told) ∙ ap (first_foreign mid.world) (sym same) ∙ checks.none (at_mid told)

  module _ (told : IsTrue old.told) (s : Settled) (v : Vault) (stands : StandsBy old.world s v) where
    is_rec : s.rec ≡ l.settled.rec
    is_rec = ap (λ (x : Settled). x.rec) (sym (says old mid l begins told s v stands))

    stands_far : StandsDurably far.world s v
    stands_far = subst (λ (w : World). StandsDurably w s v) (sym (same_world told)) (stands_there old mid l begins told s v stands)

    swept_left : LeavesOnly far new (IsStillBy old.world s v)
    swept_left = both_left far new
        (λ image holds but. record {
          silent = silent_trans old.world mid.world image (silent_there old mid l begins told s v stands)
              (subst (λ (w : World). IsSilent w image) (same_world told) (silent_left_but (unnamed far.world l.settled.rec) far.world image but));
          stands = holds;
        })
        (sweeps.crash (at_far told) s v is_rec stands_far) (sweeps.images (at_far told))

    behind_left : LeavesOnly mid new (IsStillBy old.world s v)
    behind_left = joins mid far new (IsStillBy old.world s v) (looked old mid l begins told s v stands far (checks.crash (at_mid told))) swept_left

    all_crash : LeavesOnlySettled old new (IsStillBy old.world s v)
    all_crash = settled_behind old mid l begins told s v stands new behind_left

    all_left : old.world.touched ≡ [] → LeavesOnly old new (IsStillBy old.world s v)
    all_left none = left_behind old mid l begins told s v stands new none behind_left

    stands_new : StandsDurably new.world s v
    stands_new = sweeps.stands (at_far told) s v is_rec stands_far

-- the sweep fails
pub sweep_refused : (old mid far new : Sight) (boot : ℕ) (l : Loaded) (begins : Begins old (Ok l) mid) (r : Rec) (same : r ≡ l.settled.rec) {A B : Type 0} (named : A)
    (checks : Checks {T = A} r mid (Ok named) far) (fault : BoardFault) (sweeps : Sweeps {T = B} far l.settled.rec (Err fault) new) → Opens old boot (Err (refusal_of fault)) new
sweep_refused old mid far new boot l begins r same {A} {B} named checks fault sweeps = record {
  keeps = behind {A = Loaded} {B = Session} old mid new l (Err (refusal_of fault)) begins.keeps
      (behind {A = A} {B = Session} mid far new named (Err (refusal_of fault)) checks.keeps (fault_as {A = B} {B = Session} far new fault sweeps.keeps));
  fresh = tt;
  can = tt;
  rest = all_rest old mid far new boot l begins r same named checks (Err fault) sweeps;
  begun = λ told. tt;
  foreign = λ told name at is. absurd (never fault name at (inside (IsForeign name at) is));
  sound = λ told f its x is. absurd (cc);
  agrees = λ told s v stands. tt;
  bare = λ told. tt;
  crash = all_crash old mid far new boot l begins r same named checks (Err fault) sweeps;
  left = λ told none s v stands. all_left old mid far new boot l begins r same named checks (Err fault) sweeps told s v stands none;
}
  where
    inside : (f : OpenRefusal) → ◌≡◌ {A = Result Session OpenRefusal} (Err (refusal_of fault)) (Err f) → refusal_of fault ≡ f
    inside f is = cc

    never : (b : BoardFault) (name : List ℕ) (at : ℕ) → refusal_of b ≡ IsForeign name at → ⊥
    never (Failed p) name at is = cc
    never NoMemory name at is = cc

-- ---- the protectors behind the sweep

-- what a world has of the protectors stays where what is named stays
module _ (r : Rec) (w mid : World) (same : SameNamed r w mid) (p : Protector) (named : NamesProtector r p) where
  abbrev name : PartOf
  name = record { user = p.user; id = p.id; part = Weaver }

  number_stays : held_number mid p ≡ held_number w p
  number_stays =
      ap (λ (b : Bool). option_and_then slot_number (where_it_has (has_part b p.purpose Weaver) (file_at mid (part_name_text name)))) (weaver_same r w mid same)
      ∙ by (has_weaver w) refl
    where
      by : (b : Bool) → has_weaver w ≡ b
          → option_and_then slot_number (where_it_has (has_part (has_weaver w) p.purpose Weaver) (file_at mid (part_name_text name))) ≡ held_number w p
      by false none = ap (λ (f : Option (List ℕ)). option_and_then slot_number f)
          (ap (λ (b : Bool). where_it_has (has_part b p.purpose Weaver) (file_at mid (part_name_text name))) none
          ∙ ap (λ (b : Bool). where_it_has b (file_at mid (part_name_text name))) (no_weaver p.purpose)
          ∙ ap (λ (b : Bool). where_it_has b (file_at w (part_name_text name))) (sym (no_weaver p.purpose))
          ∙ ap (λ (b : Bool). where_it_has (has_part b p.purpose Weaver) (file_at w (part_name_text name))) (sym none))
      by true some =
          let found = of_flat row_protectors r.users p named in
          let file : Contains (row_files (has_weaver w) r.armed found.0) name = in_row (has_weaver w) r.armed found.0 p name found.2 (subst (λ (b : Bool). Contains (protector_files b p) name) (sym some) (its_file p)) in
          ap (λ (f : Option (List ℕ)). option_and_then slot_number (where_it_has (has_part (has_weaver w) p.purpose Weaver) f))
          (same.file name (in_flat (λ row. row_files (has_weaver w) r.armed row) r.users found.0 name found.1 file))

  pub parts_stay : parts_in mid p ≡ parts_in w p
  parts_stay = ap (λ (b : Bool). parts_of b p (held_number mid p)) (weaver_same r w mid same) ∙ ap (parts_of (has_weaver w) p) number_stays

-- those that are kept, by place
zip_each : (slots : ℕ) (protectors : List Protector) (parts : List Parts) → AllZip (IsKeptAs slots) protectors parts
    → (p : Protector) → Contains protectors p → (q : Parts) × Contains parts q × IsKeptAs slots p q
zip_each slots [] parts zip p within = absurd (none_in p within)
zip_each slots (x ∷ protectors) [] zip p within = absurd (zip)
zip_each slots (x ∷ protectors) (y ∷ parts) zip p within = ⊎_elim
    (λ (e : x ≡ p). (y, at_first y parts, subst (λ (z : Protector). IsKeptAs slots z y) e zip.0))
    (λ (k : Contains protectors p). let found = zip_each slots protectors parts zip.1 p k in (found.0, behind_first y parts found.0 found.1, found.2))
    (first_or_behind x protectors p within)

zip_back : (slots : ℕ) (protectors : List Protector) (parts : List Parts) → AllZip (IsKeptAs slots) protectors parts
    → (q : Parts) → Contains parts q → (p : Protector) × Contains protectors p × IsKeptAs slots p q
zip_back slots [] [] zip q within = absurd (none_in q within)
zip_back slots [] (y ∷ parts) zip q within = absurd (zip)
zip_back slots (x ∷ protectors) [] zip q within = absurd (zip)
zip_back slots (x ∷ protectors) (y ∷ parts) zip q within = ⊎_elim
    (λ (e : y ≡ q). (x, at_first x protectors, subst (IsKeptAs slots x) e zip.0))
    (λ (k : Contains parts q). let found = zip_back slots protectors parts zip.1 q k in (found.0, behind_first x protectors found.0 found.1, found.2))
    (first_or_behind y parts q within)

-- ---- it is open

module _ (old mid far new : Sight) (boot : ℕ) (l : Loaded) (begins : Begins old (Ok l) mid) {A B : Type 0} (named : A)
    (checks : Checks {T = A} l.settled.rec mid (Ok named) far) (done : B) (sweeps : Sweeps {T = B} far l.settled.rec (Ok done) new)
    (items : List Parts) (found : IsTrue mid.told → items ≡ map (parts_in mid.world) (named_protectors l.settled.rec)) (kept : AllZip (IsKeptAs mid.slots) (named_protectors l.settled.rec) items)
    (x : Session) (n : ℕ) (fresh : IsFresh boot n x) (slots : n ≡ new.slots) (settings : x.settings ≡ l) (its : x.named.items ≡ items) (keeps : IsRecord l.settled.rec)
    (told_slots : IsTrue new.told → new.slots ≡ length new.world.slots)
    (fresh_agrees : (w : World) (x : Session) (boot slots : ℕ) (v : Vault) → IsFresh boot slots x → length w.slots ≡ slots → IsRecord x.settings.settled.rec
    → StandsDurably w x.settings.settled v → IsReady w x.settings → AreNamed w x.settings.settled.rec x.named.items → Agrees w x (opened_state w x.settings.settled boot v)) where
  rec : Rec
  rec = l.settled.rec

  sight_keeps : Keeps {T = Session} {E = OpenRefusal} Fault old new (Ok x)
  sight_keeps = behind {A = Loaded} {B = Session} old mid new l (Ok x) begins.keeps (behind {A = A} {B = Session} mid far new named (Ok x) checks.keeps (ok_as {A = B} {B = Session} far new done x sweeps.keeps))

  was_told : IsTrue new.told → IsTrue old.told
  was_told told = subst (λ (b : Bool). IsTrue b) sight_keeps.told told

  is_mid : IsTrue old.told → IsTrue mid.told
  is_mid told = still_told {A = Loaded} {r = Ok l} old mid begins.keeps told

  is_far : IsTrue old.told → IsTrue far.told
  is_far told = still_told {A = A} {r = Ok named} mid far checks.keeps (is_mid told)

  stays : (told : IsTrue old.told) → SameNamed l.settled.rec mid.world new.world
  stays told = subst (λ (w : World). SameNamed l.settled.rec w new.world) (checks.same (is_mid told)) (named_but far.world new.world l.settled.rec (sweeps.named (is_far told)))

  ready_new : (told : IsTrue old.told) → IsReady new.world l
  ready_new told = sweeps.ready (is_far told) l (subst (λ (w : World). IsReady w l) (sym (checks.same (is_mid told))) (ready old mid l begins told))

  are_named : (told : IsTrue old.told) → AreNamed new.world l.settled.rec items
  are_named told = record {
    each = λ p within. subst (Contains items) (sym (parts_stay l.settled.rec mid.world new.world (stays told) p within))
        (subst (λ (q : List Parts). Contains q (parts_in mid.world p)) (sym (found (is_mid told))) (in_map (parts_in mid.world) (named_protectors l.settled.rec) p within));
    only = λ q within.
        let of = of_map (parts_in mid.world) (named_protectors l.settled.rec) q (subst (λ (l : List Parts). Contains l q) (found (is_mid told)) within) in
        (of.0, of.1, sym of.2 ∙ sym (parts_stay l.settled.rec mid.world new.world (stays told) of.0 of.1));
  }

  with_number : (told : IsTrue old.told) (p : Protector) → NamesProtector l.settled.rec p → (k : ℕ) → held_number new.world p ≡ Some k → Contains items (parts_of true p (Some k))
  with_number told p within k held =
      let of = of_flat row_protectors l.settled.rec.users p within in
      let none = checks.none (is_mid told) in
      let place = has_place mid.world l.settled.rec none of.0 of.1 p of.2 in
      let weaver : has_weaver new.world ≡ true =
      weaver_same l.settled.rec mid.world new.world (stays told) ∙ sym place.with_slots
      ∙ ap is_some (sym (number_stays l.settled.rec mid.world new.world (stays told) p within)) ∙ ap is_some held in
      subst (λ (o : Option ℕ). Contains items (parts_of true p o)) held
      (subst (λ (b : Bool). Contains items (parts_of b p (held_number new.world p))) weaver ((are_named told).each p within))

  at_slots : mid.slots ≡ x.slots
  at_slots = sym checks.keeps.slots ∙ sym sweeps.keeps.slots ∙ sym slots ∙ sym fresh.slots_are

  may_serve : CanServe new x
  may_serve = record {
    going = fresh.stopped;
    slots = fresh.slots_are ∙ slots;
    each = λ p within.
        let of = zip_each mid.slots (named_protectors l.settled.rec) items kept p (subst (λ (s : Loaded). NamesProtector s.settled.rec p) settings within) in
        (of.0, subst (λ (q : List Parts). Contains q of.0) (sym its) of.1, subst (λ (m : ℕ). IsKeptAs m p of.0) at_slots of.2);
    only = λ q within.
        let of = zip_back mid.slots (named_protectors l.settled.rec) items kept q (subst (λ (l : List Parts). Contains l q) its within) in
        (of.0, subst (λ (s : Loaded). NamesProtector s.settled.rec of.0) (sym settings) of.1, subst (λ (m : ℕ). IsKeptAs m of.0 q) at_slots of.2);
    once = subst KeepOnce (sym its) (kept_once mid.slots l.settled.rec keeps items kept);
    names = none_left x fresh.retired;
    ready = λ told. subst (IsReady new.world) (sym settings) (ready_new (was_told told));
    numbers = λ told p within k held. subst (λ (q : List Parts). Contains q (parts_of true p (Some k))) (sym its)
        (with_number (was_told told) p (subst (λ (s : Loaded). NamesProtector s.settled.rec p) settings within) k held);
    apart = λ told.
        let there = is_mid (was_told told) in
        subst KeepApart (sym its) (kept_apart mid.world l.settled.rec keeps (checks.none there) items (found there));
    retired = λ told. none_retired new.world x.settings.settled.rec x fresh.retired;
    waits = none_wait x.settings.settled.rec (subst (λ (s : Loaded). IsRecord s.settled.rec) (sym settings) keeps) x.pending.items fresh.pending;
  }

  pub opened : Opens old boot (Ok x) new
  opened = record {
    keeps = sight_keeps;
    fresh = subst (λ (m : ℕ). IsFresh boot m x) (slots ∙ sight_keeps.slots) fresh;
    can = may_serve;
    rest = all_rest old mid far new boot l begins l.settled.rec refl named checks (Ok done) sweeps;
    begun = all_begun old mid far new boot l begins l.settled.rec refl named checks (Ok done) sweeps;
    foreign = λ told name at is. absurd (cc);
    sound = λ told f fault y is. no_first told f fault;
    agrees = λ told s v stands.
        let says_it = says old mid l begins told s v stands in
        let stand : StandsDurably new.world x.settings.settled v = subst (λ (q : Settled). StandsDurably new.world q v) (sym says_it ∙ ap (λ (q : Loaded). q.settled) (sym settings))
        (stands_new old mid far new boot l begins l.settled.rec refl named checks (Ok done) sweeps told s v stands) in
        let agree = fresh_agrees new.world x boot n v fresh (sym (told_slots (subst (λ (b : Bool). IsTrue b) (sym sight_keeps.told) told)) ∙ sym slots) (subst (λ (q : Loaded). IsRecord q.settled.rec) (sym settings) keeps) stand
        (subst (IsReady new.world) (sym settings) (ready_new told))
        (subst (λ (q : Loaded). AreNamed new.world q.settled.rec x.named.items) (sym settings) (subst (AreNamed new.world l.settled.rec) (sym its) (are_named told))) in
        subst (λ (b : Books). Agrees new.world x (record { vault = v; books = b; session = record { boot = boot; opened = []; pending = []; prepared = false; captured = [] } })) (same_books told s says_it) agree;
    bare = λ told. subst (λ (q : Loaded). IsBare old.world new.world q.settled.rec []) (sym settings)
        (sweeps.bare (is_far told) old.world (λ m strange. ap (λ (w : World). file_at w m) (checks.same (is_mid told)) ∙ strange_kept old.world mid.world (begins.but told) m strange));
    crash = all_crash old mid far new boot l begins l.settled.rec refl named checks (Ok done) sweeps;
    left = λ told none s v stands. all_left old mid far new boot l begins l.settled.rec refl named checks (Ok done) sweeps told s v stands none;
  }
    where
      apart : {P : Foreign} {q : Settled} → ◌≡◌ {A = Result Settled Foreign} (Err P) (Ok q) → ⊥
      apart is = cc

      same_settled : {p q : Settled} → ◌≡◌ {A = Result Settled Foreign} (Ok p) (Ok q) → p ≡ q
      same_settled is = cc

      some_none : {f : Foreign} → ◌≡◌ {A = Option Foreign} (Some f) None → ⊥
      some_none is = cc

      no_first : (told : IsTrue old.told) (f : Foreign) → IsFirstFault old.world f → ⊥
      no_first told f fault = ⊎_elim
          (λ (bad : current (file_at old.world) ≡ Err f). apart (sym bad ∙ is_current old mid l begins told))
          (λ (bad : (s : Settled) × (current (file_at old.world) ≡ Ok s) × (first_foreign old.world s.rec ≡ Some f)).
          some_none (sym bad.2 ∙ ap (λ (q : Settled). first_foreign old.world q.rec) (same_settled (sym bad.1 ∙ is_current old mid l begins told))
          ∙ no_fault old mid far new boot l begins l.settled.rec refl named checks (Ok done) sweeps told)) fault

      same_books : (told : IsTrue old.told) (s : Settled) → l.settled ≡ s → books new.world x.settings.settled ≡ books old.world s
      same_books told s says_it =
          ap (λ (q : Loaded). books new.world q.settled) settings
          ∙ sweeps.books (is_far told) l.settled refl
          ∙ ap (λ (w : World). books w l.settled) (checks.same (is_mid told))
          ∙ ap (λ (c : Option (List ℕ)). books (record old.world { cell = c }) l.settled) ((begins.but told).cell (λ none. none))
          ∙ ap (books old.world) says_it
