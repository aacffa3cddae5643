-- A sync, and the loading of the settings.
use Rattle.std.proofs.Common.{◌≡◌, ◌≢◌, ⊎_elim, inl, inr, ◌++◌, ℕ, Bool, IsTrue, List, [], ◌∷◌, Option, Some, refl, sym, ◌∙◌, ap, subst, arith, append_assoc}
use Rattle.std.specs.Prelude.{Result, Ok, Err, IfOk, OnOk}
use Rattle.std.specs.FinMap.Entries.{where_key}
use Rattle.ls_board.specs.declared.action.Action.{Action}
use Rattle.ls_board.specs.declared.action.Action.TheVariants.{Sync}
use Rattle.ls_board.specs.declared.action.BoardFault.{BoardFault}
use Rattle.ls_board.specs.declared.action.BoardFault.TheVariants.{Failed, Memory}
use Rattle.ls_board.specs.declared.action.Part.{Part}
use Rattle.ls_board.specs.declared.world.World.{World}
use Rattle.ls_board.specs.Acts.{Sight, Rose}
use Rattle.ls_board.specs.Effect.{file_at, after}
use Rattle.ls_board.specs.Images.{Leaves, Within}
use Rattle.ls_board.specs.Order.{byte_cmp}
use Rattle.ls_board.specs.Keeping.{Keeps}
use Rattle.ls_board.specs.Reach.{SameBut}
use Rattle.ls_board.specs.Runs.{LeavesOnly, AllImages}
use Rattle.ls_board.proofs.FrameLemmas.{same_refl, same_trans, same_within}
use Rattle.ls_formats.specs.declared.side.Side.TheVariants.{First, Second}
use Rattle.ls_formats.specs.PartNames.{settings_text}
use Rattle.ls_naming.specs.Current.{current, settings_of}
use Rattle.ls_serving.specs.Calls.{Calls, IsOuterStep}
use Rattle.ls_settings.specs.declared.fault.OpenRefusal.{OpenRefusal}
use Rattle.ls_settings.specs.declared.fault.OpenRefusal.TheVariants.{Foreign, Fault}
use Rattle.ls_settings.specs.Loaded.{Loaded, AreUntouched, settings_reach}
use Rattle.ls_settings.specs.Loading.{AreLoaded, IsLoadImage, Loads}
use Rattle.ls_settings.specs.Refusals.{refusal_of}
use Rattle.ls_session.specs.Opening.{SyncsFirst, Begins, synced_world}

-- ---- the sync

synced_but : (w : World) → SameBut settings_reach w (synced_world w)
synced_but w = record {
  rest = refl;
  file = λ n apart. refl;
  touch = λ n apart. inr refl;
  count = refl;
  slot = λ slot apart. refl;
  counter = λ sid apart. refl;
  key = λ alias apart. refl;
  cell = λ apart. refl;
}

-- whatever became of it, the settings files aside nothing is another
called_but : (old new : Sight) → Calls old Sync new → SameBut settings_reach old.world new.world
called_but old new = ⊎_elim
    (λ (none : (new.past ≡ old.past) × (new.world ≡ old.world)). subst (SameBut settings_reach old.world) (sym none.1) (same_refl settings_reach old.world))
    (λ (made : (new.past ≡ (old.world, Some Sync) ∷ old.past) × IsOuterStep old.world Sync new.world).
    ⊎_elim (λ (within : Within old.world Sync new.world). same_within settings_reach old.world new.world Sync tt within)
    (λ (whole : (n : ℕ) × (new.world ≡ after old.world Sync n)). subst (SameBut settings_reach old.world) (sym whole.1) (synced_but old.world)) made.1)

-- and where no file is touched then, it is the synced world
called_world : (old new : Sight) → Calls old Sync new → new.world.touched ≡ [] → new.world ≡ synced_world old.world
called_world old new call none = ⊎_elim
    (λ (not : (new.past ≡ old.past) × (new.world ≡ old.world)). not.1 ∙ (λ i. record old.world { touched = (sym (ap (λ (w : World). w.touched) not.1) ∙ none) i }))
    (λ (made : (new.past ≡ (old.world, Some Sync) ∷ old.past) × IsOuterStep old.world Sync new.world).
    ⊎_elim (λ (within : Within old.world Sync new.world). within.is ∙ (λ i. record old.world { touched = (sym (ap (λ (w : World). w.touched) within.is) ∙ none) i }))
    (λ (whole : (n : ℕ) × (new.world ≡ after old.world Sync n)). whole.1) made.1)
    call

untouched : (w : World) → AreUntouched (synced_world w)
untouched w = λ side. refl

all_append : (P : World → Type 0) (xs ys : List (World × Option Action)) → AllImages P xs → AllImages P ys → AllImages P (xs ++ ys)
all_append P [] ys all more = more
all_append P (x ∷ xs) ys all more = (all.0, all.1, all_append P xs ys all.2 more)

-- an image of it is one of the loading
image_loads : (w image : World) → Leaves (synced_world w) image → IsLoadImage (synced_world w) image
image_loads w image left = record {
  settled = λ i. settings_of (left.each (settings_text First) i) (left.each (settings_text Second) i);
  each = λ side. inl (left.each (settings_text side));
  rest = (synced_world w, same_refl settings_reach (synced_world w), left);
}

-- where no file is touched a sync changes nothing
still_synced : (w : World) → w.touched ≡ [] → w ≡ synced_world w
still_synced w none = λ i. record w { touched = none i }

within_synced : (w v : World) → w.touched ≡ [] → Within w Sync v → v ≡ synced_world w
within_synced w v none within = within.is ∙ (λ i. record w { touched = where_key byte_cmp within.still (none i) })

-- then each image within it is one of the loading
sync_call : (w : World) → w.touched ≡ [] → AllImages (IsLoadImage (synced_world w)) ((w, Some Sync) ∷ [])
sync_call w none = (
  λ image left. image_loads w image (subst (λ (v : World). Leaves v image) (still_synced w none) left),
  λ image left. image_loads w image (subst (λ (v : World). Leaves v image) (within_synced w left.0 none left.1) left.2),
  tt,
)

called_whole : (old new : Sight) → Calls old Sync new → old.world.touched ≡ [] → LeavesOnly old new (IsLoadImage (synced_world old.world))
called_whole old new call none = ⊎_elim
    (λ (not : (new.past ≡ old.past) × (new.world ≡ old.world)). record {
      calls = [];
      joined = not.0;
      each = tt;
      now = λ image left. image_loads old.world image (subst (λ (v : World). Leaves v image) (not.1 ∙ still_synced old.world none) left);
    })
    (λ (made : (new.past ≡ (old.world, Some Sync) ∷ old.past) × IsOuterStep old.world Sync new.world). record {
      calls = (old.world, Some Sync) ∷ [];
      joined = made.0;
      each = sync_call old.world none;
      now = λ image left. image_loads old.world image (subst (λ (v : World). Leaves v image)
          (⊎_elim (λ (within : Within old.world Sync new.world). within_synced old.world new.world none within)
          (λ (whole : (n : ℕ) × (new.world ≡ after old.world Sync n)). whole.1) made.1) left);
    })
    call

module _ (old mid : Sight) where
  -- it failed
  pub sync_failed : {T : Type 0} (fault : BoardFault) → SyncsFirst {T = T} old (Err fault) mid → Begins old (Err (refusal_of fault)) mid
  sync_failed {T} fault syncs = record {
    keeps = record {
      told = syncs.keeps.told;
      never_fails = syncs.keeps.never_fails;
      slots = syncs.keeps.slots;
      later = syncs.keeps.later;
      quiet = tt;
      other = λ e is apart. by fault syncs.keeps e is apart;
      cause = λ p is. because fault syncs.keeps p is;
    };
    but = λ told. called_but old mid (syncs.called told);
    loaded = λ told. tt;
    foreign = λ told name at is. absurd (never fault name at (inside is));
    settled = λ told. record {
      calls = [];
      joined = ⊎_elim (λ (not : (mid.past ≡ old.past) × (mid.world ≡ old.world)). inl not.0)
          (λ (made : (mid.past ≡ (old.world, Some Sync) ∷ old.past) × IsOuterStep old.world Sync mid.world). inr made.0) (syncs.called told);
      each = tt;
      now = λ settled image left. image_loads old.world image
          (subst (λ (w : World). Leaves w image) (called_world old mid (syncs.called told) (⊎_elim (λ (none : mid.world.touched ≡ []). none) (λ (some : [] ≢ []). absurd (some refl)) settled)) left);
    };
    whole = λ told none. called_whole old mid (syncs.called told) none;
    begun = λ told. tt;
  }
    where
      inside : {e f : OpenRefusal} → ◌≡◌ {A = Result Loaded OpenRefusal} (Err e) (Err f) → e ≡ f
      inside is = cc

      never : (b : BoardFault) (name : List ℕ) (at : ℕ) → refusal_of b ≡ Foreign name at → ⊥
      never (Failed p) name at is = cc
      never Memory name at is = cc

      by : (b : BoardFault) → Keeps {T = T} {E = BoardFault} Failed old mid (Err b) → (e : OpenRefusal) → ◌≡◌ {A = Result Loaded OpenRefusal} (Err (refusal_of b)) (Err e) → ((p : Part) → e ≢ Fault p) → mid.faults ≡ old.faults
      by (Failed p) keeps e is apart = absurd (apart p (sym (inside is)))
      by Memory keeps e is apart = keeps.other Memory refl (λ p nay. cc)

      because : (b : BoardFault) → Keeps {T = T} {E = BoardFault} Failed old mid (Err b) → (p : Part) → ◌≡◌ {A = Result Loaded OpenRefusal} (Err (refusal_of b)) (Err (Fault p)) → Rose (old.faults p) (mid.faults p)
      because (Failed q) keeps p is = subst (λ (x : Part). Rose (old.faults x) (mid.faults x)) (same is) (keeps.cause q refl)
        where
          same : ◌≡◌ {A = Result Loaded OpenRefusal} (Err (Fault q)) (Err (Fault p)) → q ≡ p
          same e = cc
      because Memory keeps p is = absurd (cc)

-- ---- the loading behind it

module _ (old mid new : Sight) {T : Type 0} (done : T) (syncs : SyncsFirst {T = T} old (Ok done) mid) (result : Result Loaded OpenRefusal)
    (keeps : Keeps {T = Loaded} {E = OpenRefusal} Fault mid new result) (loads : IsTrue mid.told → Loads mid result new) where
  on : IsTrue old.told → IsTrue mid.told
  on told = subst (λ (b : Bool). IsTrue b) (sym syncs.keeps.told) told

  world_is : IsTrue old.told → mid.world ≡ synced_world old.world
  world_is told = (syncs.done told).1

  crash : (told : IsTrue old.told) → LeavesOnly mid new (IsLoadImage (synced_world old.world))
  crash told = subst (λ (w : World). LeavesOnly mid new (IsLoadImage w)) (world_is told)
      ((loads (on told)).crash (subst AreUntouched (sym (world_is told)) (untouched old.world)))

  joined : (told : IsTrue old.told) → new.past ≡ (crash told).calls ++ (old.world, Some Sync) ∷ old.past
  joined told = (crash told).joined ∙ ap (λ (past : List (World × Option Action)). (crash told).calls ++ past) (syncs.done told).0

  pub begins : Begins old result new
  begins = record {
    keeps = record {
      told = keeps.told ∙ syncs.keeps.told;
      never_fails = keeps.never_fails ∙ syncs.keeps.never_fails;
      slots = keeps.slots ∙ syncs.keeps.slots;
      later = λ p. omega (arith, keeps.later p, syncs.keeps.later p);
      quiet = subst (λ (f : Part → ℕ). OnOk result (new.faults ≡ f)) syncs.keeps.quiet keeps.quiet;
      other = λ e is apart. keeps.other e is apart ∙ syncs.keeps.quiet;
      cause = λ p is. subst (λ (f : Part → ℕ). Rose (f p) (new.faults p)) syncs.keeps.quiet (keeps.cause p is);
    };
    but = λ told. same_trans settings_reach old.world (synced_world old.world) new.world (synced_but old.world) (but told);
    loaded = λ told. both result (subst (λ (w : World). IfOk result (λ l. AreLoaded w l new.world)) (world_is told) (loads (on told)).loaded) (but told);
    foreign = λ told name at is. ap (λ (w : World). current (file_at w)) (sym (world_is told)) ∙ ((loads (on told)).foreign name at is).0;
    settled = λ told. record {
      calls = (crash told).calls;
      joined = inr (joined told);
      each = (crash told).each;
      now = λ settled image left. (crash told).now image left;
    };
    whole = λ told none. record {
      calls = (crash told).calls ++ (old.world, Some Sync) ∷ [];
      joined = joined told ∙ sym (append_assoc (crash told).calls ((old.world, Some Sync) ∷ []) old.past);
      each = all_append (IsLoadImage (synced_world old.world)) (crash told).calls ((old.world, Some Sync) ∷ []) (crash told).each (sync_call old.world none);
      now = (crash told).now;
    };
    begun = λ told. begun result ((crash told).calls, joined told, (crash told).each, (crash told).now);
  }
    where
      but : (told : IsTrue old.told) → SameBut settings_reach (synced_world old.world) new.world
      but told = subst (λ (w : World). SameBut settings_reach w new.world) (world_is told) (loads (on told)).but

      both : (r : Result Loaded OpenRefusal) → IfOk r (λ l. AreLoaded (synced_world old.world) l new.world) → SameBut settings_reach (synced_world old.world) new.world
          → IfOk r (λ l. AreLoaded (synced_world old.world) l new.world × SameBut settings_reach (synced_world old.world) new.world)
      both (Ok l) are b = (are, b)
      both (Err e) are b = tt

      begun : {P : Type 0} (r : Result Loaded OpenRefusal) → P → OnOk r P
      begun (Ok l) p = p
      begun (Err e) p = tt
