-- Making the settings files that have to be made: what is current stays so.
use Rattle.std.proofs.Common.{◌≡◌, ◌⊎◌, inl, inr, ⊎_elim, ◌||◌, ◌++◌, ℕ, Bool, true, false, List, [], ◌∷◌, length, replicate, if◌then◌else◌, OnOk, Option, Some, None, Result, Ok, Err, refl, sym, ◌∙◌, ap, subst, eqb-true, eq-eqb}
use Rattle.std.proofs.lemmas.Bool.{cases_Bool, or_cases}
use Rattle.std.proofs.lemmas.List.{length-replicate}
use Rattle.ls_formats.specs.declared.side.Side.{Side}
use Rattle.ls_formats.specs.declared.side.Side.TheVariants.{First, Second}
use Rattle.ls_formats.specs.PartNames.{settings_text}
use Rattle.ls_naming.specs.Current.{Settled, unsettled, side_says, settings_of, current, is_open}
use Rattle.ls_board.specs.declared.action.Action.{Action}
use Rattle.ls_board.specs.declared.action.Action.TheVariants.{Make, Sync}
use Rattle.ls_board.specs.declared.world.World.{World}
use Rattle.ls_board.specs.Acts.{Sight}
use Rattle.ls_board.specs.Effect.{file_at, make_mark}
use Rattle.ls_board.specs.Images.{Leaves}
use Rattle.ls_board.specs.Reach.{AllTouchOnly}
use Rattle.ls_board.specs.Runs.{PlanImage, after_all}
use Rattle.ls_board.proofs.CrashLemmas.{untouched}
use Rattle.ls_board.proofs.FileLemmas.{file_marked_same, file_marked_other}
use Rattle.ls_board.proofs.FrameLemmas.{same_refl, plan_but}
use Rattle.ls_board.proofs.RunLemmas.{weaker, started}
use Rattle.ls_settings.specs.Loaded.{Loaded, AreUntouched, IsWhole, other_side, target_of, is_side, settings_reach}
use Rattle.ls_settings.specs.Commits.{synced}
use Rattle.ls_settings.specs.FileReading.{file_of}
use Rattle.ls_settings.specs.Loading.{is_whole, stays, made_file, makes_of, AreLoaded, IsFound, IsSameOrShut, IsLoadImage, IsMakePlan, RunsPlan, MakesFiles}
use Rattle.ls_settings.proofs.SideLemmas.{of_pair, alone, loses, current_pair, names_apart, current_of, current_alone, none_of}
use Rattle.ls_settings.proofs.SyncedLemmas.{Holds, Pair, left_pair, then_synced, make_holds, make_pair}

-- ---- a file that isn't current

none_says : (first second : Option (List ℕ)) (s : Settled) (file : Option (List ℕ)) (side : Side) → is_open file ≡ false → s ≡ unsettled → alone side file ≡ Ok s
none_says first second s file side shut is = ap (λ (b : Bool). if b then side_says side file else Ok unsettled) shut ∙ ap (λ (t : Settled). Ok t) (sym is)

not_both : (o : Option Side) (side : Side) → o ≡ Some side → is_side o side ≡ false → ⊥
not_both o First e beside = absurd (let bad : true ≡ false = ap (λ (x : Option Side). is_side x First) (sym e) ∙ beside in cc)
not_both o Second e beside = absurd (let bad : true ≡ false = ap (λ (x : Option Side). is_side x Second) (sym e) ∙ beside in cc)

-- beside it the other file stands alone
alone_says : (side : Side) (mine other : Option (List ℕ)) (s : Settled) → of_pair side mine other ≡ Ok s → is_side s.side side ≡ false → alone (other_side side) other ≡ Ok s
alone_says First mine other s says beside = by s.side refl
  where
    by : (o : Option Side) → s.side ≡ o → alone Second other ≡ Ok s
    by None e = let shut = none_of mine other s says e in none_says mine other s other Second shut.second_shut shut.is
    by (Some First) e = absurd (not_both s.side First e beside)
    by (Some Second) e = current_alone Second other mine s (current_of Second other mine s says e)
alone_says Second mine other s says beside = by s.side refl
  where
    by : (o : Option Side) → s.side ≡ o → alone First other ≡ Ok s
    by None e = let shut = none_of other mine s says e in none_says other mine s other First shut.first_shut shut.is
    by (Some Second) e = absurd (not_both s.side Second e beside)
    by (Some First) e = current_alone First other mine s (current_of First other mine s says e)

abbrev zeros : Option (List ℕ)
zeros = Some (replicate 4096 0)

says_with : (side : Side) (mine other : Option (List ℕ)) (s : Settled) → of_pair side mine other ≡ Ok s → is_side s.side side ≡ false → (file : Option (List ℕ)) → IsSameOrShut mine file → of_pair side file other ≡ Ok s
says_with side mine other s says beside file (inl same) = ap (λ (f : Option (List ℕ)). of_pair side f other) same ∙ says
says_with side mine other s says beside file (inr shut) = loses side file other shut ∙ alone_says side mine other s says beside

-- ---- an image of loading, by the side of one file

record Seen (side : Side) (mine other : Option (List ℕ)) (s : Settled) (image : World) : Type 0 where
  says : current (file_at image) ≡ Ok s
  mine_is : IsSameOrShut mine (file_at image (settings_text side))
  other_is : IsSameOrShut other (file_at image (settings_text (other_side side)))

-- and of both
record Both (first second : Option (List ℕ)) (s : Settled) (image : World) : Type 0 where
  says : current (file_at image) ≡ Ok s
  each : (side : Side) → IsSameOrShut (file_of side first second) (file_at image (settings_text side))

shut_on : (a b c : Option (List ℕ)) → IsSameOrShut a b → IsSameOrShut b c → IsSameOrShut a c
shut_on a b c was (inr shut) = inr shut
shut_on a b c (inl same) (inl again) = inl (again ∙ same)
shut_on a b c (inr shut) (inl again) = inr (ap is_open again ∙ shut)

from_first : (first second : Option (List ℕ)) (s : Settled) (image : World) → Seen First first second s image → Both first second s image
from_first first second s image seen = record { says = seen.says; each = by }
  where
    by : (side : Side) → IsSameOrShut (file_of side first second) (file_at image (settings_text side))
    by First = seen.mine_is
    by Second = seen.other_is

from_second : (first second : Option (List ℕ)) (s : Settled) (image : World) → Seen Second second first s image → Both first second s image
from_second first second s image seen = record { says = seen.says; each = by }
  where
    by : (side : Side) → IsSameOrShut (file_of side first second) (file_at image (settings_text side))
    by First = seen.other_is
    by Second = seen.mine_is

both_on : (f0 f1 g0 g1 : Option (List ℕ)) (s : Settled) (image : World) → IsSameOrShut f0 g0 → IsSameOrShut f1 g1 → Both g0 g1 s image → Both f0 f1 s image
both_on f0 f1 g0 g1 s image first second both = record { says = both.says; each = by }
  where
    by : (side : Side) → IsSameOrShut (file_of side f0 f1) (file_at image (settings_text side))
    by First = shut_on f0 g0 (file_at image (settings_text First)) first (both.each First)
    by Second = shut_on f1 g1 (file_at image (settings_text Second)) second (both.each Second)

-- ---- one file that is made

abbrev make : Side → Action
make side = Make (settings_text side) 4096

made_here : (w : World) (side : Side) → file_at (then_synced w (make side)) (settings_text side) ≡ zeros
made_here w side = file_marked_same w (make_mark w (settings_text side) 4096)

made_there : (w : World) (side : Side) → file_at (then_synced w (make side)) (settings_text (other_side side)) ≡ file_at w (settings_text (other_side side))
made_there w side = file_marked_other w (make_mark w (settings_text side) 4096) (settings_text (other_side side)) (names_apart side)

module _ (w : World) (side : Side) (mine other : Option (List ℕ)) (s : Settled) (h : Holds w side mine other) (says : of_pair side mine other ≡ Ok s) (beside : is_side s.side side ≡ false) where
  made_says : (image : World) → Pair image side (IsSameOrShut mine) other → current (file_at image) ≡ Ok s
  made_says image pair =
      current_pair (file_at image) side ∙ ap (of_pair side (file_at image (settings_text side))) pair.beside ∙ says_with side mine other s says beside (file_at image (settings_text side)) pair.target

  made_image : (image : World) → Pair image side (IsSameOrShut mine) other → Seen side mine other s image
  made_image image pair = record { says = made_says image pair; mine_is = pair.target; other_is = inl pair.beside }

  make_step : (rest : List Action) (image : World) → PlanImage w (make side ∷ Sync ∷ rest) image → Seen side mine other s image ⊎ PlanImage (then_synced w (make side)) rest image
  make_step rest image left = ⊎_elim (λ pair. inl (made_image image pair)) (λ later. inr later) (make_pair w side mine other h 4096 rest image left)

says_zeros : (side : Side) (mine other : Option (List ℕ)) (s : Settled) → of_pair side mine other ≡ Ok s → is_side s.side side ≡ false → of_pair side zeros other ≡ Ok s
says_zeros side mine other s says beside = says_with side mine other s says beside zeros (inr refl)

left_seen : (w image : World) (side : Side) (mine other : Option (List ℕ)) (s : Settled) → Holds w side mine other → of_pair side mine other ≡ Ok s → Leaves w image → Seen side mine other s image
left_seen w image side mine other s h says left =
    let pair = left_pair w image side mine other h left in
    record {
      says = current_pair (file_at image) side ∙ (λ i. of_pair side (pair.target i) (pair.beside i)) ∙ says;
      mine_is = inl pair.target;
      other_is = inl pair.beside;
    }

-- ---- both

abbrev if_stays : Bool → Option (List ℕ) → Option (List ℕ)
if_stays b file = if b then file else zeros

abbrev plan_of : Bool → Bool → List Action
plan_of first second = synced (if first then [] else make First ∷ []) ++ synced (if second then [] else make Second ∷ [])

record Made (w : World) (f0 f1 : Option (List ℕ)) (s : Settled) (b0 b1 : Bool) : Type 0 where
  first : file_at (after_all w (plan_of b0 b1)) (settings_text First) ≡ if_stays b0 f0
  second : file_at (after_all w (plan_of b0 b1)) (settings_text Second) ≡ if_stays b1 f1
  says : settings_of (if_stays b0 f0) (if_stays b1 f1) ≡ Ok s
  untouched : AreUntouched w → AreUntouched (after_all w (plan_of b0 b1))
  images : AreUntouched w → (image : World) → PlanImage w (plan_of b0 b1) image → Both f0 f1 s image
  only : AllTouchOnly settings_reach (plan_of b0 b1)

module _ (w : World) (f0 f1 : Option (List ℕ)) (s : Settled) (e0 : file_at w (settings_text First) ≡ f0) (e1 : file_at w (settings_text Second) ≡ f1) (says : settings_of f0 f1 ≡ Ok s) where
  h0 : AreUntouched w → Holds w First f0 f1
  h0 still = record { file = e0; beside = e1; still = still }

  h1 : AreUntouched w → Holds w Second f1 f0
  h1 still = record { file = e1; beside = e0; still = still }

  both_made : (b0 b1 : Bool) → (b0 ≡ false → is_side s.side First ≡ false) → (b1 ≡ false → is_side s.side Second ≡ false) → Made w f0 f1 s b0 b1
  both_made true true no0 no1 = record {
    first = e0;
    second = e1;
    says = says;
    untouched = λ still. still;
    images = λ still image left. from_first f0 f1 s image (left_seen w image First f0 f1 s (h0 still) says left);
    only = tt;
  }
  both_made false true no0 no1 =
      let new = says_zeros First f0 f1 s says (no0 refl) in
      record {
        first = made_here w First;
        second = made_there w First ∙ e1;
        says = new;
        untouched = λ still side. refl;
        images = λ still image left. ⊎_elim (λ seen. from_first f0 f1 s image seen)
            (λ last. both_on f0 f1 zeros f1 s image (inr refl) (inl refl) (from_first zeros f1 s image (left_seen (then_synced w (make First)) image First zeros f1 s (make_holds w First f0 f1 (h0 still) 4096) new last)))
            (make_step w First f0 f1 s (h0 still) says (no0 refl) [] image left);
        only = ((First, refl), (tt, tt));
      }
  both_made true false no0 no1 =
      let new = says_zeros Second f1 f0 s says (no1 refl) in
      record {
        first = made_there w Second ∙ e0;
        second = made_here w Second;
        says = new;
        untouched = λ still side. refl;
        images = λ still image left. ⊎_elim (λ seen. from_second f0 f1 s image seen)
            (λ last. both_on f0 f1 f0 zeros s image (inl refl) (inr refl) (from_second f0 zeros s image (left_seen (then_synced w (make Second)) image Second zeros f0 s (make_holds w Second f1 f0 (h1 still) 4096) new last)))
            (make_step w Second f1 f0 s (h1 still) says (no1 refl) [] image left);
        only = ((Second, refl), (tt, tt));
      }
  both_made false false no0 no1 =
      let mid = then_synced w (make First) in
      let half = says_zeros First f0 f1 s says (no0 refl) in
      let new = says_zeros Second f1 zeros s half (no1 refl) in
      record {
        first = made_there mid Second ∙ made_here w First;
        second = made_here mid Second;
        says = new;
        untouched = λ still side. refl;
        images = λ still image left.
            let k = make_holds w First f0 f1 (h0 still) 4096 in
            let m : Holds mid Second f1 zeros = record { file = k.beside; beside = k.file; still = k.still } in
            ⊎_elim (λ seen. from_first f0 f1 s image seen) (λ later. ⊎_elim (λ seen. both_on f0 f1 zeros f1 s image (inr refl) (inl refl) (from_second zeros f1 s image seen))
            (λ last. both_on f0 f1 zeros zeros s image (inr refl) (inr refl) (from_second zeros zeros s image (left_seen (then_synced mid (make Second)) image Second zeros zeros s (make_holds mid Second f1 zeros m 4096) new last)))
            (make_step mid Second f1 zeros s m half (no1 refl) [] image later))
            (make_step w First f0 f1 s (h0 still) says (no0 refl) (make Second ∷ Sync ∷ []) image left);
        only = ((First, refl), (tt, ((Second, refl), (tt, tt))));
      }

-- ---- what stays

side_true : (o : Option Side) (side : Side) → is_side o side ≡ true → o ≡ Some side
side_true None side e = absurd (let beside : false ≡ true = e in cc)
side_true (Some First) First e = refl
side_true (Some First) Second e = absurd (let beside : false ≡ true = e in cc)
side_true (Some Second) First e = absurd (let beside : false ≡ true = e in cc)
side_true (Some Second) Second e = refl

whole_true : (file : Option (List ℕ)) → is_whole file ≡ true → IsWhole file
whole_true None e = absurd (let beside : false ≡ true = e in cc)
whole_true (Some bytes) e = eqb-true (length bytes) 4096 e

true_whole : (file : Option (List ℕ)) → IsWhole file → is_whole file ≡ true
true_whole None none = absurd none
true_whole (Some bytes) long = eq-eqb (length bytes) 4096 long

not_stays : (o : Option Side) (side : Side) (file : Option (List ℕ)) → stays o side file ≡ false → is_side o side ≡ false
not_stays o side file e = by (is_side o side) refl e
  where
    by : (b : Bool) → is_side o side ≡ b → (b || is_whole file) ≡ false → is_side o side ≡ false
    by true is beside = absurd (let bad : true ≡ false = beside in cc)
    by false is beside = is

made_whole : (o : Option Side) (side : Side) (file : Option (List ℕ)) → (o ≡ Some side → ⊥) → IsWhole (made_file o side file)
made_whole o side file other = by (stays o side file) refl
  where
    by : (b : Bool) → stays o side file ≡ b → IsWhole (if b then file else zeros)
    by true e = ⊎_elim (λ is. absurd (other (side_true o side is))) (λ long. whole_true file long) (or_cases (is_side o side) (is_whole file) e)
    by false e = length-replicate {A = ℕ} 4096 0

all_stay : (o : Option Side) (side : Side) (file : Option (List ℕ)) → ((o ≡ Some side → ⊥) → IsWhole file) → stays o side file ≡ true
all_stay o side file whole = by (cases_Bool (is_side o side))
  where
    by : (is_side o side ≡ true) ⊎ (is_side o side ≡ false) → stays o side file ≡ true
    by (inl is) = ap (λ (b : Bool). b || is_whole file) is
    by (inr beside) = ap (λ (b : Bool). b || is_whole file) beside ∙ true_whole file (whole (λ e. not_both o side e beside))

-- ---- loading

module _ (w : World) (f0 f1 : Option (List ℕ)) (s : Loaded) (e0 : f0 ≡ file_at w (settings_text First)) (e1 : f1 ≡ file_at w (settings_text Second)) (found : IsFound f0 f1 s) where
  abbrev o : Option Side
  o = s.settled.side

  made : Made w f0 f1 s.settled (stays o First f0) (stays o Second f1)
  made = both_made w f0 f1 s.settled (sym e0) (sym e1) found.settled (stays o First f0) (stays o Second f1) (not_stays o First f0) (not_stays o Second f1)

  before : current (file_at w) ≡ Ok s.settled
  before = (λ i. settings_of (sym e0 i) (sym e1 i)) ∙ found.settled

  abbrev plan : List Action
  plan = makes_of o f0 f1

  file_by : (side : Side) → file_of side f0 f1 ≡ file_at w (settings_text side)
  file_by First = e0
  file_by Second = e1

  files : (side : Side) → file_at (after_all w plan) (settings_text side) ≡ made_file o side (file_of side f0 f1)
  files First = made.first
  files Second = made.second

  loaded : AreLoaded w s (after_all w plan)
  loaded = record {
    found = before;
    files = λ side. files side ∙ ap (made_file o side) (file_by side);
    are = record {
      settled = (λ i. settings_of (made.first i) (made.second i)) ∙ made.says;
      target = found.target ∙ ap is_open (sym (files (target_of o)));
    };
    whole = λ side other. subst IsWhole (sym (files side)) (made_whole o side (file_of side f0 f1) other);
    untouched = made.untouched;
    same = λ none.
        let first = all_stay o First f0 (λ other. subst IsWhole (sym e0) (none First other)) in
        let second = all_stay o Second f1 (λ other. subst IsWhole (sym e1) (none Second other)) in
        λ i. after_all w (plan_of (first i) (second i));
  }

  load_image : AreUntouched w → (image : World) → PlanImage w plan image → IsLoadImage w image
  load_image still image left = record {
    settled = (made.images still image left).says ∙ sym before;
    each = λ side. subst (λ (f : Option (List ℕ)). IsSameOrShut f (file_at image (settings_text side))) (file_by side) ((made.images still image left).each side);
    rest = plan_but settings_reach w plan image made.only left;
  }

-- on any board
pub is_make_plan : (f0 f1 : Option (List ℕ)) (s : Loaded) → IsFound f0 f1 s → IsMakePlan (makes_of s.settled.side f0 f1)
is_make_plan f0 f1 s found = by (stays s.settled.side First f0) (stays s.settled.side Second f1)
  where
    by : (b0 b1 : Bool) → IsMakePlan (plan_of b0 b1)
    by true true = record { sound = λ slots. tt; applies = λ v. tt; only = tt }
    by false true = record { sound = λ slots. (tt, (tt, tt)); applies = λ v. (tt, (tt, tt)); only = ((First, refl), (tt, tt)) }
    by true false = record { sound = λ slots. (tt, (tt, tt)); applies = λ v. (tt, (tt, tt)); only = ((Second, refl), (tt, tt)) }
    by false false = record { sound = λ slots. (tt, (tt, (tt, (tt, tt)))); applies = λ v. (tt, (tt, (tt, (tt, tt)))); only = ((First, refl), (tt, ((Second, refl), (tt, tt)))) }

pub makes_files : (old new : Sight) (f0 f1 : Option (List ℕ)) (s : Loaded) → f0 ≡ file_at old.world (settings_text First) → f1 ≡ file_at old.world (settings_text Second) → IsFound f0 f1 s
    → {T E : Type 0} (result : Result T E) → RunsPlan old (makes_of s.settled.side f0 f1) result new → MakesFiles old s result new
makes_files old new f0 f1 s e0 e1 found {T = T} {E = E} result runs = record {
  made = by result runs.done;
  but = runs.but;
  crash = λ still. weaker old new (PlanImage old.world (makes_of s.settled.side f0 f1)) (IsLoadImage old.world) (load_image old.world f0 f1 s e0 e1 found still) runs.crash;
}
  where
    by : (r : Result T E) → OnOk r (new.world ≡ after_all old.world (makes_of s.settled.side f0 f1)) → OnOk r (AreLoaded old.world s new.world)
    by (Ok v) world = subst (AreLoaded old.world s) (sym world) (loaded old.world f0 f1 s e0 e1 found)
    by (Err e) none = tt

-- ---- a world that wasn't changed

pub same_image : (w image : World) → AreUntouched w → Leaves w image → IsLoadImage w image
same_image w image still left = record {
  settled = λ i. settings_of (untouched w image (settings_text First) (still First) left i) (untouched w image (settings_text Second) (still Second) left i);
  each = λ side. inl (untouched w image (settings_text side) (still side) left);
  rest = (w, same_refl settings_reach w, left);
}

pub not_made : (old : Sight) (s : Loaded) {T E : Type 0} (e : E) → MakesFiles old s {T = T} {E = E} (Err e) old
not_made old s e = record {
  made = tt;
  but = same_refl settings_reach old.world;
  crash = λ still. started old (IsLoadImage old.world) (λ image left. same_image old.world image still left);
}
