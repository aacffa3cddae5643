-- What a commit leaves of what a world stands for.
use Rattle.std.proofs.Common.{◌≡◌, ◌⊎◌, inl, inr, ⊎_elim, ℕ, Bool, true, false, List, length, take, Option, None, Some, refl, sym, ap, subst, ◌∙◌}
use Rattle.std.specs.Prelude.{Result, Ok, Err, min, nat_lt, if◌then◌else◌, unwrap_or, ◌==◌}
use Rattle.std.proofs.lemmas.Bool.{eqb-true}
use Rattle.ls_formats.specs.declared.side.Side.{Side}
use Rattle.ls_formats.specs.declared.side.Side.TheVariants.{First, Second}
use Rattle.ls_formats.specs.PartNames.{settings_text}
use Rattle.ls_record.specs.Rows.{Rec}
use Rattle.ls_naming.specs.Named.{Files}
use Rattle.ls_naming.specs.Current.{Settled, Foreign, current, current_side, said_by, side_says, settled_in, file_says, front_says, whole_says, and_then}
use Rattle.ls_board.specs.declared.action.Action.{Action}
use Rattle.ls_board.specs.declared.touch.Span.{Span}
use Rattle.ls_board.specs.declared.world.World.{World}
use Rattle.ls_board.specs.Effect.{file_at}
use Rattle.ls_board.specs.Images.{PokedFrom}
use Rattle.ls_board.specs.Reach.{SameBut, LeavesBut}
use Rattle.ls_settings.specs.Loaded.{Loaded, IsWhole, IsReady, settings_reach}
use Rattle.ls_settings.specs.Commits.{written_in, IsCommitImage}
use Rattle.ls_vault.specs.declared.vault.Vault.{Vault}
use Rattle.ls_standing.specs.Standing.{Holds, IsTargetWhole, NamedAreUntouched, StandsDurably}
use Rattle.ls_standing.specs.Same.{SameNamed}
use Rattle.ls_standing.proofs.FrameLemmas.{holds_same, untouched_same}
use Rattle.ls_standing.proofs.SameLemmas.{named_trans, named_but_settings, named_left, none_left}

-- ---- the current file has its length

no_value : {A E : Type 0} (e : E) (a : A) → Err e ≡ Ok a → ⊥
no_value e a is = absurd (cc)

whole_length : (bytes : List ℕ) (r : Rec) → file_says bytes ≡ Ok r → length bytes ≡ 4096
whole_length bytes r e = head (nat_lt (length bytes) 13) e
  where
    long : (b : Bool) (q : Rec) → (length bytes == 4096) ≡ b → (if b then Ok q else Err (min (length bytes) 4096)) ≡ Ok r → length bytes ≡ 4096
    long true q is found = eqb-true (length bytes) 4096 is
    long false q is found = absurd (no_value (min (length bytes) 4096) r found)

    front : (o : Result Rec ℕ) → and_then o (whole_says (length bytes)) ≡ Ok r → length bytes ≡ 4096
    front (Ok q) found = long (length bytes == 4096) q refl found
    front (Err at) found = absurd (no_value at r found)

    head : (b : Bool) → (if b then Err (length bytes) else and_then (front_says (take 4096 bytes)) (whole_says (length bytes))) ≡ Ok r → length bytes ≡ 4096
    head true found = absurd (no_value (length bytes) r found)
    head false found = front (front_says (take 4096 bytes)) found

-- the side that is said
abbrev said_side : Result Settled Foreign → Option Side
said_side (Ok s) = s.side
said_side (Err f) = None

side_whole : (one side : Side) (file : Option (List ℕ)) (s : Settled) → side_says one file ≡ Ok s → s.side ≡ Some side → (one ≡ side) × IsWhole file
side_whole one side None s e is = let none : None ≡ Some side = ap said_side e ∙ is in absurd (cc)
side_whole one side (Some bytes) s e is = by (file_says bytes) refl e
  where
    by : (o : Result Rec ℕ) → file_says bytes ≡ o → settled_in one bytes o ≡ Ok s → (one ≡ side) × (length bytes ≡ 4096)
    by (Ok r) says found = (ap (λ o. unwrap_or o one) (ap said_side found ∙ is), whole_length bytes r says)
    by (Err at) says found = absurd (no_value _ s found)

current_whole : (files : Files) (s : Settled) (side : Side) → current files ≡ Ok s → s.side ≡ Some side → IsWhole (files (settings_text side))
current_whole files s side e is = by (current_side (files (settings_text First)) (files (settings_text Second))) e
  where
    of_side : (one : Side) → side_says one (files (settings_text one)) ≡ Ok s → IsWhole (files (settings_text side))
    of_side one found =
        let whole = side_whole one side (files (settings_text one)) s found is in
        subst (λ (x : Side). IsWhole (files (settings_text x))) whole.0 whole.1

    by : (o : Option Side) → said_by (files (settings_text First)) (files (settings_text Second)) o ≡ Ok s → IsWhole (files (settings_text side))
    by None found = let none : None ≡ Some side = ap said_side found ∙ is in absurd (cc)
    by (Some First) found = of_side First found
    by (Some Second) found = of_side Second found

-- where a commit may begin, each settings file that counts or may be written has its length
module _ (w : World) (s : Loaded) (ready : IsReady w s) where
  abbrev Whole : Side → Type 0
  Whole side = IsWhole (file_at w (settings_text side))

  this_whole : (side : Side) → s.settled.side ≡ Some side → Whole side
  this_whole side is = current_whole (file_at w) s.settled side ready.are.settled is

  whole_by : (o : Option Side) → s.settled.side ≡ o → (side : Side) → Whole side
  whole_by None is side = ready.whole side (λ e. let none : None ≡ Some side = sym is ∙ e in absurd (cc))
  whole_by (Some First) is First = this_whole First is
  whole_by (Some Second) is Second = this_whole Second is
  whole_by (Some First) is Second = ready.whole Second (λ e. let other : Some First ≡ Some Second = sym is ∙ e in absurd (cc))
  whole_by (Some Second) is First = ready.whole First (λ e. let other : Some Second ≡ Some First = sym is ∙ e in absurd (cc))

  all_whole : (side : Side) → Whole side
  all_whole side = whole_by s.settled.side refl side

poked_whole : (spans : List Span) (now image : Option (List ℕ)) → PokedFrom spans now image → IsWhole now → IsWhole image
poked_whole spans (Some now) (Some image) poked whole = poked.long ∙ whole
poked_whole spans None image poked whole = absurd whole
poked_whole spans (Some now) None poked whole = absurd poked

-- ---- an image of it

module _ (w image : World) (left : LeavesBut settings_reach w image) where
  named_kept : (r : Rec) → NamedAreUntouched w r → SameNamed r w image
  named_kept r still =
      let same = named_but_settings w left.0 r left.1 in
      named_trans w left.0 image r same (named_left left.0 image r (untouched_same r w left.0 same still) left.2)

  pub image_stands : (s : Settled) (v : Vault) → current (file_at image) ≡ Ok s → IsTargetWhole image s.side → Holds w s.rec v → NamedAreUntouched w s.rec → StandsDurably image s v
  image_stands s v is target holds still = record {
    stands = record {
      settings = is;
      target = target;
      holds = holds_same s.rec w image (named_kept s.rec still) v holds;
    };
    settings = λ side. none_left left.0 image (settings_text side) left.2;
    named = λ name named. none_left left.0 image _ left.2;
  }

pub commit_cut : (w image : World) (from to : Loaded) (actions : List Action) (old new : Vault) → IsReady w from → StandsDurably w from.settled old
    → Holds w to.settled.rec new → NamedAreUntouched w to.settled.rec → IsCommitImage w from to actions image
    → StandsDurably image from.settled old ⊎ StandsDurably image to.settled new
commit_cut w image from to actions old new ready stands holds still left =
    ⊎_elim (λ is. inl (image_stands w image left.rest from.settled old is (target from.settled.side) stands.stands.holds stands.named))
    (λ is. inr (image_stands w image left.rest to.settled new is (target to.settled.side) holds still)) left.either
  where
    target : (current : Option Side) → IsTargetWhole image current
    target current side other opened =
        poked_whole (written_in from to side) (file_at w (settings_text side)) (file_at image (settings_text side)) (left.bytes side) (all_whole w from ready side)

pub commit_done : (w mid : World) (to : Loaded) (new : Vault) → Holds w to.settled.rec new → NamedAreUntouched w to.settled.rec
    → SameBut settings_reach w mid → IsReady mid to → StandsDurably mid to.settled new
commit_done w mid to new holds still same ready =
    let kept = named_but_settings w mid to.settled.rec same in
    record {
      stands = record {
        settings = ready.are.settled;
        target = λ side other opened. ready.whole side other;
        holds = holds_same to.settled.rec w mid kept new holds;
      };
      settings = ready.untouched;
      named = untouched_same to.settled.rec w mid kept still;
    }
