-- What is told of users one after the other, over a board.
use Rattle.std.proofs.Common.{◌≡◌, ◌≤◌, inl, inr, List, [], ◌∷◌, ◌++◌, length, get_or, Option, None, Some, Result, Ok, Err, sym, ◌∙◌, ap, subst, arith}
use Rattle.std.proofs.lemmas.List.{append-nil}
use Rattle.ls_board.specs.declared.action.BoardFault.{BoardFault}
use Rattle.ls_board.specs.declared.action.BoardFault.TheVariants.{Memory as BoardMemory}
use Rattle.ls_board.specs.declared.world.World.{World}
use Rattle.ls_board.specs.Acts.{Sight}
use Rattle.ls_chain.specs.Trying.{LeavesAsked}
use Rattle.ls_record.specs.declared.row.UserRow.{UserRow}
use Rattle.ls_revealing.specs.Revealing.{secure_asked}
use Rattle.ls_script.specs.declared.reply.Revealed.{Revealed}
use Rattle.ls_resume.specs.declared.fault.FileFault.{FileFault}
use Rattle.ls_resume.specs.declared.secrets.SecretRow.{SecretRow}
use Rattle.ls_resume.specs.Each.{next_by, found_behind}
use Rattle.ls_resume.specs.Passing.{Passes}
use Rattle.ls_resume.specs.Telling.{row_of, told_end, world_behind, told_then, all_told, unless_fault, world_then, all_asked, image_then, TellsImage}
use Rattle.ls_resume.proofs.EachLemmas.{behind, behind_first, more_behind}
use Rattle.ls_resume.proofs.LearnLemmas.{learn_known}
use Rattle.ls_resume.proofs.ResumeLemmas.{behind_nothing}
use Rattle.ls_resume.proofs.PassLemmas.{pass_learnt, pass_same, pass_err, pass_lacks, pass_value, pass_both}

module _ (rows : List UserRow) where
  abbrev pub Tells : List SecretRow → List Revealed → Sight → Result (Result (List Revealed) FileFault) BoardFault → Sight → Type 0
  Tells secrets told old r new = Passes (all_asked rows secrets) (TellsImage rows secrets) (λ w. found_behind told (all_told rows secrets w)) old r new

  -- of one user
  abbrev pub TellsOne : UserRow → SecretRow → Sight → Result (Result Revealed FileFault) BoardFault → Sight → Type 0
  TellsOne row s old r new = Passes (world_behind row s.secret) (λ w. LeavesAsked w (secure_asked row s.secret w)) (told_end row s.secret) old r new

  -- there is none
  pub tell_none : (secrets : List SecretRow) (told : List Revealed) (s : Sight) → secrets ≡ [] → Tells secrets told s (Ok (Ok told)) s
  tell_none secrets told s none =
      subst (λ (l : List SecretRow). Tells l told s (Ok (Ok told)) s) (sym none)
      (pass_learnt None (λ w. found_behind told (all_told rows [] w)) s (Ok (Ok told)) s
      (learn_known (λ w. found_behind told (all_told rows [] w)) s (Ok told) (λ w. ap (λ (l : List Revealed). Ok l) (sym (append-nil told)))))

  module _ (s : SecretRow) (more : List SecretRow) (told : List Revealed) (old : Sight) where
    -- by the row of the first user
    abbrev By : Option UserRow → Result (Result (List Revealed) FileFault) BoardFault → Sight → Type 0
    By o r new = Passes (world_then o s.secret (all_asked rows more)) (image_then o s.secret (TellsImage rows more)) (λ w. found_behind told (told_then o s.secret (all_told rows more) w)) old r new

    module _ (row : UserRow) (mid : Sight) where
      within : (w image : World) → LeavesAsked w (secure_asked row s.secret w) image → image_then (Some row) s.secret (TellsImage rows more) w image
      within w image left = inl left

      failed : (e : BoardFault) → TellsOne row s old (Err e) mid → By (Some row) (Err e) mid
      failed e first = pass_err (world_behind row s.secret) (λ w. LeavesAsked w (secure_asked row s.secret w)) (told_end row s.secret) old mid
          (world_then (Some row) s.secret (all_asked rows more)) (image_then (Some row) s.secret (TellsImage rows more)) (λ w. found_behind told (told_then (Some row) s.secret (all_told rows more) w)) within e first

      lacks : (one : Result Revealed FileFault) → TellsOne row s old (Ok one) mid → By (Some row) (Err BoardMemory) mid
      lacks one first = pass_lacks (world_behind row s.secret) (λ w. LeavesAsked w (secure_asked row s.secret w)) (told_end row s.secret) old mid
          (world_then (Some row) s.secret (all_asked rows more)) (image_then (Some row) s.secret (TellsImage rows more)) (λ w. found_behind told (told_then (Some row) s.secret (all_told rows more) w)) within one first

      stops : (fault : FileFault) → TellsOne row s old (Ok (Err fault)) mid → By (Some row) (Ok (Err fault)) mid
      stops fault first = pass_value (world_behind row s.secret) (λ w. LeavesAsked w (secure_asked row s.secret w)) (told_end row s.secret) old mid
          (world_then (Some row) s.secret (all_asked rows more)) (image_then (Some row) s.secret (TellsImage rows more)) (λ w. found_behind told (told_then (Some row) s.secret (all_told rows more) w)) within (Err fault) (Err fault)
          (λ w e. (
            ap (λ (x : Result Revealed FileFault). unless_fault x (all_asked rows more (world_behind row s.secret w)) (world_behind row s.secret w)) e,
            ap (λ (x : Result Revealed FileFault). found_behind told (next_by x (λ t. next_by (all_told rows more (world_behind row s.secret w)) (λ l. Ok (t ∷ l))))) e,
          ))
          first

      goes_on : (new : Sight) (one : Revealed) (r : Result (Result (List Revealed) FileFault) BoardFault) → TellsOne row s old (Ok (Ok one)) mid → Tells more (told ++ one ∷ []) mid r new → By (Some row) r new
      goes_on new one r first second = pass_both (world_behind row s.secret) (λ w. LeavesAsked w (secure_asked row s.secret w)) (told_end row s.secret) old mid
          (world_then (Some row) s.secret (all_asked rows more)) (image_then (Some row) s.secret (TellsImage rows more)) (λ w. found_behind told (told_then (Some row) s.secret (all_told rows more) w))
          (all_asked rows more) (TellsImage rows more) (λ w. found_behind (told ++ one ∷ []) (all_told rows more w))
          within (λ w image left. inr left) new (Ok one) r
          (λ w e. (
            ap (λ (x : Result Revealed FileFault). unless_fault x (all_asked rows more (world_behind row s.secret w)) (world_behind row s.secret w)) e,
            more_behind told one (all_told rows more (world_behind row s.secret w))
                ∙ ap (λ (x : Result Revealed FileFault). found_behind told (next_by x (λ t. next_by (all_told rows more (world_behind row s.secret w)) (λ l. Ok (t ∷ l))))) e,
          ))
          first second

  -- ---- the first of these users

  module _ (told : List Revealed) (old : Sight) where
    pub tell_failed : (secrets : List SecretRow) (s : SecretRow) (row : UserRow) (mid : Sight) (e : BoardFault) → 1 ≤ length secrets → s ≡ get_or secrets 0 s → Some row ≡ row_of rows s.user
        → TellsOne row s old (Err e) mid → Tells secrets told old (Err e) mid
    tell_failed [] s row mid e some is its first = absurd (omega (arith, some))
    tell_failed (x ∷ more) s row mid e some is its first =
        subst (λ (y : SecretRow). Tells (y ∷ more) told old (Err e) mid) is
        (subst (λ (o : Option UserRow). By s more told old o (Err e) mid) its (failed s more told old row mid e first))

    pub tell_lacks : (secrets : List SecretRow) (s : SecretRow) (row : UserRow) (mid : Sight) (one : Result Revealed FileFault) → 1 ≤ length secrets → s ≡ get_or secrets 0 s → Some row ≡ row_of rows s.user
        → TellsOne row s old (Ok one) mid → Tells secrets told old (Err BoardMemory) mid
    tell_lacks [] s row mid one some is its first = absurd (omega (arith, some))
    tell_lacks (x ∷ more) s row mid one some is its first =
        subst (λ (y : SecretRow). Tells (y ∷ more) told old (Err BoardMemory) mid) is
        (subst (λ (o : Option UserRow). By s more told old o (Err BoardMemory) mid) its (lacks s more told old row mid one first))

    pub tell_stops : (secrets : List SecretRow) (s : SecretRow) (row : UserRow) (mid : Sight) (fault : FileFault) → 1 ≤ length secrets → s ≡ get_or secrets 0 s → Some row ≡ row_of rows s.user
        → TellsOne row s old (Ok (Err fault)) mid → Tells secrets told old (Ok (Err fault)) mid
    tell_stops [] s row mid fault some is its first = absurd (omega (arith, some))
    tell_stops (x ∷ more) s row mid fault some is its first =
        subst (λ (y : SecretRow). Tells (y ∷ more) told old (Ok (Err fault)) mid) is
        (subst (λ (o : Option UserRow). By s more told old o (Ok (Err fault)) mid) its (stops s more told old row mid fault first))

    pub tell_next : (secrets : List SecretRow) (s : SecretRow) (row : UserRow) (mid new : Sight) (one : Revealed) (all : List Revealed) (r : Result (Result (List Revealed) FileFault) BoardFault)
        → 1 ≤ length secrets → s ≡ get_or secrets 0 s → Some row ≡ row_of rows s.user
        → TellsOne row s old (Ok (Ok one)) mid → all ≡ told ++ one ∷ [] → Tells (behind secrets) all mid r new → Tells secrets told old r new
    tell_next [] s row mid new one all r some is its first put rest = absurd (omega (arith, some))
    tell_next (x ∷ more) s row mid new one all r some is its first put rest =
        subst (λ (y : SecretRow). Tells (y ∷ more) told old r new) is
        (subst (λ (o : Option UserRow). By s more told old o r new) its
        (goes_on s more told old row mid new one r first
        (subst (λ (l : List Revealed). Tells more l mid r new) put (subst (λ (l : List SecretRow). Tells l all mid r new) (behind_first x more) rest))))

    pub tell_skips : (secrets : List SecretRow) (s : SecretRow) (new : Sight) (r : Result (Result (List Revealed) FileFault) BoardFault) → 1 ≤ length secrets → s ≡ get_or secrets 0 s → None ≡ row_of rows s.user
        → Tells (behind secrets) told old r new → Tells secrets told old r new
    tell_skips [] s new r some is none rest = absurd (omega (arith, some))
    tell_skips (x ∷ more) s new r some is none rest =
        subst (λ (y : SecretRow). Tells (y ∷ more) told old r new) is
        (subst (λ (o : Option UserRow). By s more told old o r new) none (subst (λ (l : List SecretRow). Tells l told old r new) (behind_first x more) rest))

-- ---- all of them

pub tell_all : (rows its : List UserRow) (secrets whole : List SecretRow) (told : List Revealed) (old new : Sight) (r : Result (Result (List Revealed) FileFault) BoardFault) → rows ≡ its → secrets ≡ whole → told ≡ []
    → Tells rows secrets told old r new → Passes (all_asked its whole) (TellsImage its whole) (all_told its whole) old r new
tell_all rows its secrets whole told old new r same_rows same_secrets none tells =
    pass_same (all_asked its whole) (TellsImage its whole) (λ w. found_behind [] (all_told its whole w)) (all_told its whole) old r new (λ w. behind_nothing (all_told its whole w))
    (subst (λ (l : List Revealed). Tells its whole l old r new) none
    (subst (λ (l : List SecretRow). Tells its l told old r new) same_secrets (subst (λ (l : List UserRow). Tells l secrets told old r new) same_rows tells)))
