-- The key, the files and the cell of an arming are written, and the next record may be committed.
use Rattle.std.proofs.Common.{◌≡◌, ℕ, Bool, cond, List, [], ◌∷◌, ◌++◌, Option, None, Some, refl, sym, ◌∙◌, ap, subst}
use Rattle.std.specs.Ordering.{nat_cmp}
use Rattle.std.proofs.lemmas.Cmp.{nat_cmp_total}
use Rattle.ls_board.specs.declared.action.Action.{Action}
use Rattle.ls_board.specs.declared.action.Action.TheVariants.{KeyPut, ResumeStore, Sync}
use Rattle.ls_board.specs.declared.world.World.{World}
use Rattle.ls_board.specs.Effect.{file_at, after}
use Rattle.ls_board.specs.Keys.{key_at}
use Rattle.ls_board.specs.Reach.{AllTouchOnly}
use Rattle.ls_board.specs.Runs.{after_all}
use Rattle.ls_board.proofs.LookupLemmas.{put_same}
use Rattle.ls_board.proofs.RunLemmas.{after_all-append}
use Rattle.ls_formats.specs.PartNames.{part_name_text}
use Rattle.ls_record.specs.declared.edit.Edit.TheVariants.{SetArmed}
use Rattle.ls_arming.specs.declared.arming.Arming.{Arming}
use Rattle.ls_record.specs.Edits.{changed as edited, MayChange}
use Rattle.ls_record.specs.Rows.{Rec, IsRecord}
use Rattle.ls_standing.specs.Quiet.{unnamed}
use Rattle.ls_standing.specs.Same.{SameNamed}
use Rattle.ls_standing.specs.Standing.{Holds, NamedAreUntouched}
use Rattle.ls_standing.proofs.FrameLemmas.{holds_same}
use Rattle.ls_standing.proofs.IdLemmas.{is_row}
use Rattle.ls_standing.proofs.QuietLemmas.{plan_kept}
use Rattle.ls_standing.proofs.SameLemmas.{named_trans}
use Rattle.ls_standing.proofs.TouchLemmas.{all_quiet}
use Rattle.ls_vault.specs.declared.vault.Vault.{Vault}
use Rattle.ls_edits.specs.Arming.{resume_of, arming_files, arming_actions, AllHaveResume, OpensFor, AllOpen}
use Rattle.ls_edits.proofs.ArmLemmas.{armed_holds}
use Rattle.ls_edits.proofs.PutFilesLemmas.{put_all, put_rest, AreSmall}
use Rattle.ls_edits.proofs.UnarmedLemmas.{no_key, files_touch, touch_append, rows_users}
use Rattle.ls_edits.proofs.ReadyLemmas.{same_synced}

module _ (w : World) (r : Rec) (v : Vault) (a : Arming) (key once : List ℕ) (content : ℕ → List ℕ) (is : IsRecord r) (holds : Holds w r v) (unarmed : r.armed ≡ None)
    (may : MayChange r (SetArmed a)) (opens : AllOpen r v a key once content) where
  small : AreSmall a.users
  small = rows_users r.users a.users (λ x h. (is_row r is x h).user) may.there

  abbrev keyed : World
  keyed = after w (KeyPut 0 key) 0

  abbrev filed : World
  filed = after_all keyed (arming_files content a.users)

  abbrev last : World
  last = record filed { cell = Some once; touched = [] }

  abbrev plan : List Action
  plan = arming_actions key once content a.users

  last_is : after_all w plan ≡ last
  last_is = after_all-append keyed (arming_files content a.users) (ResumeStore once ∷ Sync ∷ [])

  abbrev first : List Action
  first = KeyPut 0 key ∷ (arming_files content a.users ++ ResumeStore once ∷ [])

  first_is : after_all w first ≡ record filed { cell = Some once }
  first_is = after_all-append keyed (arming_files content a.users) (ResumeStore once ∷ [])

  touch : AllTouchOnly (unnamed w r) first
  touch = (no_key w r is unarmed, touch_append w r is unarmed (arming_files content a.users) (ResumeStore once ∷ []) (files_touch w r is unarmed content a.users small) (unarmed, tt))

  same : SameNamed r w last
  same =
      let kept : SameNamed r w (record filed { cell = Some once }) = subst (λ (z : World). SameNamed r w z) first_is (plan_kept r w first (all_quiet w r first touch)).named in
      named_trans w (record filed { cell = Some once }) last r kept (same_synced r (record filed { cell = Some once }))

  key_there : key_at last.keys 0 ≡ Some key
  key_there = ap (λ (z : World). key_at z.keys 0) (put_rest content keyed a.users) ∙ put_same nat_cmp nat_cmp_total w.keys 0 key

  all_have : AllHaveResume last r v a once
  all_have row u h found on =
      let its = opens row u h found on in
      record {
        file = content row.user;
        there = put_all content keyed a.users row.user small (is_row r is row h).user ∙ ap (λ (b : Bool). cond b (Some (content row.user)) (file_at keyed (part_name_text (resume_of row.user)))) on;
        form = its.form;
        opens = subst (λ (k : Option (List ℕ)). OpensFor k once (content row.user) u) (sym key_there) its.opens;
      }

  pub arming_readied : Holds (after_all w plan) (edited r (SetArmed a)) (record v { arming = Some a })
  arming_readied = subst (λ (z : World). Holds z (edited r (SetArmed a)) (record v { arming = Some a })) (sym last_is)
      (armed_holds last r v is (holds_same r w last same v holds) a once may refl all_have)

  pub arming_untouched : NamedAreUntouched (after_all w plan) (edited r (SetArmed a))
  arming_untouched = subst (λ (z : World). NamedAreUntouched z (edited r (SetArmed a))) (sym last_is) (λ name named. refl)
