-- A `resume` file that was written opens.
use Rattle.std.proofs.Common.{◌≡◌, ◌+◌, ℕ, List, length, Option, Some, refl, ap, ◌∙◌, arith, subst, sym}
use Rattle.std.specs.Prelude.{◌==◌}
use Rattle.std.specs.List.{list_all}
use Rattle.std.specs.Option.{option_and_then}
use Rattle.std.proofs.lemmas.Bool.{and_parts, eqb-true}
use Rattle.ls_board.specs.declared.world.World.{World}
use Rattle.ls_board.specs.Keys.{key_at}
use Rattle.ls_formats.specs.Contents.{AreBytes}
use Rattle.ls_formats.specs.declared.part.FilePart.TheVariants.{Resume}
use Rattle.ls_gcm.specs.Gcm.{gcm_seal, gcm_open}
use Rattle.ls_gcm.proofs.SealingLemmas.{parts, gcm_open-gcm_seal}
use Rattle.ls_record.specs.declared.row.UserRow.{UserRow}
use Rattle.ls_secret.specs.Secrets.{IsSecret, is_upper_digit}
use Rattle.ls_standing.specs.Named.{user_file}
use Rattle.ls_vault.specs.declared.user.User.{User}
use Rattle.ls_edits.specs.Arming.{resume_bytes, HasResume, IsResumeFor, OpensFor}
use Rattle.ls_gcm.proofs.SealedBytesLemmas.{seal_small}
use Rattle.ls_sealing.proofs.WrittenBytesLemmas.{digits_small}

pub resume_is : (row : UserRow) (u : User) (key once inner outer : List ℕ) → AreBytes 32 key → AreBytes 32 once → AreBytes 12 inner → AreBytes 12 outer
    → IsSecret u.secret → IsResumeFor key once (resume_bytes key once inner outer u.secret.sp) row u
resume_is row u key once inner outer key_are once_are inner_are outer_are secret =
    let sp : List ℕ = u.secret.sp in
    let layer : List ℕ = gcm_seal once inner sp in
    let whole : List ℕ = gcm_seal key outer layer in
    let text = and_parts (length sp == 128) (list_all is_upper_digit sp) secret.sp in
    let text_long : length sp ≡ 128 = eqb-true (length sp) 128 text.0 in
    let layer_long : length layer ≡ 28 + length sp = (parts once inner sp layer once_are.long inner_are.long refl).0 in
    let whole_long : length whole ≡ 28 + length layer = (parts key outer layer whole key_are.long outer_are.long refl).0 in
    record {
      form = (
        whole,
        refl,
        record {
          long = omega (arith, whole_long, layer_long, text_long);
          each = seal_small key outer layer key_are.each outer_are.each (seal_small once inner sp once_are.each inner_are.each (digits_small sp text.1));
        },
      );
      opens =
          ap (λ (o : Option (List ℕ)). option_and_then (gcm_open once) o) (gcm_open-gcm_seal key outer layer whole key_are.long outer_are.long refl)
          ∙ gcm_open-gcm_seal once inner sp layer once_are.long inner_are.long refl;
    }

pub resume_there : (w : World) (row : UserRow) (u : User) (key once file : List ℕ) → key_at w.keys 0 ≡ Some key → user_file w row Resume ≡ Some file → IsResumeFor key once file row u → HasResume w once row u
resume_there w row u key once file key_is there its = record {
  file = file;
  there = there;
  form = its.form;
  opens = subst (λ (k : Option (List ℕ)). OpensFor k once file u) (sym key_is) its.opens;
}
