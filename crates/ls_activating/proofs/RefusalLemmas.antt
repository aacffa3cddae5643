-- Why tokens of a user don't become active, by the session as by the machine.
use Rattle.std.proofs.Common.{◌≡◌, ◌≢◌, not, ℕ, Bool, true, false, cond, List, Option, None, Some, refl, sym, ap, subst, ◌∙◌}
use Rattle.std.specs.Prelude.{Result, Ok}
use Rattle.ls_board.specs.Acts.{Sight}
use Rattle.ls_record.specs.declared.row.UserRow.{UserRow}
use Rattle.ls_script.specs.declared.command.Command.TheVariants as command
use Rattle.ls_script.specs.declared.reply.Refusal.{Refusal}
use Rattle.ls_script.specs.declared.reply.Refusal.TheVariants.{Corrupt, Locked, NoUser}
use Rattle.ls_script.specs.declared.reply.Reply.{Reply}
use Rattle.ls_script.specs.declared.reply.Reply.TheVariants.{No}
use Rattle.ls_turn.specs.declared.session.Session.{Session}
use Rattle.ls_turn.specs.declared.stop.Stop.{Stop}
use Rattle.ls_turn.specs.Refusing.{IsOwn, Refuses, is_open, of_row, own_refusal, row_of}
use Rattle.ls_users.proofs.FoundLemmas.{entry_of, opened_not}

-- ---- what is at fault in the files

-- it is no refusal of the command's own
pub corrupt_refuses : (old : Sight) (x : Session) (why : Refusal) (name : List ℕ) (at : ℕ) → why ≡ Corrupt name at → (y : Session) (new : Sight)
    → Refuses None old x (Ok (No why)) y new
corrupt_refuses old x why name at is y new = record {
  refused = λ w none. absurd (cc);
  only = λ w same own. absurd (subst IsOwn (sym (it w same)) own);
}
  where
    it : (w : Refusal) → ◌≡◌ {A = Result Reply Stop} (Ok (No why)) (Ok (No w)) → Corrupt name at ≡ w
    it w same = cc

-- ---- by the session

abbrev pub own_by : Option UserRow → Bool → Option Refusal
own_by row o = of_row row (λ row. cond o None (Some Locked))

module _ (x : Session) (user : ℕ) (goes : own_refusal x (command.Activate user) ≡ None) where
  own_cases : own_by (row_of x.settings.settled.rec user) (is_open x user) ≡ None
  own_cases = goes

  pub row_some : row_of x.settings.settled.rec user ≢ None
  row_some none = let bad : ◌≡◌ {A = Option Refusal} (Some NoUser) None = sym (ap (λ (r : Option UserRow). own_by r (is_open x user)) none) ∙ goes in cc

  module _ (row : UserRow) (found : row_of x.settings.settled.rec user ≡ Some row) where
    is_opened : (o : Bool) → cond o None (Some Locked) ≡ None → o ≡ true
    is_opened true e = refl
    is_opened false e = absurd (cc)

    opened : is_open x user ≡ true
    opened = is_opened (is_open x user) (sym (ap (λ (r : Option UserRow). own_by r (is_open x user)) found) ∙ goes)

    pub entry_some : entry_of x.opened.items user ≢ None
    entry_some none = let bad : true ≡ false = sym opened ∙ opened_not user x.opened.items none in cc
