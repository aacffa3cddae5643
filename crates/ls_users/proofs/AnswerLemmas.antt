-- The length of a PIN is to be shown or hidden, and nothing is committed.
use Rattle.std.proofs.Common.{◌≡◌, ◌≢◌, ℕ, Bool, true, false, cond, List, Option, None, Some, refl, sym, ◌∙◌, ap, subst, arith}
use Rattle.std.specs.Prelude.{Result, Ok, IfOk, ◌==◌}
use Rattle.std.proofs.lemmas.Bool.{eq-eqb, ne_eqb}
use Rattle.ls_board.specs.declared.world.World.{World}
use Rattle.ls_board.specs.Acts.{Sight}
use Rattle.ls_naming.specs.Current.{last_sequence}
use Rattle.ls_record.specs.declared.row.UserRow.{UserRow}
use Rattle.ls_script.specs.declared.command.Command.TheVariants as command
use Rattle.ls_script.specs.declared.reply.Reply.{Reply}
use Rattle.ls_script.specs.declared.reply.Reply.TheVariants.{Fine, No}
use Rattle.ls_script.specs.declared.reply.Refusal.{Refusal}
use Rattle.ls_script.specs.declared.reply.Refusal.TheVariants.{NoUser, Locked, Worn}
use Rattle.ls_vault.specs.declared.state.State.{State}
use Rattle.ls_vault.specs.declared.user.User.{User}
use Rattle.ls_vault.specs.declared.vault.Books.{Books}
use Rattle.ls_vault.specs.Refusals.{differs, is_opened}
use Rattle.ls_vault.specs.Script.{Stage}
use Rattle.ls_vault.specs.States.{with_users}
use Rattle.ls_vault.specs.Users.{changed}
use Rattle.ls_turn.specs.declared.session.Session.{Session}
use Rattle.ls_turn.specs.declared.session.Opened.{Opened}
use Rattle.ls_turn.specs.declared.stop.Stop.{Stop}
use Rattle.ls_turn.specs.Agreeing.{Agrees}
use Rattle.ls_turn.specs.Refusing.{Refuses, is_open, of_row, own_refusal, row_of}
use Rattle.ls_turn.specs.Serving.{CanServe, Serves, Turned, turned, stage_in, Always}
use Rattle.ls_turn.proofs.KnownLemmas.{opened_is}
use Rattle.ls_turn.proofs.RefuseLemmas.{refuses, unrefused}
use Rattle.ls_turn.proofs.RowLemmas.{user_there, nobody_there}
use Rattle.ls_turn.proofs.StillLemmas.{answered}
use Rattle.ls_users.proofs.FoundLemmas.{entry_of, opened_there, opened_not}
use Rattle.ls_users.proofs.PinLemmas.{same_flag}
use Rattle.ls_users.proofs.TurnLemmas.{auto_nobody, auto_locked, auto_same, auto_worn}
use Rattle.ls_users.proofs.UserLemmas.{same_changed}

module _ (old : Sight) (x : Session) (user : ℕ) (on : Bool) where
  abbrev turn : Stage → Turned
  turn = turned x.slots (command.AutoPin user on)

  abbrev own : Option Refusal
  own = own_refusal x (command.AutoPin user on)

  -- by the row of the user, whether it is opened, and whether nothing can be kept
  abbrev own_by : Option UserRow → Bool → Bool → Option Refusal
  own_by row o worn = of_row row (λ row. cond o (cond (differs row.auto on) (cond worn (Some Worn) None) None) (Some Locked))

  abbrev last : Bool
  last = x.settings.settled.sequence == last_sequence

  -- ---- there is no such user

  module _ (none : row_of x.settings.settled.rec user ≡ None) where
    pub nobody_serves : CanServe old x → Serves old x turn Always (Ok (No NoUser)) x old
    nobody_serves can = answered old x turn Always (No NoUser) can (omega arith)
        (λ s agrees. auto_nobody x.slots (stage_in old.world s) user on (nobody_there old.world x s agrees user none))

    pub nobody_refuses : Refuses own old x (Ok (No NoUser)) x old
    nobody_refuses = refuses own old x NoUser (ap (λ (row : Option UserRow). own_by row (is_open x user) last) none)

  module _ (row : UserRow) (found : row_of x.settings.settled.rec user ≡ Some row) where
    -- ---- it is closed

    module _ (none : entry_of x.opened.items user ≡ None) where
      closed : is_open x user ≡ false
      closed = opened_not user x.opened.items none

      pub locked_serves : CanServe old x → Serves old x turn Always (Ok (No Locked)) x old
      locked_serves can = answered old x turn Always (No Locked) can (omega arith)
          (λ s agrees.
          let its = user_there old.world x s agrees user row found in
          auto_locked x.slots (stage_in old.world s) user on its.0 its.1 (opened_is old.world x s agrees user ∙ closed))

      pub locked_refuses : Refuses own old x (Ok (No Locked)) x old
      locked_refuses = refuses own old x Locked
          (ap (λ (row : Option UserRow). own_by row (is_open x user) last) found ∙ ap (λ (o : Bool). own_by (Some row) o last) closed)

    module _ (o : Opened) (opened : entry_of x.opened.items user ≡ Some o) where
      is_there : is_open x user ≡ true
      is_there = opened_there user x.opened.items o opened

      pub open_now : (w : World) (s : State) → Agrees w x s → is_opened s user ≡ true
      open_now w s agrees = opened_is w x s agrees user ∙ is_there

      own_now : (d worn : Bool) → differs row.auto on ≡ d → last ≡ worn → own ≡ cond d (cond worn (Some Worn) None) None
      own_now d worn is stands =
          ap (λ (row : Option UserRow). own_by row (is_open x user) last) found
          ∙ (ap (λ (o : Bool). own_by (Some row) o last) is_there
          ∙ (ap (λ (d : Bool). cond d (cond last (Some Worn) None) None) is
          ∙ ap (λ (worn : Bool). cond d (cond worn (Some Worn) None) None) stands))

      -- ---- it is shown so already

      module _ (same : differs row.auto on ≡ false) where
        pub same_serves : CanServe old x → Serves old x turn Always (Ok Fine) x old
        same_serves can = answered old x turn Always Fine can (omega arith)
            (λ s agrees.
            let its = user_there old.world x s agrees user row found in
            let flag : its.0.auto ≡ on = sym its.2.says.auto ∙ same_flag row.auto on same in
            let users : changed s.vault.users user (λ v. record v { auto = on }) ≡ s.vault.users =
            same_changed s.vault.users user its.0 (λ v. record v { auto = on }) its.1 (ap (λ (b : Bool). record its.0 { auto = b }) (sym flag)) in
            auto_same x.slots (stage_in old.world s) user on its.0 its.1 (open_now old.world s agrees) (ap (λ (b : Bool). differs b on) (sym its.2.says.auto) ∙ same)
            ∙ ap (λ (l : List User). record { reply = Fine; stage = record { state = with_users s l; moments = old.world.moments; noise = old.world.noise } }) users)

        no_reply : (w : Refusal) → ◌≡◌ {A = Result Reply Stop} (Ok Fine) (Ok (No w)) → ⊥
        no_reply w e = cc

        pub same_refuses : Refuses own old x (Ok Fine) x old
        same_refuses = unrefused own old x (Ok Fine) x old (own_now false last same refl) (λ w is its. no_reply w is)

      module _ (other : differs row.auto on ≡ true) where
        -- ---- nothing can be kept

        module _ (at : x.settings.settled.sequence ≡ last_sequence) where
          is_last : last ≡ true
          is_last = eq-eqb x.settings.settled.sequence last_sequence at

          pub worn_serves : CanServe old x → Serves old x turn Always (Ok (No Worn)) x old
          worn_serves can = answered old x turn Always (No Worn) can (omega arith)
              (λ s agrees.
              let its = user_there old.world x s agrees user row found in
              auto_worn x.slots (stage_in old.world s) user on its.0 its.1 (open_now old.world s agrees) (ap (λ (b : Bool). differs b on) (sym its.2.says.auto) ∙ other)
              (eq-eqb s.books.kept last_sequence (ap (λ (b : Books). b.kept) agrees.books_are ∙ at)))

          pub worn_refuses : Refuses own old x (Ok (No Worn)) x old
          worn_refuses = refuses own old x Worn (own_now true true other is_last)

        -- ---- it is to be another

        pub no_refusal : x.settings.settled.sequence ≢ last_sequence → own ≡ None
        no_refusal apart = own_now true false other (ne_eqb x.settings.settled.sequence last_sequence apart)

        module _ (apart : x.settings.settled.sequence ≢ last_sequence) where
          -- the change is refused by nothing
          pub goes_on_refuses : (result : Result Reply Stop) (y : Session) (new : Sight) → IfOk result (λ r. r ≡ Fine) → Refuses own old x result y new
          goes_on_refuses result y new fine = unrefused own old x result y new (no_refusal apart) (λ w is its. not_fine w (subst (λ (r : Result Reply Stop). IfOk r (λ r. r ≡ Fine)) is fine))
            where
              not_fine : (w : Refusal) → No w ≡ Fine → ⊥
              not_fine w e = cc
