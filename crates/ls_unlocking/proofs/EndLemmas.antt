-- What an attempt comes to in a world in which a session agrees.
use Rattle.std.proofs.Common.{◌≡◌, ℕ, Bool, IsTrue, List, Option, Some, Result, Ok, Err, sym, ◌∙◌, ap, subst}
use Rattle.std.specs.List.{Contains}
use Rattle.ls_board.specs.declared.action.Action.{Action}
use Rattle.ls_board.specs.declared.world.World.{World}
use Rattle.ls_board.specs.Acts.{Sight}
use Rattle.ls_chain.specs.declared.fault.Spot.{Spot}
use Rattle.ls_chain.specs.declared.fault.ChainFault.{ChainFault}
use Rattle.ls_chain.specs.declared.fault.ChainFault.TheVariants.{Corrupt, Failed, Memory}
use Rattle.ls_chain.specs.Trying.{MayTry, OnAnswer, after_asked}
use Rattle.ls_naming.specs.Current.{Settled}
use Rattle.ls_record.specs.declared.row.UserRow.{UserRow}
use Rattle.ls_record.specs.Rows.{IsRecord}
use Rattle.ls_revealing.specs.Revealing.{secure_asked, reveal_end}
use Rattle.ls_script.specs.declared.reply.Refusal.{Refusal}
use Rattle.ls_script.specs.declared.reply.Reply.TheVariants.{Opened, No}
use Rattle.ls_script.specs.declared.reply.Revealed.{Revealed}
use Rattle.ls_secret.specs.Secrets.{SecretValue}
use Rattle.ls_standing.specs.Bare.{IsBare}
use Rattle.ls_standing.specs.Standing.{StandsDurably}
use Rattle.ls_turn.specs.Refusing.{row_of}
use Rattle.ls_turn.specs.Serving.{Turned}
use Rattle.ls_turn.proofs.RowLemmas.{row_found, found_user}
use Rattle.ls_vault.specs.declared.state.State.{State}
use Rattle.ls_vault.specs.declared.user.User.{User}
use Rattle.ls_vault.specs.declared.vault.Vault.{Vault}
use Rattle.ls_vault.specs.Revealed.{revealed}
use Rattle.ls_vault.specs.Unlocking.{opened}
use Rattle.ls_vault.specs.Users.{user_of}
use Rattle.ls_attempts.specs.StandingRows.{HoldsRow}
use Rattle.ls_attempts.proofs.RowLemmas.{rows_hold}
use Rattle.ls_unlocking.specs.declared.ending.Tried.{Tried}
use Rattle.ls_unlocking.specs.declared.ending.Tried.TheVariants as tried
use Rattle.ls_unlocking.specs.declared.ending.Ending.{Ending}
use Rattle.ls_unlocking.specs.declared.ending.Ending.TheVariants as ending
use Rattle.ls_unlocking.specs.Trying.{IsBehind, ending_of}
use Rattle.ls_unlocking.proofs.LeadLemmas.{Leads}
use Rattle.ls_unlocking.proofs.RevealEndLemmas.{reveal_ends}
use Rattle.ls_unlocking.proofs.RevealLemmas.{reveal_leads}
use Rattle.ls_unlocking.proofs.TurnLemmas.{Outcomes}

-- The look finds what leads to the turn of the machine, which leaves these moments and this noise.
pub record Ends (user : ℕ) (s : State) (t : Turned) (w : World) (found : Result Tried Spot) : Type 0 where
  pub tried : Tried
  pub is : found ≡ Ok tried
  pub outcome : Outcomes user s t tried
  pub moments : t.stage.moments ≡ w.moments
  pub noise : t.stage.noise ≡ w.noise

same_ok : {T : Type 0} {E : Type 0} {a b : T} → ◌≡◌ {A = Result T E} (Ok a) (Ok b) → a ≡ b
same_ok e = cc

same_some : {T : Type 0} {a b : T} → ◌≡◌ {A = Option T} (Some a) (Some b) → a ≡ b
same_some e = cc

ok_or_err : {T : Type 0} {a : T} {e : Spot} → ◌≡◌ {A = Result T Spot} (Ok a) (Err e) → ⊥
ok_or_err e = cc

module _ (row : UserRow) (user : ℕ) (z : Settled) (is : IsRecord z.rec) (found_row : row_of z.rec user ≡ Some row) (ask : World → Option Action) (look : World → Result Tried Spot)
    (s : State) (t : Turned) (old mid new : Sight) (told : IsTrue old.told) (leads : Leads old.world z s.vault t.stage.state.vault (ask old.world)) where
  abbrev then : Vault
  then = t.stage.state.vault

  -- ---- it opens

  -- what is known of the user then
  pub record IsOpened (secret : SecretValue) : Type 0 where
    pub u : User
    pub there : user_of then.users user ≡ Some u
    pub secret_is : secret ≡ u.secret
    pub reply : t.reply ≡ Opened (revealed u)
    pub state : t.stage.state ≡ opened (record s { vault = then }) user
    pub moments : t.stage.moments ≡ old.world.moments
    pub noise : t.stage.noise ≡ old.world.noise
    pub leads_on : Leads mid.world z then then (secure_asked row secret mid.world)
    pub reveals : reveal_end row secret mid.world ≡ Ok (revealed u)

  module _ (secret : SecretValue) (m : MayTry ask look old (Ok (tried.Opened secret)) mid) (ends : Ends user s t old.world (look old.world)) where
    outcome : Outcomes user s t (tried.Opened secret)
    outcome = subst (Outcomes user s t) (same_ok (sym ends.is ∙ m.finds told)) ends.outcome

    stands_mid : StandsDurably mid.world z then
    stands_mid = subst (λ (w : World). StandsDurably w z then) (sym (m.asked told)) leads.stands

    its_number : (row : UserRow) (u : User) → HoldsRow mid.world z.rec row u → row.user ≡ u.number
    its_number row u h = h.holds.says.number

    held : (u : User) × (user_of then.users user ≡ Some u) × HoldsRow mid.world z.rec row u
    held = found_user (HoldsRow mid.world z.rec) its_number user z.rec.users then.users (rows_hold mid.world z.rec then stands_mid.stands.holds) row found_row

    holds : HoldsRow mid.world z.rec row outcome.0
    holds = subst (HoldsRow mid.world z.rec row) (same_some (sym held.1 ∙ outcome.1)) held.2

    here : Contains z.rec.users row
    here = (row_found user z.rec.users row found_row).0

    pub is_opened : IsOpened secret
    is_opened = record {
      u = outcome.0;
      there = outcome.1;
      secret_is = outcome.2;
      reply = outcome.3;
      state = outcome.4;
      moments = ends.moments;
      noise = ends.noise;
      leads_on = subst (λ (x : SecretValue). Leads mid.world z then then (secure_asked row x mid.world)) (sym outcome.2) (reveal_leads mid.world z then row outcome.0 is stands_mid here holds);
      reveals = ap (λ (x : SecretValue). reveal_end row x mid.world) outcome.2 ∙ reveal_ends mid.world z.rec row outcome.0 is holds;
    }

  -- ---- what it comes to

  -- the world stands for the vault then, and is bare again; the turn leaves its moments and its noise
  pub record Stays : Type 0 where
    pub moments : t.stage.moments ≡ old.world.moments
    pub noise : t.stage.noise ≡ old.world.noise
    pub stands : StandsDurably new.world z then
    pub bare : (start : World) (retired : List (List ℕ)) → IsBare start old.world z.rec retired → IsBare start new.world z.rec retired

  -- the user is opened by this secret and gets this
  pub record Gets (secret : SecretValue) (told_of : Revealed) : Type 0 where
    pub u : User
    pub there : user_of then.users user ≡ Some u
    pub secret_is : secret ≡ u.secret
    pub gets : told_of ≡ revealed u
    pub reply : t.reply ≡ Opened (revealed u)
    pub state : t.stage.state ≡ opened (record s { vault = then }) user
    pub stays : Stays

  pub record IsRefused (why : Refusal) : Type 0 where
    pub reply : t.reply ≡ No why
    pub state : t.stage.state ≡ record s { vault = then }
    pub stays : Stays

  abbrev pub EndIs : Result Ending ChainFault → Type 0
  EndIs (Ok (ending.Opened secret told_of)) = Gets secret told_of
  EndIs (Ok (ending.Refused why)) = IsRefused why
  EndIs (Err (Corrupt spot)) = ⊥
  EndIs (Err (Failed part)) = Unit {0}
  EndIs (Err Memory) = Unit {0}

  module _ (secret : SecretValue) (m : MayTry ask look old (Ok (tried.Opened secret)) mid) (o : IsOpened secret) where
    still : IsTrue mid.told
    still = subst (λ (b : Bool). IsTrue b) (sym m.keeps.told) told

    by_reveal : (r : Result Revealed ChainFault) → MayTry (secure_asked row secret) (reveal_end row secret) mid r new → EndIs (ending_of secret r)
    by_reveal (Ok told_of) b = record {
      u = o.u;
      there = o.there;
      secret_is = o.secret_is;
      gets = same_ok (sym (b.finds still) ∙ o.reveals);
      reply = o.reply;
      state = o.state;
      stays = record {
        moments = o.moments;
        noise = o.noise;
        stands = subst (λ (w : World). StandsDurably w z then) (sym (b.asked still)) o.leads_on.stands;
        bare = λ start retired bare.
            subst (λ (w : World). IsBare start w z.rec retired) (sym (b.asked still)) (o.leads_on.bare start retired
            (subst (λ (w : World). IsBare start w z.rec retired) (sym (m.asked told)) (leads.bare start retired bare)));
      };
    }
    by_reveal (Err (Corrupt spot)) b = ok_or_err (sym o.reveals ∙ b.finds still)
    by_reveal (Err (Failed part)) b = tt
    by_reveal (Err Memory) b = tt

  pub end_is : (end : Result Ending ChainFault) (x : Result Tried ChainFault) → MayTry ask look old x mid → IsBehind row mid x end new → OnAnswer x (Ends user s t old.world (look old.world)) → EndIs end
  end_is end (Ok (tried.Opened secret)) m b ends = subst EndIs (sym b.2) (by_reveal secret m (is_opened secret m ends) b.0 b.1)
  end_is end (Ok (tried.Refused why)) m b ends =
      let outcome = subst (Outcomes user s t) (same_ok (sym ends.is ∙ m.finds told)) ends.outcome in
      let at : new.world ≡ after_asked old.world (ask old.world) = ap (λ (x : Sight). x.world) b.1 ∙ m.asked told in
      subst EndIs (sym b.0) (record {
        reply = outcome.0;
        state = outcome.1;
        stays = record {
          moments = ends.moments;
          noise = ends.noise;
          stands = subst (λ (w : World). StandsDurably w z then) (sym at) leads.stands;
          bare = λ start retired bare. subst (λ (w : World). IsBare start w z.rec retired) (sym at) (leads.bare start retired bare);
        };
      })
  end_is end (Err (Corrupt spot)) m b ends = absurd (ok_or_err (sym ends.is ∙ m.finds told))
  end_is end (Err (Failed part)) m b ends = subst EndIs (sym b.0) tt
  end_is end (Err Memory) m b ends = subst EndIs (sym b.0) tt
