-- A credential is offered, as the machine does it.
use Rattle.std.proofs.Common.{◌≡◌, ◌<◌, ℕ, Bool, true, false, cond, IsTrue, List, Option, None, Some, Result, Ok, Err, refl, sym, ◌∙◌, ap, subst, arith}
use Rattle.std.specs.Prelude.{is_some, bytes_eq, IfOk}
use Rattle.std.specs.List.{Contains}
use Rattle.ls_board.specs.declared.action.Action.{Action}
use Rattle.ls_board.specs.declared.devices.Counter.{Counter}
use Rattle.ls_board.specs.declared.world.World.{World}
use Rattle.ls_board.specs.Acts.{Sight}
use Rattle.ls_board.specs.Gatekeeper.{counter_after}
use Rattle.ls_board.specs.Worlds.{InOrder}
use Rattle.ls_chain.specs.declared.fault.Spot.{Spot}
use Rattle.ls_chain.specs.declared.fault.ChainFault.{ChainFault}
use Rattle.ls_chain.specs.declared.fault.ChainFault.TheVariants.{Corrupt, Failed, Memory}
use Rattle.ls_chain.specs.declared.offered.Offered.{Offered}
use Rattle.ls_chain.specs.declared.trying.AttemptEnd.{AttemptEnd}
use Rattle.ls_chain.specs.Attempting.{device_asked, handle_asked}
use Rattle.ls_chain.specs.Links.{links_at, next_of}
use Rattle.ls_chain.specs.Offers.{offer_chain}
use Rattle.ls_chain.specs.SealedEnds.{sealed_end}
use Rattle.ls_chain.specs.Trying.{OnAnswer, asked_of}
use Rattle.ls_credential.specs.declared.kind.Kind.{Kind}
use Rattle.ls_credential.specs.declared.kind.Kind.TheVariants.{Empty, Pattern, Pin, Password}
use Rattle.ls_credential.specs.Rules.{KindAndText}
use Rattle.ls_formats.specs.declared.parts.Parts.{Parts}
use Rattle.ls_naming.specs.Current.{Settled}
use Rattle.ls_record.specs.declared.row.UserRow.{UserRow}
use Rattle.ls_record.specs.Rows.{Rec, IsRecord}
use Rattle.ls_script.specs.declared.command.Command.TheVariants as command
use Rattle.ls_script.specs.declared.reply.Refusal.{Refusal}
use Rattle.ls_script.specs.declared.reply.Refusal.TheVariants.{NoUser, WrongKind}
use Rattle.ls_script.specs.declared.reply.Reply.{Reply}
use Rattle.ls_script.specs.declared.reply.Reply.TheVariants.{No}
use Rattle.ls_sealing.specs.Apart.{IsApart}
use Rattle.ls_sealing.specs.Protectors.{Protector, held, held_number}
use Rattle.ls_serving.specs.Met.{MetBetween}
use Rattle.ls_serving.proofs.MetLemmas.{met_front}
use Rattle.ls_serving.proofs.TurnLemmas.{inside_extends}
use Rattle.ls_standing.specs.Asking.{counted, with_failures}
use Rattle.ls_standing.specs.Named.{credential_of, held_of_row}
use Rattle.ls_standing.specs.Standing.{HoldsUser}
use Rattle.ls_standing.proofs.ProtectorLemmas.{numbers}
use Rattle.ls_tape.specs.Tape.{next_moment, later_moments}
use Rattle.ls_turn.specs.declared.session.Session.{Session}
use Rattle.ls_turn.specs.declared.session.Opened.{Opened}
use Rattle.ls_turn.specs.declared.stop.Cause.{Cause}
use Rattle.ls_turn.specs.declared.stop.Stop.{Stop}
use Rattle.ls_turn.specs.Agreeing.{Agrees, HaveMetrics, HaveSecrets, parts_in}
use Rattle.ls_turn.specs.Refusing.{Refuses, of_row, own_refusal, row_of}
use Rattle.ls_turn.specs.Serving.{CanServe, MeetsFair, Serves, Turned, stage_in, turned, vault_after}
use Rattle.ls_turn.proofs.RefuseLemmas.{refuses, unrefused}
use Rattle.ls_turn.proofs.RowLemmas.{nobody_there, row_found, user_there}
use Rattle.ls_turn.proofs.StillLemmas.{HasKept, answered}
use Rattle.ls_turn.proofs.StoredLemmas.{stored_agrees}
use Rattle.ls_vault.specs.declared.state.State.{State}
use Rattle.ls_vault.specs.declared.user.User.{User}
use Rattle.ls_vault.specs.declared.vault.Vault.{Vault}
use Rattle.ls_vault.specs.Kinds.{same_kind}
use Rattle.ls_vault.specs.Revealed.{shown_metrics}
use Rattle.ls_vault.specs.Script.{Stage}
use Rattle.ls_vault.specs.Users.{user_of}
use Rattle.ls_users.proofs.UserLemmas.{user_changed}
use Rattle.ls_attempts.specs.StandingRows.{HoldsRow, failures_of}
use Rattle.ls_attempts.proofs.EndLemmas.{credential_ends}
use Rattle.ls_unlocking.specs.declared.ending.Tried.{Tried}
use Rattle.ls_unlocking.specs.declared.ending.Ending.{Ending}
use Rattle.ls_unlocking.specs.Fairness.{IsFair}
use Rattle.ls_unlocking.specs.Finishing.{Finishes}
use Rattle.ls_unlocking.specs.Found.{credential_reply, moment_taken, reply_of, unlocked_in}
use Rattle.ls_unlocking.specs.Moments.{Takes}
use Rattle.ls_unlocking.specs.Trying.{EndsLate, Unlocks, credential_ask, credential_look, credential_tried}
use Rattle.ls_unlocking.proofs.AlikeLemmas.{Alike}
use Rattle.ls_unlocking.proofs.AskedLemmas.{MayAsk}
use Rattle.ls_unlocking.proofs.CredentialLemmas.{credential_leads}
use Rattle.ls_unlocking.proofs.EndLemmas.{Ends}
use Rattle.ls_unlocking.proofs.FoundLemmas.{finish_found, unlock_finds}
use Rattle.ls_unlocking.proofs.LeadLemmas.{Leads}
use Rattle.ls_unlocking.proofs.MomentLemmas.{moment_kept, moment_is, moment_met}
use Rattle.ls_unlocking.proofs.PartLemmas.{credential_named, parts_are, same_parts}
use Rattle.ls_unlocking.proofs.OpenedLemmas.{finish_late}
use Rattle.ls_unlocking.proofs.ServeLemmas.{Owes, finish_serves}
use Rattle.ls_unlocking.proofs.TurnLemmas.{Outcomes, attempt_nobody, attempt_kind, attempt_counts, attempt_outcome, attempt_moments, attempt_noise}
use Rattle.ls_unlocking.proofs.UnlockLemmas.{unlock_keeps}

pub same_some : {T : Type 0} {a b : T} → ◌≡◌ {A = Option T} (Some a) (Some b) → a ≡ b
same_some e = cc

-- ---- kinds

own_kind : (a : Kind) → same_kind a a ≡ true
own_kind Empty = refl
own_kind Pattern = refl
own_kind Pin = refl
own_kind Password = refl

one_kind : (a b : Kind) → a ≡ b → same_kind a b ≡ true
one_kind a b e = subst (λ (k : Kind). same_kind a k ≡ true) e (own_kind a)

pub kinds_are : (a b : Kind) → same_kind a b ≡ true → a ≡ b
kinds_are Empty Empty e = refl
kinds_are Empty Pattern e = absurd (cc)
kinds_are Empty Pin e = absurd (cc)
kinds_are Empty Password e = absurd (cc)
kinds_are Pattern Empty e = absurd (cc)
kinds_are Pattern Pattern e = refl
kinds_are Pattern Pin e = absurd (cc)
kinds_are Pattern Password e = absurd (cc)
kinds_are Pin Empty e = absurd (cc)
kinds_are Pin Pattern e = absurd (cc)
kinds_are Pin Pin e = refl
kinds_are Pin Password e = absurd (cc)
kinds_are Password Empty e = absurd (cc)
kinds_are Password Pattern e = absurd (cc)
kinds_are Password Pin e = absurd (cc)
kinds_are Password Password e = refl

pub other_kinds : (a b : Kind) → same_kind a b ≡ false → a ≡ b → ⊥
other_kinds a b other e = let wrong : false ≡ true = sym other ∙ one_kind a b e in cc

-- ---- a row and a session

-- the id of a credential's protector isn't 0
pub some_protector : (r : Rec) → IsRecord r → (user : ℕ) (row : UserRow) → row_of r user ≡ Some row → 0 < row.protector
some_protector r is user row found =
    let here = (row_found user r.users row found).0 in
    (numbers r is (credential_of row) (credential_named r row here)).some

-- a session that only stopped has what it had
pub stopped_kept : (x y : Session) (why : Option Cause) → y ≡ record x { stopped = why } → HasKept x y
stopped_kept x y why is = record {
  slots = ap (λ (z : Session). z.slots) is;
  boot = ap (λ (z : Session). z.boot) is;
  settings = ap (λ (z : Session). z.settings) is;
  named = ap (λ (z : Session). z.named.items) is;
  retired = ap (λ (z : Session). z.retired.items) is;
}

-- ---- the devices that may be asked

handle_may : (o : Option (List ℕ)) (text : List ℕ) (moment : ℕ) → MayAsk (handle_asked o text moment)
handle_may None text moment = tt
handle_may (Some handle) text moment = tt

device_may : (slot : Option ℕ) (moment : ℕ) (o : Offered) → MayAsk (device_asked slot moment o)
device_may (Some n) moment o = tt
device_may None moment o = handle_may o.handle o.stretched moment

offer_may : (slot : Option ℕ) (moment : ℕ) (x : Result Offered Spot) → MayAsk (asked_of x (device_asked slot moment))
offer_may slot moment (Ok o) = device_may slot moment o
offer_may slot moment (Err e) = tt

pub credential_may : (q : Parts) (kind : Kind) (text : List ℕ) (moment : ℕ) (w : World) → MayAsk (credential_ask q kind text moment w)
credential_may q kind text moment w = offer_may q.slot moment (offer_chain (links_at w q.user q.id) (is_some q.slot) kind text)

-- an answer of whatever kind
pub on_answer : {T : Type 0} (r : Result T ChainFault) (P : Type 0) → P → OnAnswer r P
on_answer (Ok t) P p = p
on_answer (Err (Corrupt spot)) P p = p
on_answer (Err (Failed part)) P p = tt
on_answer (Err Memory) P p = tt

-- ---- what is known of users, where failures are counted

pub secrets_counted : (v : Vault) (user : ℕ) (c : Counter) (l : List Opened) → HaveSecrets v.users l → HaveSecrets (counted v user c).users l
secrets_counted v user c l all one has = user_changed (λ u. u.secret ≡ one.secret) v.users user (with_failures c) (λ u. (refl, λ e. e)) one.user (all one has)

pub metrics_counted : (v : Vault) (user : ℕ) (c : Counter) (l : List Opened) → HaveMetrics v.users l → HaveMetrics (counted v user c).users l
metrics_counted v user c l all one has = user_changed (λ u. one.metrics ≡ shown_metrics u.credential) v.users user (with_failures c) (λ u. (refl, λ e. e)) one.user (all one has)

module _ (old : Sight) (x : Session) (user : ℕ) (d : KindAndText) where
  abbrev turn : Stage → Turned
  turn = turned x.slots (command.Attempt user d)

  abbrev fair : World → State → Type 0
  fair = IsFair (command.Attempt user d)

  abbrev own : Option Refusal
  own = own_refusal x (command.Attempt user d)

  abbrev own_by : Option UserRow → Option Refusal
  own_by o = of_row o (λ row. cond (same_kind d.kind row.kind) None (Some (WrongKind row.kind)))

  -- ---- there is no such user

  module _ (none : row_of x.settings.settled.rec user ≡ None) where
    pub nobody_serves : CanServe old x → Serves old x turn fair (Ok (No NoUser)) x old
    nobody_serves can = answered old x turn fair (No NoUser) can (omega arith)
        (λ s agrees. attempt_nobody x.slots (stage_in old.world s) user d (nobody_there old.world x s agrees user none))

    pub nobody_refuses : Refuses own old x (Ok (No NoUser)) x old
    nobody_refuses = refuses own old x NoUser (ap own_by none)

  module _ (row : UserRow) (found : row_of x.settings.settled.rec user ≡ Some row) where
    own_kinds : (b : Bool) → same_kind d.kind row.kind ≡ b → own ≡ cond b None (Some (WrongKind row.kind))
    own_kinds b e = ap own_by found ∙ ap (λ (b : Bool). cond b None (Some (WrongKind row.kind))) e

    -- ---- the user's credential is of another kind

    module _ (other : same_kind d.kind row.kind ≡ false) where
      pub kind_serves : CanServe old x → Serves old x turn fair (Ok (No (WrongKind row.kind))) x old
      kind_serves can = answered old x turn fair (No (WrongKind row.kind)) can (omega arith)
          (λ s agrees.
          let its = user_there old.world x s agrees user row found in
          let kinds = its.2.says.kind in
          subst (λ (k : Kind). turn (stage_in old.world s) ≡ record { reply = No (WrongKind k); stage = stage_in old.world s }) (sym kinds)
          (attempt_kind x.slots (stage_in old.world s) user d its.0 its.1 (ap (λ (k : Kind). same_kind d.kind k) (sym kinds) ∙ other)))

      pub kind_refuses : Refuses own old x (Ok (No (WrongKind row.kind))) x old
      kind_refuses = refuses own old x (WrongKind row.kind) (own_kinds false other)

    -- ---- it is of this kind

    module _ (kind : d.kind ≡ row.kind) where
      pub no_refusal : own ≡ None
      no_refusal = own_kinds true (one_kind d.kind row.kind kind)

      here : Contains x.settings.settled.rec.users row
      here = (row_found user x.settings.settled.rec.users row found).0

      whose : row.user ≡ user
      whose = (row_found user x.settings.settled.rec.users row found).1

      module _ (can : CanServe old x) (is : IsRecord x.settings.settled.rec) (moment : ℕ) (m1 : Sight) (takes : Takes old (Ok moment) m1) (q : Parts) (has : Contains x.named.items q) (same : q.id ≡ row.protector)
          (end : Result Ending ChainFault) (new : Sight) (un : Unlocks row (credential_ask q row.kind d.text moment) (credential_look q row.kind d.text moment) m1 end new) (order : IsTrue new.told → InOrder new.world) where
        abbrev ask : World → Option Action
        ask = credential_ask q row.kind d.text moment

        abbrev look : World → Result Tried Spot
        look = credential_look q row.kind d.text moment

        may : (w : World) → MayAsk (ask w)
        may w = credential_may q row.kind d.text moment w

        abbrev z : Settled
        z = x.settings.settled

        near : IsTrue old.told → Alike old.world m1.world
        near told = subst (λ (w : World). Alike old.world w) (sym (moment_is old m1 moment takes told).1) (record { is = refl; count = refl })

        told_mid : IsTrue old.told → IsTrue m1.told
        told_mid told = subst (λ (b : Bool). IsTrue b) (sym (moment_kept old m1 moment takes).told) told

        module _ (told : IsTrue old.told) (s : State) (agrees : Agrees old.world x s) (fairly : MeetsFair fair old new s) where
          abbrev w : World
          w = m1.world

          abbrev p : Protector
          p = credential_of row

          world_is : w ≡ record old.world { moments = later_moments old.world.moments }
          world_is = (moment_is old m1 moment takes told).1

          moment_now : moment ≡ next_moment old.world.moments
          moment_now = (moment_is old m1 moment takes told).0

          agrees_now : Agrees w x s
          agrees_now = stored_agrees old.world w ((moment_kept old m1 moment takes).storage told) x s agrees

          abbrev its : (u : User) × (user_of s.vault.users user ≡ Some u) × HoldsUser row (held_of_row w z.rec.armed row) u
          its = user_there w x s agrees_now user row found

          abbrev u : User
          u = its.0

          holds : HoldsRow w z.rec row u
          holds = record { there = here; holds = its.2; files = agrees_now.stands.stands.holds.files }

          same_kinds : same_kind d.kind u.credential.kind ≡ true
          same_kinds = ap (λ (k : Kind). same_kind d.kind k) (sym holds.holds.says.kind) ∙ one_kind d.kind row.kind kind

          met : MetBetween old new old.world
          met = met_front old m1 new old.world (inside_extends m1 new ((unlock_keeps row ask look may m1 end new un).inside (told_mid told))) (moment_met old m1 moment takes told)

          apart : IsApart row.protector (held w p) u.credential d
          apart = subst (λ (v : World). IsApart row.protector (held v p) u.credential d) (sym world_is)
              (fairly old.world met (z, agrees.stands) z agrees.stands.stands.settings row found u its.1)

          parts : q ≡ parts_in w p
          parts = parts_are old x can w s agrees_now p (credential_named z.rec row here) q has same

          abbrev at : Stage
          at = stage_in old.world s

          abbrev right : Bool
          right = bytes_eq d.text u.credential.text

          abbrev count : Counter
          count = counter_after (failures_of u) right moment

          vault_is : vault_after turn old.world s ≡ counted s.vault user count
          vault_is =
              attempt_counts x.slots at user d u its.1 same_kinds
              ∙ ap (λ (m : ℕ). counted s.vault user (counter_after (failures_of u) right m)) (sym moment_now)

          leads : Leads w z s.vault (vault_after turn old.world s) (ask w)
          leads =
              subst (λ (v : Vault). Leads w z s.vault v (ask w)) (sym vault_is)
              (subst (λ (n : ℕ). Leads w z s.vault (counted s.vault n count) (ask w)) whose
              (subst (λ (q : Parts). Leads w z s.vault (counted s.vault row.user count) (credential_ask q row.kind d.text moment w)) (sym parts)
              (credential_leads w z s.vault row u d moment is agrees_now.stands here holds (ap (user_of s.vault.users) whose ∙ its.1) apart kind (held_number w p) refl)))

          finds : look w ≡ Ok (credential_tried (sealed_end (failures_of u) u.secret right moment))
          finds =
              ap (λ (q : Parts). credential_look q row.kind d.text moment w) parts
              ∙ ap (λ (r : Result AttemptEnd Spot). next_of r (λ end. Ok (credential_tried end)))
              (credential_ends w z.rec row u d (held_number w p) moment holds is apart kind refl)

          ends : Ends user s (turn at) w (look w)
          ends = record {
            tried = credential_tried (sealed_end (failures_of u) u.secret right moment);
            is = finds;
            outcome = subst (λ (m : ℕ). Outcomes user s (turn at) (credential_tried (sealed_end (failures_of u) u.secret right m))) (sym moment_now)
                (attempt_outcome x.slots at user d u its.1 same_kinds);
            moments = attempt_moments x.slots at user d u its.1 same_kinds ∙ sym (ap (λ (v : World). v.moments) world_is);
            noise = attempt_noise x.slots at user d u its.1 same_kinds ∙ sym (ap (λ (v : World). v.noise) world_is);
          }

          owes : (y : Session) → Owes row user ask look may old m1 new x y turn fair end (moment_kept old m1 moment takes) near un can is found order s
          owes y = record {
            leads = leads;
            secrets = λ l all. subst (λ (v : Vault). HaveSecrets v.users l) (sym vault_is) (secrets_counted s.vault user count l all);
            metrics = λ l all. subst (λ (v : Vault). HaveMetrics v.users l) (sym vault_is) (metrics_counted s.vault user count l all);
            ends = on_answer un.tried (Ends user s (turn at) w (look w)) ends;
          }

        pub attempt_serves : (y : Session) (result : Result Reply Stop) → Finishes user row.protector row.protector x end result y → Serves old x turn fair result y new
        attempt_serves y result f =
            finish_serves row user ask look may old m1 new x y turn fair end (moment_kept old m1 moment takes) near un can is found order
            (λ told s agrees fairly. owes told s agrees fairly y) row.protector row.protector result f

        -- and in every world it answers what it finds
        module _ (y : Session) (result : Result Reply Stop) (f : Finishes user row.protector row.protector x end result y) (told : IsTrue old.told) where
          abbrev found_at : ℕ → World → Result Ending Spot
          found_at m w = unlocked_in row w (credential_ask q row.kind d.text m w) (credential_look q row.kind d.text m w)

          abbrev Told : ℕ → ℕ → World → Type 0
          Told n m w = IfOk result (λ r. r ≡ reply_of n row.protector row.protector (found_at m w))

          told_here : IfOk result (λ r. r ≡ credential_reply row q d old.world)
          told_here =
              let now = moment_is old m1 moment takes told in
              subst (λ (m : ℕ). Told row.user m (moment_taken old.world)) now.0
              (subst (λ (w : World). Told row.user moment w) now.1
              (subst (λ (n : ℕ). Told n moment m1.world) (sym whose)
              (finish_found user row.protector row.protector x y (found_at moment m1.world) result end
              (unlock_finds row ask look m1 end new un (told_mid told)) f)))

          pub attempt_found : (other : UserRow) (p : Parts) → row_of x.settings.settled.rec user ≡ Some other → Contains x.named.items p → p.id ≡ other.protector
              → IfOk result (λ r. r ≡ credential_reply other p d old.world)
          attempt_found other p its has_p id_p =
              let is_row : row ≡ other = same_some (sym found ∙ its) in
              let is_parts : q ≡ p = same_parts old x can q p has has_p (same ∙ ap (λ (r : UserRow). r.protector) is_row ∙ sym id_p) in
              subst (λ (r : UserRow). IfOk result (λ a. a ≡ credential_reply r p d old.world)) is_row
              (subst (λ (p : Parts). IfOk result (λ a. a ≡ credential_reply row p d old.world)) is_parts told_here)

      -- no refusal comes by the record then
      pub attempt_refuses : (end : Result Ending ChainFault) → IfOk end EndsLate → (result : Result Reply Stop) (y : Session) (new : Sight)
          → Finishes user row.protector row.protector x end result y → Refuses own old x result y new
      attempt_refuses end late result y new f = unrefused own old x result y new no_refusal (finish_late user row.protector row.protector x y end result late f)
