-- The bytes of a token are offered, as the machine does it.
use Rattle.std.proofs.Common.{◌≡◌, inl, inr, ℕ, Bool, true, false, cond, IsTrue, List, [], ◌∷◌, ◌++◌, Option, None, Some, Result, Ok, Err, refl, sym, ◌∙◌, ap, subst, arith}
use Rattle.std.specs.Prelude.{◌==◌, ◌||◌, is_some, bytes_eq, IfOk, IsSomeAnd, MatchBool}
use Rattle.std.specs.List.{Contains}
use Rattle.std.proofs.lemmas.Bool.{eqb-true}
use Rattle.ls_board.specs.declared.action.Action.{Action}
use Rattle.ls_board.specs.declared.world.World.{World}
use Rattle.ls_board.specs.Acts.{Sight}
use Rattle.ls_board.specs.Worlds.{InOrder}
use Rattle.ls_chain.specs.declared.fault.Spot.{Spot}
use Rattle.ls_chain.specs.declared.fault.ChainFault.{ChainFault}
use Rattle.ls_chain.specs.declared.token.TokenEnd.{TokenEnd}
use Rattle.ls_chain.specs.declared.token.TokenFiles.{TokenFiles}
use Rattle.ls_chain.specs.Calling.{BeginsByReading}
use Rattle.ls_chain.specs.Links.{links_at, next_of}
use Rattle.ls_chain.specs.SealedEnds.{sealed_token_end}
use Rattle.ls_chain.specs.TokenAttempts.{token_action, token_end}
use Rattle.ls_chain.specs.Tokens.{token_files}
use Rattle.ls_chain.specs.Trying.{OnAnswer, asked_of}
use Rattle.ls_formats.specs.declared.parts.Parts.{Parts}
use Rattle.ls_naming.specs.Current.{Settled}
use Rattle.ls_record.specs.declared.row.UserRow.{UserRow}
use Rattle.ls_record.specs.Rows.{IsRecord, has as has_id}
use Rattle.ls_revealing.specs.Revealing.{secure_asked, reveal_end}
use Rattle.ls_script.specs.declared.command.Command.TheVariants as command
use Rattle.ls_script.specs.declared.reply.Refusal.{Refusal}
use Rattle.ls_script.specs.declared.reply.Refusal.TheVariants.{NoUser, NoToken}
use Rattle.ls_script.specs.declared.reply.Reply.{Reply}
use Rattle.ls_script.specs.declared.reply.Reply.TheVariants.{No}
use Rattle.ls_sealing.specs.Apart.{IsTokenApart}
use Rattle.ls_sealing.specs.Protectors.{Protector, held, held_number}
use Rattle.ls_sealing.specs.Seals.{IsTokenSlot}
use Rattle.ls_serving.specs.Met.{IsMet, MetBetween}
use Rattle.ls_serving.specs.Turns.{StaysInside}
use Rattle.ls_serving.proofs.MetLemmas.{met_front}
use Rattle.ls_serving.proofs.TurnLemmas.{inside_extends, inside-refl}
use Rattle.ls_standing.specs.Named.{held_of_row, token_of as token_at}
use Rattle.ls_standing.specs.Standing.{HoldsUser}
use Rattle.ls_standing.proofs.ContainsLemmas.{at_first, behind_first}
use Rattle.ls_turn.specs.declared.session.Session.{Session}
use Rattle.ls_turn.specs.declared.stop.Stop.{Stop}
use Rattle.ls_turn.specs.Agreeing.{Agrees, HaveMetrics, HaveSecrets, parts_in}
use Rattle.ls_turn.specs.Refusing.{Refuses, of_row, own_refusal, row_of}
use Rattle.ls_turn.specs.Serving.{CanServe, MeetsFair, Serves, Turned, stage_in, turned, vault_after}
use Rattle.ls_turn.proofs.BehindLemmas.{keeps_none}
use Rattle.ls_turn.proofs.KnownLemmas.{active_is}
use Rattle.ls_turn.proofs.RefuseLemmas.{refuses, unrefused}
use Rattle.ls_turn.proofs.RowLemmas.{nobody_there, row_found, user_there}
use Rattle.ls_turn.proofs.StillLemmas.{answered}
use Rattle.ls_vault.specs.declared.state.State.{State}
use Rattle.ls_vault.specs.declared.token.Token.{Token}
use Rattle.ls_vault.specs.declared.user.User.{User}
use Rattle.ls_vault.specs.declared.vault.Vault.{Vault}
use Rattle.ls_vault.specs.Script.{Stage}
use Rattle.ls_vault.specs.Tokens.{token_of}
use Rattle.ls_vault.specs.Users.{user_of}
use Rattle.ls_attempts.specs.StandingRows.{HoldsRow}
use Rattle.ls_attempts.proofs.EndLemmas.{seals, tokens_end}
use Rattle.ls_unlocking.specs.declared.ending.Tried.{Tried}
use Rattle.ls_unlocking.specs.declared.ending.Tried.TheVariants as tried
use Rattle.ls_unlocking.specs.declared.ending.Ending.{Ending}
use Rattle.ls_unlocking.specs.Fairness.{IsFair}
use Rattle.ls_unlocking.specs.Finishing.{Finishes}
use Rattle.ls_unlocking.specs.Found.{reply_of, token_reply, unlocked_in}
use Rattle.ls_unlocking.specs.Trying.{EndsLate, IsBehind, Unlocks, token_ask, token_look, token_tried}
use Rattle.ls_unlocking.proofs.AlikeLemmas.{alike_refl}
use Rattle.ls_unlocking.proofs.AskedLemmas.{MayAsk, answer_weaker, tried_inside}
use Rattle.ls_unlocking.proofs.EndLemmas.{Ends}
use Rattle.ls_unlocking.proofs.AttemptLemmas.{same_some}
use Rattle.ls_unlocking.proofs.FoundLemmas.{finish_found, unlock_finds}
use Rattle.ls_unlocking.proofs.LeadLemmas.{Leads}
use Rattle.ls_unlocking.proofs.PartLemmas.{token_named, parts_are, same_parts}
use Rattle.ls_unlocking.proofs.OpenedLemmas.{finish_late}
use Rattle.ls_unlocking.proofs.ServeLemmas.{Owes, finish_serves}
use Rattle.ls_unlocking.proofs.TokenLemmas.{token_leads}
use Rattle.ls_unlocking.proofs.UnlockLemmas.{secure_may}
use Rattle.ls_unlocking.proofs.TurnLemmas.{token_nobody, token_none, token_vault, token_outcome, token_tape}

-- ---- the devices that may be asked

slot_may : (slot : Option ℕ) (x : Result TokenFiles Spot) → MayAsk (asked_of x (token_action slot))
slot_may None (Ok files) = tt
slot_may (Some n) (Ok files) = tt
slot_may slot (Err e) = tt

token_may : (q : Parts) (w : World) → MayAsk (token_ask q w)
token_may q w = slot_may q.slot (token_files (links_at w q.user q.id) (is_some q.slot))

-- ---- the first call

met_last : (w : World) (later : List (World × Option Action)) → IsMet w (later ++ (w, None) ∷ [])
met_last w [] = inl refl
met_last w (call ∷ later) = inr (met_last w later)

joined : (later past : List (World × Option Action)) (call : World × Option Action) → later ++ call ∷ past ≡ (later ++ call ∷ []) ++ past
joined [] past call = refl
joined (first ∷ later) past call = ap (λ (l : List (World × Option Action)). first ∷ l) (joined later past call)

-- a reading met the world
begun_met : (old mid : Sight) → BeginsByReading old mid → MetBetween old mid old.world
begun_met old mid begun = (begun.0 ++ (old.world, None) ∷ [], begun.1 ∙ joined begun.0 old.past (old.world, None), met_last old.world begun.0)

-- ---- the token of an id

-- it is one of the tokens, and has the id
token_found : (id : ℕ) (tokens : List Token) (t : Token) → token_of tokens id ≡ Some t → Contains tokens t × (t.id ≡ id)
token_found id [] t found = absurd (cc)
token_found id (y ∷ tokens) t found = by (y.id == id) refl found (token_found id tokens t)
  where
    same : ◌≡◌ {A = Option Token} (Some y) (Some t) → y ≡ t
    same e = cc

    by : (b : Bool) → (y.id == id) ≡ b → cond b (Some y) (token_of tokens id) ≡ Some t → (token_of tokens id ≡ Some t → Contains tokens t × (t.id ≡ id)) → Contains (y ∷ tokens) t × (t.id ≡ id)
    by true is hit later = (subst (λ (z : Token). Contains (y ∷ tokens) z) (same hit) (at_first y tokens), subst (λ (z : Token). z.id ≡ id) (same hit) (eqb-true y.id id is))
    by false is miss later = let l = later miss in (behind_first y tokens t l.0, l.1)

some_token : (o : Option Token) → is_some o ≡ true → (t : Token) × (o ≡ Some t)
some_token None e = absurd (cc)
some_token (Some t) e = (t, refl)

no_token : (o : Option Token) → is_some o ≡ false → o ≡ None
no_token None e = refl
no_token (Some t) e = absurd (cc)

-- an id that is there
pub id_there : (ids : List ℕ) (id : ℕ) → has_id ids id ≡ true → Contains ids id
id_there [] id e = absurd (cc)
id_there (y ∷ ids) id e = by (y == id) refl e (id_there ids id)
  where
    by : (b : Bool) → (y == id) ≡ b → (b || has_id ids id) ≡ true → (has_id ids id ≡ true → Contains ids id) → Contains (y ∷ ids) id
    by true is e later = subst (λ (z : ℕ). Contains (y ∷ ids) z) (eqb-true y id is) (at_first y ids)
    by false is e later = behind_first y ids id (later e)

module _ (old : Sight) (x : Session) (user id : ℕ) (bytes : List ℕ) where
  abbrev turn : Stage → Turned
  turn = turned x.slots (command.TokenAttempt user id bytes)

  abbrev fair : World → State → Type 0
  fair = IsFair (command.TokenAttempt user id bytes)

  abbrev own : Option Refusal
  own = own_refusal x (command.TokenAttempt user id bytes)

  abbrev own_by : Option UserRow → Option Refusal
  own_by o = of_row o (λ row. cond (has_id row.tokens id) None (Some NoToken))

  -- ---- there is no such user

  module _ (none : row_of x.settings.settled.rec user ≡ None) where
    pub bytes_nobody_serves : CanServe old x → Serves old x turn fair (Ok (No NoUser)) x old
    bytes_nobody_serves can = answered old x turn fair (No NoUser) can (omega arith)
        (λ s agrees. token_nobody x.slots (stage_in old.world s) user id bytes (nobody_there old.world x s agrees user none))

    pub bytes_nobody_refuses : Refuses own old x (Ok (No NoUser)) x old
    bytes_nobody_refuses = refuses own old x NoUser (ap own_by none)

  module _ (row : UserRow) (found : row_of x.settings.settled.rec user ≡ Some row) where
    own_tokens : (b : Bool) → has_id row.tokens id ≡ b → own ≡ cond b None (Some NoToken)
    own_tokens b e = ap own_by found ∙ ap (λ (b : Bool). cond b None (Some NoToken)) e

    -- ---- the user has no such token

    module _ (none : has_id row.tokens id ≡ false) where
      pub no_token_serves : CanServe old x → Serves old x turn fair (Ok (No NoToken)) x old
      no_token_serves can = answered old x turn fair (No NoToken) can (omega arith)
          (λ s agrees.
          let its = user_there old.world x s agrees user row found in
          token_none x.slots (stage_in old.world s) user id bytes its.0 its.1
          (no_token (token_of its.0.tokens id) (active_is row its.0 its.2.says id ∙ none)))

      pub no_token_refuses : Refuses own old x (Ok (No NoToken)) x old
      no_token_refuses = refuses own old x NoToken (own_tokens false none)

    -- ---- it has it

    module _ (there : has_id row.tokens id ≡ true) where
      pub bytes_no_refusal : own ≡ None
      bytes_no_refusal = own_tokens true there

      here : Contains x.settings.settled.rec.users row
      here = (row_found user x.settings.settled.rec.users row found).0

      module _ (can : CanServe old x) (is : IsRecord x.settings.settled.rec) (q : Parts) (has : Contains x.named.items q) (same : q.id ≡ id)
          (end : Result Ending ChainFault) (new : Sight) (un : Unlocks row (token_ask q) (token_look q bytes) old end new) (order : IsTrue new.told → InOrder new.world)
          (begins : IsTrue old.told → OnAnswer un.tried (BeginsByReading old un.mid)) where
        abbrev z : Settled
        z = x.settings.settled

        module _ (told : IsTrue old.told) (s : State) (agrees : Agrees old.world x s) (fairly : MeetsFair fair old new s) where
          abbrev w : World
          w = old.world

          abbrev p : Protector
          p = token_at row id

          abbrev its : (u : User) × (user_of s.vault.users user ≡ Some u) × HoldsUser row (held_of_row w z.rec.armed row) u
          its = user_there w x s agrees user row found

          abbrev u : User
          u = its.0

          holds : HoldsRow w z.rec row u
          holds = record { there = here; holds = its.2; files = agrees.stands.stands.holds.files }

          abbrev token : (t : Token) × (token_of u.tokens id ≡ Some t)
          token = some_token (token_of u.tokens id) (active_is row u its.2.says id ∙ there)

          abbrev t : Token
          t = token.0

          one : Contains u.tokens t × (t.id ≡ id)
          one = token_found id u.tokens t token.1

          parts : q ≡ parts_in w p
          parts = parts_are old x can w s agrees p (token_named z.rec row here id (id_there row.tokens id there)) q has same

          abbrev at : Stage
          at = stage_in w s

          vault_is : vault_after turn w s ≡ s.vault
          vault_is = token_vault x.slots at user id bytes u its.1 t token.1

          slotted : MatchBool (held w p).weaver (IsSomeAnd (held w p).slot IsTokenSlot) (Unit {0})
          slotted = subst (λ (n : ℕ). MatchBool (held w (token_at row n)).weaver (IsSomeAnd (held w (token_at row n)).slot IsTokenSlot) (Unit {0})) one.1
              (seals w z.rec row u t bytes None holds one.0).slot

          leads : Leads w z s.vault (vault_after turn w s) (token_ask q w)
          leads =
              subst (λ (v : Vault). Leads w z s.vault v (token_ask q w)) (sym vault_is)
              (subst (λ (q : Parts). Leads w z s.vault s.vault (token_ask q w)) (sym parts)
              (token_leads w z s.vault row id is agrees.stands (token_named z.rec row here id (id_there row.tokens id there)) slotted (held_number w p) refl))

          abbrev right : Bool
          right = bytes_eq bytes t.bytes

          behind_inside : (r : Result Tried ChainFault) → IsBehind row un.mid r end new → IsTrue un.mid.told → StaysInside un.mid new
          behind_inside (Ok (tried.Opened secret)) b told = tried_inside (secure_asked row secret) (reveal_end row secret) un.mid b.0 new (secure_may row secret) b.1 told
          behind_inside (Ok (tried.Refused why)) b told = subst (λ (n : Sight). StaysInside un.mid n) (sym b.1) (inside-refl un.mid)
          behind_inside (Err fault) b told = subst (λ (n : Sight). StaysInside un.mid n) (sym b.1) (inside-refl un.mid)

          met : BeginsByReading old un.mid → MetBetween old new old.world
          met begun = met_front old un.mid new old.world
              (inside_extends un.mid new (behind_inside un.tried un.behind (subst (λ (b : Bool). IsTrue b) (sym un.trying.keeps.told) told))) (begun_met old un.mid begun)

          ends : MetBetween old new old.world → Ends user s (turn at) w (token_look q bytes w)
          ends met_it =
              let apart : IsTokenApart (held w p) t.bytes bytes = fairly w met_it (z, agrees.stands) z agrees.stands.stands.settings row found u its.1 t token.1 in
              let tape = token_tape x.slots at user id bytes u its.1 t token.1 in
              record {
                tried = token_tried (sealed_token_end u.secret right);
                is =
                    ap (λ (q : Parts). token_look q bytes w) parts
                    ∙ ap (λ (r : Result TokenEnd Spot). next_of r (λ end. Ok (token_tried end)))
                    (subst (λ (n : ℕ). token_end row.user n (is_some (held_number w (token_at row n))) (held_number w (token_at row n)) bytes w ≡ Ok (sealed_token_end u.secret right)) one.1
                    (tokens_end w z.rec row u t bytes (held_number w (token_at row t.id)) holds one.0
                    (subst (λ (n : ℕ). IsTokenApart (held w (token_at row n)) t.bytes bytes) (sym one.1) apart) refl));
                outcome = token_outcome x.slots at user id bytes u its.1 t token.1;
                moments = tape.0;
                noise = tape.1;
              }

          owes : (y : Session) → Owes row user (token_ask q) (token_look q bytes) (token_may q) old old new x y turn fair end (keeps_none old) (λ told. alike_refl old.world) un can is found order s
          owes y = record {
            leads = leads;
            secrets = λ l all. subst (λ (v : Vault). HaveSecrets v.users l) (sym vault_is) all;
            metrics = λ l all. subst (λ (v : Vault). HaveMetrics v.users l) (sym vault_is) all;
            ends = answer_weaker un.tried (BeginsByReading old un.mid) (Ends user s (turn at) w (token_look q bytes w)) (λ begun. ends (met begun)) (begins told);
          }

        pub bytes_serves : (y : Session) (result : Result Reply Stop) → Finishes user row.protector id x end result y → Serves old x turn fair result y new
        bytes_serves y result f =
            finish_serves row user (token_ask q) (token_look q bytes) (token_may q) old old new x y turn fair end (keeps_none old) (λ told. alike_refl old.world) un can is found order
            (λ told s agrees fairly. owes told s agrees fairly y) row.protector id result f

        -- and in every world it answers what it finds
        pub bytes_found : (y : Session) (result : Result Reply Stop) → Finishes user row.protector id x end result y → IsTrue old.told
            → (other : UserRow) (p : Parts) → row_of x.settings.settled.rec user ≡ Some other → Contains x.named.items p → p.id ≡ id
            → IfOk result (λ r. r ≡ token_reply other p bytes old.world)
        bytes_found y result f told other p its has_p id_p =
            let is_row : row ≡ other = same_some (sym found ∙ its) in
            let is_parts : q ≡ p = same_parts old x can q p has has_p (same ∙ sym id_p) in
            subst (λ (r : UserRow). IfOk result (λ a. a ≡ token_reply r p bytes old.world)) is_row
            (subst (λ (p : Parts). IfOk result (λ a. a ≡ token_reply row p bytes old.world)) is_parts
            (subst (λ (n : ℕ). IfOk result (λ a. a ≡ reply_of n row.protector q.id (unlocked_in row old.world (token_ask q old.world) (token_look q bytes old.world))))
            (sym (row_found user x.settings.settled.rec.users row found).1)
            (subst (λ (n : ℕ). IfOk result (λ a. a ≡ reply_of user row.protector n (unlocked_in row old.world (token_ask q old.world) (token_look q bytes old.world)))) (sym same)
            (finish_found user row.protector id x y (unlocked_in row old.world (token_ask q old.world) (token_look q bytes old.world)) result end
            (unlock_finds row (token_ask q) (token_look q bytes) old end new un told) f))))

      -- no refusal comes by the record then
      pub bytes_refuses : (end : Result Ending ChainFault) → IfOk end EndsLate → (result : Result Reply Stop) (y : Session) (new : Sight)
          → Finishes user row.protector id x end result y → Refuses own old x result y new
      bytes_refuses end late result y new f = unrefused own old x result y new bytes_no_refusal (finish_late user row.protector id x y end result late f)
