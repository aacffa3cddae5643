-- The next record, and the session that commits it.
use Rattle.std.proofs.Common.{◌≡◌, ◌≢◌, ◌⊎◌, inl, inr, ⊎_elim, ◌≤◌, ◌+◌, not, ◌||◌, ℕ, zero, suc, Bool, true, false, cond, List, [], ◌∷◌, ◌++◌, map, take, length, length-append, Option, None, Some, refl, sym, ◌∙◌, ap, subst, arith, append-nil}
use Rattle.std.specs.Prelude.{◌==◌, is_some}
use Rattle.std.specs.List.{Contains, list_any}
use Rattle.std.proofs.lemmas.Bool.{cases_eq}
use Rattle.std.proofs.lemmas.List.Folds.{list_any-append}
use Rattle.std.proofs.lemmas.List.Elements.{Contains-append_left, Contains-append_right, Contains-append_cases}
use Rattle.ls_board.specs.Acts.{Sight}
use Rattle.ls_change.specs.Work.{next_of}
use Rattle.ls_committing.specs.Committing.{IsReadied, named_then, retired_then}
use Rattle.ls_edits.proofs.FilterLemmas.{filtered_in}
use Rattle.ls_edits.proofs.PutRowLemmas.{row_put, of_put, others_put}
use Rattle.ls_exchange.specs.Exchanges.{Exchanged, new_parts, plain, AreNamed, AreLeftOut}
use Rattle.ls_formats.specs.declared.parts.Parts.{Parts}
use Rattle.ls_protector.specs.Clear.{NamesParts}
use Rattle.ls_protector.specs.Parts.{parts_of}
use Rattle.ls_protector.specs.Steps.{Drafted}
use Rattle.ls_record.specs.declared.edit.Edit.TheVariants.{PutRow}
use Rattle.ls_record.specs.declared.row.UserRow.{UserRow}
use Rattle.ls_record.specs.Edits.{changed}
use Rattle.ls_record.specs.Rows.{IsRecord, Rec, has}
use Rattle.ls_record.proofs.ChangeLemmas.{changed_keeps}
use Rattle.ls_sealing.specs.Protectors.{Protector}
use Rattle.ls_standing.specs.Named.{credential_of, token_of}
use Rattle.ls_standing.specs.NamedProtectors.{NamesProtector, row_protectors}
use Rattle.ls_standing.proofs.ContainsLemmas.{at_first, behind_first, first_or_behind, in_flat, in_map, none_in, of_flat, of_map}
use Rattle.ls_standing.proofs.PairLemmas.{pairs_append, pairs_map}
use Rattle.ls_turn.specs.declared.session.Pending.{Pending}
use Rattle.ls_turn.specs.declared.session.Session.{Session}
use Rattle.ls_turn.specs.Refusing.{pending_for}
use Rattle.ls_turn.specs.Serving.{CanServe, IsKeptAs, KeepOnce}
use Rattle.ls_turn.specs.Waiting.{CanWait, those_of}
use Rattle.ls_turn.specs.Working.{KeepsNamed}
use Rattle.ls_turn.proofs.RowLemmas.{one_row, row_found}
use Rattle.ls_turn.proofs.WaitLemmas.{wait_put, wait_without}
use Rattle.ls_vault.specs.Limits.{most_tokens}
use Rattle.ls_activating.specs.declared.planned.Planned.{Planned}
use Rattle.ls_activating.specs.Counting.{chosen_for, count_for, token_ids, without_ids}
use Rattle.ls_activating.specs.Planning.{IsPlannedFor, Made, draft_of, exchange_of}
use Rattle.ls_activating.proofs.LeftLemmas.{by_ids, fewer_left, left_of}
use Rattle.ls_activating.proofs.MayLemmas.{chosen_in, has_escrow, longer, may_put, not_active}
use Rattle.ls_activating.proofs.PlaceLemmas.{fits, ids_once, its, its_id, its_parts, its_row, made, of_id, place, rec, tokens}
use Rattle.ls_activating.proofs.RoomLemmas.{as_many_chosen, length_mapped, no_more_than_wait}

-- the session y commits the change: it is x without the tokens that become active
pub record IsReady (x : Session) (user : ℕ) (y : Session) : Type 0 where
  pub slots : y.slots ≡ x.slots
  pub boot : y.boot ≡ x.boot
  pub settings : y.settings ≡ x.settings
  pub named : y.named.items ≡ x.named.items
  pub retired : y.retired.items ≡ x.retired.items
  pub opened : y.opened.items ≡ x.opened.items
  pub pending : y.pending.items ≡ without_ids (token_ids (chosen_for x user)) x.pending.items
  pub prepared : y.prepared ≡ x.prepared
  pub captured : y.captured.items ≡ x.captured.items
  pub stopped : y.stopped ≡ x.stopped

module _ (b : Sight) (x : Session) (can : CanServe b x) (user : ℕ) (k : Planned) (p : IsPlannedFor b x user k) where
  abbrev pub row_next : UserRow
  row_next = longer b x can user p.rules p.row p.found

  abbrev pub next : Rec
  next = changed (rec b x can user k p) (PutRow row_next)

  abbrev pub work : Exchanged
  work = exchange_of k

  pub next_is : next_of (plain work) ≡ next
  next_is = p.by.plan.next

  of_user : p.row.user ≡ user
  of_user = (row_found user x.settings.settled.rec.users p.row p.found).1

  pub next_rules : IsRecord next
  next_rules = changed_keeps x.settings.settled.rec p.rules (PutRow row_next) (may_put b x can user p.rules p.row p.found p.some)

  -- ---- the new parts

  abbrev pub its_draft : Made → Drafted
  its_draft m = draft_of p.row.user p.entry.secret.version p.by.p0 [] m

  pub drafts_is : k.drafts.items ≡ map its_draft (made b x can user k p)
  drafts_is = p.by.plan.drafts.drafts_are []

  parts_of_all : (l : List Made) → new_parts (map its_draft l) ≡ map (its_parts b x can user k p) l
  parts_of_all [] = refl
  parts_of_all (m ∷ l) = ap (λ (ps : List Parts). its_parts b x can user k p m ∷ ps) (parts_of_all l)

  abbrev pub parts_new : List Parts
  parts_new = map (its_parts b x can user k p) (made b x can user k p)

  pub parts_is : new_parts k.drafts.items ≡ parts_new
  parts_is = ap (λ (l : List Drafted). new_parts l) drafts_is ∙ parts_of_all (made b x can user k p)

  -- ---- the protectors that the next record names

  abbrev Old : Protector → Type 0
  Old q = NamesProtector x.settings.settled.rec q

  abbrev New : Protector → Type 0
  New q = (m : Made) × Contains (made b x can user k p) m × (q ≡ its b x can user k p m)

  of_old_row : (q : Protector) → Contains (row_protectors p.row) q → Old q
  of_old_row q own = in_flat row_protectors x.settings.settled.rec.users p.row q (its_row b x can user k p) own

  pub next_cases : (q : Protector) → NamesProtector next q → Old q ⊎ New q
  next_cases q named = by (of_flat row_protectors next.users q named)
    where
      of_token : (t : ℕ) → token_of p.row t ≡ q → Contains p.row.tokens t ⊎ Contains (token_ids (tokens b x can user k p)) t → Old q ⊎ New q
      of_token t e (inl old) = inl (of_old_row q (subst (λ (z : Protector). Contains (row_protectors p.row) z) e (behind_first (credential_of p.row) (map (token_of p.row) p.row.tokens) (token_of p.row t) (in_map (token_of p.row) p.row.tokens t old))))
      of_token t e (inr new) = let m = of_id b x can user k p t new in inr (m.0, m.1, sym e ∙ ap (λ (n : ℕ). token_of p.row n) (sym m.2))

      of_own : Contains (row_protectors row_next) q → Old q ⊎ New q
      of_own own = ⊎_elim
          (λ (e : credential_of row_next ≡ q). inl (of_old_row q (subst (λ (z : Protector). Contains (row_protectors p.row) z) e (at_first (credential_of p.row) (map (token_of p.row) p.row.tokens)))))
          (λ later. let t = of_map (token_of row_next) row_next.tokens q later in of_token t.0 t.2 (Contains-append_cases p.row.tokens (token_ids (tokens b x can user k p)) t.0 t.1))
          (first_or_behind (credential_of row_next) (map (token_of row_next) row_next.tokens) q own)

      of_row : (s : UserRow) → Contains (row_protectors s) q → (Contains x.settings.settled.rec.users s × (s.user ≢ row_next.user)) ⊎ (s ≡ row_next) → Old q ⊎ New q
      of_row s own (inl old) = inl (in_flat row_protectors x.settings.settled.rec.users s q old.0 own)
      of_row s own (inr e) = of_own (subst (λ (z : UserRow). Contains (row_protectors z) q) e own)

      by : (s : UserRow) × Contains next.users s × Contains (row_protectors s) q → Old q ⊎ New q
      by (s, there, own) = of_row s own (of_put x.settings.settled.rec row_next s there)

  in_longer : (q : Protector) → Contains (row_protectors row_next) q → NamesProtector next q
  in_longer q own = in_flat row_protectors next.users row_next q (row_put x.settings.settled.rec row_next) own

  pub old_named : (q : Protector) → Old q → NamesProtector next q
  old_named q named = by (of_flat row_protectors x.settings.settled.rec.users q named)
    where
      of_own : Contains (row_protectors p.row) q → NamesProtector next q
      of_own own = ⊎_elim
          (λ (e : credential_of p.row ≡ q). in_longer q (subst (λ (z : Protector). Contains (row_protectors row_next) z) e (at_first (credential_of row_next) (map (token_of row_next) row_next.tokens))))
          (λ later. let t = of_map (token_of p.row) p.row.tokens q later in
          in_longer q (behind_first (credential_of row_next) (map (token_of row_next) row_next.tokens) q
          (subst (λ (z : Protector). Contains (map (token_of row_next) row_next.tokens) z) t.2
          (in_map (token_of row_next) row_next.tokens t.0 (Contains-append_left p.row.tokens (token_ids (tokens b x can user k p)) t.0 t.1)))))
          (first_or_behind (credential_of p.row) (map (token_of p.row) p.row.tokens) q own)

      by : (s : UserRow) × Contains x.settings.settled.rec.users s × Contains (row_protectors s) q → NamesProtector next q
      by (s, there, own) = ⊎_elim
          (λ (e : s.user ≡ p.row.user). of_own (subst (λ (z : UserRow). Contains (row_protectors z) q) (one_row x.settings.settled.rec p.rules p.row (its_row b x can user k p) s there e) own))
          (λ apart. in_flat row_protectors next.users s q (others_put x.settings.settled.rec row_next s there apart) own)
          (cases_eq s.user p.row.user)

  pub new_named : (m : Made) → Contains (made b x can user k p) m → NamesProtector next (its b x can user k p m)
  new_named m within =
      in_longer (its b x can user k p m) (behind_first (credential_of row_next) (map (token_of row_next) row_next.tokens) (its b x can user k p m)
      (in_map (token_of row_next) row_next.tokens m.token.id (Contains-append_right p.row.tokens (token_ids (tokens b x can user k p)) m.token.id (its_id b x can user k p m within))))

  -- ---- on every board

  abbrev pub list : List Parts
  list = x.named.items ++ parts_new

  pub keeps_named : KeepsNamed x.slots (plain work) list
  keeps_named = record {
    each = λ q has. each q (next_cases q (subst (λ (r : Rec). NamesProtector r q) next_is has));
    only = λ z has. only z (Contains-append_cases x.named.items parts_new z has);
    once = pairs_append (λ y z. y.id ≢ z.id) x.named.items parts_new can.once (pairs_map (λ y z. y.id ≢ z.id) (its_parts b x can user k p) (made b x can user k p) (ids_once b x can user k p))
        (λ y z hy hz e. let m = of_map (its_parts b x can user k p) (made b x can user k p) z hz in (place b x can user k p m.0 m.1).ids y hy (e ∙ ap (λ (q : Parts). q.id) (sym m.2)));
  }
    where
      each : (q : Protector) → Old q ⊎ New q → (z : Parts) × Contains list z × IsKeptAs x.slots q z
      each q (inl old) = let e = can.each q old in (e.0, Contains-append_left x.named.items parts_new e.0 e.1, e.2)
      each q (inr (m, within, e)) = (
        its_parts b x can user k p m,
        Contains-append_right x.named.items parts_new (its_parts b x can user k p m) (in_map (its_parts b x can user k p) (made b x can user k p) m within),
        (m.slot, fits b x can user k p m within, ap (λ (z : Protector). parts_of (is_some m.slot) z m.slot) (sym e)),
      )

      only : (z : Parts) → Contains x.named.items z ⊎ Contains parts_new z → (q : Protector) × NamesProtector (next_of (plain work)) q × IsKeptAs x.slots q z
      only z (inl h) = let found = can.only z h in (found.0, subst (λ (r : Rec). NamesProtector r found.0) (sym next_is) (old_named found.0 found.1), found.2)
      only z (inr h) =
          let m = of_map (its_parts b x can user k p) (made b x can user k p) z h in
          (its b x can user k p m.0, subst (λ (r : Rec). NamesProtector r (its b x can user k p m.0)) (sym next_is) (new_named m.0 m.1), (m.0.slot, fits b x can user k p m.0 m.1, sym m.2))

  pub are_named : AreNamed work
  are_named z has =
      let m = of_map (its_parts b x can user k p) (made b x can user k p) z (subst (λ (l : List Parts). Contains l z) parts_is has) in
      subst (NamesParts (next_of (plain work))) m.2
      (subst (λ (r : Rec). NamesParts r (its_parts b x can user k p m.0)) (sym next_is)
      (row_next, row_put x.settings.settled.rec row_next, refl, inr (Contains-append_right p.row.tokens (token_ids (tokens b x can user k p)) m.0.token.id (its_id b x can user k p m.0 m.1))))

  -- ---- the tokens that are left

  abbrev left : List Pending
  left = without_ids (token_ids (tokens b x can user k p)) x.pending.items

  few_left : length row_next.tokens + length (those_of p.row.user left) ≤ most_tokens
  few_left =
      let sum = length-append p.row.tokens (token_ids (tokens b x can user k p)) in
      let ids = length_mapped (λ (q : Pending). q.id) (tokens b x can user k p) in
      let many = as_many_chosen x user in
      let most = no_more_than_wait x user in
      let few = subst (λ (n : ℕ). length p.row.tokens + length (those_of n x.pending.items) ≤ most_tokens) of_user (can.waits.few p.row (its_row b x can user k p)) in
      let fewer = fewer_left (count_for x user) user x.pending.items most in
      let is = ap (λ (l : List Pending). length (those_of user l)) (by_ids (count_for x user) user x.pending.items can.waits.once) in
      subst (λ (n : ℕ). length row_next.tokens + length (those_of n left) ≤ most_tokens) (sym of_user) (omega (arith, sum, ids, many, most, few, fewer, is))

  none_active : (q : Pending) → Contains left q → has row_next.tokens q.id ≡ false
  none_active q within =
      let at = filtered_in (λ (z : Pending). not (has (token_ids (tokens b x can user k p)) z.id)) x.pending.items q within in
      list_any-append (λ (i : ℕ). i == q.id) p.row.tokens (token_ids (tokens b x can user k p))
      ∙ (ap (λ (c : Bool). c || has (token_ids (tokens b x can user k p)) q.id) (can.waits.free q at.0 p.row (its_row b x can user k p)) ∙ negated (has (token_ids (tokens b x can user k p)) q.id) at.1)
    where
      negated : (c : Bool) → not c ≡ true → c ≡ false
      negated true e = absurd (cc)
      negated false e = refl

  pub waits_then : CanWait next.users left
  waits_then = wait_put x.settings.settled.rec left (wait_without x.settings.settled.rec.users x.pending.items can.waits (λ z. not (has (token_ids (tokens b x can user k p)) z.id))) row_next
      (λ q within same. has_escrow b x can user p.rules p.row p.found p.some) none_active few_left
