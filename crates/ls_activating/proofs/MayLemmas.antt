-- The row with the tokens that become active may be put.
use Rattle.std.proofs.Common.{◌≡◌, ◌≢◌, ◌⊎◌, inl, inr, ⊎_elim, ◌≤◌, ◌<◌, ◌^◌, ◌+◌, ◌||◌, ℕ, zero, suc, Bool, true, false, List, [], ◌∷◌, ◌++◌, map, take, length, length-append, refl, sym, ◌∙◌, ap, subst, arith}
use Rattle.std.specs.Prelude.{◌==◌, nat_lt, Some}
use Rattle.std.specs.List.{AllByRecursion, Contains}
use Rattle.std.proofs.lemmas.Bool.{eq-eqb, eqb-true, le-leb}
use Rattle.std.proofs.lemmas.List.Elements.{Contains-append_cases}
use Rattle.ls_board.specs.Acts.{Sight}
use Rattle.ls_edits.specs.Rows.{with_more_tokens}
use Rattle.ls_edits.proofs.FilterLemmas.{filtered_in}
use Rattle.ls_edits.proofs.MayLemmas.{may_put_less}
use Rattle.ls_record.specs.declared.edit.Edit.TheVariants.{PutRow}
use Rattle.ls_record.specs.declared.row.UserRow.{UserRow}
use Rattle.ls_record.specs.Edits.{MayChange}
use Rattle.ls_record.specs.Rows.{IsRecord, IsRow, AreApart, Pairs, has, is_odd, is_token_count}
use Rattle.ls_record.proofs.FilterLemmas.{pairs_filter}
use Rattle.ls_standing.proofs.ContainsLemmas.{any_contained, at_first, behind_first, first_or_behind, none_in, of_map}
use Rattle.ls_standing.proofs.PairLemmas.{all_from, each_in, pairs_append, pairs_map}
use Rattle.ls_turn.specs.declared.session.Pending.{Pending}
use Rattle.ls_turn.specs.declared.session.Session.{Session}
use Rattle.ls_turn.specs.Refusing.{pending_for, row_of}
use Rattle.ls_turn.specs.Serving.{CanServe}
use Rattle.ls_turn.specs.Waiting.{those_of}
use Rattle.ls_turn.proofs.RowLemmas.{one_row, row_found}
use Rattle.ls_turn.proofs.WaitLemmas.{few_pending}
use Rattle.ls_vault.specs.Limits.{most_tokens}
use Rattle.ls_activating.specs.Counting.{chosen_for, count_for, token_ids}
use Rattle.ls_activating.proofs.ListLemmas.{has_one}
use Rattle.ls_activating.proofs.RoomLemmas.{as_many_chosen, length_mapped, no_more_than_wait}

-- ---- the first few

pub in_take : {X : Type 0} (n : ℕ) (xs : List X) (x : X) → Contains (take n xs) x → Contains xs x
in_take zero xs x here = absurd (none_in x here)
in_take (suc n) [] x here = absurd (none_in x here)
in_take {X} (suc n) (y ∷ xs) x here =
    ⊎_elim (λ (e : y ≡ x). subst (λ (z : X). Contains (y ∷ xs) z) e (at_first y xs)) (λ later. behind_first y xs x (in_take n xs x later)) (first_or_behind y (take n xs) x here)

pub pairs_take : {X : Type 0} (P : X → X → Type 0) (n : ℕ) (xs : List X) → Pairs P xs → Pairs P (take n xs)
pairs_take P zero xs all = tt
pairs_take P (suc n) [] all = tt
pairs_take P (suc n) (y ∷ xs) all = (all_from (P y) (take n xs) (λ z here. each_in (P y) xs z all.0 (in_take n xs z here)), pairs_take P n xs all.1)

-- ---- the tokens

module _ (b : Sight) (x : Session) (can : CanServe b x) (user : ℕ) where
  abbrev tokens : List Pending
  tokens = chosen_for x user

  -- each is one of the user's
  pub chosen_in : (p : Pending) → Contains tokens p → Contains x.pending.items p × (p.user ≡ user)
  chosen_in p here =
      let its = filtered_in (λ (q : Pending). q.user == user) x.pending.items p (in_take (count_for x user) (pending_for x user) p here) in
      (its.0, eqb-true p.user user its.1)

  pub chosen_once : Pairs (λ p q. p.id ≢ q.id) tokens
  chosen_once = pairs_take (λ p q. p.id ≢ q.id) (count_for x user) (pending_for x user) (pairs_filter (λ p q. p.id ≢ q.id) (λ (p : Pending). p.user == user) x.pending.items can.waits.once)

  pub chosen_odd : (p : Pending) → Contains tokens p → is_odd p.id ≡ true
  chosen_odd p here = (can.waits.ids p (chosen_in p here).0).0

  pub few_chosen : length tokens ≤ 8
  few_chosen =
      let many = as_many_chosen x user in
      let most = no_more_than_wait x user in
      let few = few_pending x.settings.settled.rec.users x.pending.items can.waits user in
      omega (arith, many, most, few)

  -- ---- the row

  module _ (rules : IsRecord x.settings.settled.rec) (row : UserRow) (found : row_of x.settings.settled.rec user ≡ Some row) where
    abbrev its : Contains x.settings.settled.rec.users row × (row.user ≡ user)
    its = row_found user x.settings.settled.rec.users row found

    pub here : Contains x.settings.settled.rec.users row
    here = its.0

    abbrev pub longer : UserRow
    longer = with_more_tokens (token_ids tokens) row

    its_rules : IsRow row
    its_rules = each_in IsRow x.settings.settled.rec.users row rules.rows here

    -- the user may have tokens
    pub has_escrow : count_for x user ≢ 0 → row.escrow ≡ true
    has_escrow some = by (pending_for x user) refl
      where
        by : (l : List Pending) → pending_for x user ≡ l → row.escrow ≡ true
        by [] none = absurd (some (let most = no_more_than_wait x user in let long = ap (λ (l : List Pending). length l) none in omega (arith, most, long)))
        by (p ∷ l) is =
            let at = filtered_in (λ (q : Pending). q.user == user) x.pending.items p (subst (λ (k : List Pending). Contains k p) (sym is) (at_first p l)) in
            let own = can.waits.owner p at.0 in
            ap (λ (r : UserRow). r.escrow) (sym (one_row x.settings.settled.rec rules row here own.0 own.1 (own.2 ∙ (eqb-true p.user user at.1 ∙ sym its.1)))) ∙ own.3

    pub few_then : length (row.tokens ++ token_ids tokens) ≤ 8
    few_then =
        let sum = length-append row.tokens (token_ids tokens) in
        let ids = length_mapped (λ (p : Pending). p.id) tokens in
        let many = as_many_chosen x user in
        let most = no_more_than_wait x user in
        let few = subst (λ (n : ℕ). length row.tokens + length (those_of n x.pending.items) ≤ most_tokens) its.1 (can.waits.few row here) in
        omega (arith, sum, ids, many, most, few)

    -- none of them is in a row
    pub not_active : (t : ℕ) → Contains (token_ids tokens) t → (s : UserRow) → Contains x.settings.settled.rec.users s → has s.tokens t ≡ false
    not_active t new s there =
        let p = of_map (λ (q : Pending). q.id) tokens t new in
        subst (λ (n : ℕ). has s.tokens n ≡ false) p.2 (can.waits.free p.0 (chosen_in p.0 p.1).0 s there)

    row_rules : count_for x user ≢ 0 → IsRow longer
    row_rules some = record {
      user = its_rules.user;
      pin = its_rules.pin;
      protector = its_rules.protector;
      secure = its_rules.secure;
      few = ap (λ (e : Bool). is_token_count e (length (row.tokens ++ token_ids tokens))) (has_escrow some) ∙ le-leb (length (row.tokens ++ token_ids tokens)) 8 few_then;
      tokens = all_from Its (row.tokens ++ token_ids tokens) (λ t h. ⊎_elim (each_in Its row.tokens t its_rules.tokens) (its_new t) (Contains-append_cases row.tokens (token_ids tokens) t h));
      once = pairs_append (λ s t. s ≢ t) row.tokens (token_ids tokens) its_rules.once (pairs_map (λ s t. s ≢ t) (λ (p : Pending). p.id) tokens chosen_once)
          (λ s t old new same. let bad : true ≡ false = sym (has_one row.tokens t (subst (Contains row.tokens) same old)) ∙ not_active t new row here in cc);
    }
      where
        Its : ℕ → Type 0
        Its t = (is_odd t ≡ true) × (t < 2 ^ 64)

        its_new : (t : ℕ) → Contains (token_ids tokens) t → Its t
        its_new t new =
            let p = of_map (λ (q : Pending). q.id) tokens t new in
            subst Its p.2 (can.waits.ids p.0 (chosen_in p.0 p.1).0)

    pub may_put : count_for x user ≢ 0 → MayChange x.settings.settled.rec (PutRow longer)
    may_put some =
        let same = may_put_less x.settings.settled.rec rules row row here (record { user = refl; kind = refl; protector = refl; secure = refl; escrow = λ e. e; tokens = λ id h. h }) its_rules in (
          row_rules some,
          same.1,
          all_from (λ (s : UserRow). s.user ≢ row.user → AreApart s longer) x.settings.settled.rec.users (λ s there other. apart s there (each_in (λ (s : UserRow). s.user ≢ row.user → AreApart s row) x.settings.settled.rec.users s same.2 there other)),
        )
      where
        apart : (s : UserRow) → Contains x.settings.settled.rec.users s → AreApart s row → AreApart s longer
        apart s there a = record {
          protector = a.protector;
          secure = a.secure;
          tokens = all_from (λ (t : ℕ). has s.tokens t ≡ false) (row.tokens ++ token_ids tokens)
              (λ t h. ⊎_elim (each_in (λ (t : ℕ). has s.tokens t ≡ false) row.tokens t a.tokens) (λ new. not_active t new s there) (Contains-append_cases row.tokens (token_ids tokens) t h));
        }
