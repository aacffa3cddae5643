-- A row without a part that the old one hasn't may be put.
use Rattle.std.proofs.Common.{◌≡◌, ◌≢◌, ◌⊎◌, inl, inr, ◌<◌, ◌≤◌, ◌^◌, ◌||◌, ℕ, Bool, true, false, cond, List, [], ◌∷◌, length, refl, sym, ap, ◌∙◌, arith}
use Rattle.std.specs.Prelude.{◌==◌, nat_lt, filter}
use Rattle.std.specs.List.{AllByRecursion, Contains}
use Rattle.std.proofs.lemmas.Bool.{eq-eqb, leb-true, le-leb, eqb-true}
use Rattle.ls_record.specs.declared.edit.Edit.TheVariants.{PutRow}
use Rattle.ls_record.specs.declared.row.UserRow.{UserRow}
use Rattle.ls_record.specs.Edits.{MayChange}
use Rattle.ls_record.specs.Rows.{Rec, IsRecord, IsRow, IsBefore, AreApart, Pairs, has, is_shown_length, is_token_count, is_odd}
use Rattle.ls_record.proofs.TestLemmas.{all_map, all_swap, not_has, has_not}
use Rattle.ls_standing.proofs.ContainsLemmas.{any_contained}
use Rattle.ls_standing.proofs.PairLemmas.{each_in, all_from, pair_cases}
use Rattle.ls_edits.specs.Rows.{HasNoNewPart, with_pin, with_tokens_of, without_escrow}
use Rattle.ls_edits.proofs.FilterLemmas.{filtered_in}

turned : (y r : UserRow) → AreApart y r → AreApart r y
turned y r h = record {
  protector = λ e. h.protector (sym e);
  secure = λ e. e ∙ h.secure (sym e);
  tokens =
      all_map (λ i. AllByRecursion (λ t. i ≢ t) r.tokens) (λ i. has r.tokens i ≡ false)
      (λ i k. has_not r.tokens i (all_map (λ t. i ≢ t) (λ t. t ≢ i) (λ t n e. n (sym e)) r.tokens k)) y.tokens
      (all_swap (λ t i. i ≢ t) r.tokens y.tokens (all_map (λ t. has y.tokens t ≡ false) (λ t. AllByRecursion (λ i. i ≢ t) y.tokens) (λ t e. not_has y.tokens t e) r.tokens h.tokens));
}

pub may_put_less : (r : Rec) → IsRecord r → (old row : UserRow) → Contains r.users old → HasNoNewPart old row → IsRow row → MayChange r (PutRow row)
may_put_less r is old row here less rules = (
  rules,
  ap (λ (b : Bool). b || nat_lt (length r.users) 16) (any_contained (λ (y : UserRow). y.user == row.user) r.users old here (eq-eqb old.user row.user (sym less.user))),
  all_from (λ (s : UserRow). s.user ≢ row.user → AreApart s row) r.users (λ s within apart. by s (λ e. apart (e ∙ sym less.user)) (pair_cases IsBefore r.users is.pairs s old within here)),
)
  where
    again : (s : UserRow) → AreApart s old → AreApart s row
    again s a = record {
      protector = λ e. a.protector (e ∙ less.protector);
      secure = λ e. a.secure (e ∙ less.secure);
      tokens = all_from (λ (t : ℕ). has s.tokens t ≡ false) row.tokens (λ t h. each_in (λ (t : ℕ). has s.tokens t ≡ false) old.tokens t a.tokens (less.tokens t h));
    }

    by : (s : UserRow) → s.user ≢ old.user → (s ≡ old) ⊎ (IsBefore s old ⊎ IsBefore old s) → AreApart s row
    by s apart (inl e) = absurd (apart (ap (λ (y : UserRow). y.user) e))
    by s apart (inr (inl before)) = again s before.apart
    by s apart (inr (inr before)) = again s (turned old s before.apart)

-- ---- rows that keep their rules

pub pin_row : (old : UserRow) (auto : Bool) (pin : ℕ) → IsRow old → is_shown_length old.kind auto pin ≡ true → IsRow (with_pin auto pin old)
pin_row old auto pin is shown = record { user = is.user; pin = shown; protector = is.protector; secure = is.secure; few = is.few; tokens = is.tokens; once = is.once }

module _ (keeps : ℕ → Bool) where
  shorter : (xs : List ℕ) → length (filter keeps xs) ≤ length xs
  shorter [] = omega arith
  shorter (x ∷ xs) = by (keeps x) (shorter xs)
    where
      by : (b : Bool) → length (filter keeps xs) ≤ length xs → length (cond b (x ∷ filter keeps xs) (filter keeps xs)) ≤ length (x ∷ xs)
      by true le = omega (arith, le)
      by false le = omega (arith, le)

  filtered_pairs : (P : ℕ → ℕ → Type 0) (xs : List ℕ) → Pairs P xs → Pairs P (filter keeps xs)
  filtered_pairs P [] all = tt
  filtered_pairs P (x ∷ xs) all = by (keeps x) (filtered_pairs P xs all.1)
    where
      by : (b : Bool) → Pairs P (filter keeps xs) → Pairs P (cond b (x ∷ filter keeps xs) (filter keeps xs))
      by true later = (all_from (P x) (filter keeps xs) (λ y h. each_in (P x) xs y all.0 (filtered_in keeps xs y h).0), later)
      by false later = later

  fewer : (escrow : Bool) (m n : ℕ) → m ≤ n → is_token_count escrow n ≡ true → is_token_count escrow m ≡ true
  fewer true m n le e = let most = leb-true n 8 e in le-leb m 8 (omega (arith, le, most))
  fewer false m n le e = let zero_is = eqb-true n 0 e in eq-eqb m 0 (omega (arith, le, zero_is))

  pub tokens_row : (old : UserRow) → IsRow old → IsRow (with_tokens_of keeps old)
  tokens_row old is = record {
    user = is.user;
    pin = is.pin;
    protector = is.protector;
    secure = is.secure;
    few = fewer old.escrow (length (filter keeps old.tokens)) (length old.tokens) (shorter old.tokens) is.few;
    tokens = all_from Its (filter keeps old.tokens) (λ t h. each_in Its old.tokens t is.tokens (filtered_in keeps old.tokens t h).0);
    once = filtered_pairs (λ s t. s ≢ t) old.tokens is.once;
  }
    where
      Its : ℕ → Type 0
      Its t = (is_odd t ≡ true) × (t < 2 ^ 64)

pub plain_row : (old : UserRow) → IsRow old → IsRow (without_escrow old)
plain_row old is = record { user = is.user; pin = is.pin; protector = is.protector; secure = is.secure; few = refl; tokens = tt; once = tt }
