-- The row of another credential may be put, and what the next record names.
use Rattle.std.proofs.Common.{◌≡◌, ◌≢◌, ◌⊎◌, inl, inr, ⊎_elim, ◌<◌, ◌≤◌, ◌^◌, not, ◌||◌, ℕ, Bool, true, false, cond, List, ◌++◌, map, length, Option, refl, sym, ap, subst, ◌∙◌, arith}
use Rattle.std.specs.Prelude.{◌==◌, ◌&&◌, nat_lt, nat_le}
use Rattle.std.specs.List.{AllByRecursion, Contains}
use Rattle.std.proofs.lemmas.Bool.{eq-eqb, eqb-true, eqb-false, le-leb}
use Rattle.std.proofs.lemmas.List.Elements.{Contains-append_cases}
use Rattle.ls_credential.specs.declared.kind.Kind.{Kind}
use Rattle.ls_credential.specs.declared.kind.Kind.TheVariants.{Empty, Pattern, Pin, Password}
use Rattle.ls_formats.specs.declared.part.FilePart.{FilePart}
use Rattle.ls_formats.specs.declared.part.FilePart.TheVariants.{Handle}
use Rattle.ls_formats.specs.PartNames.{PartOf, IsPartOf}
use Rattle.ls_naming.specs.Named.{has_secure, is_armed, user_parts, credential_parts, token_parts, parts_of, token_files, row_files}
use Rattle.ls_arming.specs.declared.arming.Arming.{Arming}
use Rattle.ls_record.specs.declared.edit.Edit.TheVariants.{PutRow}
use Rattle.ls_record.specs.declared.row.UserRow.{UserRow}
use Rattle.ls_record.specs.Edits.{changed as edited, MayChange}
use Rattle.ls_record.specs.Rows.{Rec, IsRecord, IsRow, IsBefore, AreApart, has, is_odd, is_protector_id, is_secure_id, is_shown_length}
use Rattle.ls_record.proofs.ChangeLemmas.{changed_keeps}
use Rattle.ls_record.proofs.TestLemmas.{all_map, all_swap, not_has, has_not}
use Rattle.ls_standing.specs.Named.{credential_of, token_of}
use Rattle.ls_standing.specs.NamedProtectors.{row_protectors}
use Rattle.ls_standing.proofs.ContainsLemmas.{at_first, of_map, in_flat, of_flat, any_contained}
use Rattle.ls_standing.proofs.IdLemmas.{is_row}
use Rattle.ls_standing.proofs.PairLemmas.{each_in, all_from, pair_cases}
use Rattle.ls_standing.proofs.ProtectorLemmas.{any_part}
use Rattle.ls_edits.proofs.PutRowLemmas.{of_put, others_put}
use Rattle.ls_changing.specs.Replacing.{Chosen, IsChosen, row_then, handle_of, shown_for}
use Rattle.ls_changing.proofs.HeldLemmas.{handle_own}

-- ---- the length of a PIN

shown_rule : (kind : Kind) (text : List ℕ) (auto : Bool) → (kind ≢ Empty → length text ≤ 16) → is_shown_length kind auto (shown_for auto (record { kind = kind; text = text })) ≡ true
shown_rule Empty text true few = refl
shown_rule Empty text false few = refl
shown_rule Pattern text true few = refl
shown_rule Pattern text false few = refl
shown_rule Password text true few = refl
shown_rule Password text false few = refl
shown_rule Pin text false few = refl
shown_rule Pin text true few = by (nat_le 6 (length text)) refl
  where
    not_bad : ◌≡◌ {A = Kind} Pin Empty → ⊥
    not_bad e = cc

    shown : ℕ → Bool
    shown n = (n == 0) || (nat_le 6 n && nat_le n 16)

    or_true : (b : Bool) → (b || true) ≡ true
    or_true true = refl
    or_true false = refl

    by : (b : Bool) → nat_le 6 (length text) ≡ b → shown (cond b (length text) 0) ≡ true
    by true more =
        ap (λ (b : Bool). (length text == 0) || (b && nat_le (length text) 16)) more
        ∙ (ap (λ (b : Bool). (length text == 0) || b) (le-leb (length text) 16 (few not_bad)) ∙ or_true (length text == 0))
    by false less = refl

-- ---- the row

turned : (y r : UserRow) → AreApart y r → AreApart r y
turned y r h = record {
  protector = λ e. h.protector (sym e);
  secure = λ e. e ∙ h.secure (sym e);
  tokens =
      all_map (λ i. AllByRecursion (λ t. i ≢ t) r.tokens) (λ i. has r.tokens i ≡ false)
      (λ i k. has_not r.tokens i (all_map (λ t. i ≢ t) (λ t. t ≢ i) (λ t n e. n (sym e)) r.tokens k)) y.tokens
      (all_swap (λ t i. i ≢ t) r.tokens y.tokens (all_map (λ t. has y.tokens t ≡ false) (λ t. AllByRecursion (λ i. i ≢ t) y.tokens) (λ t e. not_has y.tokens t e) r.tokens h.tokens));
}

pub one_row : (r : Rec) → IsRecord r → (row : UserRow) → Contains r.users row → (other : UserRow) → Contains r.users other → other.user ≡ row.user → other ≡ row
one_row r is row here other there same = by (pair_cases IsBefore r.users is.pairs other row there here)
  where
    by : (other ≡ row) ⊎ (IsBefore other row ⊎ IsBefore row other) → other ≡ row
    by (inl e) = e
    by (inr (inl before)) = let less = before.user in let none : ⊥ = omega (arith, less, same) in absurd none
    by (inr (inr before)) = let less = before.user in let none : ⊥ = omega (arith, less, same) in absurd none

pub odd_by : (kind : Kind) (id : ℕ) → is_secure_id kind id ≡ true → (id == 0) ≡ false → is_odd id ≡ true
odd_by Empty id its some = let bad : true ≡ false = sym its ∙ some in absurd (cc)
odd_by Pattern id its some = its
odd_by Pin id its some = its
odd_by Password id its some = its

module _ (r : Rec) (is : IsRecord r) (n : Chosen) (fits : IsChosen r n) where
  abbrev old : UserRow
  old = n.row

  abbrev row : UserRow
  row = row_then n

  abbrev pub next : Rec
  next = edited r (PutRow row)

  its : IsRow old
  its = is_row r is old fits.here

  rules : IsRow row
  rules = record {
    user = its.user;
    pin = shown_rule n.credential.kind n.credential.text old.auto (λ some. (fits.small some).length);
    protector = (fits.even, fits.id);
    secure = (fits.rules, fits.secure);
    few = its.few;
    tokens = its.tokens;
    once = its.once;
  }

  -- the rows of two users
  pub apart_of : (s : UserRow) → Contains r.users s → s.user ≢ old.user → AreApart s old
  apart_of s h other = by (pair_cases IsBefore r.users is.pairs s old h fits.here)
    where
      by : (s ≡ old) ⊎ (IsBefore s old ⊎ IsBefore old s) → AreApart s old
      by (inl e) = absurd (other (ap (λ (y : UserRow). y.user) e))
      by (inr (inl before)) = before.apart
      by (inr (inr before)) = turned old s before.apart

  apart_then : (s : UserRow) → Contains r.users s → s.user ≢ old.user → AreApart s row
  apart_then s h other = record {
    protector = fits.other (credential_of s) (in_flat row_protectors r.users s (credential_of s) h (at_first (credential_of s) (map (token_of s) s.tokens)));
    secure = λ e. secure e (n.secure == 0) (old.secure == 0) refl refl;
    tokens = a.tokens;
  }
    where
      a : AreApart s old
      a = apart_of s h other

      secure : s.secure ≡ n.secure → (b c : Bool) → (n.secure == 0) ≡ b → (old.secure == 0) ≡ c → s.secure ≡ 0
      secure e true c none had = e ∙ eqb-true n.secure 0 none
      secure e false true some had = absurd (fits.new ((λ i. had i && not (some i))) s h e)
      secure e false false some had = a.secure (e ∙ fits.same had some)

  pub may : MayChange r (PutRow row)
  may = (
    rules,
    ap (λ (b : Bool). b || nat_lt (length r.users) 16) (any_contained (λ (y : UserRow). y.user == old.user) r.users old fits.here (eq-eqb old.user old.user refl)),
    all_from (λ (s : UserRow). s.user ≢ row.user → AreApart s row) r.users apart_then,
  )

  pub next_is : IsRecord next
  next_is = changed_keeps r is (PutRow row) may

  -- a row of the next record is that of another user, or the new one
  pub of_next : (x : UserRow) → Contains next.users x → (Contains r.users x × (x.user ≢ old.user)) ⊎ (x ≡ row)
  of_next x h = of_put r row x h

  -- a row of the record is that of the user, or it stays
  pub row_cases : (x : UserRow) → Contains r.users x → (x ≡ old) ⊎ (Contains next.users x × (x.user ≢ old.user))
  row_cases x h = by (x.user == old.user) refl
    where
      by : (b : Bool) → (x.user == old.user) ≡ b → (x ≡ old) ⊎ (Contains next.users x × (x.user ≢ old.user))
      by true e = inl (one_row r is old fits.here x h (eqb-true x.user old.user e))
      by false e = inr (others_put r row x h (eqb-false x.user old.user e), eqb-false x.user old.user e)

-- ---- the handle of a user

pub handle_is : (user : ℕ) → user < 2 ^ 32 → IsPartOf (handle_of user)
handle_is user small = record { user = small; id = omega arith; part = refl }

-- it is a file of the user's row alone, where that has a secure id
pub handle_named : (weaver : Bool) (armed : Option Arming) (x : UserRow) (user : ℕ) → IsRow x → Contains (row_files weaver armed x) (handle_of user) → (x.user ≡ user) × (has_secure x ≡ true)
handle_named weaver armed x user its h = by (Contains-append_cases one (two ++ three) (handle_of user) h)
  where
    one : List PartOf
    one = parts_of x.user 0 (user_parts armed x)

    two : List PartOf
    two = parts_of x.user x.protector (credential_parts weaver x.kind)

    three : List PartOf
    three = token_files weaver x

    no_zero : (id : ℕ) → is_protector_id id ≡ true → id ≢ 0
    no_zero id even e = let bad : is_protector_id 0 ≡ true = ap is_protector_id (sym e) ∙ even in absurd (cc)

    no_odd : (id : ℕ) → is_odd id ≡ true → id ≢ 0
    no_odd id odd e = let bad : is_odd 0 ≡ true = ap is_odd (sym e) ∙ odd in absurd (cc)

    own : Contains one (handle_of user) → (x.user ≡ user) × (has_secure x ≡ true)
    own k =
        let found = of_map (λ p. record { user = x.user; id = 0; part = p }) (user_parts armed x) (handle_of user) k in
        let part : found.0 ≡ Handle = ap (λ (n : PartOf). n.part) found.2 in (
          ap (λ (n : PartOf). n.user) found.2,
          sym (handle_own (has_secure x) x.escrow (is_armed armed x.user))
              ∙ any_part (user_parts armed x) Handle (subst (λ (p : FilePart). Contains (user_parts armed x) p) part found.1),
        )

    credentials : Contains two (handle_of user) → ⊥
    credentials k = let found = of_map (λ p. record { user = x.user; id = x.protector; part = p }) (credential_parts weaver x.kind) (handle_of user) k in no_zero x.protector its.protector.0 (ap (λ (n : PartOf). n.id) found.2)

    tokens : Contains three (handle_of user) → ⊥
    tokens k =
        let t = of_flat (λ t. parts_of x.user t (token_parts weaver)) x.tokens (handle_of user) k in
        let found = of_map (λ p. record { user = x.user; id = t.0; part = p }) (token_parts weaver) (handle_of user) t.2 in
        no_odd t.0 (each_in (λ t. (is_odd t ≡ true) × (t < 2 ^ 64)) x.tokens t.0 its.tokens t.1).0 (ap (λ (n : PartOf). n.id) found.2)

    by : Contains one (handle_of user) ⊎ Contains (two ++ three) (handle_of user) → (x.user ≡ user) × (has_secure x ≡ true)
    by (inl k) = own k
    by (inr k) = absurd (⊎_elim credentials tokens (Contains-append_cases two three (handle_of user) k))
