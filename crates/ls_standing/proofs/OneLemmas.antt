-- A world fixes the vault that it stands for, but for texts.
use Rattle.std.proofs.Common.{◌≡◌, ℕ, List, [], ◌∷◌, Bool, true, false, Option, None, Some, Result, Ok, refl, sym, ap, subst, ◌∙◌}
use Rattle.std.specs.Prelude.{map, slice_get, IsSomeAnd, MatchOption, MatchBool}
use Rattle.std.specs.List.{AllZip}
use Rattle.std.proofs.lemmas.Slice.Zip.{AllZip-right}
use Rattle.ls_formats.specs.declared.part.FilePart.TheVariants.{P1}
use Rattle.ls_record.specs.declared.row.UserRow.{UserRow}
use Rattle.ls_naming.specs.Current.{Settled, current}
use Rattle.ls_board.specs.declared.devices.Counter.{Counter}
use Rattle.ls_board.specs.declared.world.World.{World}
use Rattle.ls_board.specs.Effect.{file_at}
use Rattle.ls_vault.specs.declared.user.User.{User}
use Rattle.ls_vault.specs.declared.token.Token.{Token}
use Rattle.ls_vault.specs.declared.vault.Vault.{Vault}
use Rattle.ls_vault.specs.Revealed.{shown_length}
use Rattle.ls_secret.specs.Secrets.{SecretValue}
use Rattle.ls_sealing.specs.Protectors.{Held}
use Rattle.ls_sealing.specs.Seals.{SealsToken}
use Rattle.ls_sealing.proofs.MatchLemmas.{one_secret, one_token_secret}
use Rattle.ls_standing.specs.Named.{RowHeld, held_of_row}
use Rattle.ls_standing.specs.SameTexts.{HasSameTexts, TokensFixSecret}
use Rattle.ls_standing.specs.Standing.{HoldsEscrow, HoldsUser, Holds, StandsFor}
use Rattle.ls_standing.specs.Texts.{SameButTexts, AreSameButTexts}

-- ---- one user

-- what a row and what is held of it fix
user_but_texts : (row : UserRow) (h : RowHeld) (u v : User) → HoldsUser row h u → HoldsUser row h v → SameButTexts u v
user_but_texts row h u v a b = record {
  number = sym b.says.number ∙ a.says.number;
  kind = sym b.says.kind ∙ a.says.kind;
  fails = ap (λ (c : Counter). c.fails) (sym b.counted ∙ a.counted);
  until = ap (λ (c : Counter). c.until) (sym b.counted ∙ a.counted);
  secure = sym b.says.secure ∙ a.says.secure;
  escrow = sym b.says.escrow ∙ a.says.escrow;
  auto = sym b.says.auto ∙ a.says.auto;
  tokens = sym b.says.tokens ∙ a.says.tokens;
  secret = λ same. one_secret row.protector h.credential v.credential u.credential v.secret u.secret b.seals a.seals same;
}

-- the user has escrow, where it has a token
has_escrow : (h : RowHeld) (u : User) (k : ℕ) (t : Token) (escrow : Bool) → MatchBool escrow (HoldsEscrow h.user h.tokens u) (u.tokens ≡ []) → slice_get u.tokens k ≡ Some t → HoldsEscrow h.user h.tokens u
has_escrow h u k t true holds there = holds
has_escrow h u k t false none there = let bad : slice_get [] k ≡ Some t = ap (λ (l : List Token). slice_get l k) (sym none) ∙ there in absurd (cc)

-- what is at a place of one list, by what stands there in the other
at_place : {X : Type 0} (o : Option X) (x : X) (P : X → Type 0) → MatchOption o (Unit {0}) P → o ≡ Some x → P x
at_place {X = X} o x P h e = subst (λ (p : Option X). MatchOption p (Unit {0}) P) e h

-- what is held of a token seals both secrets
both_seal : (o : Option Held) (p1 : Option (List ℕ)) (bytes p0 q0 : List ℕ) (s t : SecretValue)
    → IsSomeAnd o (λ held. SealsToken held p1 bytes s p0) → IsSomeAnd o (λ held. SealsToken held p1 bytes t q0) → t ≡ s
both_seal None p1 bytes p0 q0 s t one two = absurd one
both_seal (Some held) p1 bytes p0 q0 s t one two = one_token_secret held p1 bytes q0 p0 t s two one

token_secret_fixed : (row : UserRow) (h : RowHeld) (u v : User) → HoldsUser row h u → HoldsUser row h v → TokensFixSecret u v
token_secret_fixed row h u v a b k s t there also bytes =
    let p1 = h.user.files P1 in
    let one = has_escrow h u k s u.escrow a.escrow there in
    let two = has_escrow h v k t v.escrow b.escrow also in
    let first = AllZip-right (λ (held : Held) (x : Token). SealsToken held p1 x.bytes u.secret one.p0) h.tokens u.tokens one.tokens k in
    let second = AllZip-right (λ (held : Held) (x : Token). SealsToken held p1 x.bytes v.secret two.p0) h.tokens v.tokens two.tokens k in
    both_seal (slice_get h.tokens k) p1 s.bytes one.p0 two.p0 u.secret v.secret
    (at_place (slice_get u.tokens k) s (λ x. IsSomeAnd (slice_get h.tokens k) (λ held. SealsToken held p1 x.bytes u.secret one.p0)) first there)
    (subst (λ (l : List ℕ). IsSomeAnd (slice_get h.tokens k) (λ held. SealsToken held p1 l v.secret two.p0)) bytes
    (at_place (slice_get v.tokens k) t (λ x. IsSomeAnd (slice_get h.tokens k) (λ held. SealsToken held p1 x.bytes v.secret two.p0)) second also))

-- tokens with the same ids and bytes
same_tokens : (us vs : List Token) → map (λ t. t.id) vs ≡ map (λ t. t.id) us → map (λ t. t.bytes) vs ≡ map (λ t. t.bytes) us → vs ≡ us
same_tokens [] [] ids bytes = refl
same_tokens [] (v ∷ vs) ids bytes = absurd (cc)
same_tokens (u ∷ us) [] ids bytes = absurd (cc)
same_tokens (u ∷ us) (v ∷ vs) ids bytes =
    let id : v.id ≡ u.id = cc in
    let text : v.bytes ≡ u.bytes = cc in
    let rest = same_tokens us vs (cc) (cc) in
    λ i. record { id = id i; bytes = text i } ∷ rest i

same_user : (u v : User) → SameButTexts u v → HasSameTexts u v → v ≡ u
same_user u v same texts =
    let secret = same.secret texts.text in
    let tokens = same_tokens u.tokens v.tokens same.tokens texts.tokens in
    λ i. record {
      number = same.number i;
      secret = secret i;
      credential = record { kind = same.kind i; text = texts.text i };
      fails = same.fails i;
      until = same.until i;
      secure = same.secure i;
      escrow = same.escrow i;
      auto = same.auto i;
      tokens = tokens i;
    }

-- ---- all users

each_same : {R U : Type 0} (P : R → U → Type 0) (S : U → U → Type 0) → ((r : R) (u v : U) → P r u → P r v → S u v)
    → (rows : List R) (us vs : List U) → AllZip P rows us → AllZip P rows vs → AllZip S us vs
each_same P S each [] [] [] h k = tt
each_same P S each [] [] (v ∷ vs) h k = absurd k
each_same P S each [] (u ∷ us) vs h k = absurd h
each_same P S each (r ∷ rows) [] vs h k = absurd h
each_same P S each (r ∷ rows) (u ∷ us) [] h k = absurd k
each_same P S each (r ∷ rows) (u ∷ us) (v ∷ vs) h k = (each r u v h.0 k.0, each_same P S each rows us vs h.1 k.1)

same_users : (us vs : List User) → AllZip SameButTexts us vs → AllZip HasSameTexts us vs → vs ≡ us
same_users [] [] h k = refl
same_users [] (v ∷ vs) h k = absurd h
same_users (u ∷ us) [] h k = absurd h
same_users (u ∷ us) (v ∷ vs) h k =
    let first = same_user u v h.0 k.0 in
    let rest = same_users us vs h.1 k.1 in
    λ i. first i ∷ rest i

-- ---- one world

-- two values of one result are the same
one_value : {A E : Type 0} (r : Result A E) (a b : A) → r ≡ Ok a → r ≡ Ok b → b ≡ a
one_value r a b is also = cc

-- what a row fixes of a user, of all users of two vaults
each_user : (w : World) (S : User → User → Type 0) → ((row : UserRow) (h : RowHeld) (p q : User) → HoldsUser row h p → HoldsUser row h q → S p q)
    → (u v : Vault) → StandsFor w u → StandsFor w v → AllZip S u.users v.users
each_user w S each u v (s, a) (t, b) =
    let settled : t ≡ s = one_value (current (file_at w)) s t a.settings b.settings in
    let holds : Holds w s.rec v = subst (λ (x : Settled). Holds w x.rec v) settled b.holds in
    let r = s.rec in
    each_same (λ row user. HoldsUser row (held_of_row w r.armed row) user) S
    (λ row. each row (held_of_row w r.armed row)) r.users u.users v.users a.holds.users holds.users

one_arming : (w : World) (u v : Vault) → StandsFor w u → StandsFor w v → v.arming ≡ u.arming
one_arming w u v (s, a) (t, b) =
    let settled : t ≡ s = one_value (current (file_at w)) s t a.settings b.settings in
    let holds : Holds w s.rec v = subst (λ (x : Settled). Holds w x.rec v) settled b.holds in
    holds.arming ∙ sym a.holds.arming

pub same_but_texts : (w : World) (u v : Vault) → StandsFor w u → StandsFor w v → AreSameButTexts u v
same_but_texts w u v a b = record { users = each_user w SameButTexts user_but_texts u v a b; arming = one_arming w u v a b }

pub same_shown : (w : World) (u v : Vault) → StandsFor w u → StandsFor w v → AllZip (λ p q. shown_length q ≡ shown_length p) u.users v.users
same_shown w = each_user w (λ p q. shown_length q ≡ shown_length p) (λ row h p q a b. sym b.says.pin ∙ a.says.pin)

pub tokens_fix : (w : World) (u v : Vault) → StandsFor w u → StandsFor w v → AllZip TokensFixSecret u.users v.users
tokens_fix w = each_user w TokensFixSecret token_secret_fixed

pub one_vault : (w : World) (u v : Vault) → StandsFor w u → StandsFor w v → AllZip HasSameTexts u.users v.users → v ≡ u
one_vault w u v a b texts =
    let same = same_but_texts w u v a b in
    let users = same_users u.users v.users same.users texts in
    λ i. record { users = users i; arming = same.arming i }
