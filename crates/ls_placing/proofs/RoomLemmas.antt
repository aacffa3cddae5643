-- Whether a slot is free, and whether anything can be kept, the session knows as the machine does.
use Rattle.std.proofs.Common.{◌≡◌, ◌+◌, ℕ, suc, List, [], ◌∷◌, map, length, refl, ap, arith, ◌∙◌}
use Rattle.std.specs.Prelude.{◌==◌, ◌&&◌, nat_lt, nat_le, sum_by}
use Rattle.std.specs.List.{AllZip}
use Rattle.std.proofs.lemmas.List.Sums.{sum_by-append}
use Rattle.ls_board.specs.declared.world.World.{World}
use Rattle.ls_naming.specs.Current.{last_sequence}
use Rattle.ls_record.specs.declared.row.UserRow.{UserRow}
use Rattle.ls_standing.specs.Named.{held_of_row}
use Rattle.ls_standing.specs.Standing.{HoldsUser}
use Rattle.ls_vault.specs.declared.state.State.{State}
use Rattle.ls_vault.specs.declared.user.User.{User}
use Rattle.ls_vault.specs.declared.vault.Books.{Books}
use Rattle.ls_vault.specs.Limits.{used, is_full, is_worn, last_of_64}
use Rattle.ls_turn.specs.declared.session.Session.{Session}
use Rattle.ls_turn.specs.Agreeing.{Agrees}
use Rattle.ls_turn.specs.Refusing.{has_no_slot, used_by}

length_map_same : {X Y : Type 0} (f : X → Y) (xs : List X) → length (map f xs) ≡ length xs
length_map_same f [] = refl
length_map_same f (x ∷ xs) = ap (λ (n : ℕ). suc n) (length_map_same f xs)

-- rows and users in pairs use as many slots
used_zip : (R : UserRow → User → Type 0) → ((row : UserRow) (u : User) → R row u → length row.tokens ≡ length u.tokens) → (rows : List UserRow) (users : List User) → AllZip R rows users
    → (length users ≡ length rows) × (sum_by (λ u. length u.tokens) users ≡ sum_by (λ row. length row.tokens) rows)
used_zip R says [] [] all = (refl, refl)
used_zip R says [] (u ∷ users) all = absurd all
used_zip R says (x ∷ rows) [] all = absurd all
used_zip R says (x ∷ rows) (u ∷ users) all =
    let rest = used_zip R says rows users all.1 in
    let its = says x u all.0 in
    let left = sum_by-append (λ (u : User). length u.tokens) (u ∷ []) users in
    let right = sum_by-append (λ (row : UserRow). length row.tokens) (x ∷ []) rows in
    let same = rest.1 in
    (ap (λ (n : ℕ). suc n) rest.0, omega (arith, its, left, right, same))

module _ (w : World) (x : Session) (s : State) (a : Agrees w x s) where
  both : (length s.vault.users ≡ length x.settings.settled.rec.users) × (sum_by (λ u. length u.tokens) s.vault.users ≡ sum_by (λ row. length row.tokens) x.settings.settled.rec.users)
  both = used_zip (λ row u. HoldsUser row (held_of_row w x.settings.settled.rec.armed row) u)
      (λ row u h. ap (λ (l : List ℕ). length l) h.says.tokens ∙ length_map_same (λ t. t.id) u.tokens) x.settings.settled.rec.users s.vault.users a.stands.stands.holds.users

  pub count_is : length s.vault.users ≡ length x.settings.settled.rec.users
  count_is = both.0

  pub used_is : used s.vault.users ≡ used_by x.settings.settled.rec.users
  used_is = λ i. both.0 i + both.1 i

  pub full_is : is_full x.slots s ≡ has_no_slot x
  full_is = ap (λ (n : ℕ). nat_lt 0 x.slots && nat_le x.slots n) used_is

  pub worn_is : is_worn s ≡ (x.settings.settled.sequence == last_sequence)
  worn_is = ap (λ (b : Books). b.kept == last_of_64) a.books_are
