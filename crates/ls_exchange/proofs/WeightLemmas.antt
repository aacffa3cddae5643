-- The room for a change by protectors, part by part.
use Rattle.std.proofs.Common.{◌≡◌, ◌+◌, ◌<◌, ◌^◌, ℕ, suc, List, [], ◌∷◌, ◌++◌, length, sum_by, length-append, refl, ap, subst, arith}
use Rattle.std.proofs.lemmas.List.Sums.{sum_by-append}
use Rattle.ls_board.specs.declared.action.Action.{Action}
use Rattle.ls_board.specs.Effect.{weight_of}
use Rattle.ls_change.specs.Work.{actions_of}
use Rattle.ls_protector.specs.Steps.{Drafted}
use Rattle.ls_exchange.specs.Exchanges.{Exchanged, plain, new_parts, staging_of, settling_of, retiring_of}

-- ---- five lists in a row, and syncs among them

count_of : (a b s c r z : List Action) → length ((a ++ (b ++ s)) ++ (c ++ (r ++ z))) ≡ length a + length s + length b + length c + length r + length z
count_of a b s c r z =
    omega (arith, length-append (a ++ (b ++ s)) (c ++ (r ++ z)), length-append a (b ++ s), length-append b s, length-append c (r ++ z), length-append r z)

bytes_of : (a b s c r z : List Action)
    → sum_by weight_of ((a ++ (b ++ s)) ++ (c ++ (r ++ z))) ≡ sum_by weight_of a + sum_by weight_of s + sum_by weight_of b + sum_by weight_of c + sum_by weight_of r + sum_by weight_of z
bytes_of a b s c r z =
    omega (arith, sum_by-append weight_of (a ++ (b ++ s)) (c ++ (r ++ z)), sum_by-append weight_of a (b ++ s), sum_by-append weight_of b s, sum_by-append weight_of c (r ++ z), sum_by-append weight_of r z)

sync_count : (drafts : List Drafted) → length (settling_of (new_parts drafts)) ≡ length drafts
sync_count [] = refl
sync_count (draft ∷ drafts) = ap (λ (n : ℕ). suc n) (sync_count drafts)

sync_bytes : (drafts : List Drafted) → sum_by weight_of (settling_of (new_parts drafts)) ≡ 0
sync_bytes [] = refl
sync_bytes (draft ∷ drafts) = let none = sync_bytes drafts in omega (arith, none)

-- ---- all of it

module _ (x y : Exchanged) (is : x ≡ y) where
  pub all_count : length (actions_of (plain y)) ≡ length (staging_of x.drafts) + length x.drafts + length x.others + length x.commit.actions + length (retiring_of x.retire) + length x.after
  all_count =
      let n = count_of (staging_of x.drafts) x.others (settling_of (new_parts x.drafts)) x.commit.actions (retiring_of x.retire) x.after in
      let syncs = sync_count x.drafts in
      let here : length (actions_of (plain x)) ≡ length (staging_of x.drafts) + length x.drafts + length x.others + length x.commit.actions + length (retiring_of x.retire) + length x.after =
      omega (arith, n, syncs) in
      subst (λ (z : Exchanged). length (actions_of (plain z)) ≡ length (staging_of x.drafts) + length x.drafts + length x.others + length x.commit.actions + length (retiring_of x.retire) + length x.after) is here

  pub all_bytes : sum_by weight_of (actions_of (plain y)) ≡ sum_by weight_of (staging_of x.drafts) + sum_by weight_of x.others + sum_by weight_of x.commit.actions + sum_by weight_of (retiring_of x.retire) + sum_by weight_of x.after
  all_bytes =
      let n = bytes_of (staging_of x.drafts) x.others (settling_of (new_parts x.drafts)) x.commit.actions (retiring_of x.retire) x.after in
      let syncs = sync_bytes x.drafts in
      let here : sum_by weight_of (actions_of (plain x)) ≡ sum_by weight_of (staging_of x.drafts) + sum_by weight_of x.others + sum_by weight_of x.commit.actions + sum_by weight_of (retiring_of x.retire) + sum_by weight_of x.after =
      omega (arith, n, syncs) in
      subst (λ (z : Exchanged). sum_by weight_of (actions_of (plain z)) ≡ sum_by weight_of (staging_of x.drafts) + sum_by weight_of x.others + sum_by weight_of x.commit.actions + sum_by weight_of (retiring_of x.retire) + sum_by weight_of x.after) is here

  -- no part of what fits is too much
  module _ (few : length (actions_of (plain y)) < 2 ^ 32) where
    pub drafts_few : length (staging_of x.drafts) + length x.drafts < 2 ^ 32
    drafts_few = let n = all_count in omega (arith, n, few)

    pub retire_few : length (retiring_of x.retire) < 2 ^ 32
    retire_few = let n = all_count in omega (arith, n, few)

  pub drafts_light : sum_by weight_of (actions_of (plain y)) < 2 ^ 64 → sum_by weight_of (staging_of x.drafts) < 2 ^ 64
  drafts_light light = let n = all_bytes in omega (arith, n, light)
