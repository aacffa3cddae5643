-- The rows of a record with one row put.
use Rattle.std.proofs.Common.{◌≡◌, ◌≢◌, ◌⊎◌, inl, inr, ◌<◌, Bool, ◌∷◌, sym, arith}
use Rattle.std.specs.Prelude.{nat_lt}
use Rattle.std.specs.List.{Contains}
use Rattle.std.proofs.Math.Dec.{ltb}
use Rattle.std.proofs.lemmas.Bool.{lt-ltb, ltb-true, cases_order}
use Rattle.std.proofs.lemmas.List.Elements.{Contains-append_left, Contains-append_right, Contains-append_cases}
use Rattle.ls_record.specs.declared.edit.Edit.TheVariants.{PutRow}
use Rattle.ls_record.specs.declared.row.UserRow.{UserRow}
use Rattle.ls_record.specs.Edits.{below, above, changed}
use Rattle.ls_record.specs.Rows.{Rec}
use Rattle.ls_standing.proofs.ContainsLemmas.{at_first, behind_first, first_or_behind}
use Rattle.ls_edits.proofs.FilterLemmas.{filtered_in, in_filter}

module _ (r : Rec) (row : UserRow) where
  abbrev lower : UserRow → Bool
  lower x = nat_lt x.user row.user

  abbrev upper : UserRow → Bool
  upper x = nat_lt row.user x.user

  pub row_put : Contains (changed r (PutRow row)).users row
  row_put = Contains-append_right (below r.users row.user) (row ∷ above r.users row.user) row (at_first row (above r.users row.user))

  pub of_put : (other : UserRow) → Contains (changed r (PutRow row)).users other → (Contains r.users other × (other.user ≢ row.user)) ⊎ (other ≡ row)
  of_put other has = by (Contains-append_cases (below r.users row.user) (row ∷ above r.users row.user) other has)
    where
      late : (row ≡ other) ⊎ Contains (above r.users row.user) other → (Contains r.users other × (other.user ≢ row.user)) ⊎ (other ≡ row)
      late (inl e) = inr (sym e)
      late (inr k) = let f = filtered_in upper r.users other k in let more = ltb-true row.user other.user f.1 in inl (f.0, λ e. omega (arith, more, e))

      by : Contains (below r.users row.user) other ⊎ Contains (row ∷ above r.users row.user) other → (Contains r.users other × (other.user ≢ row.user)) ⊎ (other ≡ row)
      by (inl k) = let f = filtered_in lower r.users other k in let less = ltb-true other.user row.user f.1 in inl (f.0, λ e. omega (arith, less, e))
      by (inr k) = late (first_or_behind row (above r.users row.user) other k)

  pub others_put : (other : UserRow) → Contains r.users other → other.user ≢ row.user → Contains (changed r (PutRow row)).users other
  others_put other has apart = by (cases_order other.user row.user)
    where
      by : (other.user ≡ row.user) ⊎ ((other.user < row.user) ⊎ (row.user < other.user)) → Contains (changed r (PutRow row)).users other
      by (inl e) = absurd (apart e)
      by (inr (inl less)) = Contains-append_left (below r.users row.user) (row ∷ above r.users row.user) other (in_filter lower r.users other has (lt-ltb other.user row.user less))
      by (inr (inr more)) = Contains-append_right (below r.users row.user) (row ∷ above r.users row.user) other (behind_first row (above r.users row.user) other (in_filter upper r.users other has (lt-ltb row.user other.user more)))
