-- One step of the search for a number that isn't taken.
use Rattle.std.proofs.Common.{◌≡◌, ◌+◌, ◌%◌, ◌^◌, ℕ, zero, suc, true, false, cond, List, refl, ◌∙◌, ap}
use Rattle.ls_vault.specs.Fresh.{first_free}
use Rattle.ls_arming.specs.Numbers.{contains}

pub free_here : (k d : ℕ) (taken : List ℕ) → contains taken d ≡ false → first_free k d taken ≡ d
unfolding first_free
free_here zero d taken is = refl
free_here (suc k) d taken is = ap (λ b. cond b (first_free k ((d + 2) % 2 ^ 64) taken) d) is

pub free_step : (k j d : ℕ) (taken : List ℕ) → k ≡ suc j → contains taken d ≡ true → first_free k d taken ≡ first_free j ((d + 2) % 2 ^ 64) taken
unfolding first_free
free_step k j d taken more is = ap (λ i. first_free i d taken) more ∙ ap (λ b. cond b (first_free j ((d + 2) % 2 ^ 64) taken) d) is

pub free_last : (k d : ℕ) (taken : List ℕ) → k ≡ 0 → first_free k d taken ≡ d
unfolding first_free
free_last k d taken none = ap (λ i. first_free i d taken) none
