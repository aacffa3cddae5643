-- What a blank world stands for.
use Rattle.std.proofs.Common.{◌≡◌, ℕ, zero, suc, replicate, get_or, List, [], ◌∷◌, None, refl}
use Rattle.std.specs.List.{AllZip}
use Rattle.ls_weaver.specs.Slots.{blank_slot}
use Rattle.ls_record.specs.Rows.{rec}
use Rattle.ls_naming.specs.Current.{unsettled}
use Rattle.ls_board.specs.Worlds.{blank_world}
use Rattle.ls_vault.specs.declared.user.User.{User}
use Rattle.ls_vault.specs.declared.vault.Vault.{Vault}
use Rattle.ls_standing.specs.Bare.{IsBare}
use Rattle.ls_standing.specs.Standing.{StandsFor, StandsDurably}
use Rattle.ls_standing.specs.Texts.{SameButTexts}
use Rattle.ls_standing.proofs.OneLemmas.{same_but_texts}

abbrev empty_vault : Vault
empty_vault = record { users = []; arming = None }

pub blank_stands : (slots : ℕ) → StandsDurably (blank_world slots) unsettled empty_vault
blank_stands slots = record {
  stands = record {
    settings = refl;
    target = λ side other opened. absurd (cc);
    holds = record { users = tt; files = refl; arming = refl };
  };
  settings = λ side. refl;
  named = λ name named. refl;
}

-- users of no row
no_users : (us : List User) → AllZip SameButTexts [] us → us ≡ []
no_users [] h = refl
no_users (u ∷ us) h = absurd h

pub blank_only : (slots : ℕ) (v : Vault) → StandsFor (blank_world slots) v → v ≡ empty_vault
blank_only slots v stands =
    let same = same_but_texts (blank_world slots) empty_vault v (unsettled, (blank_stands slots).stands) stands in
    let users = no_users v.users same.users in
    λ i. record { users = users i; arming = same.arming i }

-- an element of a list of equal ones, or what stands for one past its end
each_blank : {X : Type 0} (n i : ℕ) (x : X) → get_or (replicate n x) i x ≡ x
each_blank zero i x = refl
each_blank (suc n) zero x = refl
each_blank (suc n) (suc i) x = each_blank n i x

pub blank_bare : (slots : ℕ) → IsBare (blank_world slots) (blank_world slots) (rec [] None) []
blank_bare slots = record {
  files = λ name is unnamed kept. refl;
  strange = λ n strange. refl;
  slots = λ slot within unnamed. each_blank slots slot blank_slot;
  counters = λ sid unnamed. refl;
  keys = λ alias unnamed. refl;
  cell = λ none. refl;
}
