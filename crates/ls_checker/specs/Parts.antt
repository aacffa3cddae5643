-- What is decided of a user, in parts.
use Rattle.std.specs.Prelude.{◌≡◌, ◌≢◌, ℕ, [], MatchBool}
use Rattle.ls_vault.specs.declared.user.User.{User}
use Rattle.ls_sealing.specs.Protectors.{Held, failures}
use Rattle.ls_sealing.specs.Seals.{Seals, ShowsMetrics}
use Rattle.ls_standing.specs.Named.{RowHeld}
use Rattle.ls_standing.specs.Standing.{HoldsEscrow, HoldsHandle, HoldsResume}

-- what is said of the credential's protector, whose id this is
abbrev pub HoldsCredential : ℕ → Held → User → Type 0
HoldsCredential id h u =
    Seals id h u.credential u.secret
    × (failures h ≡ record { fails = u.fails; until = u.until })
    × ShowsMetrics h u.credential u.secret

-- what is said beside that
abbrev pub HoldsRest : RowHeld → User → Type 0
HoldsRest h u =
    MatchBool u.escrow (HoldsEscrow h.user h.tokens u) (u.tokens ≡ [])
    × (u.secure ≢ 0 → HoldsHandle h.user u)
    × HoldsResume h.user u
