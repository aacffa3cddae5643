-- How long a secret that was guessed wrong rests.
use Rattle.std.specs.Prelude.{◌+◌, ◌-◌, ◌*◌, ◌/◌, ◌^◌, ℕ, min, nat_lt, ◌==◌, if◌then◌else◌}

-- Milliseconds of rest after so many failures in a row: five are free but the last, then four more,
-- then each costs half a minute, from thirty on twice as long every ten, and at last a day.
unfoldable pub timeout : ℕ → ℕ
timeout fails =
    if nat_lt fails 5 then 0
    else if fails == 5 then 30000
    else if nat_lt fails 10 then 0
    else if nat_lt fails 30 then 30000
    else if nat_lt fails 140 then 30000 * 2 ^ ((fails - 30) / 10)
    else 86400000

-- a counter after one more failure, which stops at its last value
abbrev pub more_fails : ℕ → ℕ
more_fails fails = min (fails + 1) (2 ^ 32 - 1)

-- the moment until which a secret rests that was guessed wrong at this moment, for so many failures
abbrev pub rest_until : ℕ → ℕ → ℕ
rest_until moment fails = min (moment + timeout fails) (2 ^ 64 - 1)
