-- What the Gatekeeper does: handles of passwords, and a counter of wrong ones for each id.
use Rattle.std.specs.Prelude.{◌-◌, ◌==◌, ℕ, Bool, nat_lt, bytes_eq, if◌then◌else◌, List, ◌∷◌, ◌++◌, drop, slice_index, Option, None, Some}
use Rattle.std.specs.Ordering.{nat_cmp}
use Rattle.std.specs.FinMap.Entries.{find, put}
use Rattle.byteorder.specs.Endian.{big_number}
use Rattle.ls_bytes.specs.Fields.{be64}
use Rattle.ls_hash.specs.Hmac.{hmac_sha256}
use Rattle.ls_weaver.specs.Throttle.{timeout, more_fails, rest_until}
use Rattle.ls_board.specs.declared.action.Answer.{Answer}
use Rattle.ls_board.specs.declared.action.Answer.TheVariants.{Accepted, Wrong, Throttled, Unknown}
use Rattle.ls_board.specs.declared.devices.Counter.{Counter}

-- ---- handles

-- The handle of a password: the version, the id, the salt, and a tag of these two and the password
-- under the key of the device.
abbrev pub signed : List ℕ → ℕ → ℕ → List ℕ → List ℕ
signed device sid salt password =
    1 ∷ be64 sid ++ be64 salt ++ hmac_sha256 device (be64 sid ++ be64 salt ++ password)

-- the version, id and salt that stand in a handle: one byte, and two numbers of eight bytes
abbrev pub version_of : List ℕ → ℕ
version_of handle = slice_index handle 0

abbrev pub sid_of : List ℕ → ℕ
sid_of handle = big_number 8 (drop 1 handle)

abbrev pub salt_of : List ℕ → ℕ
salt_of handle = big_number 8 (drop 9 handle)

-- whether it is the handle of this password, for the id and the salt that stand in it
abbrev pub is_signed : List ℕ → List ℕ → List ℕ → Bool
is_signed device handle password =
    bytes_eq handle (signed device (sid_of handle) (salt_of handle) password)

-- ---- counters

-- no failures
abbrev pub no_fails : Counter
no_fails = record { fails = 0; until = 0 }

-- The counter after a handle that was right or not, at this moment. While it rests nothing changes;
-- a right handle clears the failures; a wrong one is one failure more.
abbrev pub counter_after : Counter → Bool → ℕ → Counter
counter_after c right moment =
    if nat_lt moment c.until then c
    else if right then no_fails
    else record { fails = more_fails c.fails; until = rest_until moment (more_fails c.fails) }

-- what is answered: the rest of its rest, the id, or how long it rests now
abbrev pub counter_answer : Counter → ℕ → Bool → ℕ → Answer
counter_answer c sid right moment =
    if nat_lt moment c.until then Throttled (c.until - moment)
    else if right then Accepted sid
    else Wrong (timeout (more_fails c.fails))

-- the counter of an id, if it has a record
abbrev pub record_at : List (ℕ × Counter) → ℕ → Option Counter
record_at records sid = find nat_cmp sid records

-- ---- a verification

-- the counter of the id in a handle, where the handle is of the version 1
abbrev pub counter_of : List (ℕ × Counter) → List ℕ → Option Counter
counter_of records handle =
    if version_of handle == 1 then record_at records (sid_of handle) else None

-- the records with this counter at the id, if there is one
abbrev pub with_counter : List (ℕ × Counter) → ℕ → Bool → ℕ → Option Counter → List (ℕ × Counter)
with_counter records sid right moment None = records
with_counter records sid right moment (Some c) =
    put nat_cmp sid (counter_after c right moment) records

-- the records after it
abbrev pub verified : List ℕ → List (ℕ × Counter) → List ℕ → List ℕ → ℕ → List (ℕ × Counter)
verified device records handle password moment =
    with_counter records (sid_of handle) (is_signed device handle password) moment
    (counter_of records handle)

-- without a counter the handle is unknown
abbrev pub answer_by : ℕ → Bool → ℕ → Option Counter → Answer
answer_by sid right moment None = Unknown
answer_by sid right moment (Some c) = counter_answer c sid right moment

-- what it answers
abbrev pub verify_answer : List ℕ → List (ℕ × Counter) → List ℕ → List ℕ → ℕ → Answer
verify_answer device records handle password moment =
    answer_by (sid_of handle) (is_signed device handle password) moment (counter_of records handle)
