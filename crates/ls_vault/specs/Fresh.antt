-- Numbers that aren't taken yet.
use Rattle.std.specs.Prelude.{ℕ, zero, suc, ◌+◌, ◌*◌, ◌/◌, ◌%◌, ◌^◌, if◌then◌else◌, List, length}
use Rattle.byteorder.specs.Endian.{big_number}
use Rattle.ls_arming.specs.Numbers.{contains}

-- the number with its lowest bit set
abbrev pub odd : ℕ → ℕ
odd d = 2 * (d / 2) + 1

-- The first number from d on, in steps of 2 and with 0 after 2^64, that isn't taken. At most so
-- many steps are made.
unfoldable pub first_free : ℕ → ℕ → List ℕ → ℕ
first_free zero d taken = d
first_free (suc steps) d taken =
    if contains taken d then first_free steps ((d + 2) % 2 ^ 64) taken else d

-- The drawn number d with its lowest bit set, or the first after it in steps of 2 that isn't taken.
-- No more steps are needed than numbers are taken.
abbrev pub fresh : ℕ → List ℕ → ℕ
fresh d taken = first_free (length taken) (odd d) taken

-- the number in the first eight drawn bytes
abbrev pub drawn_number : List ℕ → ℕ
drawn_number drawn = big_number 8 drawn
