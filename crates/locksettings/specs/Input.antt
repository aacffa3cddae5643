-- What is taken from standard input.
use Rattle.std.specs.Prelude.{ℕ, ◌^◌, List, length, nat_le, if◌then◌else◌, Result, Ok, Err}
use Rattle.std.specs.declared.io.ErrorKind.{ErrorKind}
use Rattle.std.specs.declared.io.ErrorKind.TheVariants.{OutOfMemory}
use Rattle.ls_board.specs.declared.action.Part.TheVariants.{Input}
use Rattle.ls_top.specs.declared.status.Status.{Status}
use Rattle.ls_top.specs.declared.status.Status.TheVariants.{Fault, Memory, TooLong}

-- the script that the bytes are: at most 1,048,576
abbrev pub script_of : List ℕ → Result (List ℕ) Status
script_of bytes = if nat_le (length bytes) (2 ^ 20) then Ok bytes else Err TooLong

-- how the program ends where a read failed
abbrev pub status_of_read : ErrorKind → Status
status_of_read OutOfMemory = Memory
status_of_read _ = Fault Input

-- how the program may end before it has its script
abbrev pub IsWithoutScript : Status → Type 0
IsWithoutScript Memory = Unit {0}
IsWithoutScript (Fault Input) = Unit {0}
IsWithoutScript TooLong = Unit {0}
IsWithoutScript _ = ⊥
