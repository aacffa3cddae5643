-- How the program ends: its exit status, and the line on standard error.
use Rattle.std.specs.Prelude.{ℕ, List, [], ◌++◌, codes}
use Rattle.std.specs.Fmt.{decimal}
use Rattle.ls_board.specs.declared.action.Part.{Part}
use Rattle.ls_board.specs.declared.action.Part.TheVariants as part
use Rattle.ls_top.specs.declared.status.Status.{Status}
use Rattle.ls_top.specs.declared.status.Status.TheVariants as status

-- the exit status
abbrev pub exit_code : Status → ℕ
exit_code status.Done = 0
exit_code status.Usage = 2
exit_code (status.Foreign name at) = 3
exit_code (status.Fault part) = 4
exit_code status.Memory = 5
exit_code status.TooLong = 6

-- the name of a part
abbrev pub part_text : Part → List ℕ
part_text part.Input = codes "Input"
part_text part.Output = codes "Output"
part_text part.Files = codes "Files"
part_text part.Weaver = codes "Weaver"
part_text part.Gatekeeper = codes "Gatekeeper"
part_text part.Keys = codes "Keys"
part_text part.Resume = codes "Resume"
part_text part.Clock = codes "Clock"
part_text part.Noise = codes "Noise"

-- what the line says behind the program's name; Done has no line
abbrev pub reason_text : Status → List ℕ
reason_text status.Done = []
reason_text status.Usage = codes "usage"
reason_text (status.Foreign name at) = codes "foreign " ++ name ++ codes " " ++ decimal at
reason_text (status.Fault part) = codes "fault " ++ part_text part
reason_text status.Memory = codes "memory"
reason_text status.TooLong = codes "too long"

-- the line on standard error, without its end
abbrev pub line_text : Status → List ℕ
line_text status = codes "locksettings: " ++ reason_text status
