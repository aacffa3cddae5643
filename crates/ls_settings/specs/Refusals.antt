-- A fault of the board, as a refusal.
use Rattle.ls_board.specs.declared.action.BoardFault.{BoardFault}
use Rattle.ls_board.specs.declared.action.BoardFault.TheVariants.{Failed, Memory}
use Rattle.ls_settings.specs.declared.fault.OpenRefusal.{OpenRefusal}
use Rattle.ls_settings.specs.declared.fault.OpenRefusal.TheVariants.{Fault, Memory as NoMemory}

abbrev pub refusal_of : BoardFault → OpenRefusal
refusal_of (Failed part) = Fault part
refusal_of Memory = NoMemory
