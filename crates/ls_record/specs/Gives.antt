-- What the calls of the code's reader of a body return.
use Rattle.std.specs.Prelude.{◌≡◌, ◌≤◌, ⊤, ℕ, length, Result, Ok, Err}
use Rattle.byteorder.specs.Endian.{big_number}
use Rattle.ls_bytes.specs.Reading.{Reading}
use Rattle.ls_record.specs.declared.fault.RecordFault.{RecordFault}
use Rattle.ls_record.specs.declared.fault.RecordFault.TheVariants.{Short, Order, Limit, Extra, Memory}
use Rattle.ls_record.specs.Reading.{Reads, behind}

-- the fault is this, unless memory ran out
abbrev pub Tells : {B : Type 0} → Result B RecordFault → RecordFault → Type 0
Tells read (Short at) = read ≡ Err (Short at)
Tells read (Order at) = read ≡ Err (Order at)
Tells read (Limit at) = read ≡ Err (Limit at)
Tells read (Extra at) = read ≡ Err (Extra at)
Tells read Memory = ⊤

-- a call returned what reading gives, unless memory ran out
abbrev pub Gives : {A : Type 0} → Reads A → Reading → Result A RecordFault → Reading → Type 0
Gives p old (Ok v) new = p old ≡ Ok (v, new)
Gives p old (Err e) new = Tells (p old) e

-- the next bytes are a number, and the reader moved behind it
pub record IsNumber (width n : ℕ) (old new : Reading) : Type 0 where
  pub long : width ≤ length old.left
  pub value : n ≡ big_number width old.left
  pub rest : new ≡ behind width old
