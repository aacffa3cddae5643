-- A fact that holds whatever a call answered.
use Rattle.std.specs.Prelude.{Result, Ok, Err, OnOk}

pub whenever : {T E P : Type 0} (result : Result T E) → P → OnOk result P
whenever (Ok x) fact = fact
whenever (Err e) fact = tt
