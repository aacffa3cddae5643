-- Which actions ask the devices, and which of these only change them.
use Rattle.ls_board.specs.declared.action.Action.{Action}
use Rattle.ls_board.specs.declared.action.Action.TheVariants.{WeaverWrite, WeaverRead, GkSign, GkEnroll, GkVerify, GkForget, GkList, KeyPut, KeyOpen, KeyDrop, KeyList, ResumeStore, ResumeTake}

-- it changes a device, and only says that it was done
abbrev pub OnlyChanges : Action → Type 0
OnlyChanges (WeaverWrite slot key value) = Unit {0}
OnlyChanges (GkEnroll sid) = Unit {0}
OnlyChanges (GkForget sid) = Unit {0}
OnlyChanges (KeyPut alias key) = Unit {0}
OnlyChanges (KeyDrop alias) = Unit {0}
OnlyChanges (ResumeStore key) = Unit {0}
OnlyChanges _ = ⊥

-- a device answers it
abbrev pub Asks : Action → Type 0
Asks (WeaverRead slot key moment) = Unit {0}
Asks (GkSign sid salt password) = Unit {0}
Asks (GkVerify handle password moment) = Unit {0}
Asks GkList = Unit {0}
Asks (KeyOpen alias bytes) = Unit {0}
Asks KeyList = Unit {0}
Asks ResumeTake = Unit {0}
Asks a = OnlyChanges a
