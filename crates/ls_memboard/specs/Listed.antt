-- Lists of names and numbers.
use Rattle.std.specs.Prelude.{ℕ, List}
use Rattle.ls_board.specs.declared.action.Action.{Action}
use Rattle.ls_board.specs.declared.action.Action.TheVariants.{List as ListNames, Read, Make, Put, Poke, Remove, Sync, WeaverWrite, WeaverRead, GkSign, GkEnroll, GkVerify, GkForget, GkList, KeyPut, KeyOpen, KeyDrop, KeyList, ResumeStore, ResumeTake, Hear, Say, Now, Draw}
use Rattle.ls_board.specs.Listing.{IsListing, IsFields}

-- the bytes of a list are names or numbers in their order
abbrev pub ListsInOrder : Action → List ℕ → Type 0
ListsInOrder ListNames out = IsListing out
ListsInOrder (Read n) out = Unit {0}
ListsInOrder (Make n len) out = Unit {0}
ListsInOrder (Put n bytes) out = Unit {0}
ListsInOrder (Poke n at bytes) out = Unit {0}
ListsInOrder (Remove n) out = Unit {0}
ListsInOrder Sync out = Unit {0}
ListsInOrder (WeaverWrite slot key value) out = Unit {0}
ListsInOrder (WeaverRead slot key moment) out = Unit {0}
ListsInOrder (GkSign sid salt password) out = Unit {0}
ListsInOrder (GkEnroll sid) out = Unit {0}
ListsInOrder (GkVerify handle password moment) out = Unit {0}
ListsInOrder (GkForget sid) out = Unit {0}
ListsInOrder GkList out = IsFields out
ListsInOrder (KeyPut alias key) out = Unit {0}
ListsInOrder (KeyOpen alias bytes) out = Unit {0}
ListsInOrder (KeyDrop alias) out = Unit {0}
ListsInOrder KeyList out = IsFields out
ListsInOrder (ResumeStore key) out = Unit {0}
ListsInOrder ResumeTake out = Unit {0}
ListsInOrder (Hear max) out = Unit {0}
ListsInOrder (Say bytes) out = Unit {0}
ListsInOrder Now out = Unit {0}
ListsInOrder (Draw len) out = Unit {0}
