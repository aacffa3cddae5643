-- What the session knows while a credential is replaced.
use Rattle.std.specs.List.{Contains}
use Rattle.std.specs.Prelude.{◌≡◌, ◌==◌, ◌++◌, ◌∷◌, ℕ, if◌then◌else◌, List, map, Option}
use Rattle.ls_credential.specs.Counts.{KindAndCounts}
use Rattle.ls_formats.specs.declared.parts.Parts.{Parts}
use Rattle.ls_turn.specs.declared.session.Session.{Session}
use Rattle.ls_turn.specs.declared.session.Opened.{Opened}

-- what is counted of the credential of this user is this
abbrev pub with_metrics : ℕ → Option KindAndCounts → Opened → Opened
with_metrics user metrics o = if o.user == user then record o { metrics = metrics } else o

-- The session y commits a change: it is x without a protector that it named, between these others, and
-- with this as what is counted of a user's credential.
pub record IsReady (x : Session) (front back : List Parts) (user : ℕ) (metrics : Option KindAndCounts)
    (y : Session) : Type 0 where
  pub slots : y.slots ≡ x.slots
  pub boot : y.boot ≡ x.boot
  pub settings : y.settings ≡ x.settings
  pub named : y.named.items ≡ front ++ back
  pub retired : y.retired.items ≡ x.retired.items
  pub opened : y.opened.items ≡ map (with_metrics user metrics) x.opened.items
  pub pending : y.pending.items ≡ x.pending.items
  pub prepared : y.prepared ≡ x.prepared
  pub captured : y.captured.items ≡ x.captured.items
  pub stopped : y.stopped ≡ x.stopped

-- one of these has the id
abbrev pub HasId : List Parts → ℕ → Type 0
HasId named id = (q : Parts) × Contains named q × (q.id ≡ id)

-- this one was taken out between others
abbrev pub IsTaken : List Parts → Parts → List Parts → Type 0
IsTaken old q new = (front back : List Parts) × (old ≡ front ++ q ∷ back) × (new ≡ front ++ back)
