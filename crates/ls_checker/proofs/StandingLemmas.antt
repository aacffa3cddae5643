-- The parts of standing, joined.
use Rattle.std.proofs.Common.{◌≡◌, ◌==◌, ◌⊎◌, inl, inr, if◌then◌else◌, List, ℕ, Option, Some, None, take, refl, sym, subst, ap, ◌∙◌, eqb-true}
use Rattle.std.specs.Prelude.{◌↔◌, Bool, true, false, IsTrue, Result, Ok, Err, IfOk, IfSome, IsOkAnd, IsSomeAnd, min, nat_lt, length, map}
use Rattle.std.specs.List.{AllZip}
use Rattle.std.specs.Option.{option_and_then}
use Rattle.ls_formats.specs.declared.side.Side.{Side}
use Rattle.ls_formats.specs.declared.side.Side.TheVariants.{First, Second}
use Rattle.ls_formats.specs.declared.part.FilePart.TheVariants.{E0, P1}
use Rattle.ls_formats.specs.PartNames.{settings_text}
use Rattle.ls_record.specs.declared.row.UserRow.{UserRow}
use Rattle.ls_arming.specs.declared.arming.Arming.{Arming}
use Rattle.ls_record.specs.Rows.{Rec}
use Rattle.ls_naming.specs.Named.{Files}
use Rattle.ls_naming.specs.Current.{Settled, Foreign, settled, unsettled, current, said_by, side_says, settled_in, current_side, file_says, whole_says, front_says, and_then}
use Rattle.ls_board.specs.declared.world.World.{World}
use Rattle.ls_board.specs.Effect.{file_at}
use Rattle.ls_settings.specs.Loaded.{IsWhole}
use Rattle.ls_secret.specs.Escrow.{opened_e0}
use Rattle.ls_bytes.specs.declared.memory.Memory.{Memory}
use Rattle.ls_vault.specs.declared.user.User.{User}
use Rattle.ls_vault.specs.declared.token.Token.{Token}
use Rattle.ls_vault.specs.declared.vault.Vault.{Vault}
use Rattle.ls_sealing.specs.Protectors.{Held, held}
use Rattle.ls_sealing.specs.Seals.{SealsToken, CompletesTo}
use Rattle.ls_standing.specs.Named.{UserHeld, RowHeld, held_of_row, token_of}
use Rattle.ls_standing.specs.Opening.{first_foreign}
use Rattle.ls_standing.specs.Standing.{SaysUser, HoldsUser, HoldsEscrow, Holds, StandsFor, IsTargetWhole, kept_arming}
use Rattle.ls_unsealing.proofs.SealsLemmas.{decided_by}
use Rattle.ls_checker.proofs.ZipLemmas.{zip_mapped}
use Rattle.ls_checker.specs.Parts.{HoldsCredential, HoldsRest}
use Rattle.ls_checker.specs.Wholes.{IsWholeIfOpen}

-- ---- a user

pub user_of_parts : (row : UserRow) (h : RowHeld) (u : User)
    → SaysUser row u → HoldsCredential row.protector h.credential u → HoldsRest h u → HoldsUser row h u
user_of_parts row h u says credential rest = record {
  says = says;
  seals = credential.0;
  counted = credential.1;
  metrics = credential.2;
  escrow = rest.0;
  handle = rest.1;
  resume = rest.2;
}

pub parts_of_user : (row : UserRow) (h : RowHeld) (u : User) → HoldsUser row h u
    → SaysUser row u × HoldsCredential row.protector h.credential u × HoldsRest h u
parts_of_user row h u holds = (
  holds.says,
  (holds.seals, holds.counted, holds.metrics),
  (holds.escrow, holds.handle, holds.resume),
)

-- ---- the halves of a secret

-- what is said of the halves, once the first one is known
abbrev pub HalvesHold : Option (List ℕ) → List Held → User → List ℕ → Type 0
HalvesHold p1 sealings u p0 =
    IsSomeAnd p1 (CompletesTo u.secret p0)
    × AllZip (λ held t. SealsToken held p1 t.bytes u.secret p0) sealings u.tokens

some_same : (p q : List ℕ) → Some p ≡ Some q → p ≡ q
some_same p q is = cc

halves : (h : UserHeld) (sealings : List Held) (u : User) (p0 : List ℕ)
    → option_and_then (opened_e0 u.secret) (h.files E0) ≡ Some p0
    → HalvesHold (h.files P1) sealings u p0 ↔ HoldsEscrow h sealings u
halves h sealings u p0 opens = (
  λ hold. record { p0 = p0; e0 = opens; whole = hold.0; tokens = hold.1 },
  λ escrow.
      let same = some_same escrow.p0 p0 (sym escrow.e0 ∙ opens) in
      subst (HalvesHold (h.files P1) sealings u) same (escrow.whole, escrow.tokens),
)

pub escrow_decided : (h : UserHeld) (sealings : List Held) (u : User) (p0 p : List ℕ) (e0 p1 o : Option (List ℕ)) (r : Result Bool Memory)
    → e0 ≡ h.files E0 → p1 ≡ h.files P1 → o ≡ option_and_then (opened_e0 u.secret) e0 → o ≡ Some p0 → p ≡ p0
    → IfOk r (λ b. IsTrue b ↔ HalvesHold p1 sealings u p) → IfOk r (λ b. IsTrue b ↔ HoldsEscrow h sealings u)
escrow_decided h sealings u p0 p e0 p1 o r first second opened there is decided =
    let opens : option_and_then (opened_e0 u.secret) (h.files E0) ≡ Some p0 =
    ap (λ (x : Option (List ℕ)). option_and_then (opened_e0 u.secret) x) (sym first) ∙ (sym opened ∙ there) in
    decided_by r (halves h sealings u p0 opens)
    (subst (λ (x : Option (List ℕ)). IfOk r (λ b. IsTrue b ↔ HalvesHold x sealings u p0)) second
    (subst (λ (x : List ℕ). IfOk r (λ b. IsTrue b ↔ HalvesHold p1 sealings u x)) is decided))

with_first : (P Q R : Type 0) → P → Q ↔ R → Q ↔ (P × R)
with_first P Q R p same = (λ q. (p, same.0 q), λ both. same.1 both.1)

pub halves_decided : (w : World) (row : UserRow) (u : User) (p0 : List ℕ) (p1 : Option (List ℕ)) (ids : List ℕ) (tokens : List Token) (r : Result Bool Memory)
    → ids ≡ row.tokens → tokens ≡ u.tokens → IsSomeAnd p1 (CompletesTo u.secret p0)
    → IfOk r (λ b. IsTrue b ↔ AllZip (λ id t. SealsToken (held w (token_of row id)) p1 t.bytes u.secret p0) ids tokens)
    → IfOk r (λ b. IsTrue b ↔ HalvesHold p1 (map (λ id. held w (token_of row id)) row.tokens) u p0)
halves_decided w row u p0 p1 ids tokens r first second whole decided =
    let decides : List ℕ → List Token → Type 0 = λ l m. IfOk r (λ b. IsTrue b ↔ AllZip (λ id t. SealsToken (held w (token_of row id)) p1 t.bytes u.secret p0) l m) in
    decided_by r (with_first _ _ _ whole (zip_mapped (λ h t. SealsToken h p1 t.bytes u.secret p0) (λ id. held w (token_of row id)) row.tokens u.tokens))
    (subst (decides row.tokens) second (subst (λ (l : List ℕ). decides l tokens) first decided))

-- ---- the settings

whole_by : (n : ℕ) (q r : Rec) (b : Bool) → (n == 4096) ≡ b → ◌≡◌ {A = Result Rec ℕ} (if b then Ok q else Err (min n 4096)) (Ok r) → n ≡ 4096
whole_by n q r true is e = eqb-true n 4096 is
whole_by n q r false is e = absurd (cc)

then_by : (n : ℕ) (x : Result Rec ℕ) (r : Rec) → and_then x (whole_says n) ≡ Ok r → n ≡ 4096
then_by n (Ok q) r e = whole_by n q r (n == 4096) refl e
then_by n (Err at) r e = absurd (cc)

long_by : (bytes : List ℕ) (r : Rec) (b : Bool) → ◌≡◌ {A = Result Rec ℕ} (if b then Err (length bytes) else and_then (front_says (take 4096 bytes)) (whole_says (length bytes))) (Ok r) → length bytes ≡ 4096
long_by bytes r true e = absurd (cc)
long_by bytes r false e = then_by (length bytes) (front_says (take 4096 bytes)) r e

ok_same : (s t : Settled) → ◌≡◌ {A = Result Settled Foreign} (Ok s) (Ok t) → s ≡ t
ok_same s t e = cc

on_same : (a b : Side) → ◌≡◌ {A = Option Side} (Some a) (Some b) → a ≡ b
on_same a b e = cc

no_side : (at : Side) → ◌≡◌ {A = Option Side} None (Some at) → ⊥
no_side at e = cc

no_settings : (f : Foreign) (s : Settled) → ◌≡◌ {A = Result Settled Foreign} (Err f) (Ok s) → ⊥
no_settings f s e = cc

said_whole : (side at : Side) (bytes : List ℕ) (s : Settled) (says : Result Rec ℕ) → file_says bytes ≡ says
    → settled_in side bytes says ≡ Ok s → s.side ≡ Some at → (side ≡ at) × (length bytes ≡ 4096)
said_whole side at bytes s (Ok r) says is on =
    let same = ok_same (settled side bytes r) s is in
    (on_same side at (ap (λ (x : Settled). x.side) same ∙ on), long_by bytes r (nat_lt (length bytes) 13) says)
said_whole side at bytes s (Err n) says is on = absurd (no_settings _ s is)

side_whole : (side at : Side) (file : Option (List ℕ)) (s : Settled) → side_says side file ≡ Ok s → s.side ≡ Some at → (side ≡ at) × IsWhole file
side_whole side at None s is on = absurd (no_side at (ap (λ (x : Settled). x.side) (ok_same unsettled s is) ∙ on))
side_whole side at (Some bytes) s is on = said_whole side at bytes s (file_says bytes) refl is on

chosen_whole : (files : Files) (s : Settled) (at : Side) (chosen : Option Side)
    → said_by (files (settings_text First)) (files (settings_text Second)) chosen ≡ Ok s → s.side ≡ Some at → IsWhole (files (settings_text at))
chosen_whole files s at None is on = absurd (no_side at (ap (λ (x : Settled). x.side) (ok_same unsettled s is) ∙ on))
chosen_whole files s at (Some First) is on =
    let w = side_whole First at (files (settings_text First)) s is on in subst (λ (x : Side). IsWhole (files (settings_text x))) w.0 w.1
chosen_whole files s at (Some Second) is on =
    let w = side_whole Second at (files (settings_text Second)) s is on in subst (λ (x : Side). IsWhole (files (settings_text x))) w.0 w.1

side_cases : (o : Option Side) (side : Side) → (o ≡ Some side) ⊎ ¬ (o ≡ Some side)
side_cases None side = inr (no_side side)
side_cases (Some First) First = inl refl
side_cases (Some First) Second = inr (λ e. let h = on_same First Second e in absurd (cc))
side_cases (Some Second) First = inr (λ e. let h = on_same Second First e in absurd (cc))
side_cases (Some Second) Second = inl refl

-- the current settings file is whole, and so is the other one, if it is open
open_whole : (w : World) (s : Settled) → current (file_at w) ≡ Ok s → IsTargetWhole w s.side → (side : Side) → IsWholeIfOpen w side
open_whole w s is target side opened =
    elim (side_cases s.side side) [
      | inl on ↦ chosen_whole (file_at w) s side (current_side (file_at w (settings_text First)) (file_at w (settings_text Second))) is on
      | inr off ↦ target side off opened
    ]

wholes_of : (w : World) → IsWholeIfOpen w First × IsWholeIfOpen w Second → (side : Side) → IsWholeIfOpen w side
wholes_of w both First = both.0
wholes_of w both Second = both.1

stands_with : (w : World) (v : Vault) (r : Rec) (o : Result Settled Foreign) → current (file_at w) ≡ o → IsOkAnd o (λ s. s.rec ≡ r)
    → ((IsWholeIfOpen w First × IsWholeIfOpen w Second) × Holds w r v) ↔ StandsFor w v
stands_with w v r (Err f) is found = absurd found
stands_with w v r (Ok s) is found = (
  λ both. (
    s,
    record {
      settings = is;
      target = λ side off opened. wholes_of w both.0 side opened;
      holds = subst (λ (x : Rec). Holds w x v) (sym found) both.1;
    },
  ),
  λ stands.
      let t = stands.0 in
      let same = ok_same t s (sym stands.1.settings ∙ is) in
      let wholes = open_whole w t stands.1.settings stands.1.target in (
        (wholes First, wholes Second),
        subst (λ (x : Rec). Holds w x v) (ap (λ (x : Settled). x.rec) same ∙ found) stands.1.holds,
      ),
)

pub stands_decided : (w : World) (v : Vault) (o : Option Rec) (r : Rec) (result : Result Bool Memory) → o ≡ Some r
    → IfSome o (λ x. IsOkAnd (current (file_at w)) (λ s. s.rec ≡ x))
    → IfOk result (λ b. IsTrue b ↔ ((IsWholeIfOpen w First × IsWholeIfOpen w Second) × Holds w r v))
    → IfOk result (λ b. IsTrue b ↔ StandsFor w v)
stands_decided w v o r result is found decided =
    decided_by result
    (stands_with w v r (current (file_at w)) refl (subst (λ (x : Option Rec). IfSome x (λ x. IsOkAnd (current (file_at w)) (λ s. s.rec ≡ x))) is found))
    decided

-- ---- a record

users_hold : (w : World) (r : Rec) (v : Vault) → first_foreign w r ≡ None → v.arming ≡ kept_arming r.armed w.cell
    → AllZip (λ row u. HoldsUser row (held_of_row w r.armed row) u) r.users v.users ↔ Holds w r v
users_hold w r v files arming = (
  λ users. record { users = users; files = files; arming = arming },
  λ holds. holds.users,
)

pub users_decided : (w : World) (r : Rec) (v : Vault) (rows : List UserRow) (users : List User) (armed : Option Arming) (result : Result Bool Memory)
    → first_foreign w r ≡ None → v.arming ≡ kept_arming r.armed w.cell
    → rows ≡ r.users → users ≡ v.users → armed ≡ r.armed
    → IfOk result (λ b. IsTrue b ↔ AllZip (λ row u. HoldsUser row (held_of_row w armed row) u) rows users)
    → IfOk result (λ b. IsTrue b ↔ Holds w r v)
users_decided w r v rows users armed result files arming first second third decided =
    let decides : List UserRow → List User → Option Arming → Type 0 = λ l m a. IfOk result (λ b. IsTrue b ↔ AllZip (λ row u. HoldsUser row (held_of_row w a row) u) l m) in
    decided_by result (users_hold w r v files arming)
    (subst (decides r.users v.users) third (subst (λ (m : List User). decides r.users m armed) second (subst (λ (l : List UserRow). decides l users armed) first decided)))
