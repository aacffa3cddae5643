-- Lines in a row: their replies, their commands, and how many were answered.
use Rattle.std.proofs.Common.{◌≡◌, ◌≤◌, ◌+◌, ◌++◌, ◌⊎◌, ℕ, zero, suc, List, [], ◌∷◌, length, take, refl, sym, ◌∙◌, ap, arith, inl, inr, append_assoc, length-append}
use Rattle.std.specs.Prelude.{Option, Some, None, count_by, ◌==◌}
use Rattle.std.proofs.lemmas.List.{append-nil, take_at}
use Rattle.std.proofs.lemmas.List.Sums.{sum_by-append}
use Rattle.ls_top.specs.declared.vault.Command.{Command}
use Rattle.ls_top.specs.declared.vault.Refusal.TheVariants.{UserExists, UserLimit}
use Rattle.ls_top.specs.declared.vault.Reply.{Reply}
use Rattle.ls_top.specs.declared.vault.Reply.TheVariants.{Fine, Refused}
use Rattle.ls_top.specs.Lines.{command_of}
use Rattle.ls_top.specs.Printed.{printed_for}
use Rattle.ls_top.specs.Script.{Entry, served_by, served, replies, users_after, told, after, acknowledged}
use Rattle.ls_top.specs.Vault.{step}

pub replies-append : (users : List ℕ) (lines more : List (List ℕ)) → replies users (lines ++ more) ≡ replies users lines ++ replies (users_after users lines) more
replies-append users [] more = refl
replies-append users (line ∷ lines) more =
    ap (λ (l : List ℕ). (served users line).printed ++ l) (replies-append (served users line).users lines more)
    ∙ sym (append_assoc (served users line).printed (replies (served users line).users lines) (replies (users_after (served users line).users lines) more))

pub users_after-append : (users : List ℕ) (lines more : List (List ℕ)) → users_after users (lines ++ more) ≡ users_after (users_after users lines) more
users_after-append users [] more = refl
users_after-append users (line ∷ lines) more = users_after-append (served users line).users lines more

pub told-append : (users : List ℕ) (lines more : List (List ℕ)) → told users (lines ++ more) ≡ told users lines ++ told (users_after users lines) more
told-append users [] more = refl
told-append users (line ∷ lines) more =
    ap (λ (l : List Entry). (served users line).entries ++ l) (told-append (served users line).users lines more)
    ∙ sym (append_assoc (served users line).entries (told (served users line).users lines) (told (users_after (served users line).users lines) more))

-- the replies to one more line
pub replies_more : (users : List ℕ) (lines : List (List ℕ)) (line : List ℕ)
    → replies users (lines ++ line ∷ []) ≡ replies users lines ++ (served (users_after users lines) line).printed
replies_more users lines line =
    replies-append users lines (line ∷ [])
    ∙ ap (λ (l : List ℕ). replies users lines ++ l) (append-nil (served (users_after users lines) line).printed)

-- ---- the users after some commands

after_line : (users : List ℕ) (command : Option Command) (more : List Entry) (count : ℕ)
    → after users ((served_by users command).entries ++ more) (length (served_by users command).entries + count)
    ≡ after (served_by users command).users more count
after_line users None more count = ap (λ (n : ℕ). after users more n) (omega arith)
after_line users (Some command) more count = ap (λ (n : ℕ). after users ((served_by users (Some command)).entries ++ more) n) (one_more count)
  where
    one_more : (n : ℕ) → 1 + n ≡ suc n
    one_more n = omega arith

pub after-told : (users : List ℕ) (lines : List (List ℕ)) (more : List Entry)
    → after users (told users lines ++ more) (length (told users lines)) ≡ users_after users lines
after-told users [] more = refl
after-told users (line ∷ lines) more =
    ap (λ (l : List Entry). after users l (length (told users (line ∷ lines)))) (append_assoc (served users line).entries (told (served users line).users lines) more)
    ∙ ap (λ (n : ℕ). after users ((served users line).entries ++ (told (served users line).users lines ++ more)) n) (length-append (served users line).entries (told (served users line).users lines))
    ∙ after_line users (command_of line) (told (served users line).users lines ++ more) (length (told (served users line).users lines))
    ∙ after-told (served users line).users lines more

-- ---- how many were answered

entries_le : (users : List ℕ) (command : Option Command) → length (served_by users command).entries ≤ 1
entries_le users None = omega arith
entries_le users (Some command) = omega arith

-- a line has no more than one command
pub told_more : (users : List ℕ) (lines : List (List ℕ)) (line : List ℕ)
    → (length (told users lines) ≤ length (told users (lines ++ line ∷ [])))
    × (length (told users (lines ++ line ∷ [])) ≤ length (told users lines) + 1)
told_more users lines line =
    let both : length (told users (lines ++ line ∷ [])) ≡ length (told users lines) + length (told (users_after users lines) (line ∷ [])) =
    ap length (told-append users lines (line ∷ [])) ∙ length-append (told users lines) (told (users_after users lines) (line ∷ [])) in
    let one : length (told (users_after users lines) (line ∷ [])) ≤ 1 =
    omega (arith, ap length (append-nil (served (users_after users lines) line).entries), entries_le (users_after users lines) (command_of line)) in
    (omega arith, omega arith)

abbrev pub ends : List ℕ → ℕ
ends said = count_by (λ b. b == 10) said

ends_printed : (reply : Option Reply) → ends (printed_for reply) ≡ 1
ends_printed None = refl
ends_printed (Some Fine) = refl
ends_printed (Some (Refused UserExists)) = refl
ends_printed (Some (Refused UserLimit)) = refl

ends_served : (users : List ℕ) (command : Option Command) → ends (served_by users command).printed ≡ 1
ends_served users None = ends_printed None
ends_served users (Some command) = ends_printed (Some (step users command).reply)

pub ends-append : (s t : List ℕ) → ends (s ++ t) ≡ ends s + ends t
ends-append s t = sum_by-append _ s t

pub ends_replies : (users : List ℕ) (lines : List (List ℕ)) → ends (replies users lines) ≡ length lines
ends_replies users [] = refl
ends_replies users (line ∷ lines) = ends-append (served users line).printed (replies (served users line).users lines)
    ∙ omega (arith, ends_served users (command_of line), ends_replies (served users line).users lines)

ends_front : (k : ℕ) (s : List ℕ) → ends (take k s) ≤ ends s
ends_front zero s = omega arith
ends_front (suc k) [] = omega arith
ends_front (suc k) (b ∷ s) =
    let front : ends (take (suc k) (b ∷ s)) ≡ ends (b ∷ []) + ends (take k s) = ends-append (b ∷ []) (take k s) in
    let all : ends (b ∷ s) ≡ ends (b ∷ []) + ends s = ends-append (b ∷ []) s in
    omega (arith, front, all, ends_front k s)

take_one_more : (lines : List (List ℕ)) (line : List ℕ) (more : List (List ℕ)) → take (length lines + 1) (lines ++ line ∷ more) ≡ lines ++ line ∷ []
take_one_more lines line more =
    ap (take (length lines + 1)) (sym (append_assoc lines (line ∷ []) more))
    ∙ take_at (lines ++ line ∷ []) more (length lines + 1) (length-append lines (line ∷ []))

-- after the replies to these lines
pub acknowledged_lines : (users : List ℕ) (script lines more : List (List ℕ)) → script ≡ lines ++ more
    → acknowledged users script (replies users lines) ≡ length (told users lines)
acknowledged_lines users script lines more is =
    ap (λ (l : List (List ℕ)). length (told users l))
    (ap (λ (n : ℕ). take n script) (ends_replies users lines) ∙ ap (take (length lines)) is ∙ take_at lines more (length lines) refl)

-- after a part of the next reply
pub acknowledged_part : (users : List ℕ) (script lines : List (List ℕ)) (line : List ℕ) (more : List (List ℕ)) (k : ℕ) → script ≡ lines ++ line ∷ more
    → (acknowledged users script (replies users lines ++ take k (served (users_after users lines) line).printed) ≤ length (told users (lines ++ line ∷ [])))
    × (length (told users (lines ++ line ∷ [])) ≤ acknowledged users script (replies users lines ++ take k (served (users_after users lines) line).printed) + 1)
acknowledged_part users script lines line more k is =
    let part = take k (served (users_after users lines) line).printed in
    let counted : ends (replies users lines ++ part) ≡ length lines + ends part =
    ends-append (replies users lines) part ∙ ap (λ (n : ℕ). n + ends part) (ends_replies users lines) in
    let few : ends part ≤ 1 = omega (arith, ends_front k (served (users_after users lines) line).printed, ends_served (users_after users lines) (command_of line)) in
    elim (zero_or_one (ends part) few) [
      | inl none ↦
          let same : take (ends (replies users lines ++ part)) script ≡ lines =
          ap (λ (n : ℕ). take n script) (counted ∙ omega (arith, none)) ∙ ap (take (length lines)) is ∙ take_at lines (line ∷ more) (length lines) refl in
          let count : acknowledged users script (replies users lines ++ part) ≡ length (told users lines) = ap (λ (l : List (List ℕ)). length (told users l)) same in
          (omega (arith, count, told_more users lines line), omega (arith, count, told_more users lines line))
      | inr one ↦
          let same : take (ends (replies users lines ++ part)) script ≡ lines ++ line ∷ [] =
          ap (λ (n : ℕ). take n script) (counted ∙ ap (λ (n : ℕ). length lines + n) one) ∙ ap (take (length lines + 1)) is ∙ take_one_more lines line more in
          let count : acknowledged users script (replies users lines ++ part) ≡ length (told users (lines ++ line ∷ [])) = ap (λ (l : List (List ℕ)). length (told users l)) same in
          (omega (arith, count), omega (arith, count))
    ]
  where
    zero_or_one : (n : ℕ) → n ≤ 1 → (n ≡ 0) ⊎ (n ≡ 1)
    zero_or_one zero le = inl refl
    zero_or_one (suc zero) le = inr refl
    zero_or_one (suc (suc n)) le = absurd (omega arith)
