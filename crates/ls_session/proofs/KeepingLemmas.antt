-- Keeping protectors, one after another.
use Rattle.std.proofs.Common.{◌≡◌, ◌≤◌, ◌-◌, ℕ, List, [], ◌∷◌, ◌++◌, length, get_or, take, drop, Result, Ok, IfOk, append_assoc, refl, sym, ap, subst, ◌∙◌, arith}
use Rattle.std.specs.Prelude.{map}
use Rattle.std.specs.List.{AllZip, flat_map}
use Rattle.std.proofs.lemmas.List.{take_all}
use Rattle.ls_board.specs.declared.action.BoardFault.{BoardFault}
use Rattle.ls_board.specs.declared.world.World.{World}
use Rattle.ls_board.specs.Acts.{Sight}
use Rattle.ls_formats.specs.PartNames.{PartOf}
use Rattle.ls_formats.specs.declared.parts.Parts.{Parts}
use Rattle.ls_reading.specs.Reading.{Sees}
use Rattle.ls_reading.proofs.SeeLemmas.{sees_as, sees_both}
use Rattle.ls_record.specs.declared.row.UserRow.{UserRow}
use Rattle.ls_sealing.specs.Protectors.{Protector}
use Rattle.ls_standing.specs.NamedProtectors.{row_protectors}
use Rattle.ls_turn.specs.Serving.{IsKeptAs}
use Rattle.ls_session.specs.Keeping.{place_in, with_one, kept_behind, tokens_for}

abbrev pub behind : {X : Type 0} → List X → List X
behind xs = take (length xs - 1) (drop 1 xs)

behind_first : {X : Type 0} (x : X) (xs : List X) → behind (x ∷ xs) ≡ xs
behind_first x xs = take_all (length (x ∷ xs) - 1) xs (omega arith)

-- what is kept of these, behind those before
pub kept_append : (slots : ℕ) (xs ys : List Protector) (kept : Result (List Parts) PartOf) (w : World)
    → kept_behind slots (xs ++ ys) kept w ≡ kept_behind slots ys (kept_behind slots xs kept w) w
kept_append slots [] ys kept w = refl
kept_append slots (x ∷ xs) ys kept w = kept_append slots xs ys (with_one x kept (place_in slots x.user x.id w)) w

-- each is kept by its place
abbrev pub AreKept : ℕ → List Protector → Result (List Parts) PartOf → Type 0
AreKept slots done kept = IfOk kept (λ l. AllZip (IsKeptAs slots) done l)

module _ (slots : ℕ) (old mid new : Sight) (kept a : Result (List Parts) PartOf) (r : Result (Result (List Parts) PartOf) BoardFault) where
  -- some, and then others
  pub both : (xs ys : List Protector) → Sees (kept_behind slots xs kept) old (Ok a) mid → Sees (kept_behind slots ys a) mid r new
      → Sees (kept_behind slots (xs ++ ys) kept) old r new
  both xs ys first rest =
      sees_as (λ w. kept_behind slots ys (kept_behind slots xs kept w) w) (kept_behind slots (xs ++ ys) kept) old new r (λ told. sym (kept_append slots xs ys kept old.world))
      (sees_both (kept_behind slots xs kept) old mid (λ x w. kept_behind slots ys x w) new a r first rest)

  pub next_token : (user : ℕ) (tokens : List ℕ) → 1 ≤ length tokens
      → Sees (λ w. with_one (tokens_for user (get_or tokens 0 0)) kept (place_in slots user (get_or tokens 0 0) w)) old (Ok a) mid → Sees (kept_behind slots (map (tokens_for user) (behind tokens)) a) mid r new
      → Sees (kept_behind slots (map (tokens_for user) tokens) kept) old r new
  next_token user [] some first rest = absurd (omega (arith, some))
  next_token user (t ∷ tokens) some first rest =
      both (tokens_for user t ∷ []) (map (tokens_for user) tokens) first
      (subst (λ (l : List ℕ). Sees (kept_behind slots (map (tokens_for user) l) a) mid r new) (behind_first t tokens) rest)

  pub next_row : (rows : List UserRow) (row : UserRow) → 1 ≤ length rows → row ≡ get_or rows 0 row
      → Sees (kept_behind slots (row_protectors row) kept) old (Ok a) mid → Sees (kept_behind slots (flat_map row_protectors (behind rows)) a) mid r new
      → Sees (kept_behind slots (flat_map row_protectors rows) kept) old r new
  next_row [] row some at first rest = absurd (omega (arith, some))
  next_row (x ∷ rows) row some at first rest =
      both (row_protectors x) (flat_map row_protectors rows)
      (subst (λ (z : UserRow). Sees (kept_behind slots (row_protectors z) kept) old (Ok a) mid) at first)
      (subst (λ (l : List UserRow). Sees (kept_behind slots (flat_map row_protectors l) a) mid r new) (behind_first x rows) rest)

-- the same of how they are kept
module _ (slots : ℕ) (r : Result (Result (List Parts) PartOf) BoardFault) where
  abbrev pub EndsKept : List Protector → Type 0
  EndsKept done = IfOk r (λ then. AreKept slots done then)

  pub ends_as : (xs ys : List Protector) → xs ≡ ys → EndsKept xs → EndsKept ys
  ends_as xs ys is = subst EndsKept is

  pub zip_token : (user : ℕ) (tokens : List ℕ) (done : List Protector) → 1 ≤ length tokens
      → EndsKept ((done ++ tokens_for user (get_or tokens 0 0) ∷ []) ++ map (tokens_for user) (behind tokens)) → EndsKept (done ++ map (tokens_for user) tokens)
  zip_token user [] done some ends = absurd (omega (arith, some))
  zip_token user (t ∷ tokens) done some ends = ends_as _ _
      (ap (λ (l : List ℕ). (done ++ tokens_for user t ∷ []) ++ map (tokens_for user) l) (behind_first t tokens)
      ∙ append_assoc done (tokens_for user t ∷ []) (map (tokens_for user) tokens)) ends

  pub zip_row : (rows : List UserRow) (row : UserRow) (done : List Protector) → 1 ≤ length rows → row ≡ get_or rows 0 row
      → EndsKept ((done ++ row_protectors row) ++ flat_map row_protectors (behind rows)) → EndsKept (done ++ flat_map row_protectors rows)
  zip_row [] row done some at ends = absurd (omega (arith, some))
  zip_row (x ∷ rows) row done some at ends = ends_as _ _
      (ap (λ (z : UserRow). (done ++ row_protectors z) ++ flat_map row_protectors (behind (x ∷ rows))) at
      ∙ ap (λ (l : List UserRow). (done ++ row_protectors x) ++ flat_map row_protectors l) (behind_first x rows)
      ∙ append_assoc done (row_protectors x) (flat_map row_protectors rows)) ends

  pub zip_whole : (xs ys : List Protector) (done : List Protector) → EndsKept ((done ++ xs) ++ ys) → EndsKept (done ++ (xs ++ ys))
  zip_whole xs ys done ends = ends_as _ _ (append_assoc done xs ys) ends
