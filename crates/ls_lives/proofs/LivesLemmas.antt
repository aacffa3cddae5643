-- What happened in lives.
use Rattle.std.proofs.Common.{◌≡◌, ◌≤◌, ◌++◌, ℕ, List, [], ◌∷◌, take, refl, sym, ◌∙◌, ap, subst}
use Rattle.std.specs.Prelude.{map, Option, Some, None}
use Rattle.ls_lives.specs.Told.{opened_state}
use Rattle.ls_lives.specs.Lives.{Life, AreCounted, IsCounted, first_state, entries_of, kept_entries, vault_left, story, story_replies, vault_at_end}
use Rattle.ls_script.specs.declared.reply.Reply.{Reply}
use Rattle.ls_vault.specs.Histories.{Event, history, state_after}
use Rattle.ls_vault.specs.Script.{told, after, event_of}
use Rattle.ls_vault.specs.Step.{restart}
use Rattle.ls_vault.specs.declared.state.State.{State}
use Rattle.ls_vault.specs.declared.vault.Vault.{Vault}
use Rattle.ls_lives.proofs.HistoryLemmas.{map-append, map-take, take_less, history-append, state-append, history-take}

-- ---- lives

module _ (slots : ℕ)
    (replies : (s : State) (script moments noise : List ℕ) → map (λ h. h.reply) (history slots s (map event_of (told slots s script moments noise))) ≡ map (λ e. Some e.reply) (told slots s script moments noise))
    (states : (s : State) (script moments noise : List ℕ) (count : ℕ) → state_after slots s (map event_of (take count (told slots s script moments noise))) ≡ after s (told slots s script moments noise) count) where
  begins : (s : State) (l : Life) → l.vault ≡ s.vault → restart s l.boot l.books ≡ first_state l
  begins s l same = ap (λ (v : Vault). opened_state v l.books l.boot) (sym same)

  life_state : (l : Life) → IsCounted slots l → state_after slots (first_state l) (map event_of (kept_entries l)) ≡ after (first_state l) (entries_of l) l.count
  life_state l life = subst (λ (n : ℕ). state_after slots (first_state l) (map event_of (take l.count (told n (first_state l) l.start.input l.start.moments l.start.noise)))
      ≡ after (first_state l) (told n (first_state l) l.start.input l.start.moments l.start.noise) l.count)
      (sym life.width) (states (first_state l) l.start.input l.start.moments l.start.noise l.count)

  life_replies : (l : Life) → IsCounted slots l → map (λ h. h.reply) (history slots (first_state l) (map event_of (kept_entries l))) ≡ map (λ e. Some e.reply) (kept_entries l)
  life_replies l life = subst (λ (n : ℕ). map (λ h. h.reply) (history slots (first_state l) (map event_of (take l.count (told n (first_state l) l.start.input l.start.moments l.start.noise))))
      ≡ map (λ e. Some e.reply) (take l.count (told n (first_state l) l.start.input l.start.moments l.start.noise)))
      (sym life.width)
      (let es = told slots (first_state l) l.start.input l.start.moments l.start.noise in
      ap (λ (xs : List Event). map (λ h. h.reply) (history slots (first_state l) xs)) (map-take event_of l.count es)
      ∙ ap (map (λ h. h.reply)) (history-take slots (first_state l) l.count (map event_of es))
      ∙ map-take (λ h. h.reply) l.count (history slots (first_state l) (map event_of es))
      ∙ ap (take l.count) (replies (first_state l) l.start.input l.start.moments l.start.noise)
      ∙ sym (map-take (λ e. Some e.reply) l.count es))

  -- the state after a life, and what comes after it
  life_ends : (s : State) (l : Life) → l.vault ≡ s.vault → IsCounted slots l
      → state_after slots (restart s l.boot l.books) (map event_of (kept_entries l)) ≡ after (first_state l) (entries_of l) l.count
  life_ends s l same life = ap (λ (t : State). state_after slots t (map event_of (kept_entries l))) (begins s l same) ∙ life_state l life

  pub lives_end : (s : State) (lives : List Life) → AreCounted slots s.vault lives → (state_after slots s (story lives)).vault ≡ vault_at_end s.vault lives
  lives_end s [] are = refl
  lives_end s (l ∷ lives) are =
      let mid = state_after slots (restart s l.boot l.books) (map event_of (kept_entries l)) in
      let ends : mid ≡ after (first_state l) (entries_of l) l.count = life_ends s l are.1 are.0 in
      let vault : mid.vault ≡ vault_left l = ap (λ (t : State). t.vault) ends in
      ap (λ (t : State). t.vault) (state-append slots (restart s l.boot l.books) (map event_of (kept_entries l)) (story lives))
      ∙ lives_end mid lives (subst (λ (v : Vault). AreCounted slots v lives) (sym vault) are.2)
      ∙ ap (λ (v : Vault). vault_at_end v lives) vault

  pub lives_reply : (s : State) (lives : List Life) → AreCounted slots s.vault lives → map (λ h. h.reply) (history slots s (story lives)) ≡ story_replies lives
  lives_reply s [] are = refl
  lives_reply s (l ∷ lives) are =
      let first = restart s l.boot l.books in
      let events = map event_of (kept_entries l) in
      let mid = state_after slots first events in
      let vault : mid.vault ≡ vault_left l = ap (λ (t : State). t.vault) (life_ends s l are.1 are.0) in
      ap (λ (l : List (Option Reply)). None ∷ l)
      (ap (map (λ h. h.reply)) (history-append slots first events (story lives))
      ∙ map-append (λ h. h.reply) (history slots first events) (history slots mid (story lives))
      ∙ ap (λ (xs : List (Option Reply)). xs ++ map (λ h. h.reply) (history slots mid (story lives)))
      (ap (λ (t : State). map (λ h. h.reply) (history slots t events)) (begins s l are.1) ∙ life_replies l are.0)
      ∙ ap (λ (ys : List (Option Reply)). map (λ e. Some e.reply) (kept_entries l) ++ ys)
      (lives_reply mid lives (subst (λ (v : Vault). AreCounted slots v lives) (sym vault) are.2)))

  pub acknowledged_kept : (l : Life) (n : ℕ) → n ≤ l.count → take n (kept_entries l) ≡ take n (entries_of l)
  acknowledged_kept l n le = take_less n l.count (entries_of l) le
