-- The drafts of the protectors of tokens.
use Rattle.std.proofs.Common.{◌≡◌, ◌≢◌, ◌≤◌, ◌<◌, ◌+◌, ◌*◌, ℕ, zero, suc, Bool, true, false, List, [], ◌∷◌, ◌++◌, map, length, Option, None, Some, refl, sym, ap, subst, ◌∙◌, arith, append_assoc, append-nil, ⊎_elim}
use Rattle.std.specs.Prelude.{Result, Ok, Err, OnOk, IfSome, is_some, slice_index, ◌==◌, if◌then◌else◌}
use Rattle.std.specs.List.{Contains}
use Rattle.std.proofs.lemmas.Bool.{ne_eqb}
use Rattle.ls_formats.specs.Contents.{AreBytes}
use Rattle.ls_placing.specs.Placing.{IsFreeSlot, slot_list}
use Rattle.ls_protector.specs.Drafts.{MayBeAsked}
use Rattle.ls_protector.specs.Steps.{Drafted}
use Rattle.ls_sealing.specs.Draws.{token_draw_size}
use Rattle.ls_standing.proofs.ContainsLemmas.{first_or_behind, none_in}
use Rattle.ls_turn.specs.declared.session.Pending.{Pending}
use Rattle.ls_turn.specs.Serving.{FitsBoard}
use Rattle.ls_vault.specs.Drawn.{token_len}
use Rattle.ls_activating.specs.Planning.{AddsDrafts, AddsOne, AreDrafts, AreFree, Made, draft_of}

-- so many bytes are drawn for a protector as it takes
pub size_is : (slots : ℕ) (slot : Option ℕ) → FitsBoard slots slot → token_len slots ≡ token_draw_size (is_some slot)
size_is slots None none = ap token_len none
size_is slots (Some n) within = ap (λ (b : Bool). 16440 + (if b then 0 else 28)) (ne_eqb slots 0 (λ none. let bad = within in omega (arith, none, bad)))

module _ (slots user version : ℕ) (p0 : List ℕ) where
  -- one more
  pub adds_one : {T E : Type 0} (r : Result T E) (taken taken1 : List ℕ) (slot : Option ℕ) (token : Pending) (bytes : List ℕ) (old new : List Drafted) (d : Drafted) → IsFreeSlot slots taken slot
      → length bytes ≡ token_len slots → ((i : ℕ) → slice_index bytes i < 256) → OnOk r (taken1 ≡ taken ++ slot_list slot) → new ≡ old ++ d ∷ []
      → ((gk_key : List ℕ) → d ≡ draft_of user version p0 gk_key (record { token = token; slot = slot; bytes = bytes })) → MayBeAsked slots d.plan
      → OnOk r (AddsOne slots user version p0 taken token bytes taken1 old new)
  adds_one (Ok t) taken taken1 slot token bytes old new d free long each takes behind is asked = record {
    slot = slot;
    free = free;
    are = record { long = long ∙ size_is slots slot free.fits; each = each };
    takes = takes;
    draft = d;
    behind = behind;
    draft_is = is;
    asked = asked;
  }
  adds_one (Err e) taken taken1 slot token bytes old new d free long each takes behind is asked = tt

  -- none
  pub adds_none : (taken : List ℕ) (tokens : List Pending) (old : List Drafted) → tokens ≡ [] → AddsDrafts slots user version p0 taken tokens old old
  adds_none taken tokens old none = record {
    more = [];
    behind = sym (append-nil old);
    are = record {
      made = [];
      tokens_are = sym none;
      free = tt;
      bytes = λ m here. absurd (none_in m here);
      drafts_are = λ gk_key. refl;
      asked = λ d here. absurd (none_in d here);
    };
  }

  -- the others behind one
  module _ (taken taken1 : List ℕ) (one : Pending) (rest tokens : List Pending) (bytes : List ℕ) (old mid new : List Drafted) (same : tokens ≡ one ∷ rest) (first : AddsOne slots user version p0 taken one bytes taken1 old mid) where
    abbrev m : Made
    m = record { token = one; slot = first.slot; bytes = bytes }

    both : AddsDrafts slots user version p0 taken1 rest mid new → AddsDrafts slots user version p0 taken tokens old new
    both second = record {
      more = first.draft ∷ second.more;
      behind = second.behind ∙ (ap (λ (l : List Drafted). l ++ second.more) first.behind ∙ append_assoc old (first.draft ∷ []) second.more);
      are = record {
        made = m ∷ second.are.made;
        tokens_are = ap (λ (l : List Pending). one ∷ l) second.are.tokens_are ∙ sym same;
        free = (first.free, subst (λ (l : List ℕ). AreFree slots l second.are.made) first.takes second.are.free);
        bytes = λ n here.
            ⊎_elim (λ (e : m ≡ n). subst (λ (k : Made). AreBytes (token_draw_size (is_some k.slot)) k.bytes) e first.are) (second.are.bytes n) (first_or_behind m second.are.made n here);
        drafts_are = λ gk_key i. first.draft_is gk_key i ∷ second.are.drafts_are gk_key i;
        asked = λ d here. ⊎_elim (λ (e : first.draft ≡ d). subst (λ (k : Drafted). MayBeAsked slots k.plan) e first.asked) (second.are.asked d) (first_or_behind first.draft second.more d here);
      };
    }

    pub adds_more : {T E : Type 0} (r : Result T E) → OnOk r (AddsDrafts slots user version p0 taken1 rest mid new) → OnOk r (AddsDrafts slots user version p0 taken tokens old new)
    adds_more (Ok t) second = both second
    adds_more (Err e) second = tt

pub within_board : (slots : ℕ) (slot : Option ℕ) → FitsBoard slots slot → IfSome slot (λ n. n < slots)
within_board slots None fits = tt
within_board slots (Some n) fits = fits
