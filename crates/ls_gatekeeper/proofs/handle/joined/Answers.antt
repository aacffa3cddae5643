use Rattle.std.proofs.Common.{◌≡◌, ◌∙◌, ℕ, List, ◌∷◌, ◌++◌, length, refl, arith}
use Rattle.std.proofs.lemmas.List.{take_at, drop_at, drop_all, append-nil}
use borrow.Rule.Slice.PartMut.{put_mid}
use Rattle.ls_gatekeeper.proofs.handle.joined.Goals as goal

-- bytes written over a list's end
put_at_end : (a k : ℕ) (x z y : List ℕ) → length x ≡ a → length z ≡ k → put_mid a k (x ++ z) y ≡ x ++ y
put_at_end a k x z y lx lz = rw (take_at x z a lx, drop_at x z a lx, drop_all k z (omega arith), append-nil y) refl

pub returns : goal.returns
returns c =
    put_at_end 17 32 (1 ∷ c.copy_from_slice.new.self) _ c.copy_from_slice-2.new.self (omega arith) refl
    ∙ (λ i. (1 ∷ c.copy_from_slice.ensures.after i) ++ c.copy_from_slice-2.ensures.after i)
