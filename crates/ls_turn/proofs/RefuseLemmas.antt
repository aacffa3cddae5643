-- Refusals by the record, the session and the words.
use Rattle.std.proofs.Common.{◌≡◌, Option, None, Some, refl, sym, ◌∙◌, ap}
use Rattle.std.specs.Prelude.{Result, Ok}
use Rattle.ls_board.specs.Acts.{Sight}
use Rattle.ls_script.specs.declared.reply.Refusal.{Refusal}
use Rattle.ls_script.specs.declared.reply.Reply.{Reply}
use Rattle.ls_script.specs.declared.reply.Reply.TheVariants.{No}
use Rattle.ls_turn.specs.declared.session.Session.{Session}
use Rattle.ls_turn.specs.declared.stop.Stop.{Stop}
use Rattle.ls_turn.specs.Refusing.{IsOwn, Refuses}

module _ (own : Option Refusal) (old : Sight) (x : Session) where
  -- it is refused by its first cause, and nothing is done
  module _ (why : Refusal) (is : own ≡ Some why) where
    its_cause : (w : Refusal) → ◌≡◌ {A = Option Refusal} (Some why) (Some w) → why ≡ w
    its_cause w e = cc

    its_reply : (w : Refusal) → ◌≡◌ {A = Result Reply Stop} (Ok (No why)) (Ok (No w)) → why ≡ w
    its_reply w e = cc

    pub refuses : Refuses own old x (Ok (No why)) x old
    refuses = record {
      refused = λ w found. (ap (λ (v : Refusal). Ok (No v)) (its_cause w (sym is ∙ found)), refl, refl);
      only = λ w same its_own. is ∙ ap (λ (v : Refusal). Some v) (its_reply w same);
    }

  -- there is no such cause, and no such refusal
  module _ (result : Result Reply Stop) (y : Session) (new : Sight) (is : own ≡ None) where
    no_cause : (w : Refusal) → ◌≡◌ {A = Option Refusal} None (Some w) → ⊥
    no_cause w e = cc

    pub unrefused : ((w : Refusal) → result ≡ Ok (No w) → IsOwn w → ⊥) → Refuses own old x result y new
    unrefused other = record {
      refused = λ w found. absurd (no_cause w (sym is ∙ found));
      only = λ w same its_own. absurd (other w same its_own);
    }
