-- What is told of a user that a world holds.
use Rattle.std.proofs.Common.{◌≡◌, ◌≢◌, not, ℕ, Bool, true, false, cond, List, Option, None, Some, Result, Ok, refl, sym, ◌∙◌, ap}
use Rattle.std.specs.Prelude.{◌==◌}
use Rattle.ls_board.specs.declared.world.World.{World}
use Rattle.ls_chain.specs.declared.fault.Spot.{Spot}
use Rattle.ls_chain.specs.HandleFile.{check_end}
use Rattle.ls_chain.specs.Links.{next_of, links_at}
use Rattle.ls_chain.specs.MetricsFile.{metrics_chain}
use Rattle.ls_credential.specs.declared.kind.Kind.{Kind}
use Rattle.ls_credential.specs.declared.kind.Kind.TheVariants.{Empty, Pattern, Pin, Password}
use Rattle.ls_credential.specs.Counts.{KindAndCounts, metrics_of}
use Rattle.ls_formats.specs.Contents.{AreMetrics, metrics_bytes}
use Rattle.ls_formats.proofs.ContentLemmas.{metrics_are}
use Rattle.ls_naming.specs.Named.{has_credential, has_secure}
use Rattle.ls_record.specs.declared.row.UserRow.{UserRow}
use Rattle.ls_record.specs.Rows.{Rec, IsRecord}
use Rattle.ls_revealing.specs.Revealing.{secure_end, counts_unless, counts_of, counts_end, told_of, counts_told, reveal_end}
use Rattle.ls_script.specs.declared.reply.Revealed.{Revealed}
use Rattle.ls_secret.specs.Derivation.{derived_of}
use Rattle.ls_vault.specs.declared.user.User.{User}
use Rattle.ls_vault.specs.Kinds.{is_empty}
use Rattle.ls_vault.specs.Revealed.{revealed, shown_metrics}
use Rattle.ls_attempts.specs.StandingRows.{HoldsRow}
use Rattle.ls_attempts.proofs.CountLemmas.{counts_are_small}
use Rattle.ls_attempts.proofs.EndLemmas.{handle_ends, metrics_end}
use Rattle.ls_attempts.proofs.MetricsLemmas.{spelled}

-- the counts that were spelled
counts_again : (m : KindAndCounts) → AreMetrics m → counts_of (metrics_bytes m) ≡ Ok m
counts_again m are = ap (counts_unless (metrics_bytes m)) (spelled m are) ∙ ap (λ (n : KindAndCounts). Ok n) (metrics_are.again m are)

module _ (w : World) (r : Rec) (row : UserRow) (u : User) (is : IsRecord r) (holds : HoldsRow w r row u) where
  zero_has : row.secure ≡ 0 → has_secure row ≡ true → ⊥
  zero_has zero has = let none : false ≡ true = sym (ap (λ (n : ℕ). not (n == 0)) zero) ∙ has in cc

  secure_is : secure_end row u.secret w ≡ Ok row.secure
  secure_is = by (has_secure row) refl
    where
      by : (has : Bool) → has_secure row ≡ has → cond has (check_end row.user row.secure u.secret w) (Ok row.secure) ≡ Ok row.secure
      by true has =
          let same = holds.holds.says.secure in
          ap (λ (n : ℕ). check_end row.user n u.secret w) same
          ∙ handle_ends w r row u holds is (λ zero. zero_has (same ∙ zero) has)
          ∙ ap (λ (n : ℕ). Ok n) (sym same)
      by false none = refl

  module _ (some : row.kind ≢ Empty) where
    never : u.credential.kind ≢ Empty
    never e = some (holds.holds.says.kind ∙ e)

    read : next_of (metrics_chain (links_at w row.user row.protector) u.secret) (λ text. next_of (counts_of text) (λ counts. Ok (Some counts))) ≡ Ok (Some (metrics_of u.credential))
    read =
        ap (λ (x : Result (List ℕ) Spot). next_of x (λ text. next_of (counts_of text) (λ counts. Ok (Some counts)))) (metrics_end w r row u holds some)
        ∙ ap (λ (x : Result KindAndCounts Spot). next_of x (λ counts. Ok (Some counts)))
        (counts_again (metrics_of u.credential) (record { kind = never; small = counts_are_small u.credential holds.holds.says.rule }))

  counts_are : counts_end row u.secret w ≡ Ok (shown_metrics u.credential)
  counts_are = by row.kind refl ∙ ap (λ (k : Kind). Ok (cond (is_empty k) None (Some (metrics_of u.credential)))) holds.holds.says.kind
    where
      by : (k : Kind) → row.kind ≡ k
          → cond (has_credential k) (next_of (metrics_chain (links_at w row.user row.protector) u.secret) (λ text. next_of (counts_of text) (λ counts. Ok (Some counts)))) (Ok None)
          ≡ Ok (cond (is_empty k) None (Some (metrics_of u.credential)))
      by Empty e = refl
      by Pattern e = read (λ empty. not_pattern (sym e ∙ empty))
        where
          not_pattern : Pattern ≡ Empty → ⊥
          not_pattern e = cc
      by Pin e = read (λ empty. not_pin (sym e ∙ empty))
        where
          not_pin : Pin ≡ Empty → ⊥
          not_pin e = cc
      by Password e = read (λ empty. not_password (sym e ∙ empty))
        where
          not_password : Password ≡ Empty → ⊥
          not_password e = cc

  told_same : told_of row u.secret (shown_metrics u.credential) ≡ revealed u
  told_same = λ i. record {
    user = holds.holds.says.number i;
    derived = derived_of u.secret;
    secure = holds.holds.says.secure i;
    metrics = shown_metrics u.credential;
  }

  -- it is what the machine reveals
  pub reveal_ends : reveal_end row u.secret w ≡ Ok (revealed u)
  reveal_ends =
      ap (λ (x : Result ℕ Spot). next_of x (λ secure. counts_told row u.secret w)) secure_is
      ∙ ap (λ (x : Result (Option KindAndCounts) Spot). next_of x (λ counts. Ok (told_of row u.secret counts))) counts_are
      ∙ ap (λ (x : Revealed). Ok x) told_same
