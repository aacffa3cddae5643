-- The new protector is written, and a new secure id is enrolled: what the world holds then.
use Rattle.std.proofs.Common.{◌≡◌, ◌<◌, ◌^◌, not, ℕ, Bool, true, false, List, [], ◌∷◌, ◌++◌, refl, sym, ap, ◌∙◌}
use Rattle.std.specs.Prelude.{◌==◌, ◌&&◌}
use Rattle.ls_board.specs.declared.action.Action.{Action}
use Rattle.ls_board.specs.declared.action.Action.TheVariants.{Put, GkEnroll, Sync}
use Rattle.ls_board.specs.declared.world.World.{World}
use Rattle.ls_board.specs.Effect.{after, file_at}
use Rattle.ls_board.specs.Gatekeeper.{signed, salt_of, no_fails, record_at}
use Rattle.ls_board.specs.Reach.{Reach, AllTouchOnly}
use Rattle.ls_board.specs.Runs.{after_all, AllApply}
use Rattle.ls_board.proofs.FrameLemmas.{plan_same}
use Rattle.ls_board.proofs.RunLemmas.{after_all-append}
use Rattle.ls_formats.specs.PartNames.{PartOf}
use Rattle.ls_naming.specs.Named.{only_if, has_secure, row_files, NamesFile, NamesEnrolled}
use Rattle.ls_record.specs.Rows.{Rec, IsRecord, is_odd, is_protector_id}
use Rattle.ls_secret.specs.Secrets.{SecretValue}
use Rattle.ls_sealing.specs.Building.{Writing, FitsSlots, writing_actions, writing_of, held_of, for_credential}
use Rattle.ls_sealing.specs.Protectors.{Protector, has_weaver, held, file_name}
use Rattle.ls_sealing.specs.Sparing.{Spares}
use Rattle.ls_sealing.proofs.ActionLemmas.{applies}
use Rattle.ls_sealing.proofs.HeldLemmas.{held_but}
use Rattle.ls_sealing.proofs.WritingLemmas.{is_held}
use Rattle.ls_standing.specs.Named.{credential_of}
use Rattle.ls_standing.specs.Quiet.{IsUnnamedProtector, IsUnnamed, unnamed}
use Rattle.ls_standing.specs.Same.{SameNamed}
use Rattle.ls_standing.proofs.ContainsLemmas.{of_flat}
use Rattle.ls_standing.proofs.IdLemmas.{is_row, even_not_odd}
use Rattle.ls_standing.proofs.QuietLemmas.{plan_kept}
use Rattle.ls_standing.proofs.TouchLemmas.{all_quiet, writing_touch, file_unnamed, same_name}
use Rattle.ls_standing.proofs.UnnamedLemmas.{other_secure}
use Rattle.ls_changing.specs.Replacing.{Chosen, IsChosen, row_then, comes, enrolling, handle_of, handle_name}
use Rattle.ls_changing.proofs.HeldLemmas.{HasHandle}
use Rattle.ls_changing.proofs.RowLemmas.{one_row, odd_by, handle_is, handle_named, next, next_is}
use Rattle.std.specs.Ordering.{nat_cmp}
use Rattle.std.proofs.lemmas.Cmp.{nat_cmp_total}
use Rattle.ls_board.specs.Effect.{put_mark}
use Rattle.ls_board.proofs.FileLemmas.{file_marked_same}
use Rattle.ls_board.proofs.LookupLemmas.{put_same}
use Rattle.ls_edits.proofs.PutRowLemmas.{row_put}
use Rattle.ls_formats.specs.declared.part.FilePart.{FilePart}
use Rattle.ls_naming.proofs.NamingLemmas.{record_named}
use Rattle.ls_sealing.proofs.ByteLemmas.{signed_salt}
use Rattle.ls_sealing.specs.Protectors.{has_part}
use Rattle.ls_secret.specs.declared.personal.Personal.TheVariants.{SpGkAuthentication}
use Rattle.ls_secret.specs.Derivation.{subkey_of}
use Rattle.ls_secret.specs.Subkeys.{subkey_bytes}
use Rattle.ls_standing.proofs.NamedLemmas.{name_of, credential_named}

-- ---- actions one behind another

pub touch_both : (reach : Reach) (xs ys : List Action) → AllTouchOnly reach xs → AllTouchOnly reach ys → AllTouchOnly reach (xs ++ ys)
touch_both reach [] ys first second = second
touch_both reach (x ∷ xs) ys first second = (first.0, touch_both reach xs ys first.1 second)

pub apply_both : (w : World) (xs ys : List Action) → AllApply w xs → AllApply (after_all w xs) ys → AllApply w (xs ++ ys)
apply_both w [] ys first second = second
apply_both w (x ∷ xs) ys first second = (first.0, apply_both (after w x 0) xs ys first.1 second)

-- ---- what is enrolled

pub both_true : (a b : Bool) → (a && b) ≡ true → (a ≡ true) × (b ≡ true)
both_true true true e = (refl, refl)
both_true true false e = absurd (cc)
both_true false b e = absurd (cc)

pub not_true : (b : Bool) → not b ≡ true → b ≡ false
not_true true e = absurd (cc)
not_true false e = refl

module _ (r : Rec) (is : IsRecord r) (n : Chosen) (fits : IsChosen r n) where
  pub secure_odd : (n.secure == 0) ≡ false → is_odd n.secure ≡ true
  secure_odd some = odd_by n.credential.kind n.secure fits.rules some

  -- a new secure id isn't named
  pub new_unnamed : (weaver : Bool) → comes n.row.secure n.secure ≡ true → ¬ (NamesEnrolled weaver r n.secure)
  new_unnamed weaver new =
      let both = both_true (n.row.secure == 0) (not (n.secure == 0)) new in
      other_secure weaver r n.secure is (secure_odd (not_true (n.secure == 0) both.1)) (fits.new new)

  -- nor is its handle
  pub handle_unnamed : (w : World) → comes n.row.secure n.secure ≡ true → IsUnnamed w r (handle_name n.row.user)
  handle_unnamed w new = file_unnamed w r (handle_of n.row.user) is (handle_is n.row.user (is_row r is n.row fits.here).user) none
    where
      none : ¬ (NamesFile (has_weaver w) r (handle_of n.row.user))
      none named =
          let found = of_flat (row_files (has_weaver w) r.armed) r.users (handle_of n.row.user) named in
          let its = handle_named (has_weaver w) r.armed found.0 n.row.user (is_row r is found.0 found.1) found.2 in
          let has : has_secure n.row ≡ true = ap has_secure (sym (one_row r is n.row fits.here found.0 found.1 its.0)) ∙ its.1 in
          let had : true ≡ false = sym (both_true (n.row.secure == 0) (not (n.secure == 0)) new).0 ∙ not_true (n.row.secure == 0) has in
          absurd (cc)

  pub enrolling_touch : (w : World) (handle : List ℕ) → AllTouchOnly (unnamed w r) (enrolling n.row n.secure handle)
  enrolling_touch w handle = by (comes n.row.secure n.secure) refl
    where
      by : (b : Bool) → comes n.row.secure n.secure ≡ b → AllTouchOnly (unnamed w r) (only_if b (GkEnroll n.secure ∷ Put (handle_name n.row.user) handle ∷ []))
      by true new = (new_unnamed (has_weaver w) new, (handle_unnamed w new, tt))
      by false same = tt

  -- ---- behind it

  module _ (w : World) (slot : FitsSlots n.slot w) (free : IsUnnamedProtector w r (credential_of (row_then n)) n.slot) (s : SecretValue) (bytes handle : List ℕ) where
    abbrev pub p : Protector
    p = credential_of (row_then n)

    abbrev pub m : Writing
    m = writing_of n.id n.slot (for_credential n.credential s) bytes w.gk_key

    abbrev pub first : List Action
    first = writing_actions p n.slot m

    abbrev others : List Action
    others = enrolling n.row n.secure handle

    abbrev pub before : List Action
    before = first ++ (others ++ Sync ∷ [])

    abbrev mid : World
    mid = after_all w first

    abbrev pub last : World
    last = after_all w before

    pub before_touch : AllTouchOnly (unnamed w r) before
    before_touch =
        touch_both (unnamed w r) first (others ++ Sync ∷ []) (writing_touch w r p n.slot is free m)
        (touch_both (unnamed w r) others (Sync ∷ []) (enrolling_touch w handle) (tt, tt))

    others_apply : (v : World) → AllApply v others
    others_apply v = by (comes n.row.secure n.secure) v
      where
        by : (b : Bool) (v : World) → AllApply v (only_if b (GkEnroll n.secure ∷ Put (handle_name n.row.user) handle ∷ []))
        by true v = (tt, (tt, tt))
        by false v = tt

    pub before_apply : AllApply w before
    before_apply = apply_both w first (others ++ Sync ∷ []) (applies p m w n.slot) (apply_both mid others (Sync ∷ []) (others_apply mid) (tt, tt))

    pub same_named : SameNamed r w last
    same_named = (plan_kept r w before (all_quiet w r before before_touch)).named

    last_is : last ≡ after_all mid (others ++ Sync ∷ [])
    last_is = after_all-append w first (others ++ Sync ∷ [])

    -- what is enrolled is no part of the protector
    abbrev reach : Reach
    reach = record {
      files = λ f. f ≡ handle_name n.row.user;
      slots = λ k. ⊥;
      sids = λ sid. (sid ≡ n.secure) × (comes n.row.secure n.secure ≡ true);
      aliases = λ alias. ⊥;
      cell = ⊥;
    }

    only_enrolling : AllTouchOnly reach (others ++ Sync ∷ [])
    only_enrolling = touch_both reach others (Sync ∷ []) (by (comes n.row.secure n.secure) refl) (tt, tt)
      where
        by : (b : Bool) → comes n.row.secure n.secure ≡ b → AllTouchOnly reach (only_if b (GkEnroll n.secure ∷ Put (handle_name n.row.user) handle ∷ []))
        by true new = ((refl, new), (refl, tt))
        by false same = tt

    spared : Spares reach mid p
    spared = record {
      file = other_name;
      slot = λ k number reached. reached;
      counter = λ enrolled reached. even_not_odd n.id n.secure fits.even
          (secure_odd (not_true (n.secure == 0) (both_true (n.row.secure == 0) (not (n.secure == 0)) reached.1).1)) reached.0;
      key = λ reached. reached;
    }
      where
        other_name : (part : FilePart) → has_part (has_weaver mid) p.purpose part ≡ true → file_name p part ≡ handle_name n.row.user → ⊥
        other_name part has e =
            let part_is = record_named (has_weaver mid) (next r is n fits) (next_is r is n fits) (name_of n.row.user n.id part)
            (credential_named (has_weaver mid) (next r is n fits) (row_then n) (row_put r (row_then n)) part has) in
            let one = same_name (name_of n.row.user n.id part) (handle_of n.row.user) part_is (handle_is n.row.user (is_row r is n.row fits.here).user) e in
            let bad : is_protector_id 0 ≡ true = ap is_protector_id (sym (ap (λ (x : PartOf). x.id) one)) ∙ fits.even in
            absurd (cc)

    -- the protector is as it was written
    pub its_held : held last p ≡ held_of p.purpose n.slot m w.gk_key
    its_held =
        ap (λ (v : World). held v p) last_is
        ∙ (held_but p reach mid (after_all mid (others ++ Sync ∷ [])) spared (plan_same reach mid (others ++ Sync ∷ []) only_enrolling)
        ∙ is_held p m w n.slot slot refl)

    -- the new secure id has its handle
    module _ (new : comes n.row.secure n.secure ≡ true) (salt : ℕ) (small : salt < 2 ^ 64)
        (signs : handle ≡ signed w.gk_key n.secure salt (subkey_bytes (subkey_of s SpGkAuthentication))) where
      abbrev enrolled : World
      enrolled = after mid (GkEnroll n.secure) 0

      abbrev handled : World
      handled = after enrolled (Put (handle_name n.row.user) handle) 0

      last_then : last ≡ record handled { touched = [] }
      last_then = last_is ∙ ap (λ (b : Bool). after_all mid (only_if b (GkEnroll n.secure ∷ Put (handle_name n.row.user) handle ∷ []) ++ Sync ∷ [])) new

      key_same : last.gk_key ≡ w.gk_key
      key_same = same_named.device

      pub new_handle : HasHandle last n.row.user n.secure s
      new_handle = record {
        handle = handle;
        file = ap (λ (v : World). file_at v (handle_name n.row.user)) last_then ∙ file_marked_same enrolled (put_mark enrolled (handle_name n.row.user) handle);
        is = signs ∙ (λ i. signed (sym key_same i) n.secure (sym salt_again i) (subkey_bytes (subkey_of s SpGkAuthentication)));
        counter = ap (λ (v : World). record_at v.gk n.secure) last_then ∙ put_same nat_cmp nat_cmp_total mid.gk n.secure no_fails;
      }
        where
          salt_again : salt_of handle ≡ salt
          salt_again = ap salt_of signs ∙ signed_salt w.gk_key n.secure salt (subkey_bytes (subkey_of s SpGkAuthentication)) small
