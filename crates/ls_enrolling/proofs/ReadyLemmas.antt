-- Behind what is written, the next record may be committed.
use Rattle.std.proofs.Common.{◌≡◌, ⊎_elim, ◌≤◌, ◌+◌, ℕ, Bool, true, false, cond, List, [], ◌∷◌, length, drop, Option, None, Some, refl, sym, ap, subst, ◌∙◌, arith}
use Rattle.std.specs.Prelude.{is_some, IfSome, IsSomeAnd, MatchBool}
use Rattle.std.specs.List.{Contains}
use Rattle.std.specs.Option.{option_and_then}
use Rattle.std.proofs.lemmas.List.{length-drop, length-take-le}
use Rattle.ls_board.specs.declared.world.World.{World}
use Rattle.ls_board.specs.Effect.{file_at}
use Rattle.ls_board.specs.Gatekeeper.{no_fails}
use Rattle.ls_blob.proofs.PersonalLemmas.{opened_under-sealed_under, length-sealed_under, sealed_under_bytes}
use Rattle.ls_credential.specs.declared.kind.Kind.TheVariants.{Empty}
use Rattle.ls_edits.proofs.PutLemmas.{put_in}
use Rattle.ls_edits.proofs.SoundRowLemmas.{with_credential}
use Rattle.ls_formats.specs.Contents.{AreBytes}
use Rattle.ls_formats.specs.declared.part.FilePart.{FilePart}
use Rattle.ls_formats.specs.declared.part.FilePart.TheVariants.{E0, P1, Resume}
use Rattle.ls_naming.specs.Named.{NamesSlot, user_parts}
use Rattle.ls_bytes.specs.ByteLists.{AllAreBytes}
use Rattle.ls_bytes.proofs.ByteListLemmas.{bytes_take, bytes_drop}
use Rattle.ls_record.specs.declared.row.UserRow.{UserRow}
use Rattle.ls_record.specs.Rows.{Rec, IsRecord}
use Rattle.ls_sealing.specs.Building.{Writing, FitsSlots, held_of}
use Rattle.ls_sealing.specs.Chain.{opened_resume}
use Rattle.ls_sealing.specs.Draws.{credential_draw, credential_draw_size}
use Rattle.ls_sealing.specs.HeldBytes.{AllHoldBytes}
use Rattle.ls_standing.specs.Same.{SameNamed}
use Rattle.ls_sealing.specs.Protectors.{Protector, credential, Held, has_weaver, held, held_number, failures, where_it_has}
use Rattle.ls_sealing.specs.Seals.{Seals, ShowsMetrics, CompletesTo}
use Rattle.ls_sealing.proofs.CredentialLemmas.{is_draw, seals, shows_metrics}
use Rattle.ls_sealing.proofs.WrittenBytesLemmas.{credential_bytes}
use Rattle.ls_secret.specs.Escrow.{e0_of, e0_personal, opened_e0}
use Rattle.ls_secret.specs.Secrets.{SecretValue}
use Rattle.ls_standing.specs.Named.{credential_of, held_of_row, is_its_part, user_file}
use Rattle.ls_standing.specs.Quiet.{IsUnnamedProtector}
use Rattle.ls_standing.specs.Sound.{IsSoundFile}
use Rattle.ls_standing.specs.Standing.{Holds, HoldsUser, HoldsEscrow}
use Rattle.ls_standing.proofs.ContainsLemmas.{none_in, at_first, behind_first}
use Rattle.ls_standing.proofs.FrameLemmas.{holds_same}
use Rattle.ls_standing.proofs.NamedLemmas.{name_of}
use Rattle.ls_standing.proofs.ProtectorLemmas.{any_part}
use Rattle.ls_standing.proofs.SameLemmas.{slots_back}
use Rattle.ls_standing.proofs.SoundLemmas.{own_sound, credential_sound}
use Rattle.ls_vault.specs.declared.user.User.{User}
use Rattle.ls_vault.specs.declared.vault.Vault.{Vault}
use Rattle.ls_vault.specs.Users.{with_user}
use Rattle.ls_enrolling.specs.Enrolling.{Chosen, IsChosen, row_then, user_then, block_at, first_half, second_half, half_iv, protector_bytes}
use Rattle.ls_enrolling.proofs.RowLemmas.{next, may, closed, own_part, its_part}
use Rattle.ls_enrolling.proofs.StagedLemmas.{m, last, same_named, its_held, number_is, e0_there, p1_there}

-- ---- bytes that are cut

module _ (n : Chosen) (r : Rec) (fits : IsChosen r n) where
  least : (b : Bool) → 64 ≤ block_at b
  least true = omega arith
  least false = omega arith

  whole : 64 ≤ length n.drawn
  whole = let all = fits.drawn.long in let some = least n.escrow in omega (arith, all, some)

  first_bytes : AllAreBytes (first_half n.drawn)
  first_bytes = bytes_take 32 n.drawn fits.drawn.each

  first_long : length (first_half n.drawn) ≡ 32
  first_long = length-take-le 32 n.drawn (let all = whole in omega (arith, all))

  second_are : AreBytes 32 (second_half n.drawn)
  second_are = record {
    long = length-take-le 32 (drop 32 n.drawn) (let all = whole in let rest = length-drop 32 n.drawn in omega (arith, all, rest));
    each = bytes_take 32 (drop 32 n.drawn) (bytes_drop 32 n.drawn fits.drawn.each);
  }

  iv_bytes : AllAreBytes (half_iv n.drawn)
  iv_bytes = bytes_take 12 (drop 64 n.drawn) (bytes_drop 64 n.drawn fits.drawn.each)

  iv_long : n.escrow ≡ true → length (half_iv n.drawn) ≡ 12
  iv_long with =
      let all : length n.drawn ≡ 76 + 8 + credential_draw_size (is_some n.slot) Empty = fits.drawn.long ∙ ap (λ (b : Bool). block_at b + 8 + credential_draw_size (is_some n.slot) Empty) with in
      let rest = length-drop 64 n.drawn in
      length-take-le 12 (drop 64 n.drawn) (omega (arith, all, rest))

  pub bytes_are : AreBytes (credential_draw_size (is_some n.slot) Empty) (protector_bytes n.escrow n.drawn)
  bytes_are = record {
    long = let all = fits.drawn.long in let rest = length-drop (block_at n.escrow + 8) n.drawn in omega (arith, all, rest);
    each = bytes_drop (block_at n.escrow + 8) n.drawn fits.drawn.each;
  }

  abbrev s : SecretValue
  s = (user_then n).secret

  abbrev e0 : List ℕ
  e0 = e0_of s (first_half n.drawn) (half_iv n.drawn)

  e0_are : n.escrow ≡ true → AreBytes 60 e0
  e0_are with = record {
    long = let all = length-sealed_under s.sp e0_personal (half_iv n.drawn) (first_half n.drawn) (iv_long with) in let half = first_long in omega (arith, all, half);
    each = sealed_under_bytes s.sp e0_personal (half_iv n.drawn) (first_half n.drawn) iv_bytes first_bytes;
  }

  e0_opens : n.escrow ≡ true → opened_e0 s e0 ≡ Some (first_half n.drawn)
  e0_opens with = opened_under-sealed_under s.sp e0_personal (half_iv n.drawn) (first_half n.drawn) (iv_long with)

  halves_are : CompletesTo s (first_half n.drawn) (second_half n.drawn)
  halves_are = (second_are.long, refl)

no_failures : (slot : Option ℕ) (m : Writing) (device : List ℕ) → failures (held_of (credential Empty) slot m device) ≡ no_fails
no_failures None m device = refl
no_failures (Some n) m device = refl

-- ---- the record is held

module _ (r : Rec) (is : IsRecord r) (n : Chosen) (fits : IsChosen r n) (w : World) (slot : FitsSlots n.slot w) (free : IsUnnamedProtector w r (credential_of (row_then n)) n.slot)
    (v : Vault) (holds : Holds w r v) where
  abbrev row : UserRow
  row = row_then n

  abbrev u : User
  u = user_then n

  abbrev end : World
  end = last r is n fits w slot free

  abbrev its : Protector
  its = credential_of row

  abbrev wrote : Writing
  wrote = m r is n fits w slot free

  abbrev bytes : List ℕ
  bytes = protector_bytes n.escrow n.drawn

  same : SameNamed r w end
  same = same_named r is n fits w slot free

  held_is : held end its ≡ held_of its.purpose n.slot wrote w.gk_key
  held_is = its_held r is n fits w slot free

  its_seals : Seals n.id (held end its) u.credential u.secret
  its_seals = subst (λ (h : Held). Seals n.id h u.credential u.secret) (sym held_is)
      (seals n.id u.credential u.secret (credential_draw Empty bytes) w.gk_key fits.secret n.slot (is_draw n.slot Empty bytes (bytes_are n r fits)))

  its_metrics : ShowsMetrics (held end its) u.credential u.secret
  its_metrics = subst (λ (h : Held). ShowsMetrics h u.credential u.secret) (sym held_is)
      (shows_metrics n.id u.credential u.secret (credential_draw Empty bytes) w.gk_key fits.secret n.slot (is_draw n.slot Empty bytes (bytes_are n r fits)))

  its_bytes : AllHoldBytes (held end its)
  its_bytes = subst AllHoldBytes (sym held_is) (credential_bytes n.id n.slot u.credential u.secret bytes w.gk_key fits.secret (λ some. absurd (some refl)) (bytes_are n r fits).each)

  fresh : (k : ℕ) → held_number end its ≡ Some k → ¬ (NamesSlot (has_weaver end) r (file_at end) k)
  fresh k number named = free.its_slot k (sym (number_is r is n fits w slot free) ∙ number) (slots_back r w end same k named)

  -- ---- the files of the user itself

  its_file : (part : FilePart) → Contains (user_parts r.armed row) part → where_it_has (is_its_part r.armed row part) (user_file end row part) ≡ user_file end row part
  its_file part own = ap (λ (b : Bool). where_it_has b (user_file end row part)) (any_part (user_parts r.armed row) part own)

  own_files : (part : FilePart) → Contains (user_parts r.armed row) part → IsSoundFile end row (name_of n.user 0 part)
  own_files part own =
      let found = own_part r is n fits part own in
      ⊎_elim
      (λ (e : part ≡ E0). subst (λ (x : FilePart). IsSoundFile end row (name_of n.user 0 x)) (sym e) (own_sound end row E0 (e0 n r fits) (e0_there r is n fits w slot free found.0) (e0_are n r fits found.0)))
      (λ (e : part ≡ P1). subst (λ (x : FilePart). IsSoundFile end row (name_of n.user 0 x)) (sym e) (own_sound end row P1 (second_half n.drawn) (p1_there r is n fits w slot free found.0) (second_are n r fits)))
      found.1

  halves_held : n.escrow ≡ true → HoldsEscrow (held_of_row end r.armed row).user (held_of_row end r.armed row).tokens u
  halves_held with =
      let e0_in : (held_of_row end r.armed row).user.files E0 ≡ Some (e0 n r fits) =
      its_file E0 (its_part r is n fits with E0 (at_first E0 (P1 ∷ []))) ∙ e0_there r is n fits w slot free with in
      let p1_in : (held_of_row end r.armed row).user.files P1 ≡ Some (second_half n.drawn) =
      its_file P1 (its_part r is n fits with P1 (behind_first E0 (P1 ∷ []) P1 (at_first P1 []))) ∙ p1_there r is n fits w slot free with in
      record {
        p0 = first_half n.drawn;
        e0 = ap (option_and_then (opened_e0 u.secret)) e0_in ∙ e0_opens n r fits with;
        whole = subst (λ (o : Option (List ℕ)). IsSomeAnd o (CompletesTo u.secret (first_half n.drawn))) (sym p1_in) (halves_are n r fits);
        tokens = tt;
      }

  escrow_held : (b : Bool) → n.escrow ≡ b → MatchBool b (HoldsEscrow (held_of_row end r.armed row).user (held_of_row end r.armed row).tokens u) (u.tokens ≡ [])
  escrow_held true with = halves_held with
  escrow_held false none = refl

  new_held : HoldsUser row (held_of_row end r.armed row) u
  new_held = record {
    says = record { number = refl; kind = refl; rule = refl; escrow = refl; auto = refl; pin = refl; secure = refl; tokens = refl };
    seals = its_seals;
    counted = ap failures held_is ∙ no_failures n.slot wrote w.gk_key;
    metrics = its_metrics;
    escrow = escrow_held n.escrow refl;
    handle = λ some. absurd (some refl);
    resume = subst (λ (b : Bool). IfSome (cond b end.cell None) (λ once. IsSomeAnd ((held_of_row end r.armed row).user.files Resume) (λ file. opened_resume (held_of_row end r.armed row).user.key once file ≡ Some u.secret.sp))) (sym (closed r is n fits)) tt;
  }

  pub readied : Holds end (next r is n fits) (record v { users = with_user v.users u })
  readied =
      let holds_end = holds_same r w end same v holds in
      put_in end r row v is holds_end
      (with_credential end r is holds_end.files row (may r is n fits) own_files
      (λ part has. credential_sound end row u.credential u.secret its_seals its_metrics its_bytes refl fits.id part has) fresh (λ id h. absurd (none_in id h)))
      u fits.none new_held
