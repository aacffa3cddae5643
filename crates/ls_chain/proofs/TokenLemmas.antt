-- The chain of a token.
use Rattle.std.proofs.Common.{◌≡◌, ℕ, Bool, List, Option, Some, Result, Ok, Err, subst}
use Rattle.std.specs.Prelude.{slice_index}
use Rattle.ls_secret.specs.Secrets.{SecretValue, synthetic_password}
use Rattle.ls_formats.specs.declared.part.FilePart.{FilePart}
use Rattle.ls_formats.specs.declared.part.FilePart.TheVariants.{SpBlob, Secdis, P1, E0}
use Rattle.ls_board.specs.declared.world.World.{World}
use Rattle.ls_board.specs.Acts.{Sight}
use Rattle.ls_board.specs.Effect.{file_at}
use Rattle.ls_board.specs.Keys.{key_at}
use Rattle.ls_chain.specs.declared.fault.Spot.{Spot}
use Rattle.ls_chain.specs.declared.fault.ChainFault.{ChainFault}
use Rattle.ls_chain.specs.declared.token.TokenEnd.{TokenEnd}
use Rattle.ls_chain.specs.declared.token.TokenFiles.{TokenFiles}
use Rattle.ls_chain.specs.Looking.{Looks, Gives}
use Rattle.ls_chain.specs.Links.{sound_file, links_at, link_name, next_of}
use Rattle.ls_chain.specs.Credentials.{secret_in}
use Rattle.ls_chain.specs.Tokens.{token_files, slot_file_of, completed_in, checked_half, half_in, text_of_half}
use Rattle.ls_chain.proofs.LookLemmas.{look_err, look_both, look_gives}

module _ (user id : ℕ) (s0 s1 s2 : Sight) where
  abbrev file_look : FilePart → World → Result (List ℕ) Spot
  file_look part w = sound_file part (file_at w (link_name user id part))

  -- ---- both halves

  module _ (version : ℕ) (p0 p1 : List ℕ) (first : Looks (file_look P1) s0 (Ok p1) s1) where
    abbrev last_half : List ℕ → List ℕ → Result SecretValue Spot
    last_half p1 e0 = next_of (secret_in version (Some (synthetic_password p0 p1))) (checked_half e0 p0)

    abbrev rest_half : List ℕ → World → Result SecretValue Spot
    rest_half p1 w = next_of (file_look E0 w) (λ e0. last_half p1 e0)

    pub no_e0 : (e : ChainFault) → Looks (file_look E0) s1 (Err e) s2 → Looks {T = SecretValue} (λ w. completed_in (links_at w user id) version p0) s0 (Err e) s2
    no_e0 e second = look_both (file_look P1) s0 s1 rest_half s2 p1 (Err e) first (look_err (file_look E0) s1 s2 (λ e0 w. last_half p1 e0) e second)

    pub both_halves : (e0 : List ℕ) → Looks (file_look E0) s1 (Ok e0) s2 → (r : Result SecretValue ChainFault) (half other : List ℕ) → half ≡ p1 → other ≡ e0
        → Gives (next_of (secret_in version (Some (synthetic_password p0 half))) (checked_half other p0)) r → Looks {T = SecretValue} (λ w. completed_in (links_at w user id) version p0) s0 r s2
    both_halves e0 second r half other is same gives = look_both (file_look P1) s0 s1 rest_half s2 p1 r first
        (look_gives (file_look E0) s1 s2 (λ e0 w. last_half p1 e0) e0 r second
        (λ w. subst (λ (b : List ℕ). Gives (last_half p1 b) r) same (subst (λ (a : List ℕ). Gives (last_half a other) r) is gives)))

  -- ---- the files

  module _ (weaver : Bool) (blob : List ℕ) (first : Looks (file_look SpBlob) s0 (Ok blob) s1) where
    abbrev last_file : List ℕ → List ℕ → World → Result TokenFiles Spot
    last_file blob secdis w = slot_file_of (links_at w user id) weaver (record { blob = blob; secdis = secdis })

    abbrev rest_file : List ℕ → World → Result TokenFiles Spot
    rest_file blob w = next_of (file_look Secdis w) (λ secdis. last_file blob secdis w)

    pub no_secdis : (e : ChainFault) → Looks (file_look Secdis) s1 (Err e) s2 → Looks {T = TokenFiles} (λ w. token_files (links_at w user id) weaver) s0 (Err e) s2
    no_secdis e second = look_both (file_look SpBlob) s0 s1 rest_file s2 blob (Err e) first (look_err (file_look Secdis) s1 s2 (last_file blob) e second)

    pub all_files : (secdis : List ℕ) → Looks (file_look Secdis) s1 (Ok secdis) s2 → (s3 : Sight) (r : Result TokenFiles ChainFault)
        → Looks {T = TokenFiles} (λ w. slot_file_of (links_at w user id) weaver (record { blob = blob; secdis = secdis })) s2 r s3 → Looks {T = TokenFiles} (λ w. token_files (links_at w user id) weaver) s0 r s3
    all_files secdis second s3 r third = look_both (file_look SpBlob) s0 s1 rest_file s3 blob r first (look_both (file_look Secdis) s1 s2 (last_file blob) s3 secdis r second third)

  -- ---- the blob

  pub half_opened : (secret blob : List ℕ) (half : Option (List ℕ)) → Looks {T = Option (List ℕ)} (λ w. half_in (key_at w.keys id) secret blob) s0 (Ok half) s1
      → (v : ℕ) → v ≡ slice_index blob 0 → (r : Result TokenEnd ChainFault) → Looks {T = TokenEnd} (λ w. text_of_half (links_at w user id) v half) s1 r s2
      → Looks {T = TokenEnd} (λ w. next_of (half_in (key_at w.keys id) secret blob) (λ half. text_of_half (links_at w user id) (slice_index blob 0) half)) s0 r s2
  half_opened secret blob half first v is r second = look_both (λ w. half_in (key_at w.keys id) secret blob) s0 s1 (λ half w. text_of_half (links_at w user id) (slice_index blob 0) half) s2 half r first
      (subst (λ (n : ℕ). Looks {T = TokenEnd} (λ w. text_of_half (links_at w user id) n half) s1 r s2) is second)
