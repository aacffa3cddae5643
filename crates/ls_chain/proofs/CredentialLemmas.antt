-- The chain of a credential.
use Rattle.std.proofs.Common.{◌≡◌, ◌++◌, ℕ, List, Option, Result, Ok, Err, subst}
use Rattle.ls_secret.specs.Secrets.{SecretValue}
use Rattle.ls_formats.specs.declared.part.FilePart.TheVariants.{SpBlob}
use Rattle.ls_board.specs.declared.world.World.{World}
use Rattle.ls_board.specs.Acts.{Sight}
use Rattle.ls_board.specs.Effect.{file_at}
use Rattle.ls_board.specs.Keys.{key_at}
use Rattle.ls_chain.specs.declared.fault.Spot.{Spot}
use Rattle.ls_chain.specs.declared.fault.ChainFault.{ChainFault}
use Rattle.ls_chain.specs.declared.fault.ChainFault.TheVariants.{Memory}
use Rattle.ls_chain.specs.Looking.{Looks}
use Rattle.ls_chain.specs.Links.{sound_file, links_at, link_name, next_of}
use Rattle.ls_chain.specs.Credentials.{share_of, opened_secret, credential_chain}
use Rattle.ls_chain.proofs.LookLemmas.{look_err, look_both, look_lacks}

module _ (user id : ℕ) (stretched : List ℕ) (value : Option (List ℕ)) (s0 s1 s2 : Sight) (share : List ℕ) where
  abbrev share_look : World → Result (List ℕ) Spot
  share_look w = share_of (links_at w user id) value

  abbrev blob_look : World → Result (List ℕ) Spot
  blob_look w = sound_file SpBlob (file_at w (link_name user id SpBlob))

  abbrev last_look : List ℕ → List ℕ → World → Result SecretValue Spot
  last_look share blob w = opened_secret (key_at w.keys id) (stretched ++ share) blob

  abbrev rest_look : List ℕ → World → Result SecretValue Spot
  rest_look share w = next_of (blob_look w) (λ blob. last_look share blob w)

  abbrev look : World → Result SecretValue Spot
  look w = credential_chain (links_at w user id) stretched value

  module _ (first : Looks share_look s0 (Ok share) s1) where
    pub no_blob : (e : ChainFault) → Looks blob_look s1 (Err e) s2 → Looks look s0 (Err e) s2
    no_blob e second = look_both share_look s0 s1 rest_look s2 share (Err e) first (look_err blob_look s1 s2 (last_look share) e second)

    module _ (blob : List ℕ) (second : Looks blob_look s1 (Ok blob) s2) where
      pub no_memory : Looks look s0 (Err Memory) s2
      no_memory = look_both share_look s0 s1 rest_look s2 share (Err Memory) first (look_lacks blob_look s1 s2 (rest_look share) blob second)

      pub opened : (s3 : Sight) (r : Result SecretValue ChainFault) (secret bytes : List ℕ) → secret ≡ stretched ++ share → bytes ≡ blob
          → Looks (λ w. opened_secret (key_at w.keys id) secret bytes) s2 r s3 → Looks look s0 r s3
      opened s3 r secret bytes is same third = look_both share_look s0 s1 rest_look s3 share r first
          (look_both blob_look s1 s2 (last_look share) s3 blob r second
          (subst (λ (b : List ℕ). Looks {T = SecretValue} (λ w. opened_secret (key_at w.keys id) (stretched ++ share) b) s2 r s3) same
          (subst (λ (l : List ℕ). Looks {T = SecretValue} (λ w. opened_secret (key_at w.keys id) l bytes) s2 r s3) is third)))
