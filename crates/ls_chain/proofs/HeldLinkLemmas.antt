-- What a chain goes through in a world, where what is held is in its formats.
use Rattle.std.proofs.Common.{◌≡◌, ℕ, Bool, true, false, cond, List, [], Option, None, Some, refl}
use Rattle.std.specs.Prelude.{unwrap_or, slice_get, IsSome, IsSomeAnd, IfSome, MatchBool}
use Rattle.std.specs.Option.{option_and_then}
use Rattle.ls_credential.specs.Rules.{KindAndText}
use Rattle.ls_weaver.specs.declared.slot.Slot.{Slot}
use Rattle.ls_secret.specs.Secrets.{SecretValue}
use Rattle.ls_secret.specs.Escrow.{opened_e0}
use Rattle.ls_formats.specs.declared.part.FilePart.{FilePart}
use Rattle.ls_formats.specs.declared.part.FilePart.TheVariants.{SpBlob, Pwd, Secdis, Weaver, E0, P1}
use Rattle.ls_board.specs.declared.world.World.{World}
use Rattle.ls_board.specs.Effect.{file_at}
use Rattle.ls_sealing.specs.Chain.{opened_discardable}
use Rattle.ls_sealing.specs.Protectors.{Protector, Held, credential, token, held, has_weaver, has_part, where_it_has, file_name, slot_number}
use Rattle.ls_sealing.specs.Seals.{Seals, SealsToken, slot_value}
use Rattle.ls_chain.specs.declared.token.TokenFiles.{TokenFiles}
use Rattle.ls_chain.specs.Links.{Links, links_at}
use Rattle.ls_chain.specs.Linked.{IsInForm, HasForm, IsSoundFile, AreOfferLinks, AreTokenFiles, AreTokenLinks, weaver_value}

-- ---- a file that is there

some_of : {X : Type 0} (o : Option X) (P : X → Type 0) → IsSomeAnd o P → IsSome o
some_of None P holds = absurd holds
some_of (Some x) P holds = refl

some_is : (o : Option (List ℕ)) → IsSome o → o ≡ Some (unwrap_or o [])
some_is None some = absurd (let wrong : false ≡ true = some in cc)
some_is (Some bytes) some = refl

some_under : {X : Type 0} (f : List ℕ → Option X) (o : Option (List ℕ)) → IsSome (option_and_then f o) → IsSome o
some_under f None some = some
some_under f (Some bytes) some = refl

found : (part : FilePart) (file : Option (List ℕ)) → IsSome file → IsInForm part file → IsSoundFile part file (unwrap_or file [])
found part None some form = absurd (let wrong : false ≡ true = some in cc)
found part (Some bytes) some form = (refl, form)

-- a file that is held is that of the world
found_where : (part : FilePart) (has : Bool) (file : Option (List ℕ)) → IsInForm part (where_it_has has file) → IfSome (where_it_has has file) (IsSoundFile part file)
found_where part true None form = tt
found_where part true (Some bytes) form = (refl, form)
found_where part false file form = tt

-- the file that names a slot which is there
slot_found : (slots : List Slot) (has : Bool) (file : Option (List ℕ)) → IsSome (option_and_then (slice_get slots) (option_and_then slot_number (where_it_has has file)))
    → IsInForm Weaver (where_it_has has file) → (bytes : List ℕ) × IsSoundFile Weaver file bytes
slot_found slots true None some form = absurd (let wrong : false ≡ true = some in cc)
slot_found slots true (Some bytes) some form = (bytes, (refl, form))
slot_found slots false file some form = absurd (let wrong : false ≡ true = some in cc)

by_true : (b : Bool) (A B : Type 0) → b ≡ true → MatchBool b A B → A
by_true true A B is holds = holds
by_true false A B is holds = absurd (let wrong : false ≡ true = is in cc)

-- ---- a credential

module _ (w : World) (user id : ℕ) (c : KindAndText) (s : SecretValue) where
  abbrev p : Protector
  p = record { user = user; id = id; purpose = credential c.kind }

  abbrev h : Held
  h = held w p

  pub offer_linked : Seals id h c s → HasForm h Pwd → HasForm h Weaver → AreOfferLinks h (links_at w user id)
  offer_linked seals pwd weaver = record {
    pwd = found_where Pwd (has_part (has_weaver w) (credential c.kind) Pwd) (file_at w (file_name p Pwd)) pwd;
    slot = λ is. slot_found w.slots (has_part (has_weaver w) (credential c.kind) Weaver) (file_at w (file_name p Weaver)) (some_of h.slot _ (by_true h.weaver _ _ is seals.accepts)) weaver;
  }

-- ---- a token

module _ (w : World) (user id : ℕ) (bytes : List ℕ) (s : SecretValue) (p0 : List ℕ) where
  abbrev t : Protector
  t = record { user = user; id = id; purpose = token }

  abbrev k : Held
  k = held w t

  abbrev l : Links
  l = links_at w user id

  -- its blob and its discardable bytes
  abbrev pub files_held : TokenFiles
  files_held = record { blob = unwrap_or (k.files SpBlob) []; secdis = unwrap_or (k.files Secdis) [] }

  module _ (seals : SealsToken k (l.files P1) bytes s p0) where
    has_blob : IsSome (k.files SpBlob)
    has_blob = some_of (k.files SpBlob) _ seals.blob

    has_secdis : IsSome (k.files Secdis)
    has_secdis = by k.weaver (some_of _ _ seals.discardable)
      where
        by : (weaver : Bool) → IsSome (cond weaver (option_and_then (opened_discardable (slot_value k.slot)) (k.files Secdis)) (k.files Secdis)) → IsSome (k.files Secdis)
        by true some = some_under (opened_discardable (slot_value k.slot)) (k.files Secdis) some
        by false some = some

    pub files_linked : HasForm k Secdis → HasForm k Weaver → AreTokenFiles k l files_held
    files_linked secdis weaver = record {
      own = refl;
      blob = some_is (k.files SpBlob) has_blob;
      secdis = found Secdis (k.files Secdis) has_secdis secdis;
      slot = λ is. slot_found w.slots (has_part (has_weaver w) token Weaver) (file_at w (file_name t Weaver)) (some_of k.slot _ (by_true k.weaver _ _ is seals.slot)) weaver;
    }

    pub token_linked : IsInForm P1 (l.files P1) → IsInForm E0 (l.files E0) → option_and_then (opened_e0 s) (l.files E0) ≡ Some p0 → AreTokenLinks k s p0 l files_held (weaver_value k)
    token_linked p1 e0 opens = record {
      blob = some_is (k.files SpBlob) has_blob;
      secdis = some_is (k.files Secdis) has_secdis;
      key = refl;
      share = refl;
      p1 = (unwrap_or (l.files P1) [], found P1 (l.files P1) (some_of (l.files P1) _ seals.whole) p1);
      e0 = (unwrap_or (l.files E0) [], found E0 (l.files E0) (has_e0 (l.files E0) opens) e0, opened (l.files E0) opens);
    }
      where
        has_e0 : (file : Option (List ℕ)) → option_and_then (opened_e0 s) file ≡ Some p0 → IsSome file
        has_e0 None is = absurd (cc)
        has_e0 (Some text) is = refl

        opened : (file : Option (List ℕ)) → option_and_then (opened_e0 s) file ≡ Some p0 → opened_e0 s (unwrap_or file []) ≡ Some p0
        opened None is = absurd (cc)
        opened (Some text) is = is
