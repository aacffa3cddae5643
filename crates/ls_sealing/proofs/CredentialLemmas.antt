-- A protector that was written for a credential seals the secret.
use Rattle.std.proofs.Common.{◌≡◌, ◌≢◌, ◌<◌, ◌^◌, ◌+◌, ℕ, Bool, true, false, List, [], ◌∷◌, ◌++◌, length, drop, Option, None, Some, refl, sym, ap, subst, ◌∙◌, arith}
use Rattle.std.specs.Prelude.{not, ◌&&◌, is_some, IfSome, IsSomeAnd, if◌then◌else◌}
use Rattle.std.specs.List.{list_any}
use Rattle.std.specs.Option.{option_map}
use Rattle.std.proofs.lemmas.List.{get_or-drop}
use Rattle.byteorder.specs.Endian.{big_number}
use Rattle.ls_credential.specs.declared.kind.Kind.{Kind}
use Rattle.ls_credential.specs.declared.kind.Kind.TheVariants.{Empty, Pattern, Pin, Password}
use Rattle.ls_credential.specs.Rules.{KindAndText}
use Rattle.ls_blob.specs.declared.kind.BlobKind.TheVariants.{Credential}
use Rattle.ls_blob.proofs.PersonalLemmas.{opened_under-sealed_under}
use Rattle.ls_secret.specs.Secrets.{SecretValue, IsSecret}
use Rattle.ls_formats.specs.declared.part.FilePart.{FilePart}
use Rattle.ls_formats.specs.declared.part.FilePart.TheVariants.{SpBlob, Pwd as PwdPart, Secdis, Weaver, Metrics}
use Rattle.ls_formats.specs.Contents.{AreBytes, Pwd, pwd, IsPwd, pwd_bytes}
use Rattle.ls_formats.proofs.ContentLemmas.{pwd_format}
use Rattle.ls_naming.specs.Named.{only_if, has_credential}
use Rattle.ls_naming.specs.Membership.{same_part}
use Rattle.ls_weaver.specs.Slots.{written}
use Rattle.ls_board.specs.Gatekeeper.{signed, no_fails}
use Rattle.ls_sealing.specs.Chain.{stretched, stretched_at, stretched_default, weaver_key, gatekeeper_password, value_share, discardable_share, layered, opened_layers}
use Rattle.ls_sealing.specs.Protectors.{credential, where_it_has, Held}
use Rattle.ls_sealing.specs.Seals.{IsPwdFile, IsHandleOf, Seals, ShowsMetrics}
use Rattle.ls_sealing.specs.Draws.{CredentialDraw, credential_draw, credential_draw_size, piece}
use Rattle.ls_sealing.specs.Building.{Writing, held_of, new_stretched, new_share, new_handle, credential_writing}
use Rattle.ls_bytes.proofs.ByteListLemmas.{bytes_take}
use Rattle.ls_sealing.proofs.ByteLemmas.{piece_are, number_small, signed_are, signed_salt}
use Rattle.ls_sealing.proofs.LayerLemmas.{layers_open, length-layered, version_is, length_sp, blob_spells}

-- ---- what is drawn

-- what a draw for a credential must have, where there is one or not, and with a slot or without
pub record IsDraw (has : Bool) (slot : Option ℕ) (d : CredentialDraw) : Type 0 where
  pub key : length d.key ≡ 32
  pub inner_iv : length d.inner_iv ≡ 12
  pub outer_iv : length d.outer_iv ≡ 12
  pub salt : has ≡ true → AreBytes 16 d.salt
  pub metrics_iv : has ≡ true → length d.metrics_iv ≡ 12
  pub discardable : slot ≡ None → length d.discardable ≡ 16384
  pub handle_salt : d.handle_salt < 2 ^ 64

abbrev draw_by : Bool → List ℕ → CredentialDraw
draw_by has drawn = record {
  key = piece 0 32 drawn;
  inner_iv = piece 32 12 drawn;
  outer_iv = piece 44 12 drawn;
  salt = piece 56 16 drawn;
  metrics_iv = piece 72 12 drawn;
  value = piece (if has then 84 else 56) 16 drawn;
  discardable = piece (if has then 84 else 56) 16384 drawn;
  handle_salt = big_number 8 (piece ((if has then 84 else 56) + 16384) 8 drawn);
}

small_piece : (n at len : ℕ) (drawn : List ℕ) → AreBytes n drawn → big_number 8 (piece at len drawn) < 2 ^ 64
small_piece n at len drawn are = number_small (piece at len drawn) (bytes_take len (drop at drawn) (λ i. subst (λ (k : ℕ). k < 256) (sym (get_or-drop at drawn i 0)) (are.each (at + i))))

is_draw_by : (has : Bool) (slot : Option ℕ) (drawn : List ℕ) → AreBytes ((if has then 84 else 56) + (if is_some slot then 16 else 16384 + (if has then 8 else 0))) drawn → IsDraw has slot (draw_by has drawn)
is_draw_by true None drawn are = record {
  key = (piece_are 16476 0 32 drawn are (omega arith)).long;
  inner_iv = (piece_are 16476 32 12 drawn are (omega arith)).long;
  outer_iv = (piece_are 16476 44 12 drawn are (omega arith)).long;
  salt = λ there. piece_are 16476 56 16 drawn are (omega arith);
  metrics_iv = λ there. (piece_are 16476 72 12 drawn are (omega arith)).long;
  discardable = λ none. (piece_are 16476 84 16384 drawn are (omega arith)).long;
  handle_salt = small_piece 16476 16468 8 drawn are;
}
is_draw_by true (Some n) drawn are = record {
  key = (piece_are 100 0 32 drawn are (omega arith)).long;
  inner_iv = (piece_are 100 32 12 drawn are (omega arith)).long;
  outer_iv = (piece_are 100 44 12 drawn are (omega arith)).long;
  salt = λ there. piece_are 100 56 16 drawn are (omega arith);
  metrics_iv = λ there. (piece_are 100 72 12 drawn are (omega arith)).long;
  discardable = λ none. absurd (cc);
  handle_salt = small_piece 100 16468 8 drawn are;
}
is_draw_by false None drawn are = record {
  key = (piece_are 16440 0 32 drawn are (omega arith)).long;
  inner_iv = (piece_are 16440 32 12 drawn are (omega arith)).long;
  outer_iv = (piece_are 16440 44 12 drawn are (omega arith)).long;
  salt = λ there. absurd (cc);
  metrics_iv = λ there. absurd (cc);
  discardable = λ none. (piece_are 16440 56 16384 drawn are (omega arith)).long;
  handle_salt = small_piece 16440 16440 8 drawn are;
}
is_draw_by false (Some n) drawn are = record {
  key = (piece_are 72 0 32 drawn are (omega arith)).long;
  inner_iv = (piece_are 72 32 12 drawn are (omega arith)).long;
  outer_iv = (piece_are 72 44 12 drawn are (omega arith)).long;
  salt = λ there. absurd (cc);
  metrics_iv = λ there. absurd (cc);
  discardable = λ none. absurd (cc);
  handle_salt = small_piece 72 16440 8 drawn are;
}

-- so many drawn bytes make a draw
pub is_draw : (slot : Option ℕ) (kind : Kind) (drawn : List ℕ) → AreBytes (credential_draw_size (is_some slot) kind) drawn → IsDraw (has_credential kind) slot (credential_draw kind drawn)
is_draw slot kind drawn are = is_draw_by (has_credential kind) slot drawn are

-- ---- the `pwd` file

pub pwd_file_is : (weaver : Bool) (kind : Kind) (p : Pwd) → IsPwd p → p.kind ≡ kind → is_some p.handle ≡ not weaver → IsPwdFile weaver kind (pwd_bytes p)
pwd_file_is weaver kind p keeps says handle =
    let again = pwd_format.again p keeps in
    record {
      spelled = ap pwd_bytes again;
      rules = subst IsPwd (sym again) keeps;
      says = ap (λ (q : Pwd). q.kind) again ∙ says;
      handle = ap (λ (q : Pwd). is_some q.handle) again ∙ handle;
    }

pub stretched_is : (p : Pwd) (text : List ℕ) → IsPwd p → stretched (Some (pwd_bytes p)) text ≡ stretched_at p.log_n p.log_r p.log_p p.salt text
stretched_is p text keeps = ap (λ (q : Pwd). stretched_at q.log_n q.log_r q.log_p q.salt text) (pwd_format.again p keeps)

pub not_empty : (kind : Kind) → has_credential kind ≡ true → kind ≢ Empty
not_empty Empty e = λ is. cc
not_empty Pattern e = λ is. cc
not_empty Pin e = λ is. cc
not_empty Password e = λ is. cc

is_empty : (kind : Kind) → has_credential kind ≡ false → kind ≡ Empty
is_empty Empty e = refl
is_empty Pattern e = absurd (let wrong : true ≡ false = e in cc)
is_empty Pin e = absurd (let wrong : true ≡ false = e in cc)
is_empty Password e = absurd (let wrong : true ≡ false = e in cc)

pub usual_pwd : (kind : Kind) (salt : List ℕ) (handle : Option (List ℕ)) → kind ≢ Empty → AreBytes 16 salt → IfSome handle (AreBytes 49) → IsPwd (pwd kind 11 3 1 salt handle)
usual_pwd kind salt handle some are fits = record {
  kind = some;
  log_n = (omega arith, omega arith);
  log_r = omega arith;
  log_p = omega arith;
  salt = are;
  handle = fits;
}

-- ---- what is held

abbrev pub parts_by : Bool → Bool → List FilePart
parts_by weaver has = SpBlob ∷ (only_if has (PwdPart ∷ []) ++ ((if weaver then Weaver else Secdis) ∷ only_if has (Metrics ∷ [])))

abbrev held_by : Bool → Option ℕ → Writing → List ℕ → Held
held_by has slot m device = record {
  weaver = is_some slot;
  files = λ part. where_it_has (list_any (same_part part) (parts_by (is_some slot) has)) (Some (m.content part));
  slot = option_map (λ _. written m.slot_key m.value) slot;
  counter = where_it_has (not (is_some slot) && has) (Some no_fails);
  device = device;
  key = Some m.key;
}

module _ (id : ℕ) (c : KindAndText) (s : SecretValue) (d : CredentialDraw) (device : List ℕ) (is : IsSecret s) where
  with_credential : (e : has_credential c.kind ≡ true) → new_stretched c d ≡ stretched_at 11 3 1 d.salt c.text
  with_credential e = ap (λ (b : Bool). if b then stretched_at 11 3 1 d.salt c.text else stretched_default) e

  without_credential : (e : has_credential c.kind ≡ false) → new_stretched c d ≡ stretched_default
  without_credential e = ap (λ (b : Bool). if b then stretched_at 11 3 1 d.salt c.text else stretched_default) e

  abbrev content : Option ℕ → List ℕ
  content slot = layered d.key (new_stretched c d ++ new_share slot d) d.inner_iv d.outer_iv s.sp

  long : (has : Bool) (slot : Option ℕ) → IsDraw has slot d → length (content slot) ≡ 184
  long has slot draw =
      let l = length-layered d.key (new_stretched c d ++ new_share slot d) d.inner_iv d.outer_iv s.sp draw.key draw.inner_iv draw.outer_iv in
      let sp = length_sp s is in
      omega arith

  opens : (has : Bool) (slot : Option ℕ) (secret : List ℕ) → IsDraw has slot d → secret ≡ new_stretched c d ++ new_share slot d
      → opened_layers (Some d.key) secret (content slot) ≡ Some s.sp
  opens has slot secret draw e =
      ap (λ (k : List ℕ). opened_layers (Some d.key) k (content slot)) e
      ∙ layers_open d.key (new_stretched c d ++ new_share slot d) d.inner_iv d.outer_iv s.sp draw.key draw.inner_iv draw.outer_iv

  by_has : (has : Bool) (slot : Option ℕ) → has_credential c.kind ≡ has → IsDraw has slot d → Seals id (held_by has slot (credential_writing slot c s d (new_handle id slot c d device)) device) c s
  by_has true (Some n) e draw =
      let p = pwd c.kind 11 3 1 d.salt None in
      let keeps : IsPwd p = usual_pwd c.kind d.salt None (not_empty c.kind e) (draw.salt refl) tt in
      let st : stretched (Some (pwd_bytes p)) c.text ≡ new_stretched c d = stretched_is p c.text keeps ∙ sym (with_credential e) in
      record {
        kind = pwd_file_is true c.kind p keeps refl refl;
        accepts = ap weaver_key (sym st);
        discardable = tt;
        blob = blob_spells s.version Credential (content (Some n)) (version_is s is) (long true (Some n) draw);
        opened = opens true (Some n) (stretched (Some (pwd_bytes p)) c.text ++ value_share d.value) draw (ap (λ (l : List ℕ). l ++ value_share d.value) st);
        secret = is;
      }
  by_has true None e draw =
      let password = gatekeeper_password (new_stretched c d) in
      let handle = signed device id d.handle_salt password in
      let p = pwd c.kind 11 3 1 d.salt (Some handle) in
      let keeps : IsPwd p = usual_pwd c.kind d.salt (Some handle) (not_empty c.kind e) (draw.salt refl) (signed_are device id d.handle_salt password) in
      let st : stretched (Some (pwd_bytes p)) c.text ≡ new_stretched c d = stretched_is p c.text keeps ∙ sym (with_credential e) in
      let handle_is : new_handle id None c d device ≡ Some handle = ap (λ (b : Bool). where_it_has b (Some handle)) e in
      subst (λ (o : Option (List ℕ)). Seals id (held_by true None (credential_writing None c s d o) device) c s) (sym handle_is) (record {
        kind = pwd_file_is false c.kind p keeps refl refl;
        accepts = (
          refl,
          subst (λ (o : Option (List ℕ)). IsSomeAnd o (IsHandleOf device id (stretched (Some (pwd_bytes p)) c.text))) (sym (ap (λ (q : Pwd). q.handle) (pwd_format.again p keeps)))
              (λ i. signed device id (sym (signed_salt device id d.handle_salt password draw.handle_salt) i) (gatekeeper_password (sym st i))),
        );
        discardable = draw.discardable refl;
        blob = blob_spells s.version Credential (content None) (version_is s is) (long true None draw);
        opened = opens true None (stretched (Some (pwd_bytes p)) c.text ++ discardable_share d.discardable) draw (ap (λ (l : List ℕ). l ++ discardable_share d.discardable) st);
        secret = is;
      })
  by_has false (Some n) e draw = record {
    kind = is_empty c.kind e;
    accepts = ap weaver_key (without_credential e);
    discardable = tt;
    blob = blob_spells s.version Credential (content (Some n)) (version_is s is) (long false (Some n) draw);
    opened = opens false (Some n) (stretched_default ++ value_share d.value) draw (ap (λ (l : List ℕ). l ++ value_share d.value) (sym (without_credential e)));
    secret = is;
  }
  by_has false None e draw = record {
    kind = is_empty c.kind e;
    accepts = tt;
    discardable = draw.discardable refl;
    blob = blob_spells s.version Credential (content None) (version_is s is) (long false None draw);
    opened = opens false None (stretched_default ++ discardable_share d.discardable) draw (ap (λ (l : List ℕ). l ++ discardable_share d.discardable) (sym (without_credential e)));
    secret = is;
  }

  pub seals : (slot : Option ℕ) → IsDraw (has_credential c.kind) slot d → Seals id (held_of (credential c.kind) slot (credential_writing slot c s d (new_handle id slot c d device)) device) c s
  seals slot draw = by_has (has_credential c.kind) slot refl draw

  metrics_by_has : (has : Bool) (slot : Option ℕ) → has_credential c.kind ≡ has → IsDraw has slot d → ShowsMetrics (held_by has slot (credential_writing slot c s d (new_handle id slot c d device)) device) c s
  metrics_by_has true (Some n) e draw = opened_under-sealed_under _ [] d.metrics_iv _ (draw.metrics_iv refl)
  metrics_by_has true None e draw = opened_under-sealed_under _ [] d.metrics_iv _ (draw.metrics_iv refl)
  metrics_by_has false (Some n) e draw = is_empty c.kind e
  metrics_by_has false None e draw = is_empty c.kind e

  pub shows_metrics : (slot : Option ℕ) → IsDraw (has_credential c.kind) slot d → ShowsMetrics (held_of (credential c.kind) slot (credential_writing slot c s d (new_handle id slot c d device)) device) c s
  shows_metrics slot draw = metrics_by_has (has_credential c.kind) slot refl draw
