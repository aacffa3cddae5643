-- How drawn bytes are cut for a new protector. They stand one after another, in the order below.
use Rattle.std.specs.Prelude.{◌+◌, ℕ, Bool, if◌then◌else◌, List, take, drop}
use Rattle.byteorder.specs.Endian.{big_number}
use Rattle.ls_credential.specs.declared.kind.Kind.{Kind}
use Rattle.ls_naming.specs.Named.{has_credential}

-- so many bytes from a place on
abbrev pub piece : ℕ → ℕ → List ℕ → List ℕ
piece at len drawn = take len (drop at drawn)

-- ---- for a credential, behind the id of its protector

-- A key of 32 bytes, and the ivs of the inner and of the outer layer, of 12. Where there is a
-- credential, a salt of 16, and the iv of its metrics. With Weaver a value of 16; without it 16,384
-- discardable bytes, and where there is a credential the salt of its handle, a number of 8 bytes.
pub record CredentialDraw : Type 0 where
  pub key : List ℕ
  pub inner_iv : List ℕ
  pub outer_iv : List ℕ
  pub salt : List ℕ
  pub metrics_iv : List ℕ
  pub value : List ℕ
  pub discardable : List ℕ
  pub handle_salt : ℕ

-- where the value or the discardable bytes begin
abbrev pub device_place : Kind → ℕ
device_place kind = if has_credential kind then 84 else 56

-- how many bytes are drawn
abbrev pub credential_draw_size : Bool → Kind → ℕ
credential_draw_size weaver kind =
    device_place kind
    + (if weaver then 16 else 16384 + (if has_credential kind then 8 else 0))

abbrev pub credential_draw : Kind → List ℕ → CredentialDraw
credential_draw kind drawn = record {
  key = piece 0 32 drawn;
  inner_iv = piece 32 12 drawn;
  outer_iv = piece 44 12 drawn;
  salt = piece 56 16 drawn;
  metrics_iv = piece 72 12 drawn;
  value = piece (device_place kind) 16 drawn;
  discardable = piece (device_place kind) 16384 drawn;
  handle_salt = big_number 8 (piece (device_place kind + 16384) 8 drawn);
}

-- ---- for a token

-- A key of 32 bytes, the ivs of the inner and of the outer layer, of 12, and 16,384 discardable
-- bytes. With Weaver a value of 16, and the iv under which the discardable bytes are sealed.
pub record TokenDraw : Type 0 where
  pub key : List ℕ
  pub inner_iv : List ℕ
  pub outer_iv : List ℕ
  pub discardable : List ℕ
  pub value : List ℕ
  pub discardable_iv : List ℕ

abbrev pub token_draw_size : Bool → ℕ
token_draw_size weaver = 16440 + (if weaver then 28 else 0)

abbrev pub token_draw : List ℕ → TokenDraw
token_draw drawn = record {
  key = piece 0 32 drawn;
  inner_iv = piece 32 12 drawn;
  outer_iv = piece 44 12 drawn;
  discardable = piece 56 16384 drawn;
  value = piece 16440 16 drawn;
  discardable_iv = piece 16456 12 drawn;
}
