-- What leaves all that a record names the same.
use Rattle.std.proofs.Common.{◌≡◌, ◌⊎◌, inl, inr, ℕ, Bool, List, length, Option, None, Some, refl, sym, ap, subst, ◌∙◌}
use Rattle.std.specs.Prelude.{nat_lt}
use Rattle.ls_formats.specs.declared.name.FileName.TheVariants.{Protector as ProtectorName}
use Rattle.ls_formats.specs.declared.side.Side.TheVariants.{First, Second}
use Rattle.ls_formats.specs.PartNames.{PartOf, part_name_text, settings_text}
use Rattle.ls_formats.proofs.NameLemmas.{first_again, second_again}
use Rattle.ls_arming.specs.declared.arming.Arming.{Arming}
use Rattle.ls_record.specs.Rows.{Rec}
use Rattle.ls_naming.specs.Named.{NamesFile, NamesSlot, NamesEnrolled}
use Rattle.ls_naming.proofs.NamingLemmas.{slots_follow}
use Rattle.ls_board.specs.declared.touch.Touch.{Touch}
use Rattle.ls_board.specs.declared.world.World.{World}
use Rattle.ls_board.specs.Effect.{file_at, touch_at, slot_at}
use Rattle.ls_board.specs.Gatekeeper.{record_at}
use Rattle.ls_board.specs.Images.{Leaves}
use Rattle.ls_board.specs.Keys.{key_at}
use Rattle.ls_board.specs.Reach.{SameBut}
use Rattle.ls_board.proofs.CrashLemmas.{untouched}
use Rattle.ls_settings.specs.Loaded.{IsSettingsName, AreUntouched, settings_reach}
use Rattle.ls_sealing.specs.Protectors.{has_weaver}
use Rattle.ls_standing.specs.Standing.{NamedAreUntouched}
use Rattle.ls_standing.specs.Quiet.{unnamed}
use Rattle.ls_standing.specs.Same.{SameNamed, SameSettings}

-- what was untouched is so where it is touched as before or no longer
pub still_none : (old new : Option Touch) → (new ≡ old) ⊎ (new ≡ None) → old ≡ None → new ≡ None
still_none old new (inl same) none = same ∙ none
still_none old new (inr gone) none = gone

-- ---- one after another

pub named_refl : (r : Rec) (w : World) → SameNamed r w w
named_refl r w = record {
  count = refl;
  file = λ name named. refl;
  touch = λ name named none. none;
  slot = λ slot named. refl;
  counter = λ sid named. refl;
  device = refl;
  key = λ alias named. refl;
  cell = λ armed is. refl;
}

pub settings_refl : (w : World) → SameSettings w w
settings_refl w = record { file = λ side. refl; touch = λ side none. none }

module _ (r : Rec) (u v : World) (same : SameNamed r u v) where
  pub names_on : (name : PartOf) → NamesFile (has_weaver u) r name → NamesFile (has_weaver v) r name
  names_on name named = subst (λ (b : Bool). NamesFile b r name) (ap (nat_lt 0) (sym same.count)) named

  pub names_back : (name : PartOf) → NamesFile (has_weaver v) r name → NamesFile (has_weaver u) r name
  names_back name named = subst (λ (b : Bool). NamesFile b r name) (ap (nat_lt 0) same.count) named

  pub slots_on : (slot : ℕ) → NamesSlot (has_weaver u) r (file_at u) slot → NamesSlot (has_weaver v) r (file_at v) slot
  slots_on slot named =
      subst (λ (b : Bool). NamesSlot b r (file_at v) slot) (ap (nat_lt 0) (sym same.count))
      (slots_follow (has_weaver u) r (file_at u) (file_at v) same.file slot named)

  pub slots_back : (slot : ℕ) → NamesSlot (has_weaver v) r (file_at v) slot → NamesSlot (has_weaver u) r (file_at u) slot
  slots_back slot named =
      slots_follow (has_weaver u) r (file_at v) (file_at u) (λ name has. sym (same.file name has)) slot
      (subst (λ (b : Bool). NamesSlot b r (file_at v) slot) (ap (nat_lt 0) same.count) named)

  pub enrolled_on : (sid : ℕ) → NamesEnrolled (has_weaver u) r sid → NamesEnrolled (has_weaver v) r sid
  enrolled_on sid named = subst (λ (b : Bool). NamesEnrolled b r sid) (ap (nat_lt 0) (sym same.count)) named

  pub enrolled_back : (sid : ℕ) → NamesEnrolled (has_weaver v) r sid → NamesEnrolled (has_weaver u) r sid
  enrolled_back sid named = subst (λ (b : Bool). NamesEnrolled b r sid) (ap (nat_lt 0) same.count) named

pub named_trans : (u v w : World) (r : Rec) → SameNamed r u v → SameNamed r v w → SameNamed r u w
named_trans u v w r first second = record {
  count = second.count ∙ first.count;
  file = λ name named. second.file name (names_on r u v first name named) ∙ first.file name named;
  touch = λ name named none. second.touch name (names_on r u v first name named) (first.touch name named none);
  slot = λ slot named. second.slot slot (slots_on r u v first slot named) ∙ first.slot slot named;
  counter = λ sid named. second.counter sid (enrolled_on r u v first sid named) ∙ first.counter sid named;
  device = second.device ∙ first.device;
  key = λ alias named. second.key alias named ∙ first.key alias named;
  cell = λ armed is. second.cell armed is ∙ first.cell armed is;
}

pub settings_trans : (u v w : World) → SameSettings u v → SameSettings v w → SameSettings u w
settings_trans u v w first second = record {
  file = λ side. second.file side ∙ first.file side;
  touch = λ side none. second.touch side (first.touch side none);
}

-- ---- what differs in other things

no_arming : (r : Rec) (armed : Arming) → r.armed ≡ Some armed → ¬ (r.armed ≡ None)
no_arming r armed is none = absurd (cc)

module _ (w mid : World) (r : Rec) (same : SameBut (unnamed w r) w mid) where
  pub named_but : SameNamed r w mid
  named_but = record {
    count = same.count;
    file = λ name named. same.file (part_name_text name) (λ un. un.named name named refl);
    touch = λ name named. still_none _ _ (same.touch (part_name_text name) (λ un. un.named name named refl));
    slot = λ slot named. same.slot slot (λ un. un named);
    counter = λ sid named. same.counter sid (λ un. un named);
    device = ap (λ (v : World). v.gk_key) same.rest;
    key = λ alias named. same.key alias (λ un. un named);
    cell = λ armed is. same.cell (no_arming r armed is);
  }

  pub settings_but : SameSettings w mid
  settings_but = record {
    file = λ side. same.file (settings_text side) (λ un. un.settings (side, refl));
    touch = λ side. still_none _ _ (same.touch (settings_text side) (λ un. un.settings (side, refl)));
  }

-- a file of a user or a protector is no settings file
pub no_settings : (name : PartOf) → ¬ (IsSettingsName (part_name_text name))
no_settings name (First, text) = let one = first_again (ProtectorName name) text in absurd (cc)
no_settings name (Second, text) = let one = second_again (ProtectorName name) text in absurd (cc)

pub named_but_settings : (w mid : World) (r : Rec) → SameBut settings_reach w mid → SameNamed r w mid
named_but_settings w mid r same = record {
  count = same.count;
  file = λ name named. same.file (part_name_text name) (no_settings name);
  touch = λ name named. still_none _ _ (same.touch (part_name_text name) (no_settings name));
  slot = λ slot named. same.slot slot (λ reached. reached);
  counter = λ sid named. same.counter sid (λ reached. reached);
  device = ap (λ (v : World). v.gk_key) same.rest;
  key = λ alias named. same.key alias (λ reached. reached);
  cell = λ armed is. same.cell (λ reached. reached);
}

-- ---- images

pub none_left : (w image : World) (n : List ℕ) → Leaves w image → touch_at image n ≡ None
none_left w image n left = ap (λ (v : World). touch_at v n) left.rest

pub named_left : (w image : World) (r : Rec) → NamedAreUntouched w r → Leaves w image → SameNamed r w image
named_left w image r still left = record {
  count = ap (λ (v : World). length v.slots) left.rest;
  file = λ name named. untouched w image (part_name_text name) (still name named) left;
  touch = λ name named none. none_left w image (part_name_text name) left;
  slot = λ slot named. ap (λ (v : World). slot_at v slot) left.rest;
  counter = λ sid named. ap (λ (v : World). record_at v.gk sid) left.rest;
  device = ap (λ (v : World). v.gk_key) left.rest;
  key = λ alias named. ap (λ (v : World). key_at v.keys alias) left.rest;
  cell = λ armed is. ap (λ (v : World). v.cell) left.rest;
}

pub settings_left : (w image : World) → AreUntouched w → Leaves w image → SameSettings w image
settings_left w image still left = record {
  file = λ side. untouched w image (settings_text side) (still side) left;
  touch = λ side none. none_left w image (settings_text side) left;
}
