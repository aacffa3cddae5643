-- What is left over, by the lists of what is there.
use Rattle.std.proofs.Common.{ℕ, Bool, List, refl, subst}
use Rattle.ls_formats.specs.PartNames.{PartOf, IsPartOf, part_name_text}
use Rattle.ls_record.specs.Rows.{Rec}
use Rattle.ls_naming.specs.Named.{NamesFile}
use Rattle.ls_board.specs.declared.world.World.{World}
use Rattle.ls_board.proofs.ListLemmas.{files_there, records_there, keys_there}
use Rattle.ls_sealing.specs.Protectors.{has_weaver}
use Rattle.ls_standing.specs.Clearing.{AreLeftovers, IsLeftName, AreListedLeftovers}
use Rattle.ls_standing.proofs.TouchLemmas.{same_name}

-- a part has one name
not_named : (w : World) (r : Rec) (name : PartOf) → IsPartOf name → IsLeftName w r (part_name_text name) → ¬ (NamesFile (has_weaver w) r name)
not_named w r name part left named =
    left.unnamed (subst (NamesFile (has_weaver w) r) (same_name name left.name part left.part left.spelled) named)

pub listed_left : (w : World) (r : Rec) (names : List (List ℕ)) (slots sids aliases : List ℕ) (cell : Bool) → AreListedLeftovers w r names slots sids aliases cell → AreLeftovers w r names slots sids aliases cell
listed_left w r names slots sids aliases cell listed = record {
  grammar = λ n has. let left = ((listed.files n).0 has).1 in (left.name, left.part, left.spelled);
  files = λ name part. (
    λ has. let both = (listed.files (part_name_text name)).0 has in (not_named w r name part both.1, (files_there w (part_name_text name)).0 both.0),
    λ both. (listed.files (part_name_text name)).1 ((files_there w (part_name_text name)).1 both.1, record { name = name; part = part; spelled = refl; unnamed = both.0 }),
  );
  blanks = listed.blanks;
  counters = λ sid. (
    λ has. let both = (listed.counters sid).0 has in (both.1, (records_there w sid).0 both.0),
    λ both. (listed.counters sid).1 ((records_there w sid).1 both.1, both.0),
  );
  keys = λ alias. (
    λ has. let both = (listed.keys alias).0 has in (both.1, (keys_there w alias).0 both.0),
    λ both. (listed.keys alias).1 ((keys_there w alias).1 both.1, both.0),
  );
  taking = listed.taking;
}
