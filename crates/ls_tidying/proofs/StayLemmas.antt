-- What stays of a world while only files are another that its record doesn't name.
use Rattle.std.proofs.Common.{◌≡◌, ⊎_elim, ℕ, Bool, true, List, [], ◌∷◌, Option, refl, sym, ◌∙◌, ap, subst}
use Rattle.std.specs.List.{Contains}
use Rattle.std.specs.Option.{option_and_then}
use Rattle.ls_board.specs.declared.action.Action.TheVariants.{Remove}
use Rattle.ls_board.specs.declared.world.World.{World}
use Rattle.ls_board.specs.Effect.{file_at, after}
use Rattle.ls_board.specs.Reach.{SameBut}
use Rattle.ls_board.specs.Runs.{after_all}
use Rattle.ls_formats.specs.declared.name.FileName.TheVariants.{Protector as ProtectorName}
use Rattle.ls_formats.specs.declared.part.FilePart.{FilePart}
use Rattle.ls_formats.specs.declared.part.FilePart.TheVariants.{Weaver}
use Rattle.ls_formats.specs.PartNames.{PartOf, part_name_text}
use Rattle.ls_naming.specs.Current.{Settled, is_open}
use Rattle.ls_naming.specs.Named.{NamesFile, row_files}
use Rattle.ls_protector.specs.Clear.{AreUnnamed}
use Rattle.ls_protector.specs.Parts.{first_removed, parts_of, reach_of_names}
use Rattle.ls_record.specs.Rows.{Rec, IsRecord}
use Rattle.ls_sealing.specs.Protectors.{Protector, has_part, has_weaver, file_name, held_number, parts_for, slot_number, where_it_has}
use Rattle.ls_serving.specs.Calls.{IsSilent}
use Rattle.ls_settings.specs.Loaded.{Loaded, IsReady, IsWhole, target_of}
use Rattle.ls_standing.specs.Bare.{IsBare}
use Rattle.ls_standing.specs.Books.{books, dead_users}
use Rattle.ls_standing.specs.NamedProtectors.{NamesProtector, row_protectors}
use Rattle.ls_standing.specs.Quiet.{unnamed}
use Rattle.ls_standing.specs.Same.{SameNamed, SameSettings}
use Rattle.ls_standing.specs.Standing.{StandsDurably}
use Rattle.ls_standing.proofs.ContainsLemmas.{at_first, behind_first, in_flat, in_map, of_flat}
use Rattle.ls_standing.proofs.FrameLemmas.{current_same, durably_same, weaver_same, where_same}
use Rattle.ls_standing.proofs.NamedLemmas.{name_of, part_found}
use Rattle.ls_standing.proofs.ProtectorLemmas.{in_row}
use Rattle.ls_standing.proofs.SameLemmas.{named_but, names_back, settings_but}
use Rattle.ls_vault.specs.declared.vault.Vault.{Vault}
use Rattle.ls_turn.specs.Agreeing.{AreNamed, ArePartNames, parts_in}
use Rattle.ls_turn.specs.Serving.{KeepsStrange}
use Rattle.ls_tidying.specs.Tidying.{KeepsTape}

-- a file of a protector that the record names
named_file : (b : Bool) (r : Rec) (p : Protector) → NamesProtector r p → (part : FilePart) → has_part b p.purpose part ≡ true → NamesFile b r (name_of p.user p.id part)
named_file b r p has part within =
    let row = of_flat row_protectors r.users p has in
    in_flat (row_files b r.armed) r.users row.0 (name_of p.user p.id part) row.1
    (in_row b r.armed row.0 p (name_of p.user p.id part) row.2 (in_map (λ (q : FilePart). name_of p.user p.id q) (parts_for b p.purpose) part (part_found part (parts_for b p.purpose) within)))

module _ (w mid : World) (r : Rec) (same : SameNamed r w mid) (p : Protector) (named : NamesProtector r p) where
  -- a named protector has the slot that it had
  number_stays : held_number mid p ≡ held_number w p
  number_stays =
      ap (λ (b : Bool). option_and_then slot_number (where_it_has (has_part b p.purpose Weaver) (file_at mid (file_name p Weaver)))) (weaver_same r w mid same)
      ∙ ap (λ (o : Option (List ℕ)). option_and_then slot_number o)
      (where_same (has_part (has_weaver w) p.purpose Weaver) (file_at mid (file_name p Weaver)) (file_at w (file_name p Weaver))
      (λ has. same.file (name_of p.user p.id Weaver) (named_file (has_weaver w) r p named Weaver has)))

  parts_stay : parts_in mid p ≡ parts_in w p
  parts_stay = ap (λ (b : Bool). parts_of b p (held_number mid p)) (weaver_same r w mid same) ∙ ap (parts_of (has_weaver w) p) number_stays

module _ (w mid : World) (r : Rec) (names : List (List ℕ)) (clear : AreUnnamed w r names) (same : SameBut (reach_of_names names) w mid) where
  but_unnamed : SameBut (unnamed w r) w mid
  but_unnamed = record {
    rest = same.rest;
    file = λ n other. same.file n (λ has. other (clear n has));
    touch = λ n other. same.touch n (λ has. other (clear n has));
    count = same.count;
    slot = λ n other. same.slot n (λ no. no);
    counter = λ sid other. same.counter sid (λ no. no);
    key = λ alias other. same.key alias (λ no. no);
    cell = λ other. same.cell (λ no. no);
  }

  pub stays_named : SameNamed r w mid
  stays_named = named_but w mid r but_unnamed

  pub stays_settings : SameSettings w mid
  stays_settings = settings_but w mid r but_unnamed

  pub stays_ready : (l : Loaded) → IsReady w l → IsReady mid l
  stays_ready l ready = record {
    are = record {
      settled = current_same w mid stays_settings ∙ ready.are.settled;
      target = ready.are.target ∙ ap is_open (sym (stays_settings.file (target_of l.settled.side)));
    };
    whole = λ side other. subst IsWhole (sym (stays_settings.file side)) (ready.whole side other);
    untouched = λ side. stays_settings.touch side (ready.untouched side);
  }

  pub stays_unnamed : (others : List (List ℕ)) → AreUnnamed w r others → AreUnnamed mid r others
  stays_unnamed others un n has = record {
    settings = (un n has).settings;
    named = λ name named. (un n has).named name (names_back r w mid stays_named name named);
  }

  pub stays_number : (p : Protector) → NamesProtector r p → held_number mid p ≡ held_number w p
  stays_number p named = number_stays w mid r stays_named p named

  pub stays_kept : (parts : List _) → AreNamed w r parts → AreNamed mid r parts
  stays_kept parts are = record {
    each = λ p named. subst (Contains parts) (sym (parts_stay w mid r stays_named p named)) (are.each p named);
    only = λ q within. let found = are.only q within in (found.0, found.1, found.2 ∙ sym (parts_stay w mid r stays_named found.0 found.1));
  }

  pub stays_books : (s : Settled) → books mid s ≡ books w s
  stays_books s = ap (λ (cell : Option (List ℕ)). record { kept = s.sequence; dead = dead_users s.rec.armed cell }) (same.cell (λ no. no))

  pub stays_strange : ArePartNames names → KeepsStrange w mid
  stays_strange are n strange = same.file n (λ has. let part = are n has in strange (ProtectorName part.0) part.1 part.3)

  pub stays_silent : IsSilent w mid
  stays_silent = record { said = ap (λ (v : World). v.said) same.rest; input = ap (λ (v : World). v.input) same.rest }

  pub stays_tape : KeepsTape w mid
  stays_tape = record { moments = ap (λ (v : World). v.moments) same.rest; noise = ap (λ (v : World). v.noise) same.rest }
