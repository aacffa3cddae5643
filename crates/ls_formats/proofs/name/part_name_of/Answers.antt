use Rattle.std.proofs.Common.{◌≡◌, ◌∙◌, sym, subst}
use Rattle.std.proofs.lemmas.List.{take_rest}
use Rattle.ls_formats.specs.PartNames.{PartOf, IsPartOf}
use Rattle.ls_formats.proofs.NameLemmas.{user_digits, id_digits, part_letters}
use Rattle.ls_formats.proofs.name.part_name_of.Goals as goal

pub returns : goal.returns
returns c = record {
  again = λ name keeps e.
      let bytes = c.args.bytes.now in
      let user = c.hex_u32.ensures.value name.user keeps.user (user_digits name bytes e) in
      let id = c.hex_u64.ensures.value name.id keeps.id (id_digits name bytes e) in
      let part = c.part_of.ensures.named name.part (part_letters name bytes e ∙ sym (take_rest bytes 26)) in
      λ i. record { user = user i; id = id i; part = part i };
}

pub invariant_of-result : goal.invariant_of-result
invariant_of-result c =
    let name = c.requires.spelled.0 in
    let keeps = c.requires.spelled.1 in
    let e = c.requires.spelled.2 in
    let bytes = c.args.bytes.now in
    let user = c.hex_u32.ensures.value name.user keeps.user (user_digits name bytes e) in
    let id = c.hex_u64.ensures.value name.id keeps.id (id_digits name bytes e) in
    let part = c.part_of.ensures.named name.part (part_letters name bytes e ∙ sym (take_rest bytes 26)) in
    let same : ◌≡◌ {A = PartOf} (record { user = c.hex_u32.result; id = c.hex_u64.result; part = c.part_of.result }) name = λ i. record { user = user i; id = id i; part = part i } in
    subst IsPartOf (sym same) keeps
