use Rattle.std.proofs.Common.{sym, ◌∙◌, ap, Ok}
use Rattle.ls_secure.proofs.ReadingLemmas.{same_front}
use Rattle.ls_secure.proofs.reading.array_32.Goals as goal

pub returns : goal.returns
returns c = record {
  gives = λ field rest wide is.
      let read = c.in_ok-field.ensures.read in
      let both = same_front c.in_ok-field.field.now field c.bytes.new.self.left rest 32 read.width wide (sym read.left ∙ is) in
      (ap Ok (c.copy_from_slice.ensures.after ∙ both.0), both.1);
}
