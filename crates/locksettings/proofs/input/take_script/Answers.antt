use Rattle.locksettings.proofs.ScriptLemmas.{all_taken}
use Rattle.locksettings.proofs.input.take_script.Goals as goal

pub returns-in-Ok-clause-whole : goal.returns-in-Ok-clause-whole
returns-in-Ok-clause-whole g c =
    all_taken g.R.Read.remaining c.args.reader c.take.result c.new-bytes.result.items
    c.read_to_end.new.buf.items c.script_of.result c.take.ensures.limit c.take.ensures.inner
    c.new-bytes.ensures.items c.in-Ok.ensures.bytes c.script_of.ensures.same
