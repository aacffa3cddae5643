-- The fields of metrics as what is seen of them, and back.
use Rattle.ls_credential.specs.declared.metrics.Metrics.TheInside.{Inside}
use Rattle.ls_credential.specs.Counts.{KindAndCounts}

abbrev pub seen : Inside → KindAndCounts
seen m = record {
  kind = m.kind;
  length = m.length;
  letters = m.letters;
  upper = m.upper;
  lower = m.lower;
  numeric = m.numeric;
  symbols = m.symbols;
  non_letter = m.non_letter;
  non_numeric = m.non_numeric;
  run = m.run;
}

abbrev pub fields_of : KindAndCounts → Inside
fields_of m = record {
  kind = m.kind;
  length = m.length;
  letters = m.letters;
  upper = m.upper;
  lower = m.lower;
  numeric = m.numeric;
  symbols = m.symbols;
  non_letter = m.non_letter;
  non_numeric = m.non_numeric;
  run = m.run;
}
