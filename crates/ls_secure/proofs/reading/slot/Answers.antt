use Rattle.std.proofs.Common.{◌≡◌, ◌∙◌, ◌++◌, ap, Ok}
use Rattle.ls_bytes.specs.Fields.{be32, be64}
use Rattle.ls_secure.proofs.ReadingLemmas.{inside, regroup_4}
use Rattle.ls_secure.proofs.reading.slot.Goals as goal

pub returns-in_err-fails : goal.returns-in_err-fails
returns-in_err-fails c = record {
  gives = λ s rest fits is.
      let key = c.array_16.ensures.gives s.key (s.value ++ (be32 s.fails ++ (be64 s.until ++ rest))) fits.key (is ∙ regroup_4 s.key s.value (be32 s.fails) (be64 s.until) rest) in
      let value = c.array_16-2.ensures.gives s.value (be32 s.fails ++ (be64 s.until ++ rest)) fits.value key.1 in
      let fails = c.number_32.ensures.gives s.fails (be64 s.until ++ rest) fits.fails value.1 in
      absurd (cc (c.in_err-fails.was, fails.0));
}

pub returns-in_err-until : goal.returns-in_err-until
returns-in_err-until c = record {
  gives = λ s rest fits is.
      let key = c.array_16.ensures.gives s.key (s.value ++ (be32 s.fails ++ (be64 s.until ++ rest))) fits.key (is ∙ regroup_4 s.key s.value (be32 s.fails) (be64 s.until) rest) in
      let value = c.array_16-2.ensures.gives s.value (be32 s.fails ++ (be64 s.until ++ rest)) fits.value key.1 in
      let fails = c.number_32.ensures.gives s.fails (be64 s.until ++ rest) fits.fails value.1 in
      let until = c.number_64.ensures.gives s.until rest fits.until fails.1 in
      absurd (cc (c.in_err-until.was, until.0));
}

pub returns : goal.returns
returns c = record {
  gives = λ s rest fits is.
      let key = c.array_16.ensures.gives s.key (s.value ++ (be32 s.fails ++ (be64 s.until ++ rest))) fits.key (is ∙ regroup_4 s.key s.value (be32 s.fails) (be64 s.until) rest) in
      let value = c.array_16-2.ensures.gives s.value (be32 s.fails ++ (be64 s.until ++ rest)) fits.value key.1 in
      let fails = c.number_32.ensures.gives s.fails (be64 s.until ++ rest) fits.fails value.1 in
      let until = c.number_64.ensures.gives s.until rest fits.until fails.1 in
      let is_key = inside c.array_16.result c.in_ok-key.key s.key c.in_ok-key.was key.0 in
      let is_value = inside c.array_16-2.result c.in_ok-value.value s.value c.in_ok-value.was value.0 in
      let is_fails = inside c.number_32.result c.in_ok-fails.fails s.fails c.in_ok-fails.was fails.0 in
      let is_until = inside c.number_64.result c.in_ok-until.until s.until c.in_ok-until.was until.0 in
      (λ i. Ok (record { key = is_key i; value = is_value i; fails = is_fails i; until = is_until i }), until.1);
}
