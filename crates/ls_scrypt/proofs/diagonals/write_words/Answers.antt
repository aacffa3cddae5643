use Rattle.std.proofs.Common.{◌≡◌, ◌^◌, ℕ, List, length, sym, ap, ◌∙◌}
use Rattle.std.proofs.lemmas.Simd.{put_chunk_whole}
use lib.Lanes.{digits_l, number_l}
use Rattle.ls_scrypt.specs.Salsa.{bytes}
use Rattle.ls_scrypt.proofs.LaneLemmas.{each_small}
use Rattle.ls_scrypt.proofs.WordLemmas.{digits-bytes, length-bytes}
use Rattle.ls_scrypt.proofs.diagonals.write_words.Goals as goal

pub returns : goal.returns
returns c =
    let w : List ℕ = c.args.words in
    let digits : List ℕ = digits_l 256 64 (number_l (2 ^ 32) w) in
    let same : digits ≡ bytes 16 w = digits-bytes 16 w c.fits-words.0 (each_small w c.fits-words.1) in
    let long : length c.args.to.now ≡ length digits = c.requires ∙ sym (ap length same ∙ length-bytes 16 w) in
    put_chunk_whole c.args.to.now digits long ∙ same
