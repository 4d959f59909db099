use Rattle.std.proofs.lemmas.Int.{to_z-of_z}
use Rattle.gf_spans.proofs.DivisionLemmas.{times_fits}
use Rattle.gf_spans.proofs.crossing.product.Goals as goal

pub returns : goal.returns
returns c =
    let fits = times_fits c.args.a c.args.b c.requires.a c.requires.b in
    let a64 = c.ranges.a in
    let b64 = c.ranges.b in
    simp to_z-of_z
