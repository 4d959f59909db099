use Rattle.std.proofs.lemmas.Int.{to_z-of_z}
use Rattle.gf_spans.proofs.DivisionLemmas.{quotient_of, small_fits}
use Rattle.std.specs.Int.{int_div_euclid}
use Rattle.gf_spans.proofs.crossing.quotient.Goals as goal

pub returns-clause-small : goal.returns-clause-small
returns-clause-small c =
    let a = c.ranges.across in
    let h = c.ranges.height in
    let s = quotient_of c.args.run c.args.rise c.args.across c.args.height c.requires.run
    c.requires.across c.requires.rise c.requires.height in
    let q = small_fits (int_div_euclid c.args.across c.args.height) s in
    rw c.div_euclid.ensures (simp to_z-of_z s)
