use Rattle.std.proofs.Common.{◌≡◌, length, rules, arith}
use Rattle.gf_raster.proofs.RunLemmas.{all_given}
use Rattle.gf_raster.proofs.gathering.all_of.Goals as goal

pub returns-clause-each : goal.returns-clause-each
returns-clause-each g c =
    let n : length c.in_ok-results.results.items ≡ c.args.count = search
    (rules, arith, c.in_ok-results.ensures.len) in
    all_given g.F.Fn c.args.f.now c.args.count c.in_ok-results.results.items c.in_ok-all.all.items
    c.in_ok-results.ensures.each n c.in_ok-all.ensures
