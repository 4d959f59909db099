use Rattle.std.proofs.Common.{◌≡◌, length, rules, arith}
use Rattle.gf_raster.specs.Shares.{parts}
use Rattle.gf_raster.proofs.SharingLemmas.{found_of}
use Rattle.gf_raster.proofs.rows.found.Goals as goal

pub returns-clause-len : goal.returns-clause-len
returns-clause-len g c =
    let p = c.args.part.now in
    let workers = c.args.crew.now.workers in
    let shares = c.in_ok-shares.shares.items in
    let n : length shares ≡ workers = search (rules, arith, c.in_ok-shares.ensures.len) in
    let size : c.div_ceil-size.result ≡ parts p.band.count workers = search (rules, arith) in
    let all = found_of g.S.Shape.holds p workers shares c.args.crew.now.within.0 n
    (rw size at c.in_ok-shares.ensures.each) in
    let many : length c.in_ok-rows.rows.items ≡ p.band.count = rw c.in_ok-rows.ensures all.0 in
    search (rules, arith, many)

pub returns-clause-rows : goal.returns-clause-rows
returns-clause-rows g c =
    let p = c.args.part.now in
    let workers = c.args.crew.now.workers in
    let shares = c.in_ok-shares.shares.items in
    let n : length shares ≡ workers = search (rules, arith, c.in_ok-shares.ensures.len) in
    let size : c.div_ceil-size.result ≡ parts p.band.count workers = search (rules, arith) in
    let all = found_of g.S.Shape.holds p workers shares c.args.crew.now.within.0 n
    (rw size at c.in_ok-shares.ensures.each) in
    rw c.in_ok-rows.ensures all.1
