use Rattle.std.proofs.Common.{◌≡◌, drop, false}
use Rattle.gf_shape.proofs.EvenOddLemmas.{walk}
use Rattle.gf_shape.proofs.edges.path_holds.Given as goal

abbrev pub invariant-loop-to : goal.invariant-loop-to
invariant-loop-to l = walk l.p l.odd l.from (drop l.to-index l.rest) ≡ walk l.p false l.fn.first
    l.rest
