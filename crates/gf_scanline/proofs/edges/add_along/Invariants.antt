use Rattle.std.proofs.Common.{◌≡◌, ◌++◌, drop}
use Rattle.gf_scanline.specs.Between.{between_along}
use Rattle.gf_scanline.proofs.edges.add_along.Given as goal

abbrev pub invariant-loop-to : goal.invariant-loop-to
invariant-loop-to l = l.edges.items ++ between_along l.low l.high l.from
    (drop l.to-index l.rest) ≡ l.initial.edges.items ++ between_along l.low l.high l.fn.first l.rest
