use Rattle.std.proofs.Common.{All, take}
use Rattle.gf_scanline.specs.Reaching.{IsAcross}
use Rattle.gf_scanline.proofs.edges.reach.Given as goal

abbrev pub invariant-loop-edge : goal.invariant-loop-edge
invariant-loop-edge l = All (IsAcross l.all) (take l.edge-index l.edges)
