use Rattle.std.proofs.Common.{map, take}
use Rattle.std.specs.Prelude.{All}
use Rattle.gf_take.specs.ShownDrawing.{CanSwap}
use Rattle.gf_take.proofs.swapping.can_pass.Given as goal

abbrev pub invariant-loop-other : goal.invariant-loop-other
invariant-loop-other l =
    All (CanSwap l.drawing.table l.figure) (map (λ f. f.now) (take l.other-index l.others))
