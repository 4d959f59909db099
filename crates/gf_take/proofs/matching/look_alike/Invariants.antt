use Rattle.std.proofs.Common.{map, take}
use Rattle.gf_take.specs.Matching.{AreTraced}
use Rattle.gf_take.proofs.matching.look_alike.Given as goal

abbrev pub invariant-loop-position : goal.invariant-loop-position
invariant-loop-position l = AreTraced l.drawing.table (take l.position l.items)
    (map (λ f. f.now) (take l.position l.figures.items))
