use Rattle.std.proofs.Common.{map, take}
use Rattle.std.specs.Prelude.{All}
use Rattle.gf_take.specs.Matching.{IsTraced}
use Rattle.gf_take.proofs.matching.first_like.Given as goal

abbrev pub invariant-loop-position : goal.invariant-loop-position
invariant-loop-position l = All (λ f. ¬ (IsTraced l.drawing.table l.outline l.colour f))
    (map (λ f. f.now) (take l.position l.figures))
