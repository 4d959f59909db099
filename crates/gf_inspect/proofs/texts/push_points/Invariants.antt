use Rattle.std.proofs.Common.{◌≡◌, ◌++◌, take}
use Rattle.std.specs.Prelude.{flat_map}
use Rattle.gf_inspect.specs.VersionLines.{corner_text}
use Rattle.gf_inspect.proofs.texts.push_points.Given as goal

abbrev pub invariant-loop-point : goal.invariant-loop-point
invariant-loop-point l = l.out.items ≡ l.initial.out.items ++ flat_map corner_text
    (take l.point-index l.points)
