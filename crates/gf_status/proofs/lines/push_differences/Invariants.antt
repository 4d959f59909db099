use Rattle.std.proofs.Common.{◌≡◌, ◌++◌, take}
use Rattle.std.specs.Prelude.{flat_map}
use Rattle.gf_status.specs.StatusLines.{difference_line}
use Rattle.gf_status.proofs.lines.push_differences.Given as goal

abbrev pub invariant-loop-difference : goal.invariant-loop-difference
invariant-loop-difference l = l.out.items ≡ l.initial.out.items ++ flat_map
    (difference_line l.object) (take l.difference-index l.differences)
