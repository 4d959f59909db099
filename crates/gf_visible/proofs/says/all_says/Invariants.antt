use Rattle.std.proofs.Common.{◌≡◌, map, take}
use Rattle.gf_visible.specs.ClassSays.{says_of}
use Rattle.gf_visible.proofs.says.all_says.Given as goal

abbrev pub invariant-loop-class : goal.invariant-loop-class
invariant-loop-class l = l.all.items ≡ map (says_of l.ops) (take l.class-index l.members)
