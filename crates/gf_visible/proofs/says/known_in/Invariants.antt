use Rattle.std.proofs.Common.{◌≡◌, take}
use Rattle.gf_visible.specs.ClassSays.{known_in}
use Rattle.gf_visible.proofs.says.known_in.Given as goal

abbrev pub invariant-loop-class : goal.invariant-loop-class
invariant-loop-class l = l.known ≡ known_in l.all (take l.class-index l.classes)
