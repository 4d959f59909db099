use Rattle.std.proofs.Common.{◌≡◌, take}
use Rattle.gf_visible.specs.ClassSays.{says_of}
use Rattle.gf_visible.proofs.says.says_of.Given as goal

abbrev pub invariant-loop-position : goal.invariant-loop-position
invariant-loop-position l = l.says ≡ says_of l.ops (take l.position-index l.positions)
