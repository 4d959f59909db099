use Rattle.std.proofs.Common.{◌≡◌, take}
use Rattle.gf_maximal.specs.Cutting.{spared}
use Rattle.gf_maximal.proofs.cutting.spared.Given as goal

abbrev pub invariant-loop-number : goal.invariant-loop-number
invariant-loop-number l = l.left ≡ spared l.rows l.initial.left (take l.number-index l.numbers)
