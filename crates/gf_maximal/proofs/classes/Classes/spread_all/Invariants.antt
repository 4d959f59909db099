use Rattle.std.proofs.Common.{◌≡◌, take, map}
use Rattle.gf_maximal.specs.Classes.{spread}
use Rattle.gf_maximal.proofs.classes.Classes.spread_all.Given as goal

abbrev pub invariant-loop-set : goal.invariant-loop-set
invariant-loop-set l = l.found.items ≡ map (spread l.self) (take l.set-index l.sets)
