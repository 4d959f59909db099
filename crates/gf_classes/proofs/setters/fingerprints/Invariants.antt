use Rattle.std.proofs.Common.{◌≡◌, map, take}
use Rattle.gf_classes.specs.declared.setters.Setter.{Setter}
use Rattle.gf_classes.proofs.setters.fingerprints.Given as goal

abbrev pub invariant-loop-setter : goal.invariant-loop-setter
invariant-loop-setter l = l.all.items
    ≡ map (λ (e : Setter). e.fingerprint) (take l.setter-index l.setters)
