use Rattle.std.proofs.Common.{◌≡◌, map, take}
use Rattle.gf_classes.specs.declared.kinds.Kind.{Kind}
use Rattle.gf_classes.proofs.kinds.kind_fingerprints.Given as goal

abbrev pub invariant-loop-kind : goal.invariant-loop-kind
invariant-loop-kind l = l.all.items
    ≡ map (λ (d : Kind). d.fingerprint) (take l.kind-index l.kinds)
