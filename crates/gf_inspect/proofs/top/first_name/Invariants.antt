use Rattle.std.proofs.Common.{◌≡◌}
use Rattle.std.specs.Prelude.{find}
use Rattle.std.specs.Vec.Iter.{into_iter_items}
use Rattle.gf_shape.specs.declared.any_shape.AnyShape.{AnyShape}
use Rattle.gf_shape.specs.ShapeMeaning.{any_holds}
use Rattle.gf_versions.specs.declared.placed.Placed.{Placed}
use Rattle.gf_inspect.proofs.top.first_name.Given as goal

-- no item so far holds the point
abbrev pub invariant-loop-item : goal.invariant-loop-item
invariant-loop-item l = find (λ (i : Placed AnyShape). any_holds i.shape l.point)
    (into_iter_items l.item-iterator)
    ≡ find (λ (i : Placed AnyShape). any_holds i.shape l.point)
    (into_iter_items l.initial.item-iterator)
