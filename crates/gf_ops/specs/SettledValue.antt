-- The value that an attribute has in a version (a causally last setter's; after Sun and Chen, ACM
-- TOCHI 9(1), 2002).
use Rattle.std.specs.Prelude.{◌≡◌, List, IsSome, Some}
use Rattle.gf_ops.specs.declared.op.Op.{Op}
use Rattle.gf_ops.specs.declared.op.OpId.{OpId}
use Rattle.gf_ops.specs.declared.change.Attr.{Attr}
use Rattle.gf_ops.specs.declared.change.Value.{Value}
use Rattle.gf_ops.specs.Attribute.{value_given}
use Rattle.gf_ops.specs.OperationOrder.{Precedes}
use Rattle.gf_ops.specs.Version.{IsMember}

-- some setter of t in the group g gives v, and no setter of t there comes after it
pub record IsSettled (h : List Op) (g : List OpId) (t : Attr) (v : Value) : Type 0 where
  pub setter : Op
  pub member : IsMember h g setter
  pub gives : value_given setter t ≡ Some v
  pub last : (b : Op) → IsMember h g b → IsSome (value_given b t) → ¬ (Precedes setter b)
