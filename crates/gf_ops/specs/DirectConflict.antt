-- Which operations cannot stand in one version by themselves, whatever their aims (conflict and
-- compatible, Sun and Chen, ACM TOCHI 9(1), 2002).
use Rattle.std.specs.Prelude.{◌≡◌, ◌≢◌, Some}
use Rattle.gf_ops.specs.declared.op.Op.{Op}
use Rattle.gf_ops.specs.declared.change.Attr.{Attr}
use Rattle.gf_ops.specs.declared.change.Change.{Change}
use Rattle.gf_ops.specs.declared.change.Value.{Value}
use Rattle.gf_ops.specs.Attribute.{change_value, object_of}
use Rattle.gf_ops.specs.OperationOrder.{IsConcurrent}

-- the changes c and d set one attribute, to different values
pub record SetApart (c d : Change) : Type 0 where
  pub attribute : Attr
  pub first : Value
  pub second : Value
  pub first_given : change_value c attribute ≡ Some first
  pub second_given : change_value d attribute ≡ Some second
  pub differ : first ≢ second

-- a and b are concurrent, concern one object and set one attribute to different values
pub record DirectConflict (a b : Op) : Type 0 where
  pub concurrent : IsConcurrent a b
  pub one_object : object_of a ≡ object_of b
  pub apart : SetApart a.change b.change
