-- Whether an operation knows the object that it changes, and whether its new value suits that
-- object (this project's choice).
use Rattle.std.specs.Prelude.{List, IsTrue, ⊤}
use Rattle.gf_ops.specs.declared.op.Op.{Op}
use Rattle.gf_ops.specs.declared.op.ObjectId.{ObjectId}
use Rattle.gf_ops.specs.declared.change.Change.{Change}
use Rattle.gf_ops.specs.declared.change.Change.TheVariants.{Create, Set}
use Rattle.gf_ops.specs.declared.change.Value.{Value}
use Rattle.gf_ops.specs.Attribute.{Kind, suits}
use Rattle.gf_ops.specs.HasOperation.{IsOfKind}
use Rattle.gf_ops.specs.OperationOrder.{Precedes}

-- the operation of h that made the object o, as one of kind k, comes before a
pub record Knows (h : List Op) (a : Op) (o : ObjectId) (k : Kind) : Type 0 where
  pub made : IsOfKind h o k
  pub before : Precedes made.op a

-- a knows the object o, of some kind
pub record KnowsSome (h : List Op) (a : Op) (o : ObjectId) : Type 0 where
  pub kind : Kind
  pub known : Knows h a o kind

-- a knows the object o, of a kind that v suits
pub record KnowsSuited (h : List Op) (a : Op) (o : ObjectId) (v : Value) : Type 0 where
  pub kind : Kind
  pub known : Knows h a o kind
  pub suited : IsTrue (suits kind v)

-- by the change c, a makes an object or changes one that it knows
abbrev pub IsFounded : List Op → Op → Change → Type 0
IsFounded h a (Create start) = ⊤
IsFounded h a (Set o v aim) = KnowsSome h a o

-- by the change c, a makes an object or gives one that it knows a value that suits it
abbrev pub IsSuited : List Op → Op → Change → Type 0
IsSuited h a (Create start) = ⊤
IsSuited h a (Set o v aim) = KnowsSuited h a o v
