-- Which operations a history has: under an id, on an object, of a kind (this project's choice).
use Rattle.std.specs.Prelude.{◌≡◌, List, Contains, Some}
use Rattle.gf_ops.specs.declared.op.Op.{Op}
use Rattle.gf_ops.specs.declared.op.OpId.{OpId}
use Rattle.gf_ops.specs.declared.op.ObjectId.{ObjectId}
use Rattle.gf_ops.specs.Attribute.{Kind, made_kind, object_of}

-- h has an operation under id i, of which P holds
pub record HasSuch (h : List Op) (i : OpId) (P : Op → Type 0) : Type 0 where
  pub op : Op
  pub contained : Contains h op
  pub id : op.id ≡ i
  pub such : P op

-- h has an operation under id i, on the object o
abbrev pub HasOn : List Op → ObjectId → OpId → Type 0
HasOn h o i = HasSuch h i (λ op. object_of op ≡ o)

-- h has an operation that made the object o, as one of kind k
abbrev pub IsOfKind : List Op → ObjectId → Kind → Type 0
IsOfKind h o k = HasSuch h o.0 (λ maker. made_kind maker.change ≡ Some k)
