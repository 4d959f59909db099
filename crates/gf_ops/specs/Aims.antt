-- The operations that an operation aims at: it is meant for the versions that hold all of them
-- (this project's choice).
use Rattle.std.specs.Prelude.{◌≡◌, ◌⊎◌, List, [], Contains}
use Rattle.gf_ops.specs.declared.op.Op.{Op}
use Rattle.gf_ops.specs.declared.op.OpId.{OpId}
use Rattle.gf_ops.specs.Attribute.{aim_of, object_of}
use Rattle.gf_ops.specs.DirectConflict.{DirectConflict}
use Rattle.gf_ops.specs.HasOperation.{HasOn}
use Rattle.gf_ops.specs.OperationOrder.{Precedes}

-- a aims at x, which h has
pub record AimsAt (h : List Op) (a x : Op) : Type 0 where
  pub contained : Contains h x
  pub aimed : Contains (aim_of a) x.id

-- x is a, or a aims at it
abbrev pub Brings : List Op → Op → Op → Type 0
Brings h a x = (x ≡ a) ⊎ AimsAt h a x

-- h has an operation under i before a, on its object, and a aims at all that this aims at
pub record MayAimAt (h : List Op) (a : Op) (i : OpId) : Type 0 where
  pub on : HasOn h (object_of a) i
  pub before : Precedes on.op a
  pub within : (j : OpId) → Contains (aim_of on.op) j → Contains (aim_of a) j

-- the aim of a has earlier operations of its object, is closed under aims, and no two of them
-- conflict
pub record IsAimed (h : List Op) (a : Op) : Type 0 where
  pub each : (i : OpId) → Contains (aim_of a) i → MayAimAt h a i
  pub compatible : (x y : Op) → AimsAt h a x → AimsAt h a y → ¬ (DirectConflict x y)

-- no operation of h aims at another one
abbrev pub HasNoAims : List Op → Type 0
HasNoAims h = (a : Op) → Contains h a → aim_of a ≡ []
