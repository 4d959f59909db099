-- The operations that can be delivered from a list of offered ones (this project's choice, over
-- causal delivery).
use Rattle.std.specs.Prelude.{◌≡◌, ◌≢◌, ◌↔◌, List, [], ◌∷◌, ◌++◌}
use Rattle.std.specs.Prelude.{AllPairs, Contains}
use Rattle.gf_ops.specs.declared.op.Op.{Op}
use Rattle.gf_causal.specs.Ready.{IsReady, NoneIsReady}

-- equal ids are equal operations
abbrev pub AreOneById : List Op → Type 0
AreOneById ops = (a b : Op) → Contains ops a → Contains ops b → a.id ≡ b.id → a ≡ b

-- no two of the operations have one id
abbrev pub HaveOwnIds : List Op → Type 0
HaveOwnIds ops = AllPairs (λ a b. a.id ≢ b.id) ops

-- each of the operations is ready behind those before it
pub data AreReady : List Op → Type 0 where
  none : AreReady []
  next : {h : List Op} {a : Op} → AreReady h → IsReady h a → AreReady (h ++ a ∷ [])

-- the added operations are offered ones without repeats, and each is ready behind those before it
pub record IsDelivery (offered added : List Op) : Type 0 where
  pub from_offered : (a : Op) → Contains added a → Contains offered a
  pub once : HaveOwnIds added
  pub in_turn : AreReady added

-- the added operations are a delivery of the offered ones behind which none of these is ready
pub record IsLastDelivery (offered added : List Op) : Type 0 where
  pub delivery : IsDelivery offered added
  pub last : NoneIsReady added offered

-- the offered operations have a delivery behind which none of them is ready
pub record HasLastDelivery (offered : List Op) : Type 0 where
  pub added : List Op
  pub is_last : IsLastDelivery offered added

-- a stands in a delivery of the offered operations
pub record IsDelivered (offered : List Op) (a : Op) : Type 0 where
  pub added : List Op
  pub delivery : IsDelivery offered added
  pub contained : Contains added a

-- the list has the delivered part of the offered operations: those that stand in some delivery, and
-- no others
abbrev pub IsDeliveredPart : List Op → List Op → Type 0
IsDeliveredPart offered ops = (a : Op) → Contains ops a ↔ IsDelivered offered a

-- both lists have the same operations
abbrev pub HaveSame : List Op → List Op → Type 0
HaveSame ops others = (a : Op) → Contains ops a ↔ Contains others a
