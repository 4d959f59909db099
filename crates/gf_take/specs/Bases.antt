-- The base of what a drawing knew, and new operations of one site behind it (this project's
-- choice, over causal delivery).
use Rattle.std.specs.Prelude.{◌≡◌, ◌≢◌, ◌⊎◌, ◌↔◌, ℕ, ◌≤◌, List, ◌++◌, AllPairs, Contains}
use Rattle.gf_ops.specs.declared.op.Op.{Op}
use Rattle.gf_ops.specs.declared.op.Clock.{Clock}
use Rattle.gf_ops.specs.declared.change.Change.{Change}
use Rattle.gf_ops.specs.Accepted.{AreAccepted}
use Rattle.gf_ops.specs.OperationOrder.{Precedes, entry}
use Rattle.gf_causal.specs.DeliveredPart.{HaveSame}
use Rattle.gf_replay.specs.Denoting.{Delivers}
use Rattle.gf_causal.specs.Blocking.{Blocks}
use Rattle.gf_site.specs.MadeEach.{MakesEach}

-- the operations b are some of h, and with each of them all that it knows
pub record IsClosedPart (h b : List Op) : Type 0 where
  pub within : (a : Op) → Contains b a → Contains h a
  pub distinct : AllPairs (λ a c. a.id ≢ c.id) b
  pub closed : (a x : Op) → Contains b a → Contains h x → Precedes x a → Contains b x

-- the clock c counts a, or a is of site s
abbrev pub IsOwnOrCounted : ℕ → Clock → Op → Type 0
IsOwnOrCounted s c a = (a.id.seq ≤ entry c a.id.site) ⊎ (a.id.site ≡ s)

-- a is an operation of h that c counts or site s made, or that one of these knows
pub record IsKnownTo (s : ℕ) (c : Clock) (h : List Op) (a : Op) : Type 0 where
  pub contained : Contains h a
  pub counted : Op
  pub there : Contains h counted
  pub is_own_or_counted : IsOwnOrCounted s c counted
  pub known : (a ≡ counted) ⊎ Precedes a counted

-- b is the base of h for site s: the operations that c counts, those of s, and all that they know,
-- each accepted behind those before it
pub record IsBase (s : ℕ) (c : Clock) (h b : List Op) : Type 0 where
  pub exactly : (a : Op) → Contains b a ↔ IsKnownTo s c h a
  pub accepted : AreAccepted b

-- the operations ops deliver h, each accepted in its turn, and none blocks site s
pub record AreRead (s : ℕ) (ops h : List Op) : Type 0 where
  pub delivers : Delivers ops h
  pub accepted : AreAccepted h
  pub free : (a : Op) → Contains ops a → ¬ (Blocks s h a)

-- all are the operations ops, which deliver h, and new ones that site s makes behind its base of h,
-- in whatever order and however often
pub record JoinsTake (s : ℕ) (c : Clock) (ops h b new all : List Op) : Type 0 where
  pub read : AreRead s ops h
  pub base : IsBase s c h b
  pub changes : List Change
  pub makes : MakesEach s b changes new
  pub same : HaveSame all (ops ++ new)
