-- Which sets of operations are histories (after Sun and Chen's causality, ACM TOCHI 9(1), 2002; the
-- order of the list says nothing).
use Rattle.std.specs.Prelude.{◌≡◌, ◌≢◌, ℕ, ◌+◌, ◌≤◌, List, AllPairs}
use Rattle.std.specs.Prelude.{Contains}
use Rattle.gf_ops.specs.declared.op.Op.{Op}
use Rattle.gf_ops.specs.declared.op.OpId.{OpId}
use Rattle.gf_ops.specs.declared.op.Clock.{Clock}
use Rattle.gf_ops.specs.Aims.{IsAimed}
use Rattle.gf_ops.specs.HasOperation.{HasSuch}
use Rattle.gf_ops.specs.Limits.{IsInRange}
use Rattle.gf_ops.specs.KnownObject.{IsSuited}
use Rattle.gf_ops.specs.OperationOrder.{IsSite, entry}

-- no entry of clock c is above that of clock d
abbrev pub IsWithin : Clock → Clock → Type 0
IsWithin c d = (s : ℕ) → IsSite s → entry c s ≤ entry d s

-- clock c counts the operation under id i
pub record Counts (c : Clock) (i : OpId) : Type 0 where
  pub site : IsSite i.site
  pub first : 1 ≤ i.seq
  pub last : i.seq ≤ entry c i.site

-- h has an operation under id i, the past of which is within clock c
abbrev pub Has : List Op → Clock → OpId → Type 0
Has h c i = HasSuch h i (λ op. IsWithin op.past c)

-- the operations of h keep all limits, each under its own id. Each knows all of its site before it.
-- All that it knows is there, and knew no more. It makes an object, or gives one that it knows a
-- value that suits it. Its aim is a closed, compatible set of earlier operations of its object
pub record IsValid (h : List Op) : Type 0 where
  pub in_range : (a : Op) → Contains h a → IsInRange a
  pub distinct : AllPairs (λ a b. a.id ≢ b.id) h
  pub own : (a : Op) → Contains h a → entry a.past a.id.site + 1 ≡ a.id.seq
  pub closed : (a : Op) → Contains h a → (i : OpId) → Counts a.past i → Has h a.past i
  pub suited : (a : Op) → Contains h a → IsSuited h a a.change
  pub aimed : (a : Op) → Contains h a → IsAimed h a
