-- How far the operations reach that a clock counts or a site made.
use Rattle.std.specs.Prelude.{◌≡◌, ◌⊎◌, ℕ, ◌≤◌, Bool, true, ◌||◌, nat_eq, nat_le, List, Contains}
use Rattle.std.specs.Prelude.{if◌then◌else◌}
use Rattle.gf_ops.specs.declared.op.Op.{Op}
use Rattle.gf_ops.specs.declared.op.Clock.{Clock}
use Rattle.gf_ops.specs.OperationOrder.{IsSite, entry}

-- the clock c counts a, or a is of site s
abbrev pub is_own_or_counted : ℕ → Clock → Op → Bool
is_own_or_counted s c a = nat_eq a.id.site s || nat_le a.id.seq (entry c a.id.site)

-- how many operations of site t there are up to x, and x among them
abbrev pub reach_at : ℕ → Op → ℕ
reach_at t x = if nat_eq x.id.site t then x.id.seq else entry x.past t

-- one of the operations of h that c counts or site s made reaches to n
pub record ReachesTo (s : ℕ) (c : Clock) (t : ℕ) (h : List Op) (n : ℕ) : Type 0 where
  pub op : Op
  pub contained : Contains h op
  pub counted : is_own_or_counted s c op ≡ true
  pub reach : n ≤ reach_at t op

-- n is the greatest number of site t that the operations of h reach that c counts or site s made,
-- or 0
pub record IsReach (s : ℕ) (c : Clock) (t : ℕ) (h : List Op) (n : ℕ) : Type 0 where
  pub most : (x : Op) → Contains h x → is_own_or_counted s c x ≡ true → reach_at t x ≤ n
  pub least : (n ≡ 0) ⊎ ReachesTo s c t h n

-- the clock has the reach for each site
abbrev pub AreReached : ℕ → Clock → List Op → Clock → Type 0
AreReached s c h reach = (t : ℕ) → IsSite t → IsReach s c t h (entry reach t)

-- the clock counts a
abbrev pub is_counted : Clock → Op → Bool
is_counted reach a = nat_le a.id.seq (entry reach a.id.site)
