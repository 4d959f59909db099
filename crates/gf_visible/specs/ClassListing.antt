-- Classes of which some are met first: no other one shows, or conflicts with one that hides.
-- No public clause cites this module.
use Rattle.std.specs.Prelude.{◌≡◌, ◌↔◌, ℕ, ◌+◌, ◌^◌, ◌<◌, true, List, All, Contains, filter, length}
use Rattle.gf_maximal.specs.LargestSets.{IsRising}
use Rattle.gf_maximal.specs.Rows.{conflict}
use Rattle.gf_ops.specs.OperationOrder.{IsSite}
use Rattle.gf_visible.specs.ClassSays.{TimelineState, covers, hides, is_deciding, said}
use Rattle.gf_visible.specs.Seen.{IsCalm, IsSeenPart}

-- hs are the classes of used that hide, each at a site
pub record AreHiders (t : TimelineState) (used hs : List ℕ) : Type 0 where
  pub rises : IsRising used
  pub below : (k : ℕ) → Contains used k → k < length t.rows
  pub exactly : (k : ℕ) → Contains hs k ↔ (Contains used k × (hides t.says k ≡ true))
  pub sites : (k : ℕ) → Contains hs k → IsSite (said t.says k).site

-- ds are the classes of used that hide, show, or conflict with one of the hiders hs
pub record AreDeciding (t : TimelineState) (used hs ds : List ℕ) : Type 0 where
  pub is : ds ≡ filter (is_deciding t.rows t.says hs) used
  pub rises : IsRising ds
  pub bounded : All (λ k. k + 1 < 2 ^ 64) ds

-- us are classes of used, with the sets gs that may show, and every other class is calm
pub record IsLead (t : TimelineState) (used hs us : List ℕ) (gs : List (List ℕ)) : Type 0 where
  pub part : IsSeenPart (covers t.says) (conflict t.rows) hs us gs
  pub within : (a : ℕ) → Contains us a → Contains used a
  pub calm : (a : ℕ) → Contains used a → ¬ (Contains us a)
      → IsCalm (covers t.says) (conflict t.rows) hs a
