-- The positions of the operations on an object.
use Rattle.std.proofs.Common.{◌≡◌, ℕ, ◌<◌, ◌≤◌, Bool, true, List, [], length, sym, arith}
use Rattle.std.proofs.Common.{Bor}
use Rattle.std.specs.Prelude.{Option, Some, None, MatchOption, IfSome, Contains, ◌↔◌}
use Rattle.std.specs.Prelude.{slice_get}
use Rattle.std.specs.List.{HoldsAt, range_with_len}
use Rattle.std.specs.Ordering.{nat_cmp}
use Rattle.std.proofs.lemmas.Cmp.{nat_cmp_total}
use Rattle.std.proofs.lemmas.List.Kept.{IsStrictlySortedBy-filter}
use Rattle.gf_base.proofs.FilterLemmas.{Contains-filter}
use Rattle.gf_base.proofs.ListLemmas.{not_Contains-nil}
use Rattle.gf_base.proofs.RisingLemmas.{rising_front, rising_nil}
use Rattle.gf_maximal.specs.LargestSets.{IsRising}
use Rattle.gf_maximal.proofs.RunSetLemmas.{in_range, range_rises}
use Rattle.gf_ops.specs.declared.op.Op.{Op}
use Rattle.gf_ops.specs.declared.op.ObjectId.{ObjectId}
use Rattle.gf_table.specs.Positions.{is_on, positions_on}

module _ (h : List Op) (o : ObjectId) where
  -- the operation at the position i is on the object
  abbrev is_here : ℕ → Bool
  is_here i = is_on o (slice_get h i)

  pub Contains-positions_on : (i : ℕ) → Contains (positions_on h o) i
      ↔ ((i < length h) × (is_on o (slice_get h i) ≡ true))
  Contains-positions_on i = (
    λ c.
        let w = (Contains-filter is_here (range_with_len 0 (length h)) i).0 c in
        let l = ((in_range (length h) 0 i).0 w.0).1 in (omega arith, w.1),
    λ p.
        let l = p.0 in (Contains-filter is_here (range_with_len 0 (length h)) i).1
        ((in_range (length h) 0 i).1 (omega arith, omega arith), p.1),
  )

  pub positions_on-rising : IsRising (positions_on h o)
  positions_on-rising = IsStrictlySortedBy-filter nat_cmp is_here (range_with_len 0 (length h))
      (rising_front nat_cmp nat_cmp_total (range_with_len 0 (length h)) []
      (range_rises (length h) 0 [] (rising_nil nat_cmp nat_cmp_total)
      (λ y i. absurd (not_Contains-nil y i))))
