use Rattle.std.proofs.Common.{◌≡◌, ℕ, true, take}
use Rattle.std.specs.Prelude.{◌↔◌, Contains, Some, slice_get}
use Rattle.gf_classes.specs.Rivals.{have_one_value}
use Rattle.gf_classes.proofs.rivals.equal.Given as goal

abbrev pub invariant-loop-rank : goal.invariant-loop-rank
invariant-loop-rank l = (n : ℕ)
    → Contains l.some n ↔ (Contains (take l.rank-index l.rank-items) n
    × (have_one_value l.ops (slice_get l.setters n) (Some l.x) ≡ true))
