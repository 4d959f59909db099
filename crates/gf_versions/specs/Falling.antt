-- The test by which versions are sorted. No public clause cites this module.
use Rattle.std.specs.Prelude.{Bool}
use Rattle.std.specs.Ordering.{is_lt}
use Rattle.gf_versions.specs.declared.placed.Placed.{Placed}
use Rattle.gf_versions.specs.Above.{key_cmp}

-- the key of i is above that of j, so i stands before j
abbrev pub falls_by : {S : Type 0} → Placed S → Placed S → Bool
falls_by i j = is_lt (key_cmp j.key i.key)
