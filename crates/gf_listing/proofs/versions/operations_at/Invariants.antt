use Rattle.std.proofs.Common.{◌≡◌, map, take}
use Rattle.std.specs.Prelude.{filter_map, slice_get}
use Rattle.gf_listing.proofs.versions.operations_at.Given as goal

abbrev pub invariant-loop-position : goal.invariant-loop-position
invariant-loop-position l = map (λ a. a.now) l.found.items
    ≡ filter_map (slice_get l.history.ops) (take l.position-index l.positions)
