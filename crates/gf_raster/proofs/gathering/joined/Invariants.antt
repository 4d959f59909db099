use Rattle.std.proofs.Common.{◌≡◌, ◌++◌, flat_map}
use Rattle.std.specs.Vec.Iter.{into_iter_items}
use Rattle.gf_raster.proofs.gathering.joined.Given as goal

abbrev pub invariant-loop-share : goal.invariant-loop-share
invariant-loop-share l = l.rows.items ++ flat_map (λ s. s.items)
    (into_iter_items l.share-iterator) ≡ flat_map (λ s. s.items) l.fn.shares.items
