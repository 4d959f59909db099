use Rattle.std.proofs.Common.{◌≡◌, get_or, length, map, refl, subst, take, ◌∷◌, []}
use Rattle.std.specs.Prelude.{None, Some, slice_get}
use Rattle.std.proofs.lemmas.List.{map-append, take_more}
use Rattle.std.proofs.lemmas.Option.{slice_get_past, slice_get_read}
use Rattle.gf_listing.proofs.PositionLemmas.{none_more, one_more}
use Rattle.gf_listing.proofs.versions.operations_at.Goals as goal
use Rattle.gf_listing.proofs.versions.operations_at.Goals.{in-Some+in_ok-push, in_default}

pub loop-position-preserved : goal.loop-position-preserved
loop-position-preserved c =
    let h = c.args.history.now.ops in
    let us = c.args.positions.now in
    let n = c.loop-position.position-index in
    let k = get_or us n 0 in
    rw (take_more us n 0 c.loop-position-test.true) (elim c.match-get.branch [
      | in-Some+in_ok-push w ↦
          let found = c.loop-position.found.items in
          rw (
            w.found-is,
            w.in_ok-push.ensures.items,
            map-append (λ a. a.now) found (w.in-Some.op ∷ []),
          )
          (one_more h (take n us) k (map (λ a. a.now) found) w.in-Some.op.now
          c.loop-position.invariant (subst (λ ops. slice_get ops k ≡ Some w.in-Some.op.now)
          c.ops-ops.ensures.ops (slice_get_read c.ops-ops.result.now
          (length c.ops-ops.result.now) k w.in-Some.op.now refl w.in-Some.ensures.lookup.3.0
          w.in-Some.ensures.lookup.1)))
      | in_default w ↦ rw (w.found-is, c.loop-position.invariant)
          (none_more h (take n us) k (subst (λ ops. slice_get ops k ≡ None)
          c.ops-ops.ensures.ops (slice_get_past c.ops-ops.result.now k
          w.in_default.ensures.lookup.3)))
    ])
