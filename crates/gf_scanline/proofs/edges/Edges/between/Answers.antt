use Rattle.std.proofs.Common.{arith, IsTrue, length, drop, ◌-◌}
use Rattle.std.proofs.lemmas.Int.{to_z-of_z}
use Rattle.std.proofs.lemmas.List.Elements.{All-drop, All-get_or, All-take}
use Rattle.gf_plane.specs.Reach.{is_within_reach}
use Rattle.gf_scanline.proofs.EdgeLemmas.{origin, reached_along, ring_tells}
use Rattle.gf_scanline.proofs.edges.Edges.between.Goals as goal

pub invariant_of-result : goal.invariant_of-result
invariant_of-result c =
    let l = c.ranges.low in
    let h = c.ranges.high in
    let points = c.points-points.result.now in
    let reach = rw (← c.points-points.ensures.points) at c.points-points.ensures.lawful.reach in
    let least = rw (← c.points-points.ensures.points) at c.points-points.ensures.lawful.least in
    let e = rw c.new-edges.ensures.items at (simp to_z-of_z at c.in_ok-add_along.ensures) in
    rw e
    (reached_along c.args.low c.args.high _ _
    (All-get_or (λ p. IsTrue (is_within_reach p)) points 0 origin (omega arith) reach)
    (All-take (λ p. IsTrue (is_within_reach p)) (length points - 1) (drop 1 points)
    (All-drop (λ p. IsTrue (is_within_reach p)) 1 points reach)))

pub returns : goal.returns
returns c = λ y from upto.
    let l = c.ranges.low in
    let h = c.ranges.high in
    let e = rw c.new-edges.ensures.items at (simp to_z-of_z at c.in_ok-add_along.ensures) in
    let tells = ring_tells c.args.low c.args.high y from upto c.args.chain.now
    c.points-points.result.now c.points-points.ensures.lawful c.points-points.ensures.points in
    rw (e, ← c.points-points.ensures.points) tells
