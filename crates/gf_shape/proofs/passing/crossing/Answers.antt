use Rattle.std.proofs.Common.{refl, rules, FitsSigned, w32, w64}
use Rattle.std.proofs.lemmas.Bool.{and_parts}
use Rattle.std.proofs.lemmas.Int.{to_z-of_z}
use Rattle.gf_shape.proofs.RowEdges.{climbing_heights, falling_heights}
use Rattle.gf_shape.proofs.passing.crossing.Goals as goal

pub rise-requires : goal.rise-requires
rise-requires c =
    let fy = c.ranges.y in
    let fa : FitsSigned w32 c.args.a.y = search rules in
    let fb : FitsSigned w32 c.args.b.y = search rules in
    simp to_z-of_z (climbing_heights c.args.a.y c.args.b.y c.args.y c.requires.passes
    (simp to_z-of_z at c.if-a-y.true))

pub fall-requires : goal.fall-requires
fall-requires c =
    let fy = c.ranges.y in
    let fa : FitsSigned w32 c.args.a.y = search rules in
    let fb : FitsSigned w32 c.args.b.y = search rules in
    simp to_z-of_z (falling_heights c.args.a.y c.args.b.y c.args.y c.requires.passes
    (simp to_z-of_z at c.if-a-y.false))

pub returns-then-a-y : goal.returns-then-a-y
returns-then-a-y c =
    let fy = c.ranges.y in
    let fa : FitsSigned w32 c.args.a.y = search rules in
    let fb : FitsSigned w32 c.args.b.y = search rules in
    let fx : FitsSigned w32 c.args.a.x = search rules in
    let gx : FitsSigned w32 c.args.b.x = search rules in
    let rise : FitsSigned w64 c.rise.result = search rules in
    let run : FitsSigned w64 c.run.result = search rules in
    let place = simp to_z-of_z at c.along.ensures in
    let far = simp to_z-of_z at c.rise.ensures.value in
    let high = simp to_z-of_z at c.run.ensures.value in
    rw (place, far, high, simp to_z-of_z at c.if-a-y.true) refl

pub returns-else-a-y : goal.returns-else-a-y
returns-else-a-y c =
    let fy = c.ranges.y in
    let fa : FitsSigned w32 c.args.a.y = search rules in
    let fb : FitsSigned w32 c.args.b.y = search rules in
    let fx : FitsSigned w32 c.args.a.x = search rules in
    let gx : FitsSigned w32 c.args.b.x = search rules in
    let fall : FitsSigned w64 c.fall.result = search rules in
    let run : FitsSigned w64 c.run-else-a-y.result = search rules in
    let place = simp to_z-of_z at c.along-else-a-y.ensures in
    let far = simp to_z-of_z at c.fall.ensures.value in
    let high = simp to_z-of_z at c.run-else-a-y.ensures.value in
    rw (place, far, high, simp to_z-of_z at c.if-a-y.false) refl

pub run-requires-clause-from : goal.run-requires-clause-from
run-requires-clause-from c = let f : FitsSigned w32 c.args.a.y = search rules in
    simp to_z-of_z (and_parts _ _ c.requires.a).1

pub run-requires-clause-to : goal.run-requires-clause-to
run-requires-clause-to c = let f : FitsSigned w32 c.args.b.y = search rules in
    simp to_z-of_z (and_parts _ _ c.requires.b).1

pub along-requires-clause-from : goal.along-requires-clause-from
along-requires-clause-from c = let f : FitsSigned w32 c.args.a.x = search rules in
    simp to_z-of_z (and_parts _ _ c.requires.a).0

pub along-requires-clause-to : goal.along-requires-clause-to
along-requires-clause-to c = let f : FitsSigned w32 c.args.b.x = search rules in
    simp to_z-of_z (and_parts _ _ c.requires.b).0

pub run-requires-else-a-y-clause-from : goal.run-requires-else-a-y-clause-from
run-requires-else-a-y-clause-from c = let f : FitsSigned w32 c.args.b.y = search rules in
    simp to_z-of_z (and_parts _ _ c.requires.b).1

pub run-requires-else-a-y-clause-to : goal.run-requires-else-a-y-clause-to
run-requires-else-a-y-clause-to c = let f : FitsSigned w32 c.args.a.y = search rules in
    simp to_z-of_z (and_parts _ _ c.requires.a).1

pub along-requires-else-a-y-clause-from : goal.along-requires-else-a-y-clause-from
along-requires-else-a-y-clause-from c = let f : FitsSigned w32 c.args.a.x = search rules in
    simp to_z-of_z (and_parts _ _ c.requires.a).0

pub along-requires-else-a-y-clause-to : goal.along-requires-else-a-y-clause-to
along-requires-else-a-y-clause-to c = let f : FitsSigned w32 c.args.b.x = search rules in
    simp to_z-of_z (and_parts _ _ c.requires.b).0

pub along-requires-clause-rise : goal.along-requires-clause-rise
along-requires-clause-rise c =
    let fa : FitsSigned w32 c.args.a.y = search rules in
    let fb : FitsSigned w32 c.args.b.y = search rules in
    let far : FitsSigned w64 c.rise.result = search rules in
    let run : FitsSigned w64 c.run.result = search rules in
    let heights = simp to_z-of_z at c.rise.ensures.within in
    let high = simp to_z-of_z at c.run.ensures.value in
    simp to_z-of_z (heights.0, rw high heights.1)

pub along-requires-clause-height : goal.along-requires-clause-height
along-requires-clause-height c =
    let fa : FitsSigned w32 c.args.a.y = search rules in
    let fb : FitsSigned w32 c.args.b.y = search rules in
    let far : FitsSigned w64 c.rise.result = search rules in
    let run : FitsSigned w64 c.run.result = search rules in
    let heights = simp to_z-of_z at c.rise.ensures.within in
    let high = simp to_z-of_z at c.run.ensures.value in
    simp to_z-of_z (rw high heights.2, c.run.ensures.small)

pub along-requires-else-a-y-clause-rise : goal.along-requires-else-a-y-clause-rise
along-requires-else-a-y-clause-rise c =
    let fa : FitsSigned w32 c.args.a.y = search rules in
    let fb : FitsSigned w32 c.args.b.y = search rules in
    let far : FitsSigned w64 c.fall.result = search rules in
    let run : FitsSigned w64 c.run-else-a-y.result = search rules in
    let heights = simp to_z-of_z at c.fall.ensures.within in
    let high = simp to_z-of_z at c.run-else-a-y.ensures.value in
    simp to_z-of_z (heights.0, rw high heights.1)

pub along-requires-else-a-y-clause-height : goal.along-requires-else-a-y-clause-height
along-requires-else-a-y-clause-height c =
    let fa : FitsSigned w32 c.args.a.y = search rules in
    let fb : FitsSigned w32 c.args.b.y = search rules in
    let far : FitsSigned w64 c.fall.result = search rules in
    let run : FitsSigned w64 c.run-else-a-y.result = search rules in
    let heights = simp to_z-of_z at c.fall.ensures.within in
    let high = simp to_z-of_z at c.run-else-a-y.ensures.value in
    simp to_z-of_z (rw high heights.2, c.run-else-a-y.ensures.small)
