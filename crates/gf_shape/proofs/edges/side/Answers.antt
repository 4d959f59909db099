use Rattle.std.proofs.Common.{rules, ◌≡◌, w32, w64, FitsSigned, ◌-ℤ◌}
use mir.Syntax.{w128}
use Rattle.std.proofs.lemmas.Int.{to_z-of_z}
use Rattle.gf_shape.specs.Edges.{side}
use Rattle.gf_shape.proofs.ProductLemmas.{difference_fits}
use Rattle.gf_shape.proofs.edges.side.Goals as goal

pub overflow_sub-result : goal.overflow_sub-result
overflow_sub-result c =
    let f5 : FitsSigned w128 c.product-climb.result = search rules in
    let f6 : FitsSigned w128 c.product-reach.result = search rules in
    simp to_z-of_z (difference_fits c.product-climb.result c.product-reach.result
    c.product-climb.ensures.small c.product-reach.ensures.small)

pub returns : goal.returns
unfolding side
returns c =
    let f1 : FitsSigned w64 c.gap.result = search rules in
    let f2 : FitsSigned w64 c.gap-2.result = search rules in
    let f3 : FitsSigned w64 c.gap-3.result = search rules in
    let f4 : FitsSigned w64 c.gap-4.result = search rules in
    let f5 : FitsSigned w128 c.product-climb.result = search rules in
    let f6 : FitsSigned w128 c.product-reach.result = search rules in
    let ax : FitsSigned w32 c.args.a.x = search rules in
    let ay : FitsSigned w32 c.args.a.y = search rules in
    let bx : FitsSigned w32 c.args.b.x = search rules in
    let by : FitsSigned w32 c.args.b.y = search rules in
    let dx : FitsSigned w32 c.args.d.x = search rules in
    let dy : FitsSigned w32 c.args.d.y = search rules in
    let f7 = difference_fits c.product-climb.result c.product-reach.result
    c.product-climb.ensures.small c.product-reach.ensures.small in
    let g1 = simp to_z-of_z at c.gap.ensures.value in
    let g2 = simp to_z-of_z at c.gap-2.ensures.value in
    let g3 = simp to_z-of_z at c.gap-3.ensures.value in
    let g4 = simp to_z-of_z at c.gap-4.ensures.value in
    let climb = simp to_z-of_z at c.product-climb.ensures.value in
    let reach = simp to_z-of_z at c.product-reach.ensures.value in
    let sides : c.product-climb.result -ℤ c.product-reach.result ≡ side (c.args.a, c.args.b)
    c.args.d = cc in
    simp to_z-of_z sides
