use Rattle.std.proofs.Common.{FitsSigned, rules, w32}
use Rattle.std.proofs.lemmas.Int.{to_z-of_z}
use Rattle.gf_fit.proofs.FittingLemmas.{fitted_step, over_bounds}
use Rattle.gf_fit.proofs.fitting.window_over.Goals as goal

pub returns : goal.returns
returns c =
    let frame = c.args.frame in
    let b = c.args.bounds in
    let wide = c.width-width.ensures.width in
    let high = c.height-height.ensures.height in
    let l : FitsSigned w32 b.low.x = search rules in
    let t : FitsSigned w32 b.low.y = search rules in
    let r : FitsSigned w32 b.high.x = search rules in
    let u : FitsSigned w32 b.high.y = search rules in
    let fx : FitsSigned w32 c.first-x.result = search rules in
    let fy : FitsSigned w32 c.first-y.result = search rules in
    let columns = simp to_z-of_z at c.step_along.ensures.least in
    let rows = simp to_z-of_z at c.step_along-2.ensures.least in
    let step = fitted_step frame b c.step_along.result c.step_along-2.result
    c.step_along.ensures.lawful c.step_along-2.ensures.lawful
    (rw wide at columns) (rw high at rows) in
    let x = simp to_z-of_z at c.first-x.ensures.first in
    let y = simp to_z-of_z at c.first-y.ensures.first in
    let is = simp to_z-of_z at c.window_at.ensures in
    over_bounds frame b c.window_at.result c.max-step.result c.first-x.result c.first-y.result is
    (rw c.max-step.ensures step) (rw wide at x) (rw high at y)
