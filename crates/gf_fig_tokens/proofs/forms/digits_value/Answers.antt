use Rattle.std.proofs.Common.{◌≤◌, arith}
use Rattle.gf_fig_tokens.proofs.Powers.{ten_pow_small}
use Rattle.gf_fig_tokens.proofs.forms.digits_value.Goals as goal

pub overflow_mul-n : goal.overflow_mul-n
overflow_mul-n c =
    let few : c.loop-d.d-index ≤ 18 = omega (arith, c.requires.few, c.loop-d-test.true) in
    omega (arith, c.loop-d.invariant.1, ten_pow_small c.loop-d.d-index 18 few)

pub overflow_add-n : goal.overflow_add-n
overflow_add-n c =
    let few : c.loop-d.d-index ≤ 18 = omega (arith, c.requires.few, c.loop-d-test.true) in
    omega (
      arith,
      c.loop-d.invariant.1,
      ten_pow_small c.loop-d.d-index 18 few,
      c.type_inv.digits c.loop-d.d-index,
    )

pub returns-clause-small : goal.returns-clause-small
returns-clause-small c =
    let few : c.loop-d.d-index ≤ 18 = omega (arith, c.requires.few, c.loop-d.auto.d-index-end) in
    omega (arith, c.loop-d.invariant.1, ten_pow_small c.loop-d.d-index 18 few)
