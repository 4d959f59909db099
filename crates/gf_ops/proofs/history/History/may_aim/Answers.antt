use Rattle.std.proofs.Common.{refl, subst, sym}
use Rattle.std.specs.Prelude.{Contains}
use Rattle.gf_ops.specs.Aims.{MayAimAt}
use Rattle.gf_ops.proofs.AimLemmas.{all_before_all, all_before_more}
use Rattle.gf_ops.proofs.history.History.may_aim.Goals as goal

pub loop-id-preserved : goal.loop-id-preserved
loop-id-preserved c = all_before_more (MayAimAt c.args.self.now.ops c.args.op.now)
    c.aim-id-items.result.now c.loop-id.id-index _ c.loop-id-test.true c.loop-id.invariant
    (c.may_aim_at.ensures.0 c.if-not-may_aim_at.false)

pub returns : goal.returns
returns c = (
  λ t i m. all_before_all (MayAimAt c.args.self.now.ops c.args.op.now) c.aim-id-items.result.now
      c.loop-id.id-index c.loop-id.invariant c.loop-id-test.false i
      (subst (λ is. Contains is i) (sym c.aim-id-items.ensures) m),
  λ m. refl,
)
