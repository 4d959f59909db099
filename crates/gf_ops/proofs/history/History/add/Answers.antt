use Rattle.std.proofs.Common.{◌≡◌, Err, ap, sym, ◌∙◌}
use Rattle.gf_ops.specs.declared.faults.OpFault.TheVariants.{BadAim}
use Rattle.gf_ops.specs.declared.faults.AddFault.TheVariants.{Op}
use Rattle.gf_ops.proofs.history.History.add.Goals as goal

pub returns-in-Err-clause-bad_aim : goal.returns-in-Err-clause-bad_aim
returns-in-Err-clause-bad_aim c = (
  λ e. let f : c.in-Err.fault ≡ BadAim = cc in c.check.ensures.bad_aim.0 (c.in-Err.is ∙ ap Err f),
  λ r. let e = sym c.in-Err.is ∙ c.check.ensures.bad_aim.1 r in
      let f : c.in-Err.fault ≡ BadAim = cc in ap (λ g. Err (Op g)) f,
)
