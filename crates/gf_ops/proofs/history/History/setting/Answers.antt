use Rattle.std.proofs.Common.{◌≡◌, ◌∙◌, sym, ap}
use Rattle.gf_ops.specs.declared.op.Op.{Op}
use Rattle.gf_ops.specs.declared.change.Change.TheVariants.{Create, Set}
use Rattle.gf_ops.specs.AimWalk.{SetsSome}
use Rattle.gf_ops.proofs.ValidityLemmas.{same_op}
use Rattle.gf_ops.proofs.history.History.setting.Goals as goal

pub returns-in_err-value-clause-none : goal.returns-in_err-value-clause-none
returns-in_err-value-clause-none c =
    let off : ¬ (SetsSome c.args.self.now.ops c.args.site c.args.id) = λ s.
    c.in_err-value.ensures.none s.at.op s.at.contained s.at.id in
    rw c.from_residual.ensures off

pub returns-in-Create-clause-none : goal.returns-in-Create-clause-none
returns-in-Create-clause-none c = λ s.
    let found = c.in_ok-value.ensures.found in
    let same = same_op c.args.self.now.ops c.recall_valid.ensures s.at.op c.in_ok-value.field-0.now
    s.at.contained found.0 (s.at.id ∙ sym found.1) in
    let e : Set s.at.sets.object s.value s.at.sets.aim ≡ Create c.in-Create.field-0 = sym
    s.at.sets.is ∙ (ap (λ (z : Op). z.change) same ∙ c.in-Create.is) in absurd cc
