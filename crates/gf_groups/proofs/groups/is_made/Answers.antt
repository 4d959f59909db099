use Rattle.std.proofs.Common.{◌≡◌, None, sym, ap, ◌∙◌}
use Rattle.gf_ops.specs.declared.op.Op.{Op}
use Rattle.gf_ops.specs.Attribute.{made_kind}
use Rattle.gf_ops.proofs.ValidityLemmas.{same_op}
use Rattle.gf_groups.proofs.groups.is_made.Goals as goal

pub returns-in_default : goal.returns-in_default
returns-in_default c = (
  λ t. absurd cc,
  λ m.
      let found = c.in-Some.ensures.found in
      let one = same_op c.args.history.now.ops c.recall_valid.ensures m.made.op
      c.in-Some.maker.now m.made.contained found.0 (m.made.id ∙ sym found.1) in
      let none : made_kind m.made.op.change ≡ None = ap (λ (a : Op). made_kind a.change) one
      ∙ ap made_kind c.in_default.is in
      let some = m.made.such in absurd cc,
)

pub returns-in-None : goal.returns-in-None
returns-in-None c = (
  λ t. absurd cc,
  λ m. absurd (c.in-None.ensures.none m.made.op m.made.contained m.made.id),
)
