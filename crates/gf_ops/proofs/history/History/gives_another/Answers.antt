use Rattle.std.proofs.Common.{◌≡◌, true, sym, ◌∙◌, subst}
use Rattle.gf_ops.specs.declared.op.Op.{Op}
use Rattle.gf_ops.specs.ConflictTests.{sets_another}
use Rattle.gf_ops.proofs.AimLemmas.{never}
use Rattle.gf_ops.proofs.ValidityLemmas.{same_op}
use Rattle.gf_ops.proofs.history.History.gives_another.Goals as goal

pub returns-in-Some : goal.returns-in-Some
returns-in-Some c =
    let found = c.in-Some.ensures.found in (
      λ t. record {
        op = c.in-Some.op.now;
        contained = found.0;
        id = found.1;
        another = sym c.sets_another.ensures ∙ t;
      },
      λ g.
          let same = same_op c.args.self.now.ops c.recall_valid.ensures g.op c.in-Some.op.now
          g.contained found.0 (g.id ∙ sym found.1) in
          c.sets_another.ensures ∙ subst (λ (z : Op). sets_another z.change c.args.value.now ≡ true)
          same g.another,
    )

pub returns-in-None : goal.returns-in-None
returns-in-None c = never (λ g. c.in-None.ensures.none g.op g.contained g.id)
