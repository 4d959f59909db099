use Rattle.std.proofs.Common.{subst, length}
use Rattle.gf_classes.specs.Setters.{AreTaken}
use Rattle.gf_classes.proofs.SetterLemmas.{sorted_setters}
use Rattle.gf_classes.proofs.setters.setters.Goals as goal

pub returns : goal.returns
returns c = λ o on. sorted_setters c.args.history.now.ops
    c.ops.ensures.valid o c.args.positions.now on
    c.in_ok-all.all.items c.in_ok-setters.setters.items
    (subst (λ h. AreTaken h c.args.positions.now (length c.args.positions.now)
    c.in_ok-all.all.items) c.ops.ensures.ops c.in_ok-all.ensures)
    c.in_ok-setters.ensures.permutation c.in_ok-setters.ensures.sorted
