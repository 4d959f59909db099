use Rattle.std.proofs.Common.{subst}
use Rattle.gf_causal.specs.HeldOperations.{IsFree}
use Rattle.gf_worker.proofs.work.Work.has.Goals as goal

pub returns-in-None-clause-no : goal.returns-in-None-clause-no
returns-in-None-clause-no c = λ e. subst (λ l. IsFree l c.args.id) c.history.ensures.ops
    c.in-None.ensures.none
