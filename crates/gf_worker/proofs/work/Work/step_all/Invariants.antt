use Rattle.std.proofs.Common.{length}
use Rattle.gf_worker.specs.Working.{Continues}
use Rattle.gf_worker.proofs.work.Work.step_all.Given as goal

abbrev pub invariant-loop : goal.invariant-loop
invariant-loop l = Continues l.initial.self l.self

abbrev pub decreases-loop : goal.decreases-loop
decreases-loop l = length l.self.site.held
