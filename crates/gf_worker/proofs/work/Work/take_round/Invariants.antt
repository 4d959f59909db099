use Rattle.std.proofs.Common.{◌≡◌}
use Rattle.std.specs.Prelude.{vec_len}
use Rattle.gf_worker.specs.Working.{Continues}
use Rattle.gf_worker.proofs.work.Work.take_round.Given as goal

abbrev pub invariant-loop-k : goal.invariant-loop-k
invariant-loop-k g l = record {
  continues : Continues l.initial.self l.self;
  within : vec_len l.self.peers ≡ vec_len l.initial.self.peers;
}
