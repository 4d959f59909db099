use Rattle.std.proofs.Common.{◌≡◌, ◌++◌, length}
use Rattle.gf_worker.specs.Playing.{Through}
use Rattle.gf_worker.proofs.work.Work.play_all.Given as goal

abbrev pub invariant-loop-command : goal.invariant-loop-command
invariant-loop-command g l = record {
  iterate : (goal.iterator-loop-command g).can_next l.command-iterator
      × (goal.iterator-loop-command g).is_finite l.command-iterator;
  rest : l.yielded ++ l.command-iterator.rest.items ≡ l.fn.script.items;
  counted : l.number ≡ length l.yielded;
  through : Through l.yielded l.initial.self l.self;
}
