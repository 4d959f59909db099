use Rattle.std.proofs.Common.{◌≡◌, ◌≤◌, ◌-◌, ◌^◌}
use Rattle.std.specs.Io.KnownBytes.{prepend_known}
use Rattle.gf_serve.specs.ServingSteps.{HasServedSome}
use Rattle.gf_serve.proofs.run.serve_run.Given as goal

abbrev pub invariant-loop-served : goal.invariant-loop-served
invariant-loop-served g l = record {
  served : HasServedSome (g.R.Source.left l.initial.source)
      (prepend_known l.dialogue.ahead (g.R.Source.left l.source)) l.served
      (g.W.Sink.taken l.initial.sink) (g.W.Sink.taken l.sink) l.dialogue.replica;
  reads : g.R.Source.failures l.source ≡ g.R.Source.failures l.initial.source;
  writes : g.W.Sink.failures l.sink ≡ g.W.Sink.failures l.initial.sink;
}

abbrev pub decreases-loop-served : goal.decreases-loop-served
decreases-loop-served g l = 18446744073709551615 - l.served
