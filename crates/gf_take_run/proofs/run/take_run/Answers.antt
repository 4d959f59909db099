use Rattle.std.proofs.Common.{rules}
use Rattle.gf_take_run.proofs.TakeLemmas.{run_prefix, run_refuses, run_takes}
use Rattle.gf_take_run.proofs.run.take_run.Goals as goal

pub returns-clause-takes : goal.returns-clause-takes
returns-clause-takes g c =
    run_takes _ c.args.request (λ given answer gives. search rules)
    (g.R.Source.left c.args.source.now) (g.W.Sink.taken c.args.sink.now)
    (g.W.Sink.taken c.run.new.sink) c.run.result c.run.ensures.writes

pub returns-clause-refused : goal.returns-clause-refused
returns-clause-refused g c = run_refuses _ c.args.request (λ given e gives. search rules)
    (g.R.Source.left c.args.source.now) c.run.result c.run.ensures.refused

pub returns-clause-sink : goal.returns-clause-sink
returns-clause-sink g c = record {
  writes = record {
    flushed = c.run.ensures.sink.writes.flushed;
    failed = c.run.ensures.sink.writes.failed;
    prefix = λ w. run_prefix _ c.args.request (λ given answer gives. search rules)
        (g.R.Source.left c.args.source.now) (g.W.Sink.taken c.args.sink.now)
        (g.W.Sink.taken c.run.new.sink) (c.run.ensures.sink.writes.prefix w);
  };
  unwritten = c.run.ensures.sink.unwritten;
}
