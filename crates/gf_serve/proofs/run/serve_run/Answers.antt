use Rattle.std.proofs.Common.{refl, rules}
use Rattle.std.specs.Io.KnownBytes.{prepend_known}
use Rattle.std.proofs.lemmas.Result.{err_from_is_err_and}
use Rattle.gf_site.specs.ReplicaState.{new_replica}
use Rattle.gf_serve.proofs.ServingLemmas.{served_all, served_first, served_more, served_most}
use Rattle.gf_serve.proofs.ServingLemmas.{served_none}
use Rattle.gf_serve.proofs.run.serve_run.Goals as goal

pub loop-served-init : goal.loop-served-init
loop-served-init g c = rw c.new-dialogue.ensures (record {
  served = served_none (g.R.Source.left c.args.source.now) (g.W.Sink.taken c.args.sink.now)
      new_replica refl;
  reads = refl;
  writes = refl;
})

pub loop-served-preserved : goal.loop-served-preserved
loop-served-preserved g c = record {
  served = served_more (g.R.Source.left c.args.source.now)
      (prepend_known c.loop-served.dialogue.ahead (g.R.Source.left c.loop-served.source))
      (prepend_known c.turn.new.self.ahead (g.R.Source.left c.turn.new.source))
      c.loop-served.served (g.W.Sink.taken c.args.sink.now) (g.W.Sink.taken c.loop-served.sink)
      (g.W.Sink.taken c.turn.new.sink) c.loop-served.dialogue.replica c.turn.new.self.replica
      c.loop-served.invariant.served (rw c.in-Answered.is at c.in_ok-turn.ensures.turn);
  reads = search rules;
  writes = search rules;
}

pub returns-in-Ended-clause-all : goal.returns-in-Ended-clause-all
returns-in-Ended-clause-all g c =
    served_all (g.R.Source.left c.args.source.now)
    (prepend_known c.loop-served.dialogue.ahead (g.R.Source.left c.loop-served.source))
    c.loop-served.served (g.W.Sink.taken c.args.sink.now) (g.W.Sink.taken c.loop-served.sink)
    (g.W.Sink.taken c.turn.new.sink) c.loop-served.dialogue.replica c.turn.new.self.replica
    c.loop-served.invariant.served (rw c.in-Ended.is at c.in_ok-turn.ensures.turn)

pub returns-in_err-turn-clause-first : goal.returns-in_err-turn-clause-first
returns-in_err-turn-clause-first g c =
    let p = err_from_is_err_and c.from_residual.result c.from_residual.ensures.1 in
    rw (p.1, p.2) (served_first (g.R.Source.left c.args.source.now)
    (prepend_known c.loop-served.dialogue.ahead (g.R.Source.left c.loop-served.source))
    c.loop-served.served (g.W.Sink.taken c.args.sink.now) (g.W.Sink.taken c.loop-served.sink)
    (g.W.Sink.taken c.turn.new.sink) c.loop-served.dialogue.replica _
    c.loop-served.invariant.served c.in_err-turn.ensures.refused)

pub returns-clause-first : goal.returns-clause-first
returns-clause-first g c =
    served_most (g.R.Source.left c.args.source.now)
    (prepend_known c.loop-served.dialogue.ahead (g.R.Source.left c.loop-served.source))
    c.loop-served.served (g.W.Sink.taken c.args.sink.now) (g.W.Sink.taken c.loop-served.sink)
    c.loop-served.dialogue.replica c.loop-served.invariant.served (search rules)
