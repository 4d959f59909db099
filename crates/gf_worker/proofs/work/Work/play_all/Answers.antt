use Rattle.std.proofs.Common.{◌≡◌, ◌+◌, [], ◌∷◌, ◌++◌, append_assoc, length, length-append, sym, ap}
use Rattle.std.proofs.Common.{◌∙◌, arith}
use Rattle.gf_worker.proofs.ThroughLemmas.{through_more}
use Rattle.gf_worker.proofs.SendLemmas.{plays_open}
use Rattle.gf_worker.proofs.work.Work.play_all.Goals as goal

pub loop-command-preserved : goal.loop-command-preserved
loop-command-preserved g c =
    let l = c.loop-command in
    let n = l.invariant.counted in
    let k : l.number + 1 ≡ 1 + length l.yielded = omega (arith, n) in record {
      iterate = (tt, tt);
      rest = append_assoc l.yielded (c.in-Some.command ∷ []) c.next.new.self.rest.items
          ∙ ap (λ x. l.yielded ++ x) (sym c.in-Some.ensures.steps.0) ∙ l.invariant.rest;
      counted = omega (arith, n, length-append l.yielded (c.in-Some.command ∷ []));
      through = through_more l.yielded c.in-Some.command (l.number + 1) c.args.self.now l.self
          c.play.new.self k l.invariant.through c.play.ensures;
    }

pub play-requires-clause-still : goal.play-requires-clause-still
play-requires-clause-still g c =
    let l = c.loop-command in
    let t = l.invariant.through in
    let b = c.requires.begun in
    let long = c.args.script.ok.0 in
    let few = c.requires.few in
    λ e. plays_open l.yielded l.self (t.plays b.gathers b.underway) (t.sent b.gathers b.sent)
    (omega (
      arith,
      ap length l.invariant.rest,
      length-append l.yielded l.command-iterator.rest.items,
      long,
      few,
    ))
