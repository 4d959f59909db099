use Rattle.std.proofs.Common.{inr}
use Rattle.std.proofs.lemmas.Result.{err_from_is_err_and}
use Rattle.gf_fig_read.proofs.RingLemmas.{within_pushed}
use Rattle.gf_fig_tokens.specs.Fields.{points}
use Rattle.gf_fig_read.proofs.Loop.{goes_on, ends, is_done, pushed}
use Rattle.gf_fig_read.proofs.outlines.points.Goals as goal

pub returns-in_err-point-clause-read : goal.returns-in_err-point-clause-read
returns-in_err-point-clause-read c =
    let p = err_from_is_err_and c.from_residual.result c.from_residual.ensures.1 in
    rw (p.1, p.2) (inr (ends c.in_err-point.field-0.0 c.loop.points.items c.args.count
    c.loop.counter c.loop.tokens (points c.args.count c.args.tokens.now) c.loop-test.true
    c.in_err-point.ensures.read c.loop.invariant.read))

pub loop-preserved : goal.loop-preserved
loop-preserved c = record {
  read = rw c.in_ok-push.ensures.items (goes_on c.loop.points.items c.args.count c.loop.counter
      c.loop.tokens c.in_ok-point.point c.point.new.self (points c.args.count c.args.tokens.now)
      c.loop-test.true c.in_ok-point.ensures.read c.loop.invariant.read);
  len = rw c.in_ok-push.ensures.items (pushed c.loop.points.items c.in_ok-point.point c.loop.counter
      c.loop.invariant.len);
  within = rw c.in_ok-push.ensures.items (within_pushed c.loop.points.items c.in_ok-point.point
      c.loop.invariant.within c.in_ok-point.ensures.within);
}

pub returns-clause-read : goal.returns-clause-read
returns-clause-read c = is_done c.loop.points.items c.args.count c.loop.counter c.loop.tokens
    (points c.args.count c.args.tokens.now) c.loop-test.false c.loop.invariant.read
