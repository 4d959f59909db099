use Rattle.std.proofs.Common.{arith}
use Rattle.gf_fig_faults.proofs.FaultsLemmas.{all_told, ends_here, goes_further, none_left}
use Rattle.gf_fig_faults.proofs.searching.search.Goals as goal

pub returns-in_default : goal.returns-in_default
returns-in_default c =
    none_left c.args.text.now c.loop.faults.items 64 c.loop.counter c.loop.last c.loop.left.items
    c.loop.invariant c.deref.result.now c.deref.ensures.value c.loop-test.true
    (rw c.in_default.is at c.in_ok-fault.ensures)

pub returns-then-not-goes_on : goal.returns-then-not-goes_on
returns-then-not-goes_on c =
    ends_here c.args.text.now c.loop.faults.items 64 c.loop.counter c.loop.last c.loop.left.items
    c.loop.invariant c.in-Some.fault c.deref.result.now c.deref-in-loop.result.now
    c.deref.ensures.value
    c.deref-in-loop.ensures.value c.loop-test.true (rw c.in-Some.is at c.in_ok-fault.ensures)
    c.goes_on.result c.goes_on.ensures c.push.new.self.items c.in_ok-push.ensures.items
    c.if-not-goes_on.true

pub loop-preserved : goal.loop-preserved
loop-preserved c =
    goes_further c.args.text.now c.loop.faults.items 64 c.loop.counter c.loop.last c.loop.left.items
    c.loop.invariant c.in-Some.fault c.deref.result.now c.deref-in-loop.result.now
    c.deref.ensures.value
    c.deref-in-loop.ensures.value c.loop-test.true (rw c.in-Some.is at c.in_ok-fault.ensures)
    c.goes_on.result c.goes_on.ensures c.push.new.self.items c.in_ok-push.ensures.items
    c.deref-in-loop-2.result.now c.in_ok-left-2.left.items c.deref-in-loop-2.ensures.value
    c.in_ok-left-2.ensures c.if-not-goes_on.false

pub returns : goal.returns
returns c =
    all_told c.args.text.now c.loop.faults.items 64 c.loop.counter c.loop.last c.loop.left.items
    c.loop.invariant (omega (arith, c.loop-test.false))
