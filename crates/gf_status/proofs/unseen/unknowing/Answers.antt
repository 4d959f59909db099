use Rattle.std.proofs.Common.{map, subst}
use Rattle.std.proofs.lemmas.List.{take_all}
use Rattle.gf_status.specs.Setters.{AreThose, IsUnknowing}
use Rattle.gf_status.proofs.LastLemmas.{item_of, now}
use Rattle.gf_status.proofs.UnseenLemmas.{those_more, those_none, those_same}
use Rattle.gf_status.proofs.unseen.unknowing.Goals as goal
use Rattle.gf_status.proofs.unseen.unknowing.Goals.{else-branch, then-branch+in_ok-push}

pub is_unknowing-requires-clause-op : goal.is_unknowing-requires-clause-op
is_unknowing-requires-clause-op c = item_of c.args.history.now.ops now c.args.all.now
    c.loop-op.op-index c.op-item.result c.requires.all c.loop-op-test.true c.op-item.is

pub loop-op-init : goal.loop-op-init
loop-op-init c = λ o on. rw c.new-found.ensures.items (those_none
    (IsUnknowing c.args.history.now.ops o c.args.seen.now))

pub loop-op-preserved : goal.loop-op-preserved
loop-op-preserved c = λ o on.
    let P = IsUnknowing c.args.history.now.ops o c.args.seen.now in
    let ops = c.args.all.now in
    let us = c.loop-op.found.items in
    let n = c.loop-op.op-index in
    let x = c.op-item.result in
    let was = c.loop-op.invariant o on in
    let told = c.in_ok-is_unknowing.ensures o on in
    elim c.if-branch.branch [
      | then-branch+in_ok-push w ↦
          rw (w.found-is, w.in_ok-push.ensures.items)
          (those_more now P ops us n x c.loop-op-test.true c.op-item.is was
          (told.0 w.if-branch.true))
      | else-branch w ↦
          rw w.found-is (those_same now P ops us n x c.loop-op-test.true c.op-item.is was
          (λ u. let t = told.1 u in let f = w.if-branch.false in absurd cc))
    ]

pub returns : goal.returns
returns c = λ o on. subst (λ ops. AreThose (IsUnknowing c.args.history.now.ops o c.args.seen.now)
    (map now ops) (map now c.loop-op.found.items))
    (take_all c.loop-op.op-index c.args.all.now c.loop-op-test.false) (c.loop-op.invariant o on)
