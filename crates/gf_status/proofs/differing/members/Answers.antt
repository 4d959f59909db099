use Rattle.std.proofs.Common.{get_or, take, subst}
use Rattle.std.proofs.lemmas.List.{take_all, take_more}
use Rattle.gf_ops.specs.declared.op.OpId.{OpId}
use Rattle.gf_status.proofs.LastLemmas.{now}
use Rattle.gf_status.proofs.SetterLemmas.{AreUnder, under_more, under_same}
use Rattle.gf_status.proofs.differing.members.Goals as goal
use Rattle.gf_status.proofs.differing.members.Goals.{in-Some+in_ok-push, in_default}

abbrev no_id : OpId
no_id = record { site = 0; seq = 0 }

pub loop-id-preserved : goal.loop-id-preserved
loop-id-preserved c =
    let h = c.args.history.now.ops in
    let ids = c.args.ids.now in
    let n = c.loop-id.id-index in
    let us = c.loop-id.found.items in
    rw (take_more ids n no_id c.loop-id-test.true) (elim c.match-get.branch [
      | in-Some+in_ok-push w ↦
          rw (w.found-is, w.in_ok-push.ensures.items)
          (under_more now h c.recall_valid.ensures (take n ids) us (get_or ids n no_id) w.in-Some.op
          c.loop-id.invariant w.in-Some.ensures.found.0 w.in-Some.ensures.found.1)
      | in_default w ↦ rw w.found-is (under_same now h (take n ids) us (get_or ids n no_id)
          c.loop-id.invariant w.in_default.ensures.none)
    ])

pub returns : goal.returns
returns c = subst (λ ids. AreUnder now c.args.history.now.ops ids c.loop-id.found.items)
    (take_all c.loop-id.id-index c.args.ids.now c.loop-id-test.false) c.loop-id.invariant
