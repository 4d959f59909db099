use Rattle.std.proofs.Common.{sym, ◌∙◌}
use Rattle.gf_ops.proofs.AimLemmas.{rise_stops, rise_more, rise_ends}
use Rattle.gf_ops.proofs.limits.rise_behind.Goals as goal

pub returns-then-not-id_less : goal.returns-then-not-id_less
returns-then-not-id_less c = rise_stops c.args.id c.loop-next.last c.args.ids.now
    c.loop-next.next-index _ c.loop-next.invariant c.loop-next-test.true (sym c.id_less.ensures
    ∙ c.if-not-id_less.true)

pub loop-next-preserved : goal.loop-next-preserved
loop-next-preserved c = rise_more c.args.id c.loop-next.last c.args.ids.now c.loop-next.next-index _
    c.loop-next.invariant c.loop-next-test.true (sym c.id_less.ensures ∙ c.if-not-id_less.false)

pub returns : goal.returns
returns c = rise_ends c.args.id c.loop-next.last c.args.ids.now c.loop-next.next-index c.args.id
    c.loop-next.invariant c.loop-next-test.false
