use Rattle.gf_classes.proofs.OwnLemmas.{named_none, named_more, named_all}
use Rattle.gf_classes.proofs.own.own_of.Goals as goal

pub add_named-requires-clause-bound : goal.add_named-requires-clause-bound
add_named-requires-clause-bound c = c.requires.bound _

pub loop-id-init : goal.loop-id-init
loop-id-init c = named_none c.args.history.now.ops c.args.positions.now c.args.direct.now
    c.args.class c.in_ok-own.own c.in_ok-own.ensures

pub loop-id-preserved : goal.loop-id-preserved
loop-id-preserved c =
    named_more c.args.history.now.ops c.args.positions.now c.args.direct.now c.args.class
    c.args.ids.now c.loop-id.own c.add_named.new.own c.loop-id.id-index
    (record { site = 0; seq = 0 }) c.loop-id-test.true c.loop-id.invariant
    c.in_ok-add_named.ensures

pub returns : goal.returns
returns c = named_all c.args.history.now.ops c.args.positions.now c.args.direct.now c.args.class
    c.args.ids.now c.loop-id.own c.loop-id.id-index c.loop-id-test.false c.loop-id.invariant
