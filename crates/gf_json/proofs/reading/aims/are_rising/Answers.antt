use Rattle.gf_json.proofs.IdLemmas.{rise_more, rise_stops}
use Rattle.gf_json.proofs.reading.aims.are_rising.Goals as goal

pub returns-in-None : goal.returns-in-None
returns-in-None c =
    rise_stops c.loop-value.last c.args.values.now c.loop-value.value-index c.value-item.result
    c.loop-value-test.true c.value-item.is c.in-None.ensures c.loop-value.invariant

pub loop-value-preserved : goal.loop-value-preserved
loop-value-preserved c =
    rise_more c.loop-value.last c.in-Some.next c.args.values.now c.loop-value.value-index
    c.value-item.result c.loop-value-test.true c.value-item.is c.in-Some.ensures
    c.loop-value.invariant
