use Rattle.std.proofs.Common.{drop, false, pos, None, ◌+◌, ◌++◌}
use Rattle.gf_spans.specs.declared.crossing.Crossing.{Crossing}
use Rattle.gf_spans.specs.JoiningParts.{pairs_from}
use Rattle.gf_spans.proofs.PairLemmas.{paired_all, paired_more}
use Rattle.gf_spans.proofs.meetings.pair_up.Goals as goal

abbrev none : Crossing
none = record { floor = pos 0; between = false }

pub loop-place-preserved : goal.loop-place-preserved
loop-place-preserved c = paired_more c.loop-place.found.items c.pair_one.new.found.items
    (c.args.found.now.items ++ pairs_from None c.args.places.now) c.loop-place.before
    c.in_ok-before.before none c.args.places.now c.loop-place.place-index c.loop-place-test.true
    (c.in_ok-before.ensures (drop (c.loop-place.place-index + 1) c.args.places.now))
    c.loop-place.invariant

pub returns : goal.returns
returns c = paired_all c.loop-place.found.items
    (c.args.found.now.items ++ pairs_from None c.args.places.now) c.loop-place.before
    c.args.places.now c.loop-place.place-index c.loop-place-test.false c.loop-place.invariant
