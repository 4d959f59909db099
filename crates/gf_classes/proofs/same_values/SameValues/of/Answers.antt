use Rattle.std.proofs.Common.{arith}
use Rattle.std.proofs.lemmas.Option.{slice_get-get_or}
use Rattle.gf_classes.proofs.SameValueLemmas.{lists_more, lists_all}
use Rattle.gf_classes.proofs.same_values.SameValues.of.Goals as goal

pub loop-rank-preserved : goal.loop-rank-preserved
loop-rank-preserved c = lists_more c.args.fingerprints.now c.loop-rank.rank _
    c.loop-rank.ranks.entries c.add_rank.new.ranks.entries
    (slice_get-get_or c.args.fingerprints.now c.loop-rank.rank _ c.loop-rank-test.true)
    c.loop-rank.invariant c.in_ok-add_rank.ensures

pub returns : goal.returns
returns c =
    let l = c.loop-rank.auto.rank-end in
    let m = c.loop-rank-test.false in
    lists_all c.args.fingerprints.now c.loop-rank.rank c.loop-rank.ranks.entries
    (omega (arith, l, m)) c.loop-rank.invariant
