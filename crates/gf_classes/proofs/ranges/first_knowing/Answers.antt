use Rattle.std.proofs.Common.{rules}
use Rattle.std.proofs.lemmas.List.Sorted.{IsPartitionPoint-from_clause}
use Rattle.gf_classes.specs.Ranges.{is_unknowing}
use Rattle.gf_classes.proofs.RangeLemmas.{splits, unknowing_parted}
use Rattle.gf_classes.proofs.ranges.first_knowing.Goals as goal

pub returns : goal.returns
returns c =
    let x = c.args.x.now in
    let ss = c.args.setters.now in
    splits (is_unknowing c.args.keys x.site x.seq) ss c.partition_point.result
    c.partition_point.ensures.bound
    (IsPartitionPoint-from_clause (is_unknowing c.args.keys x.site x.seq) _ _
    c.partition_point.ensures.partitioned
    (unknowing_parted ss c.requires.sorted c.args.keys c.requires.keys x.site x.seq c.requires.site)
    (λ a r q k. search rules))
