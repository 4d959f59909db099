use Rattle.std.proofs.Common.{rules, nat_le}
use Rattle.std.proofs.lemmas.List.Sorted.{IsPartitionPoint-from_clause}
use Rattle.gf_classes.proofs.RangeLemmas.{splits, keys_parted}
use Rattle.gf_classes.proofs.ranges.first_above.Goals as goal

pub returns : goal.returns
returns c =
    let n = c.args.key in
    let ss = c.args.setters.now in
    splits (λ e. nat_le e.key n) ss c.partition_point.result c.partition_point.ensures.bound
    (IsPartitionPoint-from_clause (λ e. nat_le e.key n) _ _
    c.partition_point.ensures.partitioned (keys_parted ss c.requires n)
    (λ a r q k. search rules))
