use Rattle.std.proofs.Common.{rules, nat_lt}
use Rattle.std.proofs.lemmas.List.Sorted.{IsPartitionPoint-from_clause}
use Rattle.gf_classes.proofs.KindLemmas.{first_from, firsts_parted}
use Rattle.gf_classes.proofs.direct.first_from.Goals as goal

pub returns : goal.returns
returns c =
    let n = c.args.rank in
    let ks = c.args.kinds.now in
    first_from n ks c.partition_point.result c.partition_point.ensures.bound
    (IsPartitionPoint-from_clause (λ d. nat_lt d.first n) _ _
    c.partition_point.ensures.partitioned (firsts_parted ks c.requires n)
    (λ a r q k. search rules))
