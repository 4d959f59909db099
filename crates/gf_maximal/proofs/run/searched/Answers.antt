use Rattle.std.proofs.Common.{rules, arith, nat_le, ◌∙◌}
use Rattle.std.proofs.lemmas.List.Sorted.{IsPartitionPoint-from_clause}
use Rattle.gf_maximal.proofs.RunLemmas.{after_point, ends_parted}
use Rattle.gf_maximal.proofs.run.searched.Goals as goal

pub returns : goal.returns
returns c =
    let n = c.args.number in
    let rs = c.args.runs.now in
    let point = IsPartitionPoint-from_clause (λ r. nat_le r.end n) _ _
    c.partition_point-index.ensures.partitioned (ends_parted rs c.requires n)
    (λ a r q k. search rules) in
    c.split_at.ensures.back ∙ after_point n rs c.partition_point-index.result
    c.partition_point-index.ensures.bound (λ k d m. point.0 k d (omega arith) m)
    (λ k d l m. point.1 k d l m)
