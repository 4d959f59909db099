use Rattle.std.proofs.Common.{rules, arith, nat_lt}
use Rattle.std.proofs.lemmas.List.Sorted.{IsPartitionPoint-from_clause}
use Rattle.gf_maximal.proofs.RunEditLemmas.{ends_parted_below}
use Rattle.gf_maximal.proofs.run.first_from.Goals as goal

pub returns : goal.returns
returns c =
    let n = c.args.number in
    let rs = c.args.runs.now in
    let point = IsPartitionPoint-from_clause (λ r. nat_lt r.end n) _ _
    c.partition_point.ensures.partitioned (ends_parted_below rs c.requires n)
    (λ a r q k. search rules) in
    record {
      bound = c.partition_point.ensures.bound;
      below = λ k d m. point.0 k d (omega arith) m;
      above = λ k d l m. point.1 k d l m;
    }
