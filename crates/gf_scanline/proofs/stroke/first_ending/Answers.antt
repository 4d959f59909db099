use Rattle.std.proofs.Common.{rules, arith, get_or, nat_le}
use Rattle.std.proofs.lemmas.List.Sorted.{IsPartitionPoint-from_clause}
use Rattle.gf_scanline.proofs.StrokeLemmas.{le_true, le_false}
use Rattle.gf_scanline.proofs.StrokeLemmas.{strokes_parted}
use Rattle.gf_scanline.proofs.stroke.first_ending.Goals as goal

pub returns-clause-first : goal.returns-clause-first
returns-clause-first c = λ target n h.
    let m = c.args.column in
    let ss = c.args.strokes.now in
    let point = IsPartitionPoint-from_clause (λ s. nat_le s.to m) _ _
    c.partition_point.ensures.partitioned (strokes_parted target n ss h m) (λ a s q k. search rules)
    in
    record {
      below = λ k d l. le_true (get_or ss k d).to m
          (point.0 k d (let b = c.partition_point.ensures.bound in omega (arith, b, l)) l);
      above = λ k d l i. le_false (get_or ss k d).to m (point.1 k d l i);
    }
