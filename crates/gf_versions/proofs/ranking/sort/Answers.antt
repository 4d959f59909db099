use Rattle.std.proofs.Common.{rules}
use Rattle.std.proofs.lemmas.List.Sorted.{answers_always}
use Rattle.gf_shape.specs.declared.any_shape.AnyShape.{AnyShape}
use Rattle.gf_versions.specs.Falling.{falls_by}
use Rattle.gf_versions.proofs.RankingLemmas.{falls_by_order}
use Rattle.gf_versions.proofs.ranking.sort.Goals as goal

pub returns-clause-sorted : goal.returns-clause-sorted
returns-clause-sorted c = c.in_ok-sort_by.ensures.sorted (falls_by {S = AnyShape}) falls_by_order
    (answers_always _ _ _ (λ f a r g h. search rules))
