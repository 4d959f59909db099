use Rattle.std.proofs.Common.{rules}
use Rattle.std.specs.Ordering.{is_lt}
use Rattle.std.proofs.lemmas.Cmp.{lists_total}
use Rattle.std.proofs.lemmas.List.Sorted.{answers_always, ranks_by}
use Rattle.gf_groups.specs.declared.group.Group.{Group}
use Rattle.gf_groups.specs.Versions.{group_cmp}
use Rattle.gf_ops.proofs.IdLemmas.{id_cmp_total}
use Rattle.gf_groups.proofs.groups.sort_groups.Goals as goal

pub returns-clause-sorted : goal.returns-clause-sorted
returns-clause-sorted c = c.in_ok-sort_by.ensures.sorted (λ g k. is_lt (group_cmp g k))
    (ranks_by (lists_total id_cmp_total) (λ (g : Group). g.ops))
    (answers_always _ _ _ (λ f a r g h. search rules))
