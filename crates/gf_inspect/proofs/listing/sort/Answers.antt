use Rattle.std.proofs.Common.{rules}
use Rattle.std.specs.Ordering.{is_lt}
use Rattle.std.proofs.lemmas.Cmp.{back_total}
use Rattle.std.proofs.lemmas.List.Sorted.{answers_always, ranks_by}
use Rattle.gf_versions.specs.declared.key.Version.{Version}
use Rattle.gf_versions.specs.KeyOrder.{key_cmp_total}
use Rattle.gf_inspect.specs.Falling.{falling_cmp}
use Rattle.gf_inspect.proofs.listing.sort.Goals as goal

pub returns-clause-sorted : goal.returns-clause-sorted
returns-clause-sorted c = c.in_ok-sort_by.ensures.sorted (λ v w. is_lt (falling_cmp v w))
    (ranks_by (back_total key_cmp_total) (λ (v : Version). v.key))
    (answers_always _ _ _ (λ f a r g h. search rules))
