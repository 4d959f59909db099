use Rattle.std.proofs.Common.{◌≡◌, ◌-◌, ◌++◌}
use Rattle.std.specs.Prelude.{flat_map}
use Rattle.std.specs.List.{range_with_len}
use Rattle.gf_ops.specs.OperationOrder.{entry}
use Rattle.gf_fig_named.specs.Comments.{known_site}
use Rattle.gf_fig_named.proofs.comments.known_sites.Given as goal

abbrev pub invariant-loop-site : goal.invariant-loop-site
invariant-loop-site l = l.text.items ++ flat_map (λ s. known_site s (entry l.counts s))
    (range_with_len l.site (9 - l.site))
    ≡ flat_map (λ s. known_site s (entry l.counts s)) (range_with_len 1 8)
