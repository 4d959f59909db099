-- When two lists of ids are the same (this project's choice).
use Rattle.std.specs.Prelude.{Bool, List, nat_eq}
use Rattle.std.specs.Cmp.Lexicographic.{pointwise}
use Rattle.std.specs.Ordering.{on, eq_of_both}
use Rattle.gf_ops.specs.declared.op.OpId.{OpId}

-- i and j are one id
abbrev pub same_id : OpId → OpId → Bool
same_id = eq_of_both (on (λ i. i.site) nat_eq) (on (λ i. i.seq) nat_eq)

-- two lists have the same ids in the same order
abbrev pub ids_eq : List OpId → List OpId → Bool
ids_eq = pointwise same_id
