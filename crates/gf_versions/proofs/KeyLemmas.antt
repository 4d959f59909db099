-- Only one key ties with another: itself; and above is one way and transitive.
use Rattle.std.proofs.Common.{◌≡◌, ◌∙◌, refl, ap}
use Rattle.std.specs.declared.cmp.Ordering.{Ordering}
use Rattle.std.specs.declared.cmp.Ordering.TheVariants.{Less, Equal, Greater}
use Rattle.std.specs.Ordering.{ordering_then, nat_cmp, ordering_reverse}
use Rattle.std.specs.Cmp.Lexicographic.{slice_cmp}
use Rattle.std.specs.FinMap.{IsAntisymmetric, nat_cmp-IsAntisymmetric, slice_cmp-IsAntisymmetric}
use Rattle.gf_ops.specs.OperationOrder.{id_cmp}
use Rattle.gf_ops.proofs.IdLemmas.{id_cmp_exact, both_tied}
use Rattle.gf_versions.specs.declared.key.VersionKey.{VersionKey}
use Rattle.gf_versions.specs.Above.{key_cmp, IsAbove}
use Rattle.gf_versions.specs.KeyOrder.{key_cmp_total}

pub key_cmp_exact : IsAntisymmetric key_cmp
key_cmp_exact a b e =
    let t = both_tied (nat_cmp a.layer b.layer) (ordering_then (id_cmp a.object.0 b.object.0)
    (slice_cmp id_cmp a.ops b.ops)) e in
    let u = both_tied (id_cmp a.object.0 b.object.0) (slice_cmp id_cmp a.ops b.ops) t.1 in
    λ k. record {
      layer = nat_cmp-IsAntisymmetric a.layer b.layer t.0 k;
      object = record { 0 = id_cmp_exact a.object.0 b.object.0 u.0 k };
      ops = slice_cmp-IsAntisymmetric id_cmp_exact a.ops b.ops u.1 k;
    }

-- not both are above the other
pub above_one_way : (k l : VersionKey) → IsAbove k l → ¬ (IsAbove l k)
above_one_way k l h i = let e = key_cmp_total.antisymm k l in
    let f : ordering_reverse (key_cmp l k) ≡ Less = ap ordering_reverse i in absurd cc

-- of two keys neither of which is above the other both are one
pub neither_above : (k l : VersionKey) → ¬ (IsAbove k l) → ¬ (IsAbove l k) → k ≡ l
neither_above k l h i = by_answer (key_cmp k l) refl
  where
    by_answer : (o : Ordering) → key_cmp k l ≡ o → k ≡ l
    by_answer Less e = let f = key_cmp_total.antisymm l k in
        let g : ordering_reverse (key_cmp k l) ≡ Greater = ap ordering_reverse e in absurd (i cc)
    by_answer Equal e = key_cmp_exact k l e
    by_answer Greater e = absurd (h e)

-- what is above a key that is above another is above that one
pub above_transitive : (k l m : VersionKey) → IsAbove k l → IsAbove l m → IsAbove k m
above_transitive k l m h i =
    let down = key_cmp_total.trans m l k (key_cmp_total.antisymm m l ∙ ap ordering_reverse i)
    (key_cmp_total.antisymm l k ∙ ap ordering_reverse h) in
    key_cmp_total.antisymm k m ∙ ap ordering_reverse down
