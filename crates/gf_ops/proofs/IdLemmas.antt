-- The order of ids is total, and only one id ties with another: itself. The crates above cite it.
use Rattle.std.proofs.Common.{◌≡◌, refl}
use Rattle.std.specs.Cmp.{IsTotalOrder}
use Rattle.std.specs.declared.cmp.Ordering.{Ordering}
use Rattle.std.specs.declared.cmp.Ordering.TheVariants.{Less, Equal, Greater}
use Rattle.std.specs.Ordering.{ordering_then, nat_cmp}
use Rattle.std.specs.FinMap.{IsAntisymmetric, nat_cmp-IsAntisymmetric}
use Rattle.std.proofs.lemmas.Cmp.{nat_cmp_total, on_total, then_total}
use Rattle.gf_ops.specs.declared.op.OpId.{OpId}
use Rattle.gf_ops.specs.OperationOrder.{id_cmp}

pub id_cmp_total : IsTotalOrder id_cmp
id_cmp_total = then_total (on_total (λ (i : OpId). i.site) nat_cmp_total)
    (on_total (λ (i : OpId). i.seq) nat_cmp_total)

-- what two orders in turn leave equal, each leaves equal
pub both_tied : (o p : Ordering) → ordering_then o p ≡ Equal → (o ≡ Equal) × (p ≡ Equal)
both_tied Less p e = absurd cc
both_tied Equal p e = (refl, e)
both_tied Greater p e = absurd cc

pub id_cmp_exact : IsAntisymmetric id_cmp
id_cmp_exact i j e =
    let t = both_tied (nat_cmp i.site j.site) (nat_cmp i.seq j.seq) e in
    λ k. record {
      site = nat_cmp-IsAntisymmetric i.site j.site t.0 k;
      seq = nat_cmp-IsAntisymmetric i.seq j.seq t.1 k;
    }
