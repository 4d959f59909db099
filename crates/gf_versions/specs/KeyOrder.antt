-- The order of keys is total. No public clause cites this module.
use Rattle.std.specs.Cmp.{IsTotalOrder}
use Rattle.std.proofs.lemmas.Cmp.{nat_cmp_total, on_total, then_total, lists_total}
use Rattle.gf_ops.proofs.IdLemmas.{id_cmp_total}
use Rattle.gf_versions.specs.declared.key.VersionKey.{VersionKey}
use Rattle.gf_versions.specs.Above.{key_cmp}

pub key_cmp_total : IsTotalOrder key_cmp
key_cmp_total = then_total (on_total (λ (k : VersionKey). k.layer) nat_cmp_total)
    (then_total (on_total (λ (k : VersionKey). k.object.0) id_cmp_total)
    (on_total (λ (k : VersionKey). k.ops) (lists_total id_cmp_total)))
