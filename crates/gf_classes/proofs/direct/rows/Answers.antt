use Rattle.std.proofs.Common.{length, refl, subst, ◌∙◌}
use Rattle.std.proofs.lemmas.Option.{slice_get_read}
use Rattle.gf_classes.specs.SameValues.{IsIndex}
use Rattle.gf_classes.proofs.KindLemmas.{rows_more}
use Rattle.gf_classes.proofs.direct.rows.Goals as goal

pub row-requires-clause-same : goal.row-requires-clause-same
row-requires-clause-same c = subst (λ ps. IsIndex ps c.in_ok-same.same)
    (c.deref.ensures.value ∙ c.in_ok-fingerprints.ensures) c.in_ok-same.ensures

pub loop-kind-preserved : goal.loop-kind-preserved
loop-kind-preserved c = rows_more c.args.kinds.now c.loop-kind.kind-index c.kind-item.result
    c.loop-kind.rows.items c.push.new.self.items c.in_ok-row.row
    (slice_get_read c.args.kinds.now (length c.args.kinds.now) c.loop-kind.kind-index
    c.kind-item.result refl c.loop-kind-test.true c.kind-item.is)
    c.in_ok-row.ensures c.in_ok-push.ensures.items c.loop-kind.invariant
