use Rattle.std.proofs.Common.{refl, length}
use Rattle.std.proofs.lemmas.Option.{slice_get_read}
use Rattle.gf_classes.specs.declared.kinds.Kind.{Kind}
use Rattle.gf_classes.proofs.SameValueLemmas.{mapped_more, mapped_all}
use Rattle.gf_classes.proofs.kinds.kind_fingerprints.Goals as goal

pub loop-kind-preserved : goal.loop-kind-preserved
loop-kind-preserved c = mapped_more (λ (d : Kind). d.fingerprint) c.args.kinds.now
    c.loop-kind.all.items c.push.new.self.items c.loop-kind.kind-index c.kind-item.result _
    (slice_get_read c.args.kinds.now (length c.args.kinds.now) c.loop-kind.kind-index
    c.kind-item.result refl c.loop-kind-test.true c.kind-item.is)
    refl c.in_ok-push.ensures.items c.loop-kind.invariant

pub returns : goal.returns
returns c = mapped_all (λ (d : Kind). d.fingerprint) c.args.kinds.now
    c.loop-kind.all.items c.loop-kind.kind-index c.loop-kind-test.false
    c.loop-kind.invariant
