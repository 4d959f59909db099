use Rattle.std.proofs.Common.{refl}
use Rattle.std.proofs.lemmas.Option.{slice_get-get_or}
use Rattle.gf_classes.specs.declared.setters.Setter.{Setter}
use Rattle.gf_classes.proofs.SameValueLemmas.{mapped_more, mapped_all}
use Rattle.gf_classes.proofs.setters.fingerprints.Goals as goal

pub loop-setter-preserved : goal.loop-setter-preserved
loop-setter-preserved c = mapped_more (λ (e : Setter). e.fingerprint) c.args.setters.now
    c.loop-setter.all.items c.push.new.self.items c.loop-setter.setter-index _ _
    (slice_get-get_or c.args.setters.now c.loop-setter.setter-index _ c.loop-setter-test.true)
    refl c.in_ok-push.ensures.items c.loop-setter.invariant

pub returns : goal.returns
returns c = mapped_all (λ (e : Setter). e.fingerprint) c.args.setters.now
    c.loop-setter.all.items c.loop-setter.setter-index c.loop-setter-test.false
    c.loop-setter.invariant
