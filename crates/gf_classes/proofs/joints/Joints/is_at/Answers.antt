use Rattle.std.proofs.Common.{ap, sym, ◌∙◌}
use Rattle.gf_classes.specs.ClassSlots.{JointsState}
use Rattle.gf_classes.proofs.ClassSlotLemmas.{joint_told}
use Rattle.gf_classes.proofs.joints.Joints.is_at.Goals as goal

pub returns-then-other-site-clause-at : goal.returns-then-other-site-clause-at
returns-then-other-site-clause-at c = λ t.
    let first = c.in-Some-Some.ensures.lookup.3 in
    let second = c.in-Some-Some.ensures'.lookup.3 in
    joint_told c.args.self.now c.owns.result.now c.deref.result.now c.in-Some-Some.known.now
    c.args.own.now c.in-Some-Some.other.now c.args.site c.args.index
    (sym c.owns.ensures.owns)
    (ap (λ (j : JointsState). j.sites) (sym c.self.view_is) ∙ sym c.deref.ensures.value)
    first.0 first.1 second.0 second.1 c.if-other-site.true (sym c.equals.ensures ∙ t)
