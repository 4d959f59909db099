use Rattle.std.proofs.Common.{arith, subst, length, get_or, ◌≡◌}
use Rattle.std.proofs.lemmas.Option.{slice_get-get_or}
use Rattle.gf_base.proofs.PositionLemmas.{contained_at}
use Rattle.gf_classes.specs.Kinds.{AreKinds}
use Rattle.gf_classes.proofs.KindLemmas.{no_setter, kinds_more}
use Rattle.gf_classes.proofs.kinds.kinds_of.Goals as goal

pub rival_ranks_of-requires-clause-keyed : goal.rival_ranks_of-requires-clause-keyed
rival_ranks_of-requires-clause-keyed c =
    let ss = c.args.setters.now in
    let e = get_or ss c.loop-first.first no_setter in
    c.requires.sorted.keyed e (contained_at ss c.loop-first.first e
    (slice_get-get_or ss c.loop-first.first no_setter c.loop-first-test.true))

pub loop-first-preserved : goal.loop-first-preserved
loop-first-preserved c = λ us o valid setters index.
    let at = slice_get-get_or c.args.setters.now c.loop-first.first _ c.loop-first-test.true in
    kinds_more c.args.ops.now c.args.setters.now c.loop-first.first c.loop-first.kinds.items
    c.loop-first.classes.items (c.loop-first.invariant us o valid setters index) _ at
    c.in_ok-rival_ranks.rival_ranks
    (c.in_ok-rival_ranks.ensures us o valid setters index
    (contained_at c.args.setters.now c.loop-first.first _ at)) c.class_for.new.kinds.items
    c.in_ok-class_for.field-0 c.push.new.self.items c.in_ok-class_for.ensures
    c.in_ok-push.ensures.items

pub returns : goal.returns
returns c = λ us o valid setters index.
    let l = c.loop-first.auto.first-end in
    let m = c.loop-first-test.false in
    let e : c.loop-first.first ≡ length c.args.setters.now = omega (arith, l, m) in
    subst (λ z. AreKinds c.args.ops.now c.args.setters.now z c.loop-first.kinds.items
    c.loop-first.classes.items) e (c.loop-first.invariant us o valid setters index)
