use Rattle.std.proofs.Common.{◌≡◌, true, [], ◌∷◌, ◌++◌, ◌∙◌, ap, subst, sym}
use Rattle.std.specs.Prelude.{Contains}
use Rattle.gf_take_run.specs.CountedChanges.{test_of}
use Rattle.gf_take_run.specs.ToldNumbers.{AreObjects}
use Rattle.gf_take_run.proofs.CountingLemmas.{more_new, more_same}
use Rattle.gf_take_run.proofs.counting.push_object.Goals as goal

pub returns-then-not-is_counted : goal.returns-then-not-is_counted
returns-then-not-is_counted c = λ ops are.
    more_same (test_of c.args.counted) ops c.args.op.now c.args.objects.now.items are
    (λ t. let e = c.is_counted.ensures in let f = c.if-not-is_counted.true in absurd cc)

pub returns-then-has : goal.returns-then-has
returns-then-has c = λ ops are.
    let items = c.args.objects.now.items in
    let there = subst (λ os. Contains os c.object.result) c.deref.ensures.value
    (c.has.ensures.0 c.if-has.true) in
    more_same (test_of c.args.counted) ops c.args.op.now items are
    (λ t. subst (Contains items) c.object.ensures there)

pub returns : goal.returns
returns c = λ ops are.
    let such = test_of c.args.counted in
    let items = c.args.objects.now.items in
    let is : such c.args.op.now.change ≡ true =
    let e = c.is_counted.ensures in let f = c.if-not-is_counted.false in cc in
    let grown = c.in_ok-push.ensures.items ∙ ap (λ o. items ++ o ∷ []) c.object-2.ensures in
    subst (AreObjects such (ops ++ c.args.op.now ∷ [])) (sym grown)
    (more_new such ops c.args.op.now items are is (λ i.
    let t = c.has.ensures.1 (subst (λ os. Contains os c.object.result) (sym c.deref.ensures.value)
    (subst (Contains items) (sym c.object.ensures) i)) in
    let f = c.if-has.false in absurd cc))
