use Rattle.std.proofs.Common.{arith, subst, ◌≡◌, length, sym}
use Rattle.gf_classes.specs.Setters.{AreTaken}
use Rattle.gf_classes.proofs.SetterLemmas.{taken_more}
use Rattle.gf_classes.proofs.setters.taken.Goals as goal

pub loop-index-preserved : goal.loop-index-preserved
loop-index-preserved c = taken_more c.args.ops.now c.args.positions.now c.loop-index.index
    c.loop-index.all.items c.push_some.new.setters.items c.setter_at.result
    (sym c.setter_at.ensures)
    c.in_ok-push_some.ensures c.loop-index.invariant

pub returns : goal.returns
returns c =
    let l = c.loop-index.auto.index-end in
    let m = c.loop-index-test.false in
    let e : c.loop-index.index ≡ length c.args.positions.now = omega (arith, l, m) in
    subst (λ z. AreTaken c.args.ops.now c.args.positions.now z c.loop-index.all.items) e
    c.loop-index.invariant
