use Rattle.std.proofs.Common.{◌∙◌, ap, inl, inr}
use Rattle.gf_maximal.specs.Growing.{intersects}
use Rattle.gf_classes.proofs.ClassRowLemmas.{met_more, met_all}
use Rattle.gf_classes.proofs.class_rows.add_met.Goals as goal
use Rattle.gf_classes.proofs.class_rows.add_met.Goals.{then-intersects+in_ok-join, else-intersects}

pub loop-index-preserved : goal.loop-index-preserved
loop-index-preserved c =
    let item = c.index-sets-index.result in
    let more = met_more c.args.first c.args.sets.now c.args.set.now c.loop-index.index item
    c.loop-index-test.true c.intersects.result c.args.found.now c.loop-index.found
    c.if-intersects.found
    (c.intersects.ensures ∙ ap (λ z. intersects z c.args.set.now) c.index-sets-index.is) in
    elim c.if-intersects.branch [
      | then-intersects+in_ok-join w ↦
          more (inl (w.if-intersects.true, w.found-is ∙ w.in_ok-join.ensures.ok))
          c.loop-index.invariant
      | else-intersects w ↦ more (inr (w.if-intersects.false, w.found-is)) c.loop-index.invariant
    ]

pub returns : goal.returns
returns c =
    met_all c.args.first c.args.sets.now c.args.set.now c.args.found.now c.loop-index.found
    c.loop-index.index c.loop-index-test.false c.loop-index.invariant
