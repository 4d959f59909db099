use Rattle.std.proofs.Common.{inl, inr, ◌∙◌}
use Rattle.gf_maximal.proofs.ClassLemmas.{used_more}
use Rattle.gf_maximal.proofs.classes.used_of.Goals as goal
use Rattle.gf_maximal.proofs.classes.used_of.Goals.{then-not-is_empty+in_ok-join, else-not-is_empty}

pub loop-number-preserved : goal.loop-number-preserved
loop-number-preserved c =
    used_more c.args.classes.now c.loop-number.number c.index-classes-number.result
    c.loop-number.found c.if-not-is_empty.found c.is_empty.result c.loop-number-test.true
    c.index-classes-number.is c.is_empty.ensures (elim c.if-not-is_empty.branch [
      | then-not-is_empty+in_ok-join w ↦
          inl (w.if-not-is_empty.true, w.found-is ∙ w.in_ok-join.ensures.ok)
      | else-not-is_empty w ↦ inr (w.if-not-is_empty.false, w.found-is)
    ]) c.loop-number.invariant
