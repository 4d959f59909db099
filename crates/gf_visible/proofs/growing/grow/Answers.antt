use Rattle.std.proofs.Common.{◌<◌, ap, length, subst, sym}
use Rattle.std.specs.Prelude.{Contains}
use Rattle.gf_maximal.specs.LargestSets.{IsLargest}
use Rattle.gf_maximal.specs.Rows.{conflict}
use Rattle.gf_visible.specs.Seen.{PartialState}
use Rattle.gf_visible.proofs.growing.grow.Goals as goal

pub meet-requires-clause-met : goal.meet-requires-clause-met
meet-requires-clause-met c =
    let m = ap (λ (p : PartialState). p.met) c.partial.view_is in
    λ a i. subst (λ rows. a < length rows) (sym c.rows.ensures.rows)
    (c.requires.met a (subst (λ z. Contains z a) m i))

pub meet-requires-clause-sets : goal.meet-requires-clause-sets
meet-requires-clause-sets c =
    let m = ap (λ (p : PartialState). p.met) c.partial.view_is in
    let n = ap (λ (p : PartialState). p.sets) c.partial.view_is in
    λ g i. subst (λ rows. IsLargest (conflict rows) (Contains c.partial.inside.met) (Contains g))
    (sym c.rows.ensures.rows)
    (subst (λ met. IsLargest (conflict c.args.timeline.now.rows) (Contains met) (Contains g))
    (sym m) (c.requires.sets g (subst (λ z. Contains z g) n i)))
