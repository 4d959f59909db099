use Rattle.std.proofs.Common.{subst}
use Rattle.gf_maximal.specs.Rows.{conflict}
use Rattle.gf_maximal.specs.Cutting.{IsAsked}
use Rattle.gf_maximal.proofs.cutting.rest_of_parent.Goals as goal

pub reach-requires : goal.reach-requires
reach-requires c =
    let w = subst (IsAsked (conflict c.args.rows.now) c.args.met.now c.args.rivals.now
    c.args.set.now) c.in-Some.is c.in_ok-found.ensures in
    c.requires.met c.in-Some.number w.0
