use Rattle.std.proofs.Common.{ap, sym, subst, ◌∙◌}
use Rattle.std.proofs.lemmas.Result.{IfOk-weaker}
use Rattle.gf_listing.specs.Listed.{AreOn}
use Rattle.std.specs.Prelude.{filter_map, slice_get}
use Rattle.gf_listing.proofs.PositionLemmas.{operations_on}
use Rattle.gf_listing.proofs.versions.Versions.operations.Goals as goal

pub returns : goal.returns
returns c =
    let h = c.self.inside.history.now.ops in
    let o = c.args.object in
    let at = c.positions.ensures ∙ c.self.invariant o in
    rw (← c.self.view_is) (IfOk-weaker c.operations_at.result _ _
    (λ ops e. subst (AreOn h o) (sym (e ∙ ap (filter_map (slice_get h)) at)) (operations_on h o))
    c.operations_at.ensures)
