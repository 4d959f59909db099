use Rattle.std.proofs.Common.{subst, sym, ◌∙◌}
use Rattle.gf_groups.specs.Versions.{IsMade}
use Rattle.gf_take_run.proofs.planning.restored.Goals as goal

pub count-requires : goal.count-requires
count-requires c =
    subst (λ h. IsMade h c.args.object)
    (c.history.ensures.ops ∙ sym (c.of.ensures.ops ∙ c.indexed.ensures))
    (c.is_made.ensures.0 c.if-not-is_made.false)
