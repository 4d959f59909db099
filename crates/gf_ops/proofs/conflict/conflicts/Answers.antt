use Rattle.std.proofs.Common.{sym, ◌∙◌, true≢false}
use Rattle.gf_ops.proofs.AimLemmas.{aim_conflict, conflict_aim}
use Rattle.gf_ops.proofs.conflict.conflicts.Goals as goal

pub returns-else-conflicts_with_brought : goal.returns-else-conflicts_with_brought
returns-else-conflicts_with_brought c =
    let told = rw c.aim.ensures at c.aim_conflicts.ensures in (
      λ t. aim_conflict c.args.history.now.ops c.args.a.now c.args.b.now (told.0 t),
      λ conflict. told.1 (conflict_aim c.args.history.now.ops c.args.a.now c.args.b.now
          (λ m. true≢false (sym (c.conflicts_with_brought.ensures.1 m)
          ∙ c.if-conflicts_with_brought.false))
          conflict),
    )
