use Rattle.std.specs.Prelude.{IsTrue}
use Rattle.std.proofs.Common.{◌≢◌, rules, subst}
use Rattle.gf_ops.specs.Limits.{is_id}
use Rattle.gf_base.proofs.ListLemmas.{not_Contains-nil}
use Rattle.gf_causal.specs.HeldOperations.{IsFree}
use Rattle.gf_edit.proofs.making.refusal.Goals as goal

pub returns-else-has : goal.returns-else-has
returns-else-has c =
    let id : IsTrue (is_id c.args.id) = search rules in
    let other : c.args.id.site ≢ c.args.site.now.number = search rules in (
      id,
      other,
      subst (λ l. IsFree l c.args.id) c.history.ensures.ops (c.has.ensures.no c.if-has.false),
      λ a i d. absurd (not_Contains-nil a i),
    )
