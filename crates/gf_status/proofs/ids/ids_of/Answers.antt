use Rattle.std.proofs.Common.{subst, ◌∙◌}
use Rattle.std.specs.Prelude.{IfOk}
use Rattle.gf_names.specs.RisingIds.{IsRisingOf}
use Rattle.gf_status.proofs.ids.ids_of.Goals as goal

pub returns : goal.returns
returns c = subst (λ ids. IfOk c.rising.result (IsRisingOf ids))
    (c.deref.ensures.value ∙ c.in_ok-ids.ensures) c.rising.ensures
