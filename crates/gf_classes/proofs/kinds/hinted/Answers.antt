use Rattle.std.proofs.Common.{refl, sym, ◌∙◌}
use Rattle.std.specs.Prelude.{slice_get}
use Rattle.gf_classes.proofs.KindLemmas.{kind_told}
use Rattle.gf_classes.proofs.kinds.hinted.Goals as goal

pub returns-then-is_kind_at : goal.returns-then-is_kind_at
returns-then-is_kind_at c = kind_told c.args.kinds.now c.in_ok-class.field-0.now
    (slice_get c.args.kinds.now c.in_ok-class.field-0.now) c.args.rival_ranks.now c.args.hiding refl
    (sym c.is_kind_at.ensures ∙ c.if-is_kind_at.true)
