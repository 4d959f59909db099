use Rattle.std.proofs.Common.{sym, ◌∙◌}
use Rattle.gf_classes.proofs.ClassSlotLemmas.{lone_told}
use Rattle.gf_classes.proofs.classes.lone_class.Goals as goal

pub returns-then-is_within : goal.returns-then-is_within
returns-then-is_within c =
    lone_told c.args.class c.in_ok-one.one c.args.own.now c.in_ok-one.ensures
    (sym c.is_within.ensures ∙ c.if-is_within.true)
