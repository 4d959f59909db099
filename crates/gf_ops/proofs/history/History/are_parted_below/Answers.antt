use Rattle.std.proofs.Common.{◌∙◌, sym, true≢false}
use Rattle.gf_ops.proofs.AimLemmas.{never}
use Rattle.gf_ops.proofs.history.History.are_parted_below.Goals as goal

pub returns-then-not-are_parted : goal.returns-then-not-are_parted
returns-then-not-are_parted c = never
    (λ p. true≢false (sym (c.are_parted.ensures.1 (p c.loop-other.other c.loop-other.auto.other
    c.loop-other-test.true)) ∙ c.if-not-are_parted.true))
