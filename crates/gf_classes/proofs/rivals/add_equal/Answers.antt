use Rattle.std.proofs.Common.{◌≡◌, true, sym, ◌∙◌, true≢false}
use Rattle.std.specs.Prelude.{Some, slice_get}
use Rattle.std.proofs.lemmas.Result.{on_ok_weaker}
use Rattle.gf_classes.specs.Rivals.{have_one_value}
use Rattle.gf_classes.proofs.EqualLemmas.{adds_joined, adds_none}
use Rattle.gf_classes.proofs.rivals.add_equal.Goals as goal

pub returns-then-is_equal : goal.returns-then-is_equal
returns-then-is_equal c =
    let one = have_one_value c.args.ops.now (slice_get c.args.setters.now c.args.rank)
    (Some c.args.x.now) in
    on_ok_weaker c.join.result (λ e. adds_joined (one ≡ true) c.args.rank c.args.some.now
    c.join.new.self (sym c.is_equal.ensures.value ∙ c.if-is_equal.true) e) c.join.ensures.ok

pub returns-else-is_equal : goal.returns-else-is_equal
returns-else-is_equal c =
    adds_none (have_one_value c.args.ops.now (slice_get c.args.setters.now c.args.rank)
    (Some c.args.x.now) ≡ true) c.args.rank c.args.some.now
    (λ t. true≢false (sym t ∙ (sym c.is_equal.ensures.value ∙ c.if-is_equal.false)))
