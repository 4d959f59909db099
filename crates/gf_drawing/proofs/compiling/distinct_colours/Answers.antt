use Rattle.std.proofs.Common.{rules, ◌≡◌, ◌∙◌, sym}
use Rattle.gf_drawing.proofs.CompilingLemmas.{one_item_more, with_new}
use Rattle.gf_drawing.proofs.compiling.distinct_colours.Goals as goal

pub loop-item-preserved : goal.loop-item-preserved
loop-item-preserved g c =
    let seen : c.insert.new.self.keys ≡ with_new c.loop-item.colours.keys
    c.item-item.result.colour = search rules in
    let all = one_item_more c.args.items.now c.loop-item.item-index c.item-item.result
    c.loop-item-test.true c.item-item.is in
    rw c.loop-item.invariant at seen ∙ sym all
