use Rattle.std.proofs.Common.{get_or}
use Rattle.std.proofs.lemmas.List.Elements.{Contains-get_or}
use Rattle.gf_maximal.proofs.cutting.spared.Goals as goal

pub without_row-requires : goal.without_row-requires
without_row-requires c = c.requires (get_or c.args.numbers.now c.loop-number.number-index 0)
    (Contains-get_or c.args.numbers.now c.loop-number.number-index 0 c.loop-number-test.true)
