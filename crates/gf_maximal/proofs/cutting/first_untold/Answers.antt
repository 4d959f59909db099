use Rattle.std.proofs.Common.{get_or}
use Rattle.std.proofs.lemmas.List.Elements.{Contains-get_or}
use Rattle.gf_maximal.proofs.cutting.first_untold.Goals as goal

pub is_told-requires-clause-number : goal.is_told-requires-clause-number
is_told-requires-clause-number c =
    c.requires.numbers (get_or c.args.numbers.now c.loop-number.number-index 0)
    (Contains-get_or c.args.numbers.now c.loop-number.number-index 0 c.loop-number-test.true)
