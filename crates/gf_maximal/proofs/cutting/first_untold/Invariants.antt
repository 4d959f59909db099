use Rattle.std.proofs.Common.{◌≡◌, true, take}
use Rattle.std.specs.List.{list_all}
use Rattle.gf_maximal.specs.Parents.{is_told}
use Rattle.gf_maximal.specs.Rows.{conflict}
use Rattle.gf_maximal.proofs.cutting.first_untold.Given as goal

abbrev pub invariant-loop-number : goal.invariant-loop-number
invariant-loop-number l = list_all (is_told (conflict l.rows) l.rivals l.set)
    (take l.number-index l.numbers) ≡ true
