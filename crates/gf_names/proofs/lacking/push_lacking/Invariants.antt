use Rattle.std.proofs.Common.{◌≡◌, ◌++◌, drop}
use Rattle.gf_names.specs.Lacking.{lacking}
use Rattle.gf_names.proofs.lacking.push_lacking.Given as goal

abbrev pub invariant-loop-id : goal.invariant-loop-id
invariant-loop-id l = l.out.items ++ lacking (drop l.id-index l.ids) l.rest
    ≡ l.initial.out.items ++ lacking l.ids l.others
