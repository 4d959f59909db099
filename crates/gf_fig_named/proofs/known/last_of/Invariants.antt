use Rattle.std.proofs.Common.{◌≡◌, take}
use Rattle.gf_fig_named.specs.KnownSteps.{last_or}
use Rattle.gf_fig_named.proofs.known.last_of.Given as goal

abbrev pub invariant-loop-id : goal.invariant-loop-id
invariant-loop-id l = l.last ≡ last_or l.site 0 (take l.id-index l.ids)
