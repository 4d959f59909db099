use Rattle.std.proofs.Common.{◌≡◌, take}
use Rattle.std.specs.Prelude.{flat_map}
use Rattle.gf_groups.specs.declared.group.Group.{Group}
use Rattle.gf_status.proofs.hidden.listed.Given as goal

abbrev pub invariant-loop-group : goal.invariant-loop-group
invariant-loop-group l = l.ids.items ≡ flat_map (λ (g : Group). g.ops) (take l.group-index l.groups)
