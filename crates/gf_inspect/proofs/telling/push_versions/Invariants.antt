use Rattle.std.proofs.Common.{◌≡◌, ◌++◌, take}
use Rattle.std.specs.Prelude.{flat_map}
use Rattle.gf_inspect.specs.Told.{told_version}
use Rattle.gf_inspect.proofs.telling.push_versions.Given as goal

abbrev pub invariant-loop-version : goal.invariant-loop-version
invariant-loop-version l = l.out.items ≡ l.initial.out.items ++ flat_map
    (told_version l.notation) (take l.version-index l.versions)
