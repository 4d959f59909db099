use Rattle.std.proofs.Common.{◌≡◌, ◌++◌}
use Rattle.gf_kept.proofs.kept.KeptVersions.copy.Given as goal

abbrev pub invariant-loop-object : goal.invariant-loop-object
invariant-loop-object l = l.objects.entries ++ l.object-iterator ≡ l.initial.object-iterator
