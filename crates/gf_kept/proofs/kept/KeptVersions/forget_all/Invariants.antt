use Rattle.std.proofs.Common.{take}
use Rattle.gf_kept.proofs.KeepingLemmas.{AreForgotten}
use Rattle.gf_kept.proofs.kept.KeptVersions.forget_all.Given as goal

abbrev pub invariant-loop-object : goal.invariant-loop-object
invariant-loop-object l = AreForgotten (take l.object-index l.objects)
    l.initial.self-inside.objects.entries l.self-inside.objects.entries
