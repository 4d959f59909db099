use Rattle.std.proofs.Common.{◌≡◌, map, take}
use Rattle.clap.specs.Simple.{shape_of}
use Rattle.gf_command.specs.Usages.{usage_shape}
use Rattle.gf_command.proofs.describing.commands.Given as goal

abbrev pub invariant-loop-run : goal.invariant-loop-run
invariant-loop-run l = map shape_of l.commands.items ≡ map usage_shape (take l.run-index l.runs)
