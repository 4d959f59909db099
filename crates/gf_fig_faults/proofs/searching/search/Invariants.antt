use Rattle.std.proofs.Common.{◌-◌, ◌++◌, List}
use Rattle.std.specs.Prelude.{None}
use Rattle.gf_fig_faults.specs.declared.faults.DrawingFault.{DrawingFault}
use Rattle.gf_fig_faults.specs.DrawingFaults.{AreFaults, most_told}
use Rattle.gf_fig_faults.proofs.searching.search.Given as goal

abbrev pub invariant-loop : goal.invariant-loop
invariant-loop l = (rest : List DrawingFault)
    → AreFaults (64 - l.counter) l.last l.left.items rest
    → AreFaults most_told None l.fn.text (l.faults.items ++ rest)
