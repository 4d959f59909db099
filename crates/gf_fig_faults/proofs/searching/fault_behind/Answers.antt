use Rattle.std.proofs.Common.{◌∙◌, sym}
use Rattle.gf_fig_faults.specs.DrawingFaults.{before, reads}
use Rattle.gf_fig_faults.proofs.searching.fault_behind.Goals as goal

pub returns-in_default : goal.returns-in_default
returns-in_default c =
    let found = rw c.in_default.is at c.in_ok-line.ensures in
    reads found.0 found.1

pub returns-then-not-is_behind : goal.returns-then-not-is_behind
returns-then-not-is_behind c =
    before c.in-Some.fault c.in-Some.line (rw c.in-Some.is at c.in_ok-line.ensures)
    (sym c.is_behind.ensures ∙ c.if-not-is_behind.true)
