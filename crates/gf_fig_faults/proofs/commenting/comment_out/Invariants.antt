use Rattle.std.proofs.Common.{◌≡◌, ◌++◌, length}
use Rattle.gf_fig_tokens.specs.Layout.{lines}
use Rattle.gf_fig_faults.specs.Commenting.{commented, commented_out}
use Rattle.gf_fig_faults.proofs.commenting.comment_out.Given as goal

abbrev pub invariant-loop-line : goal.invariant-loop-line
invariant-loop-line l =
    l.new.items ++ commented l.stage (lines l.left) ≡ commented_out l.fn.line l.fn.text

abbrev pub decreases-loop-line : goal.decreases-loop-line
decreases-loop-line l = length l.left
