use Rattle.std.proofs.Common.{◌≡◌, ◌+◌, ◌≤◌, length}
use Rattle.gf_fig_read.specs.FigGrammar.{Leads, nothing}
use Rattle.gf_fig_read.proofs.ObjectLemmas.{made_of}
use Rattle.gf_fig_read.proofs.lines.skip_objects.Given as goal

abbrev pub invariant-loop-code : goal.invariant-loop-code
invariant-loop-code l = record {
  led : Leads nothing l.fn.tokens l.drawing l.left;
  number : made_of l.drawing + l.ahead + 1 ≡ l.fn.object;
  few : length l.left ≤ length l.fn.tokens;
}

abbrev pub decreases-loop-code : goal.decreases-loop-code
decreases-loop-code l = length l.left
