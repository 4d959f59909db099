use Rattle.std.proofs.Common.{◌≡◌, ◌-◌, length}
use Rattle.std.specs.Io.KnownBytes.{Keeps, prepend_known}
use Rattle.gf_serve.proofs.inbox.read_line.Given as goal

abbrev pub invariant-loop-held : goal.invariant-loop-held
invariant-loop-held g l = record {
  keeps : Keeps (prepend_known l.fn.held.items (g.R.Source.left l.fn.source))
      (prepend_known l.held.items (g.R.Source.left l.source));
  failures : g.R.Source.failures l.source ≡ g.R.Source.failures l.fn.source;
}

abbrev pub decreases-loop-held : goal.decreases-loop-held
decreases-loop-held g l = 1001 - length l.held.items
