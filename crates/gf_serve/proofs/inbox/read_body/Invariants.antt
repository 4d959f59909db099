use Rattle.std.proofs.Common.{◌≡◌, ◌-◌, length}
use Rattle.std.specs.Io.KnownBytes.{Keeps, prepend_known}
use Rattle.gf_serve.proofs.inbox.read_body.Given as goal

abbrev pub invariant-loop-source : goal.invariant-loop-source
invariant-loop-source g l = record {
  keeps : Keeps (prepend_known l.fn.held.items (g.R.Source.left l.fn.source))
      (prepend_known l.held.items (g.R.Source.left l.source));
  failures : g.R.Source.failures l.source ≡ g.R.Source.failures l.fn.source;
}

abbrev pub decreases-loop-source : goal.decreases-loop-source
decreases-loop-source g l = l.count - length l.held.items
