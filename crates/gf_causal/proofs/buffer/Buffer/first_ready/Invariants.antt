use Rattle.std.proofs.Common.{◌≤◌}
use Rattle.std.specs.Prelude.{Contains}
use Rattle.gf_ops.specs.declared.op.Op.{Op}
use Rattle.gf_causal.specs.Ready.{IsReady}
use Rattle.gf_causal.proofs.buffer.Buffer.first_ready.Given as goal

abbrev pub invariant-loop-site : goal.invariant-loop-site
invariant-loop-site l = (a : Op) → Contains l.self a → IsReady l.history.ops a → l.site ≤ a.id.site
