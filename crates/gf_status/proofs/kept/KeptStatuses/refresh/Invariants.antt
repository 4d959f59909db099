use Rattle.std.proofs.Common.{take}
use Rattle.std.specs.Prelude.{Contains}
use Rattle.gf_ops.specs.declared.op.ObjectId.{ObjectId}
use Rattle.gf_status.specs.KeptStatuses.{AreKept}
use Rattle.gf_status.specs.ObjectStatuses.{told_ids}
use Rattle.gf_status.proofs.kept.KeptStatuses.refresh.Given as goal

abbrev pub invariant-loop-id : goal.invariant-loop-id
invariant-loop-id l = record {
  keeps : AreKept l.versions l.self;
  all : (o : ObjectId) → Contains (take l.id-index l.id-items) o.0 → Contains (told_ids l.self) o.0;
}
