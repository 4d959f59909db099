use Rattle.std.proofs.lemmas.Bool.Decides.{same_from_decides}
use Rattle.gf_groups.specs.VersionList.{in_conflict}
use Rattle.gf_groups.proofs.ConflictTestLemmas.{conflict_decided}
use Rattle.gf_status.proofs.unseen.in_conflict.Goals as goal

pub returns : goal.returns
returns c = same_from_decides c.conflicts.result (in_conflict c.args.history.now.ops c.args.a.now
    c.args.b.now) c.conflicts.ensures (conflict_decided c.args.history.now.ops c.args.a.now
    c.args.b.now)
