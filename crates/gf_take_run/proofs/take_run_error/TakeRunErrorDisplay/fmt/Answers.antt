use Rattle.std.proofs.Common.{append_assoc}
use Rattle.std.specs.Prelude.{codes, ◌++◌}
use Rattle.gf_ops.specs.IdText.{id_text}
use Rattle.gf_take_run.proofs.take_run_error.TakeRunErrorDisplay.fmt.Goals as goal

pub returns-in-Waits-clause-writes : goal.returns-in-Waits-clause-writes
returns-in-Waits-clause-writes g c =
    let i = id_text c.in-Waits.id in
    rw (c.in-Waits.is, append_assoc i (codes " waits for ") (id_text c.in-Waits.other))
    c.write-in-Waits.ensures.writes

pub returns-in-Older-clause-writes : goal.returns-in-Older-clause-writes
returns-in-Older-clause-writes g c =
    let i = id_text c.in-Older.id in
    let j = id_text c.in-Older.other in
    rw (
      c.in-Older.is,
      append_assoc (i ++ codes ", which knows ") j (codes ": open the drawing anew"),
      append_assoc i (codes ", which knows ") (j ++ codes ": open the drawing anew"),
    ) c.write-in-Older.ensures.writes
