-- What an edit tells of the operations that it made (this project's choice).
use Rattle.std.specs.Prelude.{List, [], ◌∷◌, Option, Some, None}
use Rattle.gf_ops.specs.declared.op.Op.{Op}
use Rattle.gf_ops.specs.declared.op.OpId.{OpId}
use Rattle.gf_edit.specs.declared.made.Made.{Made}

-- the id of the last of these operations, or i where there are none
abbrev pub last_id : OpId → List Op → OpId
last_id i [] = i
last_id i (a ∷ ops) = last_id a.id ops

-- the ids of the first and the last of these operations, if there are any
abbrev pub made_of : List Op → Option Made
made_of [] = None
made_of (a ∷ ops) = Some (record { first = a.id; last = last_id a.id ops })

-- what is told of operations with one of the id i behind them
abbrev pub made_until : Option Made → OpId → Made
made_until None i = record { first = i; last = i }
made_until (Some m) i = record { first = m.first; last = i }
