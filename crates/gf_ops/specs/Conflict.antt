-- Which operations cannot stand in one version (conflict and compatible, Sun and Chen, ACM TOCHI
-- 9(1), 2002; that an operation brings its aim is this project's choice).
use Rattle.std.specs.Prelude.{List}
use Rattle.gf_ops.specs.declared.op.Op.{Op}
use Rattle.gf_ops.specs.Aims.{AimsAt, Brings}
use Rattle.gf_ops.specs.DirectConflict.{DirectConflict}

-- a or one that it aims at conflicts directly with b or one that b aims at
pub record Conflict (h : List Op) (a b : Op) : Type 0 where
  pub first : Op
  pub second : Op
  pub brings_first : Brings h a first
  pub brings_second : Brings h b second
  pub direct : DirectConflict first second

-- a conflicts directly with b, or with one that b aims at
pub record ConflictsWithBrought (h : List Op) (a b : Op) : Type 0 where
  pub second : Op
  pub brings : Brings h b second
  pub direct : DirectConflict a second

-- one that a aims at conflicts with b
pub record ConflictsByAim (h : List Op) (a b : Op) : Type 0 where
  pub aimed : Op
  pub aims : AimsAt h a aimed
  pub conflict : Conflict h aimed b
