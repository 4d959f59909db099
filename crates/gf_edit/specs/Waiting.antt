-- Whether an operation that waits blocks a site (this project's choice).
use Rattle.std.specs.Prelude.{ℕ, ◌==◌, ◌||◌, nat_lt, Bool, List}
use Rattle.gf_ops.specs.declared.op.Op.{Op}
use Rattle.gf_ops.specs.OperationOrder.{entry, count_of}

-- a is of site s, or knows more operations of site s than h has
abbrev pub is_blocking : ℕ → List Op → Op → Bool
is_blocking s h a = a.id.site == s || nat_lt (count_of h s) (entry a.past s)
