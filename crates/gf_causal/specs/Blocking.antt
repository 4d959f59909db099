-- What waits, and keeps a site from making operations (this project's choice).
use Rattle.std.specs.Prelude.{◌⊎◌, ◌≡◌, ℕ, ◌<◌, List, Contains}
use Rattle.gf_ops.specs.declared.op.Op.{Op}
use Rattle.gf_ops.specs.OperationOrder.{count_of, entry}

-- a is not in h, and is of site s or knows more operations of site s than h has
pub record Blocks (s : ℕ) (h : List Op) (a : Op) : Type 0 where
  pub waits : ¬ (Contains h a)
  pub knows : (a.id.site ≡ s) ⊎ (count_of h s < entry a.past s)
