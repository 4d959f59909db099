-- When an operation is ready behind a history (causal delivery, after Birman, Schiper and
-- Stephenson, ACM TOCS 9(3), 1991; its own entry is not looked at: this project's choice).
use Rattle.std.specs.Prelude.{◌≡◌, ◌≢◌, ℕ, ◌+◌, ◌≤◌, List, Contains}
use Rattle.gf_ops.specs.declared.op.Op.{Op}
use Rattle.gf_ops.specs.OperationOrder.{IsSite, entry, count_of}

-- a knows of each other site no more than h has
abbrev pub KnowsNoMore : List Op → Op → Type 0
KnowsNoMore h a = (s : ℕ) → IsSite s → s ≢ a.id.site → entry a.past s ≤ count_of h s

-- a has the next number of its site behind h, and knows no more of other sites than h has
pub record IsReady (h : List Op) (a : Op) : Type 0 where
  pub seq : a.id.seq ≡ count_of h a.id.site + 1
  pub others : KnowsNoMore h a

-- no operation of the list is ready behind h
abbrev pub NoneIsReady : List Op → List Op → Type 0
NoneIsReady h ops = (a : Op) → Contains ops a → ¬ (IsReady h a)
