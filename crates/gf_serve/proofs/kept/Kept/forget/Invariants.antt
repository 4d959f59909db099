use Rattle.std.proofs.Common.{List, ◌++◌, take}
use Rattle.gf_ops.specs.declared.op.Op.{Op}
use Rattle.gf_ops.specs.Accepted.{AreAccepted}
use Rattle.gf_ops.specs.ValidHistory.{IsValid}
use Rattle.gf_serve.specs.ServingSteps.{KeepsBoth}
use Rattle.gf_serve.proofs.AnswerLemmas.{IsForgotten}
use Rattle.gf_serve.proofs.kept.Kept.forget.Given as goal

abbrev pub invariant-loop-op : goal.invariant-loop-op
invariant-loop-op l = (h : List Op) → IsValid h → AreAccepted h → IsValid (h ++ l.ops)
    → AreAccepted (h ++ l.ops) → KeepsBoth h l.initial.self
    → IsForgotten (λ k. KeepsBoth k l.self) (h ++ take l.op-index l.ops)
