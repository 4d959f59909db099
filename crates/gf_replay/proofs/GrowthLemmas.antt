-- Histories that grow.
use Rattle.std.proofs.Common.{◌≡◌, List, [], ◌∷◌, ◌++◌, ◌∙◌, ap, append_assoc, append-nil, sym}
use Rattle.gf_ops.specs.declared.op.Op.{Op}
use Rattle.gf_ops.specs.declared.op.OpId.{OpId}
use Rattle.gf_site.specs.ReplicaState.{ReplicaState}
use Rattle.gf_site.specs.ReplicaSteps.{AppliesNext}
use Rattle.gf_site.specs.Growth.{Grows}

pub grows_same : (h k : List Op) → k ≡ h → Grows h k
grows_same h k e = record { more = []; whole = e ∙ sym (append-nil h) }

pub grows_on : (h k l : List Op) → Grows h k → Grows k l → Grows h l
grows_on h k l a b = record {
  more = a.more ++ b.more;
  whole = b.whole ∙ (ap (λ m. m ++ b.more) a.whole ∙ append_assoc h a.more b.more);
}

-- a step adds one operation
pub grows_applied : (h : List Op) (x y : ReplicaState) (i : OpId) → Grows h x.ops
    → AppliesNext x i y → Grows h y.ops
grows_applied h x y i grows applies = grows_on h x.ops y.ops grows
    (record { more = applies.op ∷ []; whole = applies.ops })
