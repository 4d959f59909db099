-- Operations each of which was accepted, and courses, are valid histories.
use Rattle.std.proofs.Common.{◌≢◌, ℕ, ◌≤◌, List, [], ◌∷◌, ◌++◌, subst, arith}
use Rattle.std.specs.Prelude.{Contains}
use Rattle.gf_base.proofs.ListLemmas.{not_Contains-nil}
use Rattle.gf_ops.specs.declared.op.Op.{Op}
use Rattle.gf_ops.specs.declared.op.OpId.{OpId}
use Rattle.gf_ops.specs.Limits.{IsInRange}
use Rattle.gf_ops.specs.OperationOrder.{count_of}
use Rattle.gf_ops.specs.Accepted.{IsAccepted, AreAccepted}
use Rattle.gf_ops.specs.ValidHistory.{IsValid}
use Rattle.gf_ops.proofs.ValidityLemmas.{IsValid-push}
use Rattle.gf_causal.specs.DeliveredPart.{AreReady}
use Rattle.gf_causal.proofs.CourseLemmas.{has_counted, number_counted}
use Rattle.gf_site.specs.Course.{IsCourse, none as course_none, next as course_next}
use Rattle.gf_site.proofs.CourseLemmas.{all_ready}

pub valid_nil : IsValid []
valid_nil = record {
  in_range = λ a m. absurd (not_Contains-nil a m);
  distinct = λ i j d l m. absurd (omega arith);
  own = λ a m. absurd (not_Contains-nil a m);
  closed = λ a m. absurd (not_Contains-nil a m);
  suited = λ a m. absurd (not_Contains-nil a m);
  aimed = λ a m. absurd (not_Contains-nil a m);
}

-- an accepted operation has a new id
pub fresh_id : (h : List Op) → AreReady h → (a : Op) → IsAccepted h a → (b : Op) → Contains h b
    → b.id ≢ a.id
fresh_id h ready a accepted b m e =
    let l = number_counted ready b m in
    let w = subst (λ (i : OpId). i.seq ≤ count_of h i.site) e l in
    let s = accepted.next.numbered.seq in absurd (omega arith)

-- an accepted operation keeps a history valid
pub valid_push : (h : List Op) → AreAccepted h → IsValid h → (a : Op) → IsInRange a → IsAccepted h a
    → IsValid (h ++ a ∷ [])
valid_push h run valid a in_range accepted =
    let ready = all_ready run in
    IsValid-push h a valid in_range accepted.next accepted.suited accepted.aimed
    (fresh_id h ready a accepted)
    (λ i site first last. let t = has_counted ready i first last in record {
      op = t.op;
      contained = t.contained;
      id = λ j. record { site = t.site j; seq = t.seq j };
      such = tt;
    })

pub course_valid : {s : ℕ} {h : List Op} → IsCourse s h → IsValid h
course_valid course_none = valid_nil
course_valid (course_next a c v k) = v
