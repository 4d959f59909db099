-- Operations that are accepted behind a history, one after the other.
use Rattle.std.proofs.Common.{◌≡◌, ℕ, ◌+◌, ◌-◌, ◌<◌, List, ◌++◌, get_or, length, refl, sym}
use Rattle.std.proofs.Common.{◌∙◌, ap, arith, subst, take}
use Rattle.std.proofs.Math.Seq.{take-append-add}
use Rattle.std.proofs.lemmas.List.{get_or-append_right, length-append}
use Rattle.gf_ops.specs.declared.op.Op.{Op}
use Rattle.gf_ops.specs.Accepted.{AreAccepted, IsAccepted}
use Rattle.gf_ops.proofs.AcceptedLemmas.{accepted_at}

-- each of them is accepted behind those before it
pub accepted_behind : (h new : List Op) → AreAccepted (h ++ new) → (k : ℕ) (a : Op)
    → k < length new → a ≡ get_or new k a → IsAccepted (h ++ take k new) a
accepted_behind h new run k a l is =
    let size = length-append h new in
    let at = accepted_at run (length h + k) a (omega arith) in
    let back : (length h + k) - length h ≡ k = omega arith in
    let item : get_or (h ++ new) (length h + k) a ≡ a =
    get_or-append_right h new (length h) (length h + k) a refl (omega arith)
    ∙ (ap (λ n. get_or new n a) back ∙ sym is) in
    subst (λ x. IsAccepted (h ++ take k new) x) item
    (subst (λ hs. IsAccepted hs (get_or (h ++ new) (length h + k) a)) (take-append-add h new k)
    at.accepted)
