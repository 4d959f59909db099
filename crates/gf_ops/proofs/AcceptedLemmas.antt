-- Of operations each of which was accepted, each is accepted behind those before it.
use Rattle.std.proofs.Common.{◌≡◌, ℕ, ◌-◌, ◌<◌, List, [], ◌∷◌, ◌++◌, get_or, length, sym}
use Rattle.std.proofs.Common.{subst, ap, ◌∙◌, arith, inl, inr, take}
use Rattle.std.proofs.lemmas.Bool.{cases_lt}
use Rattle.std.proofs.lemmas.List.{get_or_append_left, get_or-append_right, length-append, take_all}
use Rattle.std.proofs.lemmas.List.{take-append-le}
use Rattle.gf_ops.specs.declared.op.Op.{Op}
use Rattle.gf_ops.specs.Accepted.{AreAccepted, IsAccepted, none, next}

-- those before were accepted, and a behind them
pub record IsAcceptedAt (h : List Op) (a : Op) : Type 0 where
  pub run : AreAccepted h
  pub accepted : IsAccepted h a

pub accepted_at : {h : List Op} → AreAccepted h → (i : ℕ) (d : Op) → i < length h
    → IsAcceptedAt (take i h) (get_or h i d)
accepted_at none i d l = absurd (omega arith)
accepted_at (next {h} {a} run accepted) i d l = elim (cases_lt i (length h)) [
  | inl less ↦
      let first = sym (take-append-le i h (a ∷ []) (omega arith)) in
      let item = sym (get_or_append_left h (a ∷ []) d i less) in
      let was = accepted_at run i d less in
      subst (λ x. IsAcceptedAt (take i (h ++ a ∷ [])) x) item
      (subst (λ k. IsAcceptedAt k (get_or h i d)) first was)
  | inr more ↦
      let size = length-append h (a ∷ []) in
      let whole : i ≡ length h = omega arith in
      let first : take i (h ++ a ∷ []) ≡ h =
      take-append-le i h (a ∷ []) (omega arith) ∙ take_all i h (omega arith) in
      let item : get_or (h ++ a ∷ []) i d ≡ a =
      get_or-append_right h (a ∷ []) i i d (sym whole) (omega arith)
      ∙ ap (λ n. get_or (a ∷ []) n d) (let z : i - i ≡ 0 = omega arith in z) in
      subst (λ x. IsAcceptedAt (take i (h ++ a ∷ [])) x) (sym item)
      (subst (λ k. IsAcceptedAt k a) (sym first) (record { run = run; accepted = accepted }))
]
