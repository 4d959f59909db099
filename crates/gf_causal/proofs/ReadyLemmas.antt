-- Which held operation is ready, and which of two ids is less.
use Rattle.std.proofs.Common.{◌≡◌, ◌≢◌, ℕ, ◌+◌, ◌-◌, ◌<◌, ◌≤◌, min, List, inl, inr, refl, ap, subst}
use Rattle.std.proofs.Common.{sym, ◌∙◌, arith}
use Rattle.std.specs.Prelude.{◌⊎◌, ◌^◌, Contains}
use Rattle.std.specs.declared.cmp.Ordering.{Ordering}
use Rattle.std.specs.declared.cmp.Ordering.TheVariants.{Less, Equal, Greater}
use Rattle.std.specs.Ordering.{MatchOrdering, nat_cmp, ordering_then}
use Rattle.std.proofs.lemmas.Cmp.{ranked}
use Rattle.gf_ops.specs.declared.op.Op.{Op}
use Rattle.gf_ops.specs.declared.op.OpId.{OpId}
use Rattle.gf_ops.specs.OperationOrder.{count_of, id_cmp}
use Rattle.gf_ops.proofs.HistoryLemmas.{seq_in_range}
use Rattle.gf_causal.specs.Ready.{KnowsNoMore, IsReady}
use Rattle.gf_causal.specs.HeldOperations.{AreHeld, IsFree}
use Rattle.gf_causal.specs.DeliveredPart.{AreOneById}

module _ (held h : List Op) (are_held : AreHeld held) (s n : ℕ)
    (next : n ≡ min (count_of h s + 1) (2 ^ 32 - 1)) where
  -- a ready operation of the site s has the number n
  number_of_ready : (a : Op) → Contains held a → a.id.site ≡ s → IsReady h a → a.id.seq ≡ n
  number_of_ready a c e r =
      let l = (seq_in_range a (are_held.in_range a c)).1 in
      let q = subst (λ t. a.id.seq ≡ count_of h t + 1) e r.seq in
      omega arith

  id_of_ready : (a : Op) → Contains held a → a.id.site ≡ s → IsReady h a
      → a.id ≡ record { site = s; seq = n }
  id_of_ready a c e r = let q = number_of_ready a c e r in λ j. record { site = e j; seq = q j }

  pub none_ready : IsFree held (record { site = s; seq = n }) → (a : Op) → Contains held a
      → a.id.site ≡ s → ¬ (IsReady h a)
  none_ready f a c e r = f a c (id_of_ready a c e r)

  module _ (op : Op) (contained : Contains held op)
      (id : op.id ≡ record { site = s; seq = n }) where
    pub site_found : op.id.site ≡ s
    site_found = ap (λ (i : OpId). i.site) id

    pub ready_found : KnowsNoMore h op → IsReady h op
    ready_found k =
        let l = (seq_in_range op (are_held.in_range op contained)).1 in
        let q : op.id.seq ≡ n = ap (λ (i : OpId). i.seq) id in
        record {
          seq = subst (λ t. op.id.seq ≡ count_of h t + 1) (sym site_found)
              (let m : op.id.seq ≡ count_of h s + 1 = omega arith in m);
          others = k;
        }

    pub not_ready_found : AreOneById held → ¬ (KnowsNoMore h op) → (a : Op) → Contains held a
        → a.id.site ≡ s → ¬ (IsReady h a)
    not_ready_found one k a c e r =
        let q = one a op c contained (id_of_ready a c e r ∙ sym id) in
        k (subst (λ (x : Op). IsReady h x) q r).others

less_by : (x y m n : ℕ) (o p : Ordering) → MatchOrdering o (x < y) (x ≡ y) (y < x)
    → MatchOrdering p (m < n) (m ≡ n) (n < m) → ordering_then o p ≡ Less
    → (x < y) ⊎ ((x ≡ y) × (m < n))
less_by x y m n Less p a b e = inl a
less_by x y m n Equal Less a b e = inr (a, b)
less_by x y m n Equal Equal a b e = absurd cc
less_by x y m n Equal Greater a b e = absurd cc
less_by x y m n Greater p a b e = absurd cc

pub less_id : (i j : OpId) → id_cmp i j ≡ Less
    → (i.site < j.site) ⊎ ((i.site ≡ j.site) × (i.seq < j.seq))
less_id i j e = less_by i.site j.site i.seq j.seq (nat_cmp i.site j.site) (nat_cmp i.seq j.seq)
    (ranked i.site j.site (nat_cmp i.site j.site) refl)
    (ranked i.seq j.seq (nat_cmp i.seq j.seq) refl) e

-- of two ready operations that of the lesser site has the lesser id
pub least_ready : (h : List Op) (a b : Op) → IsReady h a → IsReady h b → a.id.site ≤ b.id.site
    → id_cmp b.id a.id ≢ Less
least_ready h a b r t l e = elim (less_id b.id a.id e) [
  | inl m ↦ absurd (omega arith)
  | inr m ↦
      let q = subst (λ s. b.id.seq ≡ count_of h s + 1) m.0 t.seq in
      let p = r.seq in let k = m.1 in absurd (omega arith)
]
