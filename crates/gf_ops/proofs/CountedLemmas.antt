-- A valid history has as many operations of a site as the number of each says. The crates above
-- cite it.
use Rattle.std.proofs.Common.{◌≡◌, ℕ, ◌+◌, ◌≤◌, List, [], ◌∷◌, Bool, true, false, cond, zero, suc}
use Rattle.std.proofs.Common.{refl, sym, subst, ap, ◌∙◌, arith, inl, inr, ◌&&◌, nat_le, nat_eq}
use Rattle.std.specs.Prelude.{Contains, count_by}
use Rattle.std.proofs.lemmas.Bool.{cases_eq}
use Rattle.std.proofs.lemmas.List.Sums.{sum_by-cons}
use Rattle.gf_ops.specs.declared.op.Op.{Op}
use Rattle.gf_ops.specs.declared.op.OpId.{OpId}
use Rattle.gf_ops.specs.OperationOrder.{count_of}
use Rattle.gf_ops.specs.ValidHistory.{IsValid}
use Rattle.gf_ops.proofs.HistoryLemmas.{site_in_range}
use Rattle.gf_base.proofs.ListLemmas.{Contains-cons_cases, not_Contains-nil}

weight_none : (b : Bool) → b ≡ false → cond b 1 0 ≤ 0
weight_none b h = rw h (omega arith)

weight_one : (b : Bool) → b ≡ true → 1 ≤ cond b 1 0
weight_one b h = rw h (omega arith)

cond_le : (b c : Bool) → (b ≡ true → c ≡ true) → cond b 1 0 ≤ cond c 1 0
cond_le true c f = rw (f refl) (omega arith)
cond_le false c f = omega arith

module _ (p q : Op → Bool) (more : (x : Op) → p x ≡ true → q x ≡ true) where
  count_le : (h : List Op) → count_by p h ≤ count_by q h
  count_le [] = omega arith
  count_le (x ∷ h) =
      let a = sum_by-cons (λ (y : Op). cond (p y) 1 0) x h in
      let b = sum_by-cons (λ (y : Op). cond (q y) 1 0) x h in
      let i = count_le h in
      let c = cond_le (p x) (q x) (more x) in omega (arith, a, b, i, c)

  count_less : (h : List Op) (y : Op) → Contains h y → p y ≡ false → q y ≡ true
      → count_by p h + 1 ≤ count_by q h
  count_less [] y m off on = absurd (not_Contains-nil y m)
  count_less (x ∷ h) y m off on =
      let a = sum_by-cons (λ (z : Op). cond (p z) 1 0) x h in
      let b = sum_by-cons (λ (z : Op). cond (q z) 1 0) x h in
      elim (Contains-cons_cases x h y m) [
        | inl e ↦
            let i = count_le h in
            let s = weight_none (p x) (ap p (sym e) ∙ off) in
            let t = weight_one (q x) (ap q (sym e) ∙ on) in omega (arith, a, b, i, s, t)
        | inr n ↦
            let i = count_less h y n off on in
            let c = cond_le (p x) (q x) (more x) in omega (arith, a, b, i, c)
      ]

-- an operation of the site s, numbered up to n
abbrev upto : ℕ → ℕ → Op → Bool
upto s n x = nat_eq x.id.site s && nat_le x.id.seq n

-- h has an operation of the site s numbered k
record HasNumber (h : List Op) (s k : ℕ) : Type 0 where
  op : Op
  contained : Contains h op
  site : op.id.site ≡ s
  seq : op.id.seq ≡ k

more_number : (t k s n : ℕ) → (nat_eq t s && nat_le k n) ≡ true
    → (nat_eq t s && nat_le k (n + 1)) ≡ true
more_number t k s n h = grind (arith, h)

same_site : (t k s n : ℕ) → (nat_eq t s && nat_le k n) ≡ true → nat_eq t s ≡ true
same_site t k s n h = grind (arith, h)

next_off : (t k s n : ℕ) → k ≡ suc n → (nat_eq t s && nat_le k n) ≡ false
next_off t k s n e = rw e (grind arith)

next_on : (t k s n : ℕ) → t ≡ s → k ≡ suc n → (nat_eq t s && nat_le k (n + 1)) ≡ true
next_on t k s n d e = rw (d, e) (grind arith)

upto_more : (s n : ℕ) (x : Op) → upto s n x ≡ true → upto s (n + 1) x ≡ true
upto_more s n x h = more_number x.id.site x.id.seq s n h

upto_site : (s n : ℕ) (x : Op) → upto s n x ≡ true → nat_eq x.id.site s ≡ true
upto_site s n x h = same_site x.id.site x.id.seq s n h

numbered : (h : List Op) (s n : ℕ) → ((k : ℕ) → 1 ≤ k → k ≤ n → HasNumber h s k)
    → n ≤ count_by (upto s n) h
numbered h s zero each = omega arith
numbered h s (suc n) each =
    let i = numbered h s n (λ k l m. each k l (omega (arith, m))) in
    let o = each (suc n) (omega arith) (omega arith) in
    let off = next_off o.op.id.site o.op.id.seq s n o.seq in
    let on = next_on o.op.id.site o.op.id.seq s n o.site o.seq in
    let c = count_less (upto s n) (upto s (n + 1)) (upto_more s n) h o.op o.contained off on in
    let next : n + 1 ≡ suc n = omega arith in
    subst (λ m. m ≤ count_by (upto s m) h) next (omega (arith, i, c))

-- THE NUMBER of an operation is at most the count of its site
pub number_counted : (h : List Op) → IsValid h → (a : Op) → Contains h a
    → a.id.seq ≤ count_of h a.id.site
number_counted h valid a m =
    let range = valid.in_range a m in
    let all : a.id.seq ≤ count_by (upto a.id.site a.id.seq) h = numbered h a.id.site a.id.seq
    (λ k l n. elim (cases_eq k a.id.seq) [
      | inl e ↦ record { op = a; contained = m; site = refl; seq = sym e }
      | inr d ↦
          let held = valid.closed a m (record { site = a.id.site; seq = k })
          (record { site = site_in_range a range; first = l; last = omega arith }) in
          record {
            op = held.op;
            contained = held.contained;
            site = ap (λ (i : OpId). i.site) held.id;
            seq = ap (λ (i : OpId). i.seq) held.id;
          }
    ]) in
    let most = count_le (upto a.id.site a.id.seq) (λ (b : Op). nat_eq b.id.site a.id.site)
    (upto_site a.id.site a.id.seq) h in
    omega (arith, all, most)
