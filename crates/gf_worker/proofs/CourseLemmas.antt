-- What holds of a site's list, and of what may come behind it.
use Rattle.std.proofs.Common.{◌≢◌, ℕ, zero, suc, ◌+◌, ◌≤◌, ◌<◌, cond, nat_eq, List, ◌++◌, inl, inr}
use Rattle.std.proofs.Common.{subst, arith}
use Rattle.std.specs.Prelude.{◌⊎◌}
use Rattle.std.proofs.lemmas.Bool.{cases_lt, cases_eq}
use Rattle.std.proofs.lemmas.List.Elements.{Contains-append_cases}
use Rattle.std.proofs.lemmas.List.Sums.{sum_by-append}
use Rattle.gf_ops.specs.declared.op.Op.{Op}
use Rattle.gf_ops.specs.OperationOrder.{IsSite, entry, count_of, Precedes}
use Rattle.gf_ops.specs.Accepted.{IsAccepted}
use Rattle.gf_causal.specs.Ready.{IsReady}
use Rattle.gf_causal.specs.DeliveredPart.{AreReady}
use Rattle.gf_causal.proofs.CourseLemmas.{has_counted, number_counted}
use Rattle.gf_site.specs.CommandAnswers.{ComesAfter, NothingComes}

-- a longer list counts no less
count_grows : (h k : List Op) (s : ℕ) → count_of h s ≤ count_of (h ++ k) s
count_grows h k s = let e = sum_by-append (λ (x : Op). cond (nat_eq x.id.site s) 1 0) h k in
    omega (arith, e)

-- ---- what was not ready before comes after something that came since

unknown_upto : (h : List Op) (a : Op) (n : ℕ) → n ≤ 8
    → ((s : ℕ) → 1 ≤ s → s ≤ n → s ≢ a.id.site → entry a.past s ≤ count_of h s)
    ⊎ ((t : ℕ) × IsSite t × (count_of h t < entry a.past t))
unknown_upto h a zero l = inl (λ s f m d. absurd (omega arith))
unknown_upto h a (suc n) l = elim (unknown_upto h a n (omega arith)) [
  | inr k ↦ inr k
  | inl b ↦ elim (cases_lt (count_of h (suc n)) (entry a.past (suc n))) [
    | inl m ↦ inr (suc n, (omega arith, l), m)
    | inr m ↦ inl (λ s f w d. elim (cases_eq s (suc n))
        [ inl e ↦ rw e m | inr o ↦ b s f (omega arith) d ])
  ]
]

module _ (s : ℕ) (before later : List Op) (a : Op) (first : AreReady before)
    (all : AreReady (before ++ later)) (site : IsSite s) (accepted : IsAccepted (before ++ later) a)
    (nothing : NothingComes s later) where
  from_unknown : (t : ℕ) → IsSite t → count_of before t < entry a.past t → ComesAfter s later a
  from_unknown t i m =
      let most = accepted.next.known t i in
      let w = has_counted all (record { site = t; seq = entry a.past t }) (omega arith) most in
      let b = w.op in
      let bs = w.site in
      let bq = w.seq in
      let comes : Precedes b a = rw bs (omega arith) in
      elim (Contains-append_cases before later b w.contained) [
        | inl c ↦ let n = subst (λ x. b.id.seq ≤ count_of before x) bs (number_counted first b c) in
            absurd (omega arith)
        | inr c ↦ elim (cases_eq b.id.site s) [
          | inl e ↦ record { op = b; contained = c; site = e; before = comes }
          | inr d ↦
              let g = nothing b c d in
              let wide = accepted.next.closed b w.contained comes s site in
              let q = subst (λ x. g.op.id.seq ≤ entry b.past x) g.site g.before in
              record {
                op = g.op;
                contained = g.contained;
                site = g.site;
                before = rw (g.site) (omega arith);
              }
        ]
      ]

  pub comes_after : IsSite a.id.site → ¬ (IsReady before a) → ComesAfter s later a
  comes_after i not = elim (unknown_upto before a 8 (omega arith)) [
    | inr k ↦ from_unknown k.0 k.1 k.2
    | inl k ↦ elim (cases_eq a.id.seq (count_of before a.id.site + 1)) [
      | inl e ↦ absurd (not (record { seq = e; others = λ t j d. k t j.0 j.1 d }))
      | inr d ↦ elim (cases_lt (count_of before a.id.site) (entry a.past a.id.site)) [
        | inl m ↦ from_unknown a.id.site i m
        | inr m ↦
            let own = accepted.next.numbered.own in
            let n = accepted.next.numbered.seq in
            let le = count_grows before later a.id.site in
            absurd (d (omega arith))
      ]
    ]
  ]
