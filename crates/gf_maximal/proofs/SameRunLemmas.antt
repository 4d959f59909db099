-- Runs are told by their numbers: two lists of runs with the same numbers are one.
use Rattle.std.proofs.Common.{◌≡◌, ℕ, ◌<◌, ◌≤◌, Bool, true, List, [], ◌∷◌, ◌++◌, inl, inr}
use Rattle.std.proofs.Common.{refl, subst, sym, ap, ◌∙◌, arith}
use Rattle.std.specs.Prelude.{◌⊎◌, ◌==◌, Contains, bytes_eq, nat_le}
use Rattle.std.specs.Bool.{Decides}
use Rattle.std.proofs.lemmas.Bool.{cases_Bool}
use Rattle.std.proofs.lemmas.List.{append_cancel_left}
use Rattle.std.proofs.lemmas.Bool.{and_parts}
use Rattle.std.proofs.lemmas.Bool.Decides.{Decides-eqb}
use Rattle.std.proofs.lemmas.Slice.Eq.{bytes_eq-Decides, slice_eq-Decides}
use Rattle.gf_base.proofs.ListLemmas.{not_Contains-nil}
use Rattle.gf_maximal.specs.declared.run.Run.{Run}
use Rattle.gf_maximal.specs.Runs.{AreRuns, are_same, is_same, members, numbers_of}
use Rattle.gf_maximal.proofs.RunLemmas.{nat_le_true, nat_le_false}
use Rattle.gf_maximal.proofs.RunSetLemmas.{Has, above_first, in_members}

none_in : (q : Run) (qs : List Run) → AreRuns (q ∷ qs) → [] ≡ members (q ∷ qs) → ⊥
none_in q qs w e =
    let l = w.0 in
    not_Contains-nil q.start
    (subst (λ z. Contains z q.start) (sym e)
    ((in_members (q ∷ qs) q.start).1 (inl (omega arith, omega (arith, l)))))

-- no number of the runs is before the first one
least : (r : Run) (rs : List Run) → AreRuns (r ∷ rs) → (a : ℕ) → Has (r ∷ rs) a → r.start ≤ a
least r rs w a (inl i) = i.0
least r rs w a (inr i) = let l = above_first r rs w a i in let m = w.0 in omega (arith, l, m)

module _ (r q : Run) (rs qs : List Run) (w : AreRuns (r ∷ rs)) (v : AreRuns (q ∷ qs))
    (e : members (r ∷ rs) ≡ members (q ∷ qs)) where
  other : (a : ℕ) → Has (r ∷ rs) a → Has (q ∷ qs) a
  other a h = (in_members (q ∷ qs) a).0 (subst (λ z. Contains z a) e ((in_members (r ∷ rs) a).1 h))

  start_above : q.start ≤ r.start
  start_above = let l = w.0 in
      least q qs v r.start (other r.start (inl (omega arith, omega (arith, l))))

  -- the first run ends no later than the other first one, which begins with it
  end_below : r.start ≡ q.start → r.end ≤ q.end
  end_below s = elim (le_or r.end q.end) [
    | inl l ↦ l
    | inr l ↦
        let k = v.0 in
        elim (other q.end (inl (omega (arith, s, k), omega (arith, l)))) [
          | inl i ↦ let m = i.1 in absurd (omega (arith, m))
          | inr i ↦ let m = above_first q qs v q.end i in absurd (omega (arith, m))
        ]
  ]
    where
      le_or : (a b : ℕ) → (a ≤ b) ⊎ (b < a)
      le_or a b = elim (cases_Bool (nat_le a b)) [
        | inl y ↦ inl (nat_le_true a b y)
        | inr n ↦ inr (nat_le_false a b n)
      ]

same_run : (r q : Run) → r.start ≡ q.start → r.end ≡ q.end → r ≡ q
same_run r q s e = let t : record { start = r.start; end = r.end } ≡ q = rw (s, e) refl in t

pub one_runs : (rs qs : List Run) → AreRuns rs → AreRuns qs → members rs ≡ members qs → rs ≡ qs
one_runs [] [] w v e = refl
one_runs [] (q ∷ qs) w v e = absurd (none_in q qs v e)
one_runs (r ∷ rs) [] w v e = absurd (none_in r rs w (sym e))
one_runs (r ∷ rs) (q ∷ qs) w v e =
    let a = start_above r q rs qs w v e in
    let b = start_above q r qs rs v w (sym e) in
    let s : r.start ≡ q.start = omega (arith, a, b) in
    let c = end_below r q rs qs w v e s in
    let d = end_below q r qs rs v w (sym e) (sym s) in
    let first : r ≡ q = same_run r q s (omega (arith, c, d)) in
    let rest : members rs ≡ members qs = append_cancel_left (numbers_of r) (members rs) (members qs)
    (subst (λ z. numbers_of r ++ members rs ≡ numbers_of z ++ members qs) (sym first) e) in
    subst (λ z. r ∷ rs ≡ z ∷ qs) first (ap (λ zs. r ∷ zs) (one_runs rs qs w.2 v.2 rest))

-- ---- the test of two lists of runs

run_told : (r q : Run) → Decides (is_same r q) (r ≡ q)
run_told r q = (
  λ t.
      let b = and_parts (r.start == q.start) (r.end == q.end) t in
      same_run r q ((Decides-eqb r.start q.start).0 b.0) ((Decides-eqb r.end q.end).0 b.1),
  λ e. subst (λ p. is_same r p ≡ true) e
      (rw ((Decides-eqb r.start r.start).1 refl, (Decides-eqb r.end r.end).1 refl) refl),
)

runs_decide : (rs qs : List Run) → Decides (are_same rs qs) (rs ≡ qs)
runs_decide rs qs = slice_eq-Decides run_told rs qs (are_same rs qs) refl

-- what a comparison of the runs tells of the numbers
pub same_told : (rs qs rs2 qs2 : List Run) (g k : List ℕ) (t : Bool) → rs2 ≡ rs → qs2 ≡ qs
    → AreRuns rs → AreRuns qs → members rs ≡ g → members qs ≡ k
    → t ≡ are_same rs2 qs2 → t ≡ bytes_eq g k
same_told rs qs rs2 qs2 g k t a b w v m n told = let d = runs_decide rs2 qs2 in
    elim (cases_Bool t) [
      | inl y ↦
          let e : rs ≡ qs = sym a ∙ (d.0 (sym told ∙ y) ∙ b) in
          let f : g ≡ k = sym m ∙ (ap members e ∙ n) in
          y ∙ sym ((bytes_eq-Decides g k).1 f)
      | inr f ↦ elim (cases_Bool (bytes_eq g k)) [
        | inl y ↦
            let e : rs ≡ qs = one_runs rs qs w v (m ∙ ((bytes_eq-Decides g k).0 y ∙ sym n)) in
            let z : t ≡ true = told ∙ d.1 (a ∙ (e ∙ sym b)) in absurd cc
        | inr n2 ↦ f ∙ sym n2
      ]
    ]
