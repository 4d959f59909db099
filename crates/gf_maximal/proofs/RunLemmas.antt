-- What lists of runs hold.
use Rattle.std.proofs.Common.{◌≡◌, ℕ, zero, suc, ◌<◌, ◌≤◌, true, false, List, [], ◌∷◌, length}
use Rattle.std.proofs.Common.{get_or, drop, refl, sym, ◌∙◌, arith, nat_le, nat_lt}
use Rattle.std.proofs.lemmas.Bool.Decides.{nat_tests}
use Rattle.std.proofs.lemmas.Bool.{cond-true, cond-false}
use Rattle.gf_maximal.specs.declared.run.Run.{Run}
use Rattle.gf_maximal.specs.Runs.{AreRuns, after}

-- from where a search by `end <= n` points on
pub after_point : (n : ℕ) (rs : List Run) (i : ℕ) → i ≤ length rs
    → ((k : ℕ) (d : Run) → k < i → nat_le (get_or rs k d).end n ≡ true)
    → ((k : ℕ) (d : Run) → i ≤ k → k < length rs → nat_le (get_or rs k d).end n ≡ false)
    → drop i rs ≡ after n rs
after_point n [] zero l p q = refl
after_point n [] (suc i) l p q = absurd (omega arith)
after_point n (r ∷ rs) zero l p q = sym (cond-false (nat_le r.end n) (after n rs) (r ∷ rs)
    (q 0 r (omega arith) (omega arith)))
after_point n (r ∷ rs) (suc i) l p q =
    after_point n rs i (omega arith) (λ k d m. p (suc k) d (omega arith))
    (λ k d m o. q (suc k) d (omega arith) (omega arith))
    ∙ sym (cond-true (nat_le r.end n) (after n rs) (r ∷ rs) (p 0 r (omega arith)))

-- later runs end later
pub ends_rise : (rs : List Run) → AreRuns rs → (i j : ℕ) (d : Run) → i ≤ j → j < length rs
    → (get_or rs i d).end ≤ (get_or rs j d).end
ends_rise [] a i j d l m = absurd (omega arith)
ends_rise (r ∷ rs) a zero zero d l m = omega arith
ends_rise (r ∷ rs) a zero (suc j) d l m =
    let w = a.1 (get_or rs j d) (j, omega arith, at_own rs j d (omega arith)) in
    let v = started rs a.2 j d (omega arith) in omega arith
  where
    at_own : (xs : List Run) (k : ℕ) (e : Run) → k < length xs
        → get_or xs k (get_or xs k e) ≡ get_or xs k e
    at_own [] k e h = absurd (omega arith)
    at_own (x ∷ xs) zero e h = refl
    at_own (x ∷ xs) (suc k) e h = at_own xs k e (omega arith)

    started : (xs : List Run) → AreRuns xs → (k : ℕ) (e : Run) → k < length xs
        → (get_or xs k e).start < (get_or xs k e).end
    started [] b k e h = absurd (omega arith)
    started (x ∷ xs) b zero e h = b.0
    started (x ∷ xs) b (suc k) e h = started xs b.2 k e (omega arith)
ends_rise (r ∷ rs) a (suc i) zero d l m = absurd (omega arith)
ends_rise (r ∷ rs) a (suc i) (suc j) d l m = ends_rise rs a.2 i j d (omega arith) (omega arith)

pub nat_le_true : (a b : ℕ) → nat_le a b ≡ true → a ≤ b
nat_le_true a b h = grind (arith, nat_tests)

pub nat_le_from : (a b : ℕ) → a ≤ b → nat_le a b ≡ true
nat_le_from a b h = grind (arith, nat_tests)

pub nat_le_false : (a b : ℕ) → nat_le a b ≡ false → b < a
nat_le_false a b h = grind (arith, nat_tests)

pub nat_lt_true : (a b : ℕ) → nat_lt a b ≡ true → a < b
nat_lt_true a b h = grind (arith, nat_tests)

pub nat_lt_from : (a b : ℕ) → a < b → nat_lt a b ≡ true
nat_lt_from a b h = grind (arith, nat_tests)

pub nat_lt_false : (a b : ℕ) → nat_lt a b ≡ false → b ≤ a
nat_lt_false a b h = grind (arith, nat_tests)

pub ends_parted : (rs : List Run) → AreRuns rs → (n : ℕ) (i j : ℕ) (d : Run) → i ≤ j → j < length rs
    → nat_le (get_or rs j d).end n ≡ true → nat_le (get_or rs i d).end n ≡ true
ends_parted rs a n i j d l m up =
    let w = ends_rise rs a i j d l m in let v = nat_le_true (get_or rs j d).end n up in
    nat_le_from (get_or rs i d).end n (omega arith)
