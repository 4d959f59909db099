-- Tests of runs, one after the other, beside others that are passed over.
use Rattle.std.proofs.Common.{◌≡◌, length, get_or, drop, ℕ, suc, ◌<◌, ◌+◌, Bool, true, false, List}
use Rattle.std.proofs.Common.{◌∷◌, refl, subst, sym, ap, ◌∙◌, arith, nat_lt}
use Rattle.std.specs.Prelude.{◌&&◌, Contains}
use Rattle.std.specs.List.{list_any}
use Rattle.gf_maximal.specs.declared.run.Run.{Run}
use Rattle.gf_maximal.specs.Runs.{AreRuns, Serves, after, first_touches, touches}
use Rattle.gf_base.proofs.ListLemmas.{Contains-cons_head}
use Rattle.gf_maximal.proofs.PutLemmas.{drop_at, drop_runs, serves_more}

-- runs and others, of which the rest serves from the run r at i on
module _ (others runs rest new : List Run) (i j : ℕ) (r z : Run) (e : j ≡ i + 1)
    (l : i < length runs) (f : r ≡ get_or runs i z) (w : AreRuns runs)
    (s : Serves rest others (drop i runs)) (g : new ≡ after r.start rest) where
  split : drop i runs ≡ r ∷ drop (suc i) runs
  split = drop_at runs i z l ∙ ap (λ o. o ∷ drop (suc i) runs) (sym f)

  split_at : drop i runs ≡ r ∷ drop j runs
  split_at = let k : suc i ≡ j = omega arith in split ∙ ap (λ o. r ∷ drop o runs) k

  found : new ≡ after r.start others
  found = g ∙ s.same r (subst (λ o. Contains o r) (sym split)
      (Contains-cons_head r (drop (suc i) runs)))

  served : Serves new others (drop j runs)
  served =
      let good : AreRuns (r ∷ drop j runs) = subst AreRuns split_at (drop_runs i runs w) in
      serves_more rest new others r (drop j runs) good (subst (Serves rest others) split_at s) g

  -- whether some run touches one of the others
  abbrev any_from : List Run → Bool
  any_from rs = list_any (touches others) rs

  touch : (t : Bool) → t ≡ (nat_lt r.start r.end && first_touches r new) → t ≡ touches others r
  touch t h = h ∙ ap (λ o. nat_lt r.start r.end && first_touches r o) found

  pub any_found : (t : Bool) → t ≡ (nat_lt r.start r.end && first_touches r new) → t ≡ true
      → any_from runs ≡ any_from (drop i runs) → true ≡ any_from runs
  any_found t h y k = let p : touches others r ≡ true = sym (touch t h) ∙ y in
      sym (k ∙ (ap any_from split_at ∙ rw p refl))

  pub any_passed : (t : Bool) → t ≡ (nat_lt r.start r.end && first_touches r new) → t ≡ false
      → any_from runs ≡ any_from (drop i runs) → (any_from runs ≡ any_from (drop j runs))
      × Serves new others (drop j runs)
  any_passed t h n k = let p : touches others r ≡ false = sym (touch t h) ∙ n in
      (k ∙ (ap any_from split_at ∙ rw p refl), served)
