-- The operation that a site makes of a change.
use Rattle.std.proofs.Common.{◌≡◌, ◌∙◌, ℕ, zero, suc, ◌+◌, ◌<◌, Bool, true, false, ◌&&◌, List}
use Rattle.std.proofs.Common.{[], ◌∷◌, ◌++◌, ap, arith, refl, subst, sym}
use Rattle.std.specs.Prelude.{IsTrue, nat_le}
use Rattle.std.proofs.lemmas.Bool.{le-leb}
use Rattle.gf_ops.specs.declared.op.Op.{Op}
use Rattle.gf_ops.specs.declared.change.Change.{Change}
use Rattle.gf_ops.specs.Limits.{is_clock, is_change, IsInRange}
use Rattle.gf_ops.specs.OperationOrder.{IsSite, clock_of, entry, count_of}
use Rattle.gf_ops.specs.Accepted.{IsAccepted, IsNext, AreAccepted}
use Rattle.gf_ops.specs.ValidHistory.{IsValid}
use Rattle.gf_site.specs.ReplicaState.{ReplicaState}
use Rattle.gf_site.specs.SiteState.{at_site, authored}
use Rattle.gf_site.specs.Events.{Authors}
use Rattle.gf_site.proofs.CourseLemmas.{count_most, known_most}

-- an entry of the clock is the count of that site
pub entry-clock_of : (h : List Op) (s : ℕ) → IsSite s → entry (clock_of h) s ≡ count_of h s
entry-clock_of h (suc zero) i = refl
entry-clock_of h (suc (suc zero)) i = refl
entry-clock_of h (suc (suc (suc zero))) i = refl
entry-clock_of h (suc (suc (suc (suc zero)))) i = refl
entry-clock_of h (suc (suc (suc (suc (suc zero))))) i = refl
entry-clock_of h (suc (suc (suc (suc (suc (suc zero)))))) i = refl
entry-clock_of h (suc (suc (suc (suc (suc (suc (suc zero))))))) i = refl
entry-clock_of h (suc (suc (suc (suc (suc (suc (suc (suc zero)))))))) i = refl
entry-clock_of h s i = let f = i.0 in let l = i.1 in absurd (omega arith)

both_true : (a b : Bool) → IsTrue a → IsTrue b → IsTrue (a && b)
both_true true b p q = q
both_true false b p q = p

module _ (h : List Op) (run : AreAccepted h) (valid : IsValid h) where
  clock_in_range : IsTrue (is_clock (clock_of h))
  clock_in_range =
      let l : (s : ℕ) → IsTrue (le_most s) = λ s. le-leb (count_of h s) 10000
      (count_most h run valid s) in
      both_true _ _ (l 1) (both_true _ _ (l 2)
      (both_true _ _ (l 3) (both_true _ _ (l 4)
      (both_true _ _ (l 5) (both_true _ _ (l 6)
      (both_true _ _ (l 7) (both_true _ _ (l 8) refl)))))))
    where
      le_most : ℕ → Bool
      le_most s = nat_le (count_of h s) 10000

  pub authored_in_range : (s : ℕ) (c : Change) → IsSite s → count_of h s < 10000
      → IsTrue (is_change c) → IsInRange (authored s h c)
  authored_in_range s c i room fits =
      let f = i.0 in
      let l = i.1 in
      both_true _ _ (both_true _ _
      (both_true _ _ (both_true _ _ (both_true _ _ (le-leb 1 s f) (le-leb s 8 l))
      (le-leb 1 (count_of h s + 1) (omega arith))) (le-leb (count_of h s + 1) 10000 (omega arith)))
      clock_in_range) fits

  pub authored_next : (s : ℕ) (c : Change) → IsSite s → IsNext h (authored s h c)
  authored_next s c i = record {
    numbered = record { seq = refl; own = let e = entry-clock_of h s i in omega arith };
    known = λ t j. let e = entry-clock_of h t j in omega arith;
    closed = λ b m p t j. let e = entry-clock_of h t j in let k = known_most h run valid b m t j in
        omega arith;
  }

-- a copy of the operation that a replica adds is what its site made
pub authors_copy : (n : ℕ) (x y : ReplicaState) (h : List Op) (c : Change) (a copy : Op)
    → h ≡ x.ops → a ≡ authored n h c → IsInRange a → IsAccepted h a → copy ≡ a
    → y ≡ record x { ops = x.ops ++ a ∷ [] } → Authors (at_site n x) c copy (at_site n y)
authors_copy n x y h c a copy e is fits accepted same more = record {
  is = same ∙ is ∙ ap (λ h. authored n h c) e;
  in_range = subst IsInRange (sym same) fits;
  accepted = subst (λ h. IsAccepted h copy) e (subst (IsAccepted h) (sym same) accepted);
  state = ap (at_site n) more
      ∙ ap (λ b. record { number = n; ops = x.ops ++ b ∷ []; held = x.held }) (sym same);
}
