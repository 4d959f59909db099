-- What one site adds behind a history: operations of its own, each accepted in its turn.
use Rattle.std.specs.Prelude.{Contains}
use Rattle.std.proofs.Common.{◌≡◌, ◌≢◌, ℕ, ◌+◌, ◌<◌, ◌≤◌, List, [], ◌∷◌, ◌++◌, refl, sym, ap}
use Rattle.std.proofs.Common.{subst}
use Rattle.std.proofs.Common.{◌∙◌, inl, inr, append_assoc, arith}
use Rattle.std.proofs.lemmas.List.{append-nil}
use Rattle.std.proofs.lemmas.List.Elements.{Contains-push_cases}
use Rattle.gf_ops.specs.declared.op.Op.{Op}
use Rattle.gf_ops.specs.declared.change.Change.{Change}
use Rattle.gf_ops.specs.OperationOrder.{count_of}
use Rattle.gf_ops.specs.Accepted.{AreAccepted, IsAccepted, next as accepted_next}
use Rattle.gf_ops.specs.Limits.{IsInRange}
use Rattle.gf_ops.specs.ValidHistory.{IsValid}
use Rattle.gf_base.proofs.ListLemmas.{not_Contains-nil}
use Rattle.gf_causal.proofs.CourseLemmas.{count_push_same, count_push_other}
use Rattle.gf_site.proofs.ValidLemmas.{valid_push}
use Rattle.gf_site.specs.MadeEach.{MakesEach, none as each_none, next as each_next}
use Rattle.gf_site.specs.SiteState.{authored}

-- site s adds these operations behind h. Each is accepted behind h and those before it
pub data AreAdded (s : ℕ) (h : List Op) : List Op → Type 0 where
  none : AreAdded s h []
  next : {new : List Op} (a : Op) → AreAdded s h new → a.id.site ≡ s → IsInRange a
      → IsAccepted (h ++ new) a → AreAdded s h (new ++ a ∷ [])

-- a site that makes an operation more has one more in its history
put_behind : (h new : List Op) (a : Op) (P : List Op → Type 0) → P ((h ++ new) ++ a ∷ [])
    → P (h ++ (new ++ a ∷ []))
put_behind h new a P p = subst P (append_assoc h new (a ∷ [])) p

-- ---- operations that one site adds behind a history

module _ (s : ℕ) (h : List Op) where
  -- of other sites there are as many as before
  pub added_count : (new : List Op) → AreAdded s h new → (t : ℕ) → t ≢ s
      → count_of (h ++ new) t ≡ count_of h t
  added_count new none t d = ap (λ l. count_of l t) (append-nil h)
  added_count new (next {new = made} a m site range accepted) t d =
      put_behind h made a (λ l. count_of l t ≡ count_of h t)
      (count_push_other (h ++ made) a t (λ e. d (sym e ∙ site)) ∙ added_count made m t d)

  -- and of its own no fewer
  pub added_more : (new : List Op) → AreAdded s h new → count_of h s ≤ count_of (h ++ new) s
  added_more new none = subst (λ l. count_of h s ≤ count_of l s) (sym (append-nil h)) (omega arith)
  added_more new (next {new = made} a m site range accepted) =
      put_behind h made a (λ l. count_of h s ≤ count_of l s)
      (let e = count_push_same (h ++ made) a s site in let l = added_more made m in omega arith)

  -- what it adds is its own, and numbered on
  pub added_own : (new : List Op) → AreAdded s h new → (a : Op) → Contains new a
      → (a.id.site ≡ s) × (count_of h s < a.id.seq)
  added_own new none a i = absurd (not_Contains-nil a i)
  added_own new (next {new = made} b m site range accepted) a i =
      elim (Contains-push_cases made b a i) [
        | inl j ↦ added_own made m a j
        | inr e ↦ subst (λ (x : Op). (x.id.site ≡ s) × (count_of h s < x.id.seq)) e (
          site,
          let l = added_more made m in
              let q = subst (λ r. b.id.seq ≡ count_of (h ++ made) r + 1) site
              accepted.next.numbered.seq
              in omega arith,
        )
      ]

  -- each is accepted behind those before it
  pub added_accepted : AreAccepted h → (new : List Op) → AreAdded s h new → AreAccepted (h ++ new)
  added_accepted run new none = subst AreAccepted (sym (append-nil h)) run
  added_accepted run new (next {new = made} a m site range accepted) =
      put_behind h made a AreAccepted (accepted_next (added_accepted run made m) accepted)

  pub added_valid : AreAccepted h → IsValid h → (new : List Op) → AreAdded s h new
      → IsValid (h ++ new)
  added_valid run valid new none = subst IsValid (sym (append-nil h)) valid
  added_valid run valid new (next {new = made} a m site range accepted) =
      put_behind h made a IsValid
      (valid_push (h ++ made) (added_accepted run made m) (added_valid run valid made m) a range
      accepted)

  -- ---- what it makes of changes, behind what it added so far

  pub each_added : (made : List Op) → AreAdded s h made → (l : List Op) → l ≡ h ++ made
      → (changes : List Change) (new : List Op) → MakesEach s l changes new
      → AreAdded s h (made ++ new)
  each_added made m l e changes new each_none = subst (AreAdded s h) (sym (append-nil made)) m
  each_added made m l e changes new (each_next {cs = rest} {new = more} c range ok makes) =
      let a = authored s l c in
      subst (AreAdded s h) (append_assoc made (a ∷ []) more)
      (each_added (made ++ a ∷ []) (next a m refl range (subst (λ k. IsAccepted k a) e ok))
      (l ++ a ∷ []) (ap (λ k. k ++ a ∷ []) e ∙ append_assoc h made (a ∷ [])) rest more makes)
