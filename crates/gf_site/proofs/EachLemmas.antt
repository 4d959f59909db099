-- What a site makes of changes, one behind the other: its own, numbered on, each accepted.
use Rattle.std.proofs.Common.{◌≡◌, ◌≢◌, ℕ, ◌<◌, ◌≤◌, List, [], ◌∷◌, ◌++◌, refl, sym, ap, subst, ◌∙◌}
use Rattle.std.proofs.Common.{inl, inr, append_assoc, arith}
use Rattle.std.specs.Prelude.{Contains}
use Rattle.std.proofs.lemmas.List.{append-nil}
use Rattle.gf_base.proofs.ListLemmas.{Contains-cons_cases, not_Contains-nil}
use Rattle.gf_ops.specs.declared.op.Op.{Op}
use Rattle.gf_ops.specs.declared.change.Change.{Change}
use Rattle.gf_ops.specs.Accepted.{AreAccepted, IsAccepted, next}
use Rattle.gf_ops.specs.Limits.{IsInRange}
use Rattle.gf_ops.specs.OperationOrder.{count_of}
use Rattle.gf_ops.specs.ValidHistory.{IsValid}
use Rattle.gf_causal.proofs.CourseLemmas.{count_push_same, count_push_other}
use Rattle.gf_site.specs.MadeEach.{MakesEach, none as each_none, next as each_next}
use Rattle.gf_site.proofs.ValidLemmas.{valid_push}
use Rattle.gf_site.specs.SiteState.{authored}

-- what stands behind one more
behind : (h : List Op) (a : Op) (more : List Op) (P : List Op → Type 0) → P ((h ++ a ∷ []) ++ more)
    → P (h ++ a ∷ more)
behind h a more P p = subst P (append_assoc h (a ∷ []) more) p

pub each_count : (s : ℕ) (h : List Op) (cs : List Change) (new : List Op) → MakesEach s h cs new
    → (t : ℕ) → t ≢ s → count_of (h ++ new) t ≡ count_of h t
each_count s h cs new each_none t d = ap (λ l. count_of l t) (append-nil h)
each_count s h cs new (each_next {cs = rest} {new = more} c range ok m) t d =
    let a = authored s h c in
    behind h a more (λ l. count_of l t ≡ count_of h t) (each_count s (h ++ a ∷ []) rest more m t d
    ∙ count_push_other h a t (λ e. d (sym e)))

pub each_more : (s : ℕ) (h : List Op) (cs : List Change) (new : List Op) → MakesEach s h cs new
    → count_of h s ≤ count_of (h ++ new) s
each_more s h cs new each_none = subst (λ l. count_of h s ≤ count_of l s) (sym (append-nil h))
    (omega arith)
each_more s h cs new (each_next {cs = rest} {new = more} c range ok m) =
    let a = authored s h c in
    let e = count_push_same h a s refl in
    let l = each_more s (h ++ a ∷ []) rest more m in
    behind h a more (λ l. count_of h s ≤ count_of l s) (omega arith)

pub each_own : (s : ℕ) (h : List Op) (cs : List Change) (new : List Op) → MakesEach s h cs new
    → (a : Op) → Contains new a → (a.id.site ≡ s) × (count_of h s < a.id.seq)
each_own s h cs new each_none a i = absurd (not_Contains-nil a i)
each_own s h cs new (each_next {cs = rest} {new = more} c range ok m) a i =
    elim (Contains-cons_cases (authored s h c) more a i) [
      | inl e ↦ subst (λ (x : Op). (x.id.site ≡ s) × (count_of h s < x.id.seq)) (sym e)
          (refl, omega arith)
      | inr j ↦
          let w = each_own s (h ++ authored s h c ∷ []) rest more m a j in
          let e = count_push_same h (authored s h c) s refl in
          let l = w.1 in
          (w.0, omega arith)
    ]

pub each_accepted : (s : ℕ) (h : List Op) (cs : List Change) (new : List Op) → AreAccepted h
    → MakesEach s h cs new → AreAccepted (h ++ new)
each_accepted s h cs new run each_none = subst AreAccepted (sym (append-nil h)) run
each_accepted s h cs new run (each_next {cs = rest} {new = more} c range ok m) =
    let a = authored s h c in
    behind h a more AreAccepted (each_accepted s (h ++ a ∷ []) rest more (next run ok) m)

pub each_valid : (s : ℕ) (h : List Op) (cs : List Change) (new : List Op) → AreAccepted h
    → IsValid h → MakesEach s h cs new → IsValid (h ++ new)
each_valid s h cs new run valid each_none = subst IsValid (sym (append-nil h)) valid
each_valid s h cs new run valid (each_next {cs = rest} {new = more} c range ok m) =
    let a = authored s h c in
    behind h a more IsValid (each_valid s (h ++ a ∷ []) rest more (next run ok)
    (valid_push h run valid a range ok) m)

-- one more behind the others
pub each_push : (s : ℕ) (h : List Op) (cs : List Change) (new : List Op) → MakesEach s h cs new
    → (c : Change) → IsInRange (authored s (h ++ new) c)
    → IsAccepted (h ++ new) (authored s (h ++ new) c)
    → MakesEach s h (cs ++ c ∷ []) (new ++ authored s (h ++ new) c ∷ [])
each_push s h cs new each_none c range ok =
    let nil = append-nil h in
    subst (λ (l : List Op). MakesEach s h (c ∷ []) (authored s l c ∷ [])) (sym nil)
    (each_next c (subst (λ (l : List Op). IsInRange (authored s l c)) nil range)
    (subst (λ (l : List Op). IsAccepted l (authored s l c)) nil ok) each_none)
each_push s h cs new (each_next {cs = rest} {new = more} d first fit m) c range ok =
    let a = authored s h d in
    let same = append_assoc h (a ∷ []) more in
    each_next d first fit (subst (λ (l : List Op). MakesEach s (h ++ a ∷ []) (rest ++ c ∷ [])
    (more ++ authored s l c ∷ [])) same
    (each_push s (h ++ a ∷ []) rest more m c (subst (λ (l : List Op). IsInRange (authored s l c))
    (sym same) range) (subst (λ (l : List Op). IsAccepted l (authored s l c)) (sym same) ok)))
