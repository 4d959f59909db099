-- Operations that one site makes of changes: they know what was there, and each what was made
-- before it.
use Rattle.std.proofs.Common.{◌≡◌, ℕ, List, [], ◌∷◌, ◌++◌, sym, subst, ◌∙◌, arith}
use Rattle.std.proofs.Common.{inl, inr}
use Rattle.std.specs.Prelude.{◌⊎◌, Contains}
use Rattle.std.specs.List.{AllZip}
use Rattle.std.proofs.lemmas.List.Elements.{Contains-append_cases, Contains-append_left}
use Rattle.std.proofs.lemmas.List.Elements.{Contains-push}
use Rattle.gf_base.proofs.ListLemmas.{Contains-cons_cases, not_Contains-nil}
use Rattle.gf_ops.specs.declared.op.Op.{Op}
use Rattle.gf_ops.specs.declared.change.Change.{Change}
use Rattle.gf_ops.specs.Accepted.{AreAccepted, IsAccepted, next}
use Rattle.gf_ops.specs.DirectConflict.{DirectConflict}
use Rattle.gf_ops.specs.Limits.{IsInRange}
use Rattle.gf_ops.specs.OperationOrder.{Precedes}
use Rattle.gf_ops.specs.ValidHistory.{IsValid}
use Rattle.gf_ops.proofs.CountedLemmas.{number_counted}
use Rattle.gf_ops.proofs.HistoryLemmas.{site_in_range}
use Rattle.gf_groups.specs.declared.group.Group.{Group}
use Rattle.gf_site.specs.SiteState.{authored}
use Rattle.gf_site.proofs.AuthorLemmas.{entry-clock_of}
use Rattle.gf_keep.specs.Keeping.{IsShowing}
use Rattle.gf_site.proofs.ValidLemmas.{valid_push}
use Rattle.gf_site.specs.MadeEach.{MakesEach, none as made_none, next as made_next}

-- an operation that a site makes knows all that is there
knows_all : (s : ℕ) (h : List Op) (c : Change) → IsValid h → (b : Op) → Contains h b
    → Precedes b (authored s h c)
knows_all s h c valid b i =
    let n = number_counted h valid b i in
    let e = entry-clock_of h b.id.site (site_in_range b (valid.in_range b i)) in
    omega arith

pub made_known : (s : ℕ) (h : List Op) (cs : List Change) (new : List Op) → AreAccepted h
    → IsValid h → MakesEach s h cs new → (b x : Op) → Contains h b → Contains new x → Precedes b x
made_known s h cs new run valid made_none b x i j = absurd (not_Contains-nil x j)
made_known s h cs new run valid (made_next {cs = rest} {new = more} c range t m) b x i j =
    let a = authored s h c in
    elim (Contains-cons_cases a more x j) [
      | inl e ↦ subst (Precedes b) (sym e) (knows_all s h c valid b i)
      | inr k ↦ made_known s (h ++ a ∷ []) rest more (next run t) (valid_push h run valid a range t)
          m b x (Contains-append_left h (a ∷ []) b i) k
    ]

-- each later one knows the first
pub first_known : (s : ℕ) (h : List Op) (c : Change) (cs : List Change) (new : List Op)
    → AreAccepted h → IsValid h → IsInRange (authored s h c) → IsAccepted h (authored s h c)
    → MakesEach s (h ++ authored s h c ∷ []) cs new → (x : Op) → Contains new x
    → Precedes (authored s h c) x
first_known s h c cs new run valid range t m x i =
    let a = authored s h c in
    made_known s (h ++ a ∷ []) cs new (next run t) (valid_push h run valid a range t) m a x
    (Contains-push h a) i

made_ordered : (s : ℕ) (h : List Op) (cs : List Change) (new : List Op) → AreAccepted h → IsValid h
    → MakesEach s h cs new → (x y : Op) → Contains new x → Contains new y
    → (x ≡ y) ⊎ (Precedes x y ⊎ Precedes y x)
made_ordered s h cs new run valid made_none x y i j = absurd (not_Contains-nil x i)
made_ordered s h cs new run valid (made_next {cs = rest} {new = more} c range t m) x y i j =
    let a = authored s h c in
    elim (Contains-cons_cases a more x i) [
      | inl e ↦ elim (Contains-cons_cases a more y j) [
        | inl f ↦ inl (e ∙ sym f)
        | inr k ↦ inr (inl (subst (λ (z : Op). Precedes z y) (sym e)
            (first_known s h c rest more run valid range t m y k)))
      ]
      | inr k ↦ elim (Contains-cons_cases a more y j) [
        | inl f ↦ inr (inr (subst (λ (z : Op). Precedes z x) (sym f)
            (first_known s h c rest more run valid range t m x k)))
        | inr l ↦ made_ordered s (h ++ a ∷ []) rest more (next run t)
            (valid_push h run valid a range t) m x y k l
      ]
    ]

-- a new operation conflicts with none by itself
pub made_calm : (s : ℕ) (h : List Op) (cs : List Change) (new : List Op) → AreAccepted h → IsValid h
    → MakesEach s h cs new → (x y : Op) → Contains new x → Contains (h ++ new) y
    → ¬ (DirectConflict x y)
made_calm s h cs new run valid m x y i j d = elim (Contains-append_cases h new y j) [
  | inl k ↦ d.concurrent.not_after (made_known s h cs new run valid m y x k i)
  | inr k ↦ elim (made_ordered s h cs new run valid m x y i k) [
    | inl e ↦ d.concurrent.different e
    | inr w ↦ elim w [ inl p ↦ d.concurrent.not_before p | inr p ↦ d.concurrent.not_after p ]
  ]
]

-- what is made of the changes that show groups shows them
pub shows_made : (s : ℕ) (h k : List Op) (gs : List Group) (cs : List Change) (new : List Op)
    → AllZip (IsShowing h) gs cs → MakesEach s k cs new
    → AllZip (λ (g : Group) (x : Op). IsShowing h g x.change) gs new
shows_made s h k [] cs new z made_none = tt
shows_made s h k (g ∷ gs) cs new z made_none = absurd z
shows_made s h k [] cs new z (made_next c range t m) = absurd z
shows_made s h k (g ∷ gs) cs new z (made_next {cs = rest} {new = more} c range t m) = (
  z.0,
  shows_made s h (k ++ authored s k c ∷ []) gs rest more z.1 m,
)
