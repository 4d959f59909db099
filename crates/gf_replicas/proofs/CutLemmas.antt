-- A course up to one of its operations.
use Rattle.std.proofs.Common.{◌≡◌, ℕ, List, [], ◌∷◌, ◌++◌, inl, inr, refl, sym, ap, subst}
use Rattle.std.specs.Prelude.{◌⊎◌, Contains}
use Rattle.gf_ops.specs.declared.op.Op.{Op}
use Rattle.gf_ops.specs.Accepted.{IsAccepted}
use Rattle.gf_ops.specs.ValidHistory.{IsValid}
use Rattle.gf_base.proofs.ListLemmas.{not_Contains-nil, Contains-cons_cases}
use Rattle.gf_ops.specs.OperationOrder.{clock_of}
use Rattle.gf_site.specs.Course.{IsCourse, none, next}
use Rattle.gf_site.proofs.CourseLemmas.{course_ready, last_accepted}

-- a list with an element inside, or as its last
pub record IsLater {X : Type 0} (h front : List X) (a b : X) (rest : List X) : Type 0 where
  pub left : List X
  pub rest_is : rest ≡ left ++ b ∷ []
  pub whole : h ≡ front ++ a ∷ left

pub record IsLast {X : Type 0} (h front : List X) (a b : X) (rest : List X) : Type 0 where
  pub rest_is : rest ≡ []
  pub whole : h ≡ front
  pub same : b ≡ a

pub not_inside : {X : Type 0} (front : List X) (a : X) (rest : List X) → ¬ ([] ≡ front ++ a ∷ rest)
not_inside [] a rest e = absurd cc
not_inside (x ∷ front) a rest e = absurd cc

pub last_view : {X : Type 0} (h front : List X) (a b : X) (rest : List X)
    → h ++ b ∷ [] ≡ front ++ a ∷ rest → IsLast h front a b rest ⊎ IsLater h front a b rest
last_view [] [] a b rest e = let p : b ≡ a = cc in let q : [] ≡ rest = cc in
    inl (record { rest_is = sym q; whole = refl; same = p })
last_view [] (x ∷ front) a b rest e =
    absurd (not_inside front a rest (let q : [] ≡ front ++ a ∷ rest = cc in q))
last_view (y ∷ h) [] a b rest e = let p : y ≡ a = cc in let q : h ++ b ∷ [] ≡ rest = cc in
    inr (record { left = h; rest_is = sym q; whole = ap (λ z. z ∷ h) p })
last_view (y ∷ h) (x ∷ front) a b rest e =
    let p : y ≡ x = cc in
    let q : h ++ b ∷ [] ≡ front ++ a ∷ rest = cc in
    elim (last_view h front a b rest q) [
      | inl t ↦ inl (record { rest_is = t.rest_is; whole = λ i. p i ∷ t.whole i; same = t.same })
      | inr t ↦ inr (record { left = t.left; rest_is = t.rest_is; whole = λ i. p i ∷ t.whole i })
    ]

-- where the operation a came behind the operations h at site s
pub record Comes (s : ℕ) (h : List Op) (a : Op) : Type 0 where
  pub course : IsCourse s h
  pub accepted : IsAccepted h a
  pub valid : IsValid (h ++ a ∷ [])
  pub own : a.id.site ≡ s → a.past ≡ clock_of h

pub course_cut : {s : ℕ} {all : List Op} → IsCourse s all → (h : List Op) (a : Op) (rest : List Op)
    → all ≡ h ++ a ∷ rest → Comes s h a
course_cut none h a rest e = absurd (not_inside h a rest e)
course_cut {s = s} (next {h = g} b c v o) h a rest e = elim (last_view g h a b rest e) [
  | inl l ↦ subst (λ (w : List Op × Op). Comes s w.0 w.1) (λ i. (l.whole i, l.same i))
      (record { course = c; accepted = last_accepted g b (course_ready c) v; valid = v; own = o })
  | inr l ↦ course_cut c h a l.left l.whole
]

-- the parts of a list before and behind one of its elements
pub record Split {X : Type 0} (xs : List X) (a : X) : Type 0 where
  pub before : List X
  pub after : List X
  pub whole : xs ≡ before ++ a ∷ after

pub split_at : {X : Type 0} (xs : List X) (a : X) → Contains xs a → Split xs a
split_at [] a c = absurd (not_Contains-nil a c)
split_at (x ∷ xs) a c = elim (Contains-cons_cases x xs a c) [
  | inl e ↦ record { before = []; after = xs; whole = ap (λ y. y ∷ xs) (sym e) }
  | inr k ↦ let s = split_at xs a k in record {
    before = x ∷ s.before;
    after = s.after;
    whole = ap (λ l. x ∷ l) s.whole;
  }
]
