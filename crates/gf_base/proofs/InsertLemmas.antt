-- An element that is inserted into a rising list.
use Rattle.std.proofs.Common.{◌≡◌, List, [], ◌∷◌, get_or, refl, sym, subst, ap, ◌∙◌, inl, inr}
use Rattle.std.proofs.Common.{arith}
use Rattle.std.specs.Prelude.{Contains, ◌↔◌, ◌⊎◌}
use Rattle.std.specs.Cmp.{IsTotalOrder}
use Rattle.std.specs.FinMap.{IsAntisymmetric}
use Rattle.std.specs.List.Sorted.{IsStrictlySortedBy}
use Rattle.std.specs.BTreeSet.{insert_key}
use Rattle.std.specs.List.{fold}
use Rattle.std.specs.declared.cmp.Ordering.{Ordering}
use Rattle.std.specs.declared.cmp.Ordering.TheVariants.{Less, Equal, Greater}
use Rattle.std.specs.Ordering.{match_ordering, ordering_reverse}
use Rattle.std.proofs.lemmas.List.Elements.{All-from_recursion, All-cons}
use Rattle.std.proofs.lemmas.Map.Keys.{sorted_head, sorted_tail}
use Rattle.std.proofs.lemmas.Map.Views.{All-insert_key}
use Rattle.gf_base.proofs.ListLemmas.{Contains-cons_cases, Contains-cons_head, Contains-cons_tail}
use Rattle.gf_base.proofs.ListLemmas.{not_Contains-nil}
use Rattle.gf_base.proofs.RisingLemmas.{rising_cons}

module _ {X : Type 0} (R : X → X → Ordering) (total : IsTotalOrder R)
    (exact : IsAntisymmetric R) where
  abbrev with_key : X → List X → List X
  with_key x g = insert_key R g x

  -- what `insert_key` does at one element, by the answer there
  inserted_at : (o : Ordering) (x y : X) (ys : List X) → R x y ≡ o → IsStrictlySortedBy R (y ∷ ys)
      → IsStrictlySortedBy R (with_key x ys)
      → IsStrictlySortedBy R (match_ordering o (x ∷ y ∷ ys) (y ∷ ys) (y ∷ with_key x ys))
  inserted_at Less x y ys e s r = rising_cons R total x (y ∷ ys)
      (All-cons (λ z. R x z ≡ Less) y ys e
      (λ k d l. total.trans x y (get_or ys k d) e
      (All-from_recursion (λ z. R y z ≡ Less) ys (sorted_head R y ys s) k d l))) s
  inserted_at Equal x y ys e s r = s
  inserted_at Greater x y ys e s r = rising_cons R total y (with_key x ys)
      (All-insert_key R x (λ z. R y z ≡ Less) ys
      (All-from_recursion (λ z. R y z ≡ Less) ys (sorted_head R y ys s))
      (let a = total.antisymm y x in let b : ordering_reverse (R x y) ≡ Less = ap ordering_reverse
      e in cc)) r

  pub inserted : (x : X) (g : List X) → IsStrictlySortedBy R g → IsStrictlySortedBy R (with_key x g)
  inserted x [] s = rising_cons R total x [] (λ k d l. absurd (omega arith)) s
  inserted x (y ∷ ys) s = inserted_at (R x y) x y ys refl s (inserted x ys (sorted_tail R y ys s))

  holds_at : (o : Ordering) (x y : X) (ys : List X) (a : X) → R x y ≡ o
      → (Contains (with_key x ys) a ↔ (Contains ys a ⊎ (a ≡ x))) →
      Contains (match_ordering o (x ∷ y ∷ ys) (y ∷ ys) (y ∷ with_key x ys)) a
      ↔ (Contains (y ∷ ys) a ⊎ (a ≡ x))
  holds_at Less x y ys a e f = (
    λ h. elim (Contains-cons_cases x (y ∷ ys) a h) [ inl d ↦ inr d | inr i ↦ inl i ],
    λ h. elim h [
      | inl i ↦ Contains-cons_tail x (y ∷ ys) a i
      | inr d ↦ subst (Contains (x ∷ y ∷ ys)) (sym d) (Contains-cons_head x (y ∷ ys))
    ],
  )
  holds_at Equal x y ys a e f = (
    λ h. inl h,
    λ h. elim h [
      | inl i ↦ i
      | inr d ↦ subst (Contains (y ∷ ys)) (sym (d ∙ exact x y e)) (Contains-cons_head y ys)
    ],
  )
  holds_at Greater x y ys a e f = (
    λ h. elim (Contains-cons_cases y (with_key x ys) a h) [
      | inl d ↦ inl (subst (Contains (y ∷ ys)) (sym d) (Contains-cons_head y ys))
      | inr i ↦ elim (f.0 i) [ inl j ↦ inl (Contains-cons_tail y ys a j) | inr d ↦ inr d ]
    ],
    λ h. elim h [
      | inl i ↦ elim (Contains-cons_cases y ys a i) [
        | inl d ↦ subst (Contains (y ∷ with_key x ys)) (sym d)
            (Contains-cons_head y (with_key x ys))
        | inr j ↦ Contains-cons_tail y (with_key x ys) a (f.1 (inl j))
      ]
      | inr d ↦ Contains-cons_tail y (with_key x ys) a (f.1 (inr d))
    ],
  )

  pub holds : (x : X) (g : List X) (a : X) → Contains (with_key x g) a ↔ (Contains g a ⊎ (a ≡ x))
  holds x [] a = (
    λ h. elim (Contains-cons_cases x [] a h) [ inl d ↦ inr d | inr i ↦ inl i ],
    λ h. elim h [
      | inl i ↦ absurd (not_Contains-nil a i)
      | inr d ↦ subst (Contains (x ∷ [])) (sym d) (Contains-cons_head x [])
    ],
  )
  holds x (y ∷ ys) a = holds_at (R x y) x y ys a refl (holds x ys a)

  -- all of xs inserted
  pub inserted_all : (xs g : List X) → IsStrictlySortedBy R g
      → IsStrictlySortedBy R (fold (insert_key R) g xs)
  inserted_all [] g s = s
  inserted_all (x ∷ xs) g s = inserted_all xs (insert_key R g x) (inserted x g s)

  pub holds_all : (xs g : List X) (a : X) → Contains (fold (insert_key R) g xs) a
      ↔ (Contains g a ⊎ Contains xs a)
  holds_all [] g a = (λ h. inl h, λ h. elim h [ inl i ↦ i | inr i ↦ absurd (not_Contains-nil a i) ])
  holds_all (x ∷ xs) g a = (
    λ h. elim ((holds_all xs (insert_key R g x) a).0 h) [
      | inl i ↦ elim ((holds x g a).0 i) [
        | inl j ↦ inl j
        | inr e ↦ inr (subst (Contains (x ∷ xs)) (sym e) (Contains-cons_head x xs))
      ]
      | inr i ↦ inr (Contains-cons_tail x xs a i)
    ],
    λ h. (holds_all xs (insert_key R g x) a).1 (elim h [
      | inl i ↦ inl ((holds x g a).1 (inl i))
      | inr i ↦ elim (Contains-cons_cases x xs a i) [
        | inl e ↦ inl ((holds x g a).1 (inr e))
        | inr j ↦ inr j
      ]
    ]),
  )
