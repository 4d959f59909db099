-- Lists that rise strictly: two with the same elements are one. The crates above cite them.
use Rattle.std.proofs.Common.{◌≡◌, ◌<◌, ℕ, List, [], ◌∷◌, ◌++◌, sym, subst, ◌∙◌, refl, inl, inr}
use Rattle.std.specs.Prelude.{All, Contains, ◌↔◌}
use Rattle.std.specs.Cmp.{IsTotalOrder}
use Rattle.std.specs.List.Sorted.{IsStrictlySortedBy}
use Rattle.std.specs.Ordering.{nat_cmp, MatchOrdering}
use Rattle.std.specs.declared.cmp.Ordering.{Ordering}
use Rattle.std.specs.declared.cmp.Ordering.TheVariants.{Less}
use Rattle.std.proofs.lemmas.Cmp.{ranked, tied_itself}
use Rattle.std.proofs.lemmas.List.Elements.{All-contains, All-from_recursion, recursion_from_All}
use Rattle.std.proofs.lemmas.List.Elements.{All-nil, All-push, All-weaker, All-contains_itself}
use Rattle.std.proofs.lemmas.List.Elements.{Contains-append_left, Contains-append_right}
use Rattle.std.proofs.lemmas.Map.Keys.{sorted_head, sorted_tail}
use Rattle.gf_base.proofs.ListLemmas.{Contains-cons_cases, Contains-cons_head, Contains-cons_tail}
use Rattle.gf_base.proofs.ListLemmas.{not_Contains-nil}

module _ {X : Type 0} (R : X → X → Ordering) (total : IsTotalOrder R) where
  pub below_tail : (x : X) (xs : List X) → IsStrictlySortedBy R (x ∷ xs) → (a : X) → Contains xs a
      → R x a ≡ Less
  below_tail x xs s a h = All-contains (λ y. R x y ≡ Less) xs a
      (All-from_recursion (λ y. R x y ≡ Less) xs (sorted_head R x xs s)) h

  pub rising_nil : IsStrictlySortedBy R []
  unfolding IsStrictlySortedBy
  rising_nil = tt

  pub rising_cons : (x : X) (xs : List X) → All (λ y. R x y ≡ Less) xs → IsStrictlySortedBy R xs
      → IsStrictlySortedBy R (x ∷ xs)
  unfolding IsStrictlySortedBy
  rising_cons x xs l s = (recursion_from_All (λ y. R x y ≡ Less) xs l, s)

  -- nothing is below itself, and of two only one is below the other
  pub never_both : {G : Type 0} (x y : X) → R x y ≡ Less → R y x ≡ Less → G
  never_both x y h k = let t = total.trans x y x h k in let e = tied_itself total x in absurd cc

  same_head : (x y : X) (xs ys : List X) → IsStrictlySortedBy R (x ∷ xs)
      → IsStrictlySortedBy R (y ∷ ys) → Contains (y ∷ ys) x → Contains (x ∷ xs) y → x ≡ y
  same_head x y xs ys s r h k = elim (Contains-cons_cases y ys x h) [
    | inl e ↦ e
    | inr i ↦ elim (Contains-cons_cases x xs y k) [
      | inl e ↦ sym e
      | inr j ↦ never_both x y (below_tail x xs s y j) (below_tail y ys r x i)
    ]
  ]

  in_tail : (x y : X) (xs ys : List X) → IsStrictlySortedBy R (x ∷ xs) → x ≡ y → (a : X)
      → (Contains (x ∷ xs) a → Contains (y ∷ ys) a) → Contains xs a → Contains ys a
  in_tail x y xs ys s e a f h =
      elim (Contains-cons_cases y ys a (f (Contains-cons_tail x xs a h))) [
        | inl d ↦ let l = below_tail x xs s a h in let t = tied_itself total x in let q : a ≡ x = d
            ∙ sym e in let l2 : R x x ≡ Less = subst (λ z. R x z ≡ Less) q l in absurd cc
        | inr i ↦ i
      ]

  pub one_rising : (g h : List X) → IsStrictlySortedBy R g → IsStrictlySortedBy R h
      → ((a : X) → Contains g a ↔ Contains h a) → g ≡ h
  one_rising [] [] s r f = refl
  one_rising [] (y ∷ ys) s r f = absurd (not_Contains-nil y ((f y).1 (Contains-cons_head y ys)))
  one_rising (x ∷ xs) [] s r f = absurd (not_Contains-nil x ((f x).0 (Contains-cons_head x xs)))
  one_rising (x ∷ xs) (y ∷ ys) s r f =
      let e = same_head x y xs ys s r ((f x).0 (Contains-cons_head x xs))
      ((f y).1 (Contains-cons_head y ys)) in
      let t = one_rising xs ys (sorted_tail R x xs s) (sorted_tail R y ys r)
      (λ a. (in_tail x y xs ys s e a (f a).0, in_tail y x ys xs r (sym e) a (f a).1)) in
      λ i. e i ∷ t i

  -- what rises stays rising with one more element above all
  pub rising_push : (xs : List X) (x : X) → IsStrictlySortedBy R xs
      → ((a : X) → Contains xs a → R a x ≡ Less) → IsStrictlySortedBy R (xs ++ x ∷ [])
  rising_push [] x s f = rising_cons x [] (All-nil (λ y. R x y ≡ Less)) s
  rising_push (y ∷ ys) x s f = rising_cons y (ys ++ x ∷ [])
      (All-push (λ z. R y z ≡ Less) ys x
      (All-from_recursion (λ z. R y z ≡ Less) ys (sorted_head R y ys s))
      (f y (Contains-cons_head y ys)))
      (rising_push ys x (sorted_tail R y ys s) (λ a i. f a (Contains-cons_tail y ys a i)))

  -- the front of what rises rises, and is below what follows
  pub rising_front : (xs ys : List X) → IsStrictlySortedBy R (xs ++ ys) → IsStrictlySortedBy R xs
  rising_front [] ys s = rising_nil
  rising_front (x ∷ xs) ys s = rising_cons x xs
      (All-weaker (Contains xs) (λ y. R x y ≡ Less)
      (λ a i. below_tail x (xs ++ ys) s a (Contains-append_left xs ys a i)) xs
      (All-contains_itself xs))
      (rising_front xs ys (sorted_tail R x (xs ++ ys) s))

  pub rising_below : (xs : List X) (y : X) (ys : List X) → IsStrictlySortedBy R (xs ++ y ∷ ys)
      → (a : X) → Contains xs a → R a y ≡ Less
  rising_below [] y ys s a h = absurd (not_Contains-nil a h)
  rising_below (x ∷ xs) y ys s a h = elim (Contains-cons_cases x xs a h) [
    | inl e ↦ subst (λ z. R z y ≡ Less) (sym e)
        (below_tail x (xs ++ y ∷ ys) s y
        (Contains-append_right xs (y ∷ ys) y (Contains-cons_head y ys)))
    | inr i ↦ rising_below xs y ys (sorted_tail R x (xs ++ y ∷ ys) s) a i
  ]

pub below_from_less : (a b : ℕ) → nat_cmp a b ≡ Less → a < b
below_from_less a b e = subst (λ (o : Ordering). MatchOrdering o (a < b) (a ≡ b) (b < a)) e
    (ranked a b (nat_cmp a b) refl)
