-- Sorted lists of different elements.
use Rattle.std.proofs.Common.{◌≡◌, ◌≢◌, ◌+◌, Bool, true, false, List, [], ◌∷◌, get_or, refl, sym}
use Rattle.std.proofs.Common.{ap, ◌∙◌, inl, inr, arith}
use Rattle.std.specs.Prelude.{AllPairs}
use Rattle.std.specs.Cmp.{IsTotalOrder}
use Rattle.std.specs.FinMap.{IsAntisymmetric}
use Rattle.std.specs.List.{IsDistinct, fold}
use Rattle.std.specs.List.Sorted.{IsPermutation, IsSorted, IsStrictlySortedBy}
use Rattle.std.specs.BTreeSet.{insert_key}
use Rattle.std.specs.declared.cmp.Ordering.{Ordering}
use Rattle.std.specs.declared.cmp.Ordering.TheVariants.{Less, Equal, Greater}
use Rattle.std.specs.Ordering.{ordering_reverse, is_lt, is_eq}
use Rattle.std.proofs.lemmas.Bool.{cases_Bool}
use Rattle.std.proofs.lemmas.List.Sorted.{Contains-permutation, IsPermutation-sym}
use Rattle.std.proofs.lemmas.Map.Keys.{IsDistinct-from_apart, IsDistinct-IsPermutation}
use Rattle.std.proofs.lemmas.Map.Keys.{apart_from_distinct, sorted_from_all_adjacent}
use Rattle.gf_base.proofs.ListLemmas.{not_Contains-nil}
use Rattle.gf_base.proofs.InsertLemmas.{inserted_all, holds_all}
use Rattle.gf_base.proofs.RisingLemmas.{one_rising, rising_nil}

pub equal_left : (o : Ordering) → is_eq o ≡ true → o ≡ Equal
equal_left Less e = absurd cc
equal_left Equal e = refl
equal_left Greater e = absurd cc

module _ {X : Type 0} (R : X → X → Ordering) (total : IsTotalOrder R) where
  abbrev pub ties : X → X → Bool
  ties x y = is_eq (R x y)

  ties-flips : (x y : X) → ties x y ≡ ties y x
  ties-flips x y = ap is_eq (total.antisymm x y) ∙ turned (R y x)
    where
      turned : (o : Ordering) → is_eq (ordering_reverse o) ≡ is_eq o
      turned Less = refl
      turned Equal = refl
      turned Greater = refl

  less_left : (o : Ordering) → is_lt (ordering_reverse o) ≡ false → is_eq o ≡ false → o ≡ Less
  less_left Less e f = refl
  less_left Equal e f = absurd cc
  less_left Greater e f = absurd cc

  -- what is sorted and has each element once rises
  strict : (ys : List X) → IsSorted R ys → IsDistinct ties ys → IsStrictlySortedBy R ys
  strict [] s d = rising_nil R total
  strict (y ∷ ys) s d = sorted_from_all_adjacent total (y ∷ ys) y (λ k l.
      let a = get_or (y ∷ ys) k y in let b = get_or (y ∷ ys) (k + 1) y in
      less_left (R a b) (ap is_lt (sym (total.antisymm b a)) ∙ s k y (omega arith) l)
      (apart_from_distinct ties (y ∷ ys) k (k + 1) y d (omega arith) l))

  -- a list without ties, sorted, rises
  pub rising_sorted : (xs ys : List X) → AllPairs (λ x y. ties x y ≡ false) xs → IsPermutation xs ys
      → IsSorted R ys → IsStrictlySortedBy R ys
  rising_sorted xs ys pairs moved s = strict ys s (IsDistinct-IsPermutation ties ties-flips xs ys
      moved (IsDistinct-from_apart ties xs pairs))

module _ {X : Type 0} (R : X → X → Ordering) (total : IsTotalOrder R)
    (exact : IsAntisymmetric R) where
  pub apart : (x y : X) → x ≢ y → ties R total x y ≡ false
  apart x y n = elim (cases_Bool (ties R total x y)) [
    | inl t ↦ absurd (n (exact x y (equal_left (R x y) t)))
    | inr t ↦ t
  ]

  -- different elements, sorted, are the list that their insertion makes
  pub same_sorted : (xs ys : List X) → AllPairs (λ x y. x ≢ y) xs → IsPermutation xs ys
      → IsSorted R ys → ys ≡ fold (insert_key R) [] xs
  same_sorted xs ys pairs moved s = one_rising R total ys (fold (insert_key R) [] xs)
      (rising_sorted R total xs ys (λ i j d below inside. apart (get_or xs i d) (get_or xs j d)
      (pairs i j d below inside)) moved s) (inserted_all R total exact xs [] (rising_nil R total))
      (λ a. (
        λ i. (holds_all R total exact xs [] a).1
            (inr (Contains-permutation ys xs a (IsPermutation-sym xs ys moved) i)),
        λ i. elim ((holds_all R total exact xs [] a).0 i) [
          | inl j ↦ absurd (not_Contains-nil a j)
          | inr j ↦ Contains-permutation xs ys a moved j
        ],
      ))
