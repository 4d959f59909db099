-- What a number that comes makes of a largest set that it does not conflict with.
use Rattle.std.proofs.Common.{◌≡◌, ℕ, Bool, true, false, List, [], ◌∷◌, inl, inr, subst, sym, ◌∙◌}
use Rattle.std.proofs.Common.{arith}
use Rattle.std.specs.Prelude.{◌⊎◌, ◌↔◌, Contains}
use Rattle.std.specs.FinMap.{nat_cmp-IsAntisymmetric}
use Rattle.std.specs.Ordering.{nat_cmp}
use Rattle.std.proofs.lemmas.Cmp.{nat_cmp_total}
use Rattle.gf_maximal.specs.Growing.{joined}
use Rattle.gf_maximal.specs.LargestSets.{IsLargest, IsRising, AreLargestSets}
use Rattle.gf_base.proofs.ListLemmas.{Contains-cons_cases, Contains-cons_head, not_Contains-nil}
use Rattle.gf_base.proofs.RisingLemmas.{one_rising, rising_nil}
use Rattle.gf_base.proofs.InsertLemmas.{inserted, holds}
use Rattle.gf_maximal.proofs.LargestLemmas.{IsConflict}
use Rattle.gf_maximal.proofs.MaximalLemmas.{Within}

-- nothing has one set, the empty one
pub largest_first : (c : ℕ → ℕ → Bool) → AreLargestSets c [] ([] ∷ [])
largest_first c = record {
  each = λ g. (
    λ h. elim (Contains-cons_cases [] [] g h) [
      | inl e ↦ subst (λ z. IsRising z × IsLargest c (Contains []) (Contains z)) (sym e) (
        rising_nil nat_cmp nat_cmp_total,
        record {
          within = λ a i. i;
          compatible = λ a b i j. absurd (not_Contains-nil a i);
          largest = λ a i. inl i;
        },
      )
      | inr r ↦ absurd (not_Contains-nil g r)
    ],
    λ m. only g m.1.within,
  );
  once = λ i j d h k. absurd (omega arith);
}
  where
    only : (g : List ℕ) → ((a : ℕ) → Contains g a → Contains [] a) → Contains ([] ∷ []) g
    only [] f = Contains-cons_head [] []
    only (x ∷ g) f = absurd (not_Contains-nil x (f x (Contains-cons_head x g)))

-- of a number that comes: all are us and x, which is new, and it conflicts with those of us that
-- are in d
pub record Comes (c : ℕ → ℕ → Bool) (us : List ℕ) (x : ℕ) (d all : List ℕ) : Type 0 where
  pub rising : IsRising us
  pub fresh : ¬ (Contains us x)
  pub rivals : (a : ℕ) → Contains d a ↔ (Contains us a × (c x a ≡ true))
  pub exactly : (a : ℕ) → Contains all a ↔ (Contains us a ⊎ (a ≡ x))

module _ (c : ℕ → ℕ → Bool) (s : IsConflict c) (us : List ℕ) (x : ℕ) (d all : List ℕ)
    (comes : Comes c us x d all) where
  -- a largest set of vs that rises
  abbrev pub IsSet : List ℕ → List ℕ → Type 0
  IsSet vs g = IsRising g × IsLargest c (Contains vs) (Contains g)

  one : (g h : List ℕ) → IsRising g → IsRising h → ((a : ℕ) → Contains g a ↔ Contains h a) → g ≡ h
  one g h = one_rising nat_cmp nat_cmp_total g h

  rises : (g : List ℕ) → IsRising g → IsRising (joined x g)
  rises g r = inserted nat_cmp nat_cmp_total nat_cmp-IsAntisymmetric x g r

  has : (g : List ℕ) (a : ℕ) → Contains (joined x g) a ↔ (Contains g a ⊎ (a ≡ x))
  has g a = holds nat_cmp nat_cmp_total nat_cmp-IsAntisymmetric x g a

  -- compatible with x, and within us
  pub record IsCalm (g : List ℕ) : Type 0 where
    pub rising : IsRising g
    pub inside : Within g us
    pub compatible : (a b : ℕ) → Contains g a → Contains g b → c a b ≡ false
    pub avoids : (a : ℕ) → Contains g a → c a x ≡ false

  missing : (g : List ℕ) → Within g us → ¬ (Contains g x)
  missing g w h = comes.fresh (w x h)

  -- with x it is compatible
  pub joins : (g : List ℕ) → IsCalm g → (a b : ℕ) → Contains (joined x g) a → Contains (joined x g) b
      → c a b ≡ false
  joins g m a b h i = elim ((has g a).0 h) [
    | inl p ↦ elim ((has g b).0 i) [
      | inl q ↦ m.compatible a b p q
      | inr e ↦ subst (λ z. c a z ≡ false) (sym e) (m.avoids a p)
    ]
    | inr e ↦ elim ((has g b).0 i) [
      | inl q ↦ subst (λ z. c z b ≡ false) (sym e) (s.symmetric x b ∙ m.avoids b q)
      | inr f ↦ subst (λ z. c z b ≡ false) (sym e) (subst (λ z. c x z ≡ false) (sym f) (s.alone x))
    ]
  ]

  -- a largest set that holds x and whose others are within g, which is compatible with x, is g with
  -- x
  pub is_joined : (q g : List ℕ) → IsSet all q → Contains q x → IsCalm g
      → ((a : ℕ) → Contains q a → Contains us a → Contains g a) → q ≡ joined x g
  is_joined q g m here k w = one q (joined x g) m.0 (rises g k.rising) (λ a. (
    λ h. (has g a).1 (elim ((comes.exactly a).0 (m.1.within a h))
        [ inl u ↦ inl (w a h u) | inr e ↦ inr e ]),
    λ h. elim (m.1.largest a
        ((comes.exactly a).1 (elim
        ((has g a).0 h) [ inl i ↦ inl (k.inside a i) | inr e ↦ inr e ]))) [
          | inl i ↦ i
          | inr v ↦
              let other : Contains (joined x g) v.0 = (has g v.0).1
              (elim ((comes.exactly v.0).0 (m.1.within v.0 v.1))
              [ inl u ↦ inl (w v.0 v.1 u) | inr e ↦ inr e ]) in
              let no = joins g k a v.0 h other in let yes = v.2 in absurd cc
        ],
  ))

  -- x can be taken out of what holds it
  pub told_apart : (g h : List ℕ) → Within g us → joined x g ≡ joined x h → Within g h
  told_apart g h w e a i = elim ((has h a).0 (subst (λ z. Contains z a) e ((has g a).1 (inl i)))) [
    | inl j ↦ j
    | inr f ↦ absurd (missing g w (subst (Contains g) f i))
  ]
