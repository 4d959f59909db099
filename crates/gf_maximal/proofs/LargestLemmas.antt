-- Largest compatible groups, as predicates, when the universe grows by one element.
use Rattle.std.proofs.Common.{◌≡◌, Bool, false, inl, inr, subst, sym}
use Rattle.std.specs.Prelude.{◌⊎◌, ◌↔◌}
use Rattle.gf_maximal.specs.LargestSets.{Hits, IsLargest}

module _ {X : Type 0} (c : X → X → Bool) where
  -- p and x
  abbrev pub With : (X → Type 0) → X → X → Type 0
  With p x a = p a ⊎ (a ≡ x)

  pub record IsConflict : Type 0 where
    pub symmetric : (a b : X) → c a b ≡ c b a
    pub alone : (a : X) → c a a ≡ false

  compatible_with : IsConflict → (p : X → Type 0) (x : X) → ((a b : X) → p a → p b → c a b ≡ false)
      → ((a : X) → p a → c a x ≡ false) → (a b : X) → With p x a → With p x b → c a b ≡ false
  compatible_with s p x k f a b (inl h) (inl g) = k a b h g
  compatible_with s p x k f a b (inl h) (inr e) = let i = f a h in cc
  compatible_with s p x k f a b (inr e) (inl g) = let i = f b g in let j = s.symmetric a b in cc
  compatible_with s p x k f a b (inr e) (inr d) = let j = s.alone x in cc

  -- a group that is compatible with x gets x
  pub largest_with : IsConflict → (U p : X → Type 0) (x : X) → IsLargest c U p
      → ((a : X) → p a → c a x ≡ false) → IsLargest c (With U x) (With p x)
  largest_with s U p x m f = record {
    within = λ a h. elim h [ inl g ↦ inl (m.within a g) | inr e ↦ inr e ];
    compatible = compatible_with s p x m.compatible f;
    largest = λ a h. elim h [
      | inl u ↦ elim (m.largest a u) [ inl g ↦ inl (inl g) | inr w ↦ inr (w.0, inl w.1, w.2) ]
      | inr e ↦ inl (inr e)
    ];
  }

  -- a group that conflicts with x stays
  pub largest_stays : (U p : X → Type 0) (x : X) → IsLargest c U p → Hits c p x
      → IsLargest c (With U x) p
  largest_stays U p x m hit = record {
    within = λ a h. inl (m.within a h);
    compatible = m.compatible;
    largest = λ a h. elim h [
      | inl u ↦ m.largest a u
      | inr e ↦ inr (subst (Hits c p) (sym e) hit)
    ];
  }

  -- a largest group that conflicts with x was one before
  pub largest_was : IsConflict → (U q : X → Type 0) (x : X) → IsLargest c (With U x) q → Hits c q x
      → IsLargest c U q
  largest_was s U q x m hit = record {
    within = λ a h. elim (m.within a h) [
      | inl u ↦ u
      | inr e ↦ let k = m.compatible a hit.0 h hit.1 in let i = hit.2 in cc
    ];
    compatible = m.compatible;
    largest = λ a u. m.largest a (inl u);
  }

  -- the same sets, told in other words
  pub largest_alike : (U V p q : X → Type 0) → ((a : X) → U a ↔ V a) → ((a : X) → p a ↔ q a)
      → IsLargest c U p → IsLargest c V q
  largest_alike U V p q us ps m = record {
    within = λ a h. (us a).0 (m.within a ((ps a).1 h));
    compatible = λ a b h g. m.compatible a b ((ps a).1 h) ((ps b).1 g);
    largest = λ a h. elim (m.largest a ((us a).1 h)) [
      | inl i ↦ inl ((ps a).0 i)
      | inr w ↦ inr (w.0, (ps w.0).0 w.1, w.2)
    ];
  }
