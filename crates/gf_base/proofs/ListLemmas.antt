-- What lists contain: a cons and a map. The crates above cite them.
use Rattle.std.proofs.Common.{◌≡◌, zero, suc, List, [], ◌∷◌, map, inl, inr, refl, subst, sym, arith}
use Rattle.std.specs.Prelude.{◌⊎◌, Contains}
use Rattle.std.proofs.lemmas.List.Elements.{Contains-append_right}

pub Contains-cons_cases : {X : Type 0} (y : X) (ys : List X) (a : X) → Contains (y ∷ ys) a
    → (a ≡ y) ⊎ Contains ys a
Contains-cons_cases y ys a (zero, h, e) = inl (sym e)
Contains-cons_cases y ys a (suc k, h, e) = inr (k, omega arith, e)

pub Contains-cons_head : {X : Type 0} (y : X) (ys : List X) → Contains (y ∷ ys) y
Contains-cons_head y ys = (0, omega arith, refl)

pub Contains-cons_tail : {X : Type 0} (y : X) (ys : List X) (a : X) → Contains ys a
    → Contains (y ∷ ys) a
Contains-cons_tail y ys a h = Contains-append_right (y ∷ []) ys a h

pub not_Contains-nil : {X : Type 0} (a : X) → ¬ (Contains [] a)
not_Contains-nil a (k, h, e) = absurd (omega arith)

pub Contains-map_from : {X Y : Type 0} (f : X → Y) (xs : List X) (b : Y) → Contains (map f xs) b
    → (a : X) × Contains xs a × (b ≡ f a)
Contains-map_from f [] b h = absurd (not_Contains-nil b h)
Contains-map_from f (x ∷ xs) b h = elim (Contains-cons_cases (f x) (map f xs) b h) [
  | inl e ↦ (x, Contains-cons_head x xs, e)
  | inr r ↦ let w = Contains-map_from f xs b r in (w.0, Contains-cons_tail x xs w.0 w.1, w.2)
]

pub Contains-map : {X Y : Type 0} (f : X → Y) (xs : List X) (a : X) → Contains xs a
    → Contains (map f xs) (f a)
Contains-map f [] a h = absurd (not_Contains-nil a h)
Contains-map f (x ∷ xs) a h = elim (Contains-cons_cases x xs a h) [
  | inl e ↦ subst (λ z. Contains (f x ∷ map f xs) (f z)) (sym e)
      (Contains-cons_head (f x) (map f xs))
  | inr r ↦ Contains-cons_tail (f x) (map f xs) (f a) (Contains-map f xs a r)
]
