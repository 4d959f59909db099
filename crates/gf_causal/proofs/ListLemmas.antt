-- What lists contain that have an element in between.
use Rattle.std.proofs.Common.{◌≡◌, List, ◌∷◌, ◌++◌, inl, inr}
use Rattle.std.specs.Prelude.{◌⊎◌, Contains}
use Rattle.std.proofs.lemmas.List.Elements.{Contains-append_left, Contains-append_right}
use Rattle.std.proofs.lemmas.List.Elements.{Contains-append_cases}
use Rattle.gf_base.proofs.ListLemmas.{Contains-cons_cases, Contains-cons_head, Contains-cons_tail}

-- an element in between, or one of the others
pub Contains-between_cases : {X : Type 0} (xs : List X) (y : X) (ys : List X) (a : X)
    → Contains (xs ++ y ∷ ys) a → (a ≡ y) ⊎ Contains (xs ++ ys) a
Contains-between_cases xs y ys a h = elim (Contains-append_cases xs (y ∷ ys) a h) [
  | inl l ↦ inr (Contains-append_left xs ys a l)
  | inr r ↦ elim (Contains-cons_cases y ys a r) [
    | inl e ↦ inl e
    | inr t ↦ inr (Contains-append_right xs ys a t)
  ]
]

pub Contains-between : {X : Type 0} (xs : List X) (y : X) (ys : List X) (a : X)
    → Contains (xs ++ ys) a → Contains (xs ++ y ∷ ys) a
Contains-between xs y ys a h = elim (Contains-append_cases xs ys a h) [
  | inl l ↦ Contains-append_left xs (y ∷ ys) a l
  | inr r ↦ Contains-append_right xs (y ∷ ys) a (Contains-cons_tail y ys a r)
]

pub Contains-between_itself : {X : Type 0} (xs : List X) (y : X) (ys : List X)
    → Contains (xs ++ y ∷ ys) y
Contains-between_itself xs y ys = Contains-append_right xs (y ∷ ys) y (Contains-cons_head y ys)
