-- Pairs of elements of one list, in their order.
use Rattle.std.proofs.Common.{◌≡◌, ◌≢◌, ◌<◌, zero, suc, Bool, List, [], ◌∷◌, ◌++◌, map, length}
use Rattle.std.proofs.Common.{get_or, inl, inr, subst, sym, arith, ◌∙◌}
use Rattle.std.specs.Prelude.{◌⊎◌, All, AllPairs, Contains, filter}
use Rattle.std.proofs.lemmas.Bool.{cases_Bool, cond-true, cond-false}
use Rattle.std.proofs.lemmas.List.Elements.{All-append, Contains-append_cases, Contains-get_or}
use Rattle.std.proofs.lemmas.List.Kept.{AllPairs-cons}
use Rattle.std.proofs.lemmas.List.{length-map, get_or-map}
use Rattle.gf_base.specs.Pairs.{Pairs}
use Rattle.gf_base.proofs.ListLemmas.{Contains-cons_cases, Contains-cons_head, Contains-cons_tail}
use Rattle.gf_base.proofs.ListLemmas.{not_Contains-nil, Contains-map_from}
use Rattle.gf_base.proofs.FilterLemmas.{Contains-filter}

pub Pairs-append : {X : Type 0} (R : X → X → Type 0) (xs ys : List X) → Pairs R xs → Pairs R ys
    → ((x y : X) → Contains xs x → Contains ys y → R x y) → Pairs R (xs ++ ys)
Pairs-append R [] ys p q r = q
Pairs-append R (x ∷ xs) ys p q r = (
  λ y i. elim (Contains-append_cases xs ys y i) [
    | inl j ↦ p.0 y j
    | inr j ↦ r x y (Contains-cons_head x xs) j
  ],
  Pairs-append R xs ys p.1 q (λ z y i j. r z y (Contains-cons_tail x xs z i) j),
)

pub Pairs-map : {X Y : Type 0} (R : X → X → Type 0) (S : Y → Y → Type 0) (f : X → Y) (xs : List X)
    → ((a b : X) → R a b → S (f a) (f b)) → Pairs R xs → Pairs S (map f xs)
Pairs-map R S f [] g p = tt
Pairs-map R S f (x ∷ xs) g p = (
  λ y i. let w = Contains-map_from f xs y i in subst (S (f x)) (sym w.2) (g x w.0 (p.0 w.0 w.1)),
  Pairs-map R S f xs g p.1,
)

pub Pairs-filter : {X : Type 0} (R : X → X → Type 0) (p : X → Bool) (xs : List X) → Pairs R xs
    → Pairs R (filter p xs)
Pairs-filter R p [] q = tt
Pairs-filter R p (x ∷ xs) q = elim (cases_Bool (p x)) [
  | inl k ↦ rw (cond-true (p x) (x ∷ filter p xs) (filter p xs) k) (
    λ y i. q.0 y ((Contains-filter p xs y).0 i).0,
    Pairs-filter R p xs q.1,
  )
  | inr k ↦ rw (cond-false (p x) (x ∷ filter p xs) (filter p xs) k) (Pairs-filter R p xs q.1)
]

-- a relation that follows from another on the elements
pub Pairs-from : {X : Type 0} (R S : X → X → Type 0) (xs : List X)
    → ((a b : X) → Contains xs a → Contains xs b → R a b → S a b) → Pairs R xs → Pairs S xs
Pairs-from R S [] f p = tt
Pairs-from R S (x ∷ xs) f p = (
  λ y i. f x y (Contains-cons_head x xs) (Contains-cons_tail x xs y i) (p.0 y i),
  Pairs-from R S xs (λ a b i j. f a b (Contains-cons_tail x xs a i) (Contains-cons_tail x xs b j))
      p.1,
)

-- different elements stay different under a map that tells them apart
pub AllPairs-map : {Y Z : Type 0} (f : Y → Z) (ys : List Y)
    → ((a b : Y) → Contains ys a → Contains ys b → f a ≡ f b → a ≡ b) → AllPairs (λ a b. a ≢ b) ys
    → AllPairs (λ a b. a ≢ b) (map f ys)
AllPairs-map f [] one o i j d l m e = absurd (omega arith)
AllPairs-map f (y ∷ ys) one o i j d l m e =
    let n : j < length (y ∷ ys) = rw length-map at m in
    let k : i < length (y ∷ ys) = omega arith in
    o i j y l n (one (get_or (y ∷ ys) i y) (get_or (y ∷ ys) j y) (Contains-get_or (y ∷ ys) i y k)
    (Contains-get_or (y ∷ ys) j y n)
    (sym (get_or-map f (y ∷ ys) i y d k) ∙ (e ∙ get_or-map f (y ∷ ys) j y d n)))

-- what holds of all pairs of two lists, one behind the other
pub AllPairs-append : {X : Type 0} (R : X → X → Type 0) (xs ys : List X) → AllPairs R xs
    → AllPairs R ys → ((a b : X) → Contains xs a → Contains ys b → R a b) → AllPairs R (xs ++ ys)
AllPairs-append R [] ys p q f = q
AllPairs-append R (x ∷ xs) ys p q f =
    let head : All (R x) xs = λ k d l. p zero (suc k) d (omega arith) (omega arith) in
    let cross : All (R x) ys = λ k d l. f x (get_or ys k d) (Contains-cons_head x xs)
    (Contains-get_or ys k d l) in
    AllPairs-cons R x (xs ++ ys) (All-append (R x) xs ys head cross)
    (AllPairs-append R xs ys (λ i j d l m. p (suc i) (suc j) d (omega arith) (omega arith)) q
    (λ a b i j. f a b (Contains-cons_tail x xs a i) j))
