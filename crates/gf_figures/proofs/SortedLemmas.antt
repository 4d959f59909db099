-- Figures that are sorted by depth, each depth in turned file order, are those from the front.
use Rattle.std.proofs.Common.{◌≡◌, ℕ, zero, suc, ◌+◌, ◌≤◌, ◌<◌, List, []}
use Rattle.std.proofs.Common.{◌∷◌, ◌++◌, reverse, filter, eqb, refl, sym, ap, ◌∙◌, inl, inr}
use Rattle.std.proofs.Common.{add-one, arith}
use Rattle.std.specs.Prelude.{All, flat_map, slice_index_or}
use Rattle.std.specs.List.{range_with_len}
use Rattle.std.specs.List.Sorted.{IsNonDecreasingBy}
use Rattle.std.proofs.lemmas.Bool.{cases_Bool, eqb-true, eqb-false, ne_eqb}
use Rattle.std.proofs.lemmas.Grind.{flat_map-append}
use Rattle.std.proofs.lemmas.List.{append-nil, reverse-append}
use Rattle.std.proofs.lemmas.List.Elements.{All-head, All-tail, All-weaker}
use Rattle.gf_figures.specs.declared.figure.Figure.{Figure}
use Rattle.gf_figures.specs.DrawingColour.{figures_at, from_back}

module _ {F : Type 0} (depth : F → ℕ) where
  -- the elements of fs at depth d
  abbrev pub at : List F → ℕ → List F
  at fs d = filter (λ f. eqb (depth f) d) fs

  -- the depths m to m + k - 1, one after another
  abbrev pub in_turn : List F → ℕ → ℕ → List F
  in_turn fs m k = flat_map (at fs) (range_with_len m k)

  pub none_at : (m : ℕ) (fs : List F) → All (λ g. m < depth g) fs → at fs m ≡ []
  none_at m [] h = refl
  none_at m (g ∷ fs) h =
      let l = All-head (λ g. m < depth g) g fs h in
      rw (ne_eqb (depth g) m (λ e. omega arith)) (none_at m fs (All-tail (λ g. m < depth g) g fs h))

  -- an element is of no depth behind its own
  skipped : (f : F) (fs : List F) (m k : ℕ) → depth f < m → in_turn (f ∷ fs) m k ≡ in_turn fs m k
  skipped f fs m zero l = refl
  skipped f fs m (suc k) l =
      rw (ne_eqb (depth f) m (λ e. omega arith))
      (ap (λ r. at fs m ++ r) (skipped f fs (m + 1) k (omega arith)))

  -- an element that is no deeper than the others comes first
  pub comes_first : (f : F) (fs : List F) (m k : ℕ) → All (λ g. depth f ≤ depth g) fs → m ≤ depth f
      → depth f < m + k → in_turn (f ∷ fs) m k ≡ f ∷ in_turn fs m k
  comes_first f fs m zero h l u = absurd (omega arith)
  comes_first f fs m (suc k) h l u = elim (cases_Bool (eqb (depth f) m)) [
    | inl e ↦
        let q = eqb-true (depth f) m e in
        rw e (ap (λ r. f ∷ (at fs m ++ r)) (skipped f fs (m + 1) k (omega arith)))
    | inr e ↦
        let q = eqb-false (depth f) m e in
        let less : m < depth f = omega (arith, q, l) in
        let none = none_at m fs
        (All-weaker (λ g. depth f ≤ depth g) (λ g. m < depth g) (λ g w. omega arith) fs h) in
        rw (e, none) (comes_first f fs (m + 1) k h (omega arith) (omega arith))
  ]

  rises_from : (f : F) (fs : List F) → IsNonDecreasingBy depth (f ∷ fs)
      → All (λ g. depth f ≤ depth g) fs
  rises_from f fs h k d l = rw (next fs k) at (h 0 (k + 1) d (omega arith) (omega arith))
    where
      next : (fs : List F) (k : ℕ) → slice_index_or (f ∷ fs) (k + 1) d ≡ slice_index_or fs k d
      next fs k = rw (add-one k) refl

  rises_on : (f : F) (fs : List F) → IsNonDecreasingBy depth (f ∷ fs) → IsNonDecreasingBy depth fs
  rises_on f fs h i j d l m =
      rw (next i, next j) at (h (i + 1) (j + 1) d (omega arith) (omega arith))
    where
      next : (k : ℕ) → slice_index_or (f ∷ fs) (k + 1) d ≡ slice_index_or fs k d
      next k = rw (add-one k) refl

  pub empty_turn : (m k : ℕ) → in_turn [] m k ≡ []
  empty_turn m zero = refl
  empty_turn m (suc k) = empty_turn (m + 1) k

  -- a sorted list has its depths in turn
  sorted_in_turn : (fs : List F) (k : ℕ) → IsNonDecreasingBy depth fs → All (λ f. depth f < k) fs
      → in_turn fs 0 k ≡ fs
  sorted_in_turn [] k h w = empty_turn 0 k
  sorted_in_turn (f ∷ fs) k h w =
      comes_first f fs 0 k (rises_from f fs h) (omega arith)
      (let u = All-head (λ g. depth g < k) f fs w in omega arith)
      ∙ ap (λ r. f ∷ r)
      (sorted_in_turn fs k (rises_on f fs h) (All-tail (λ g. depth g < k) f fs w))

-- turning a row of lists turns each, and their order
pub flat_map-reverse : {X A : Type 0} (f : X → List A) (xs : List X)
    → reverse (flat_map f (reverse xs)) ≡ flat_map (λ x. reverse (f x)) xs
flat_map-reverse f [] = refl
flat_map-reverse f (x ∷ xs) =
    ap (λ ys. reverse (flat_map f ys)) (reverse-append (x ∷ []) xs)
    ∙ (ap reverse (flat_map-append f (reverse xs) (x ∷ []))
    ∙ (reverse-append (flat_map f (reverse xs)) (f x ++ [])
    ∙ (ap (λ l. reverse l ++ reverse (flat_map f (reverse xs))) (append-nil (f x))
    ∙ ap (λ l. reverse (f x) ++ l) (flat_map-reverse f xs))))

pub flat_map-same : {X A : Type 0} (f g : X → List A) → ((x : X) → f x ≡ g x) → (xs : List X)
    → flat_map f xs ≡ flat_map g xs
flat_map-same f g e [] = refl
flat_map-same f g e (x ∷ xs) =
    ap (λ l. l ++ flat_map f xs) (e x) ∙ ap (λ l. g x ++ l) (flat_map-same f g e xs)

-- figures sorted by depth, each depth turned, are those from the front
pub sorted_front : {S : Type 0} (figures fs : List (Figure S))
    → IsNonDecreasingBy (λ (f : Figure S). f.depth) fs
    → ((d : ℕ) → figures_at fs d ≡ reverse (figures_at figures d))
    → All (λ (f : Figure S). f.depth < 1000) fs → fs ≡ reverse (from_back figures)
unfolding from_back
sorted_front {S} figures fs rises turned within =
    sym (sorted_in_turn (λ (f : Figure S). f.depth) fs 1000 rises within)
    ∙ (flat_map-same (figures_at fs) (λ d. reverse (figures_at figures d)) turned
    (range_with_len 0 1000)
    ∙ sym (flat_map-reverse (figures_at figures) (range_with_len 0 1000)))
