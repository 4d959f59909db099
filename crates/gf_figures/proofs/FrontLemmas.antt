-- Figures from the front to the back.
use Rattle.std.proofs.Common.{◌≡◌, ◌==◌, ℕ, Bool, true, false, cond, ◌&&◌, not, List, [], ◌∷◌, ◌++◌}
use Rattle.std.proofs.Common.{map, reverse, filter, length, eqb, add-one, refl, sym, ap, ◌∙◌, inl}
use Rattle.std.proofs.Common.{inr, arith}
use Rattle.std.specs.Prelude.{nat_lt}
use Rattle.std.proofs.Common.{is_lt}
use Rattle.std.specs.Ordering.{nat_cmp}
use Rattle.std.specs.Prelude.{All, fold, find, None, Some, ◌≤◌, ◌<◌, ◌+◌, nat_le, slice_index_or}
use Rattle.std.specs.List.Sorted.{ties, IsStableByKey, IsNonDecreasingBy}
use Rattle.std.proofs.lemmas.Bool.{cases_Bool}
use Rattle.std.proofs.lemmas.Bool.Decides.{nat_tests}
use Rattle.std.proofs.lemmas.List.{reverse-append, reverse-reverse, append-nil, get_or-map}
use Rattle.std.proofs.lemmas.List.{length-map}
use Rattle.std.proofs.lemmas.List.Elements.{All-head, All-tail, filter-append, filter_agree}
use Rattle.std.proofs.lemmas.List.Sorted.{All-permutation, IsPermutation-reverse}
use Rattle.std.proofs.lemmas.List.Sums.{fold-append}
use Rattle.gf_plane.specs.declared.point.Point.{Point}
use Rattle.gf_plane.specs.White.{white}
use Rattle.gf_figures.specs.declared.figure.Figure.{Figure}
use Rattle.gf_figures.specs.Colours.{Table}
use Rattle.gf_figures.specs.DrawingColour.{drawing_colour, figure_colour, figures_at, from_back}
use Rattle.gf_figures.specs.DrawingColour.{front_colour}
use Rattle.gf_figures.specs.FrontMost.{is_no_deeper, nearer}
use Rattle.gf_figures.proofs.Painting.{at, back, over, shown, paint_same, front_shows}

-- what is taken of a turned list is turned
pub filter-reverse : {X : Type 0} (p : X → Bool) (xs : List X)
    → filter p (reverse xs) ≡ reverse (filter p xs)
filter-reverse p [] = refl
filter-reverse p (x ∷ xs) =
    ap (filter p) (reverse-append (x ∷ []) xs)
    ∙ (filter-append p (reverse xs) (x ∷ [])
    ∙ (ap (λ l. l ++ filter p (x ∷ [])) (filter-reverse p xs) ∙ last (p x)))
  where
    last : (b : Bool) → reverse (filter p xs) ++ cond b (x ∷ []) [] ≡ reverse
        (cond b (x ∷ filter p xs) (filter p xs))
    last true = sym (reverse-append (x ∷ []) (filter p xs))
    last false = append-nil (reverse (filter p xs))

-- what is taken of the views is the views of what is taken
pub filter-map : {X Y : Type 0} (f : X → Y) (p : Y → Bool) (xs : List X)
    → filter p (map f xs) ≡ map f (filter (λ x. p (f x)) xs)
filter-map f p [] = refl
filter-map f p (x ∷ xs) = ap (λ l. cond (p (f x)) (f x ∷ l) l) (filter-map f p xs)
    ∙ pushed (p (f x))
  where
    pushed : (b : Bool) → cond b (f x ∷ map f (filter (λ x. p (f x)) xs))
        (map f (filter (λ x. p (f x)) xs)) ≡ map f
        (cond b (x ∷ filter (λ x. p (f x)) xs) (filter (λ x. p (f x)) xs))
    pushed true = refl
    pushed false = refl

-- two numbers tie exactly if they are one
tied : (a b : ℕ) → (not (is_lt (nat_cmp a b)) && not (is_lt (nat_cmp b a))) ≡ (b == a)
tied a b = elim (cases_Bool (nat_lt a b)) [
  | inl p ↦ let e : (b == a) ≡ false = grind (arith, nat_tests) in rw (p, e) refl
  | inr p ↦ elim (cases_Bool (nat_lt b a)) [
    | inl q ↦ let e : (b == a) ≡ false = grind (arith, nat_tests) in
        let f : (a == b) ≡ false = grind (arith, nat_tests) in rw (p, q, e, f) refl
    | inr q ↦ let e : (b == a) ≡ true = grind (arith, nat_tests) in
        let f : (a == b) ≡ true = grind (arith, nat_tests) in rw (p, q, e, f) refl
  ]
]

-- a stable sort by numbers keeps those of each number that an element could have
stable_at : {X : Type 0} (n : X → ℕ) (xs ys : List X) → IsStableByKey n nat_cmp xs ys
    → (x : X) (d : ℕ) → n x ≡ d → filter (λ y. n y == d) ys ≡ filter (λ y. n y == d) xs
stable_at {X = X} n xs ys h x d e = filter_agree _ _ (λ y. sym (same y)) ys
    ∙ (h x ∙ filter_agree _ _ same xs)
  where
    same : (y : X) → ties (λ (x y : X). is_lt (nat_cmp (n x) (n y))) x y ≡ (n y == d)
    same y = tied (n x) (n y) ∙ ap (λ k. n y == k) e

pub stable_by : {X : Type 0} (n : X → ℕ) (with_number : X → ℕ → X)
    → ((x : X) (d : ℕ) → n (with_number x d) ≡ d) → (xs ys : List X) → length ys ≡ length xs
    → IsStableByKey n nat_cmp xs ys → (d : ℕ) → filter (λ y. n y == d) ys ≡ filter (λ y. n y == d)
    xs
stable_by n with_number e [] [] l h d = refl
stable_by n with_number e [] (y ∷ ys) l h d = absurd (omega (arith, l))
stable_by n with_number e (x ∷ xs) ys l h d = stable_at n (x ∷ xs) ys h (with_number x d) d (e x d)

module _ {F : Type 0} (depth : F → ℕ) where
  -- along a list of which no depth is greater than a later one
  rises_from : (f : F) (fs : List F) → IsNonDecreasingBy depth (f ∷ fs)
      → All (λ g. depth f ≤ depth g) fs
  rises_from f fs h k d l = rw (next fs k) at (h 0 (k + 1) d (omega arith) (omega arith))
    where
      next : (fs : List F) (k : ℕ) → slice_index_or (f ∷ fs) (k + 1) d ≡ slice_index_or fs k d
      next fs k = rw (add-one k) refl

  rises_on : (f : F) (fs : List F) → IsNonDecreasingBy depth (f ∷ fs) → IsNonDecreasingBy depth fs
  rises_on f fs h i j d l m = rw (next i, next j)
      at (h (i + 1) (j + 1) d (omega arith) (omega arith))
    where
      next : (k : ℕ) → slice_index_or (f ∷ fs) (k + 1) d ≡ slice_index_or fs k d
      next k = rw (add-one k) refl

  module _ (holds : F → Bool) where
    no_deeper : (d : ℕ) (fs : List F) → All (λ g. d ≤ depth g) fs
        → is_no_deeper depth d (find holds fs) ≡ true
    no_deeper d [] h = refl
    no_deeper d (g ∷ fs) h = elim (cases_Bool (holds g)) [
      | inl e ↦ let l : d ≤ depth g = All-head (λ g. d ≤ depth g) g fs h in
          let t : nat_le d (depth g) ≡ true = grind (arith, nat_tests) in rw e t
      | inr e ↦ rw e (no_deeper d fs (All-tail (λ g. d ≤ depth g) g fs h))
    ]

    -- the one in front of those that hold is the first that holds, from the front to the back
    first_found : (fs : List F) → IsNonDecreasingBy depth fs
        → fold (nearer depth holds) None (reverse fs) ≡ find holds fs
    first_found [] h = refl
    first_found (f ∷ fs) h =
        ap (fold (nearer depth holds) None) (reverse-append (f ∷ []) fs)
        ∙ (fold-append (nearer depth holds) None (reverse fs) (f ∷ [])
        ∙ (ap (λ front. nearer depth holds front f) (first_found fs (rises_on f fs h))
        ∙ rw (no_deeper (depth f) fs (rises_from f fs h)) (known (holds f))))
      where
        known : (b : Bool) → cond (b && true) (Some f) (find holds fs) ≡ cond b (Some f)
            (find holds fs)
        known true = refl
        known false = refl

    -- what is painted from the back is seen from the front
    pub front_seen : {C : Type 0} (colour : F → C) (c : C) (figures fs : List F) (k : ℕ)
        → IsNonDecreasingBy depth fs → ((d : ℕ) → at depth fs d ≡ reverse (at depth figures d))
        → All (λ f. depth f < k) fs
        → fold (over depth holds colour) c (back depth figures 0 k) ≡ shown depth holds colour c
        (find holds fs)
    front_seen colour c figures fs k rises same within =
        paint_same depth holds colour figures (reverse fs) 0 k c
        (λ d x. ap (fold (over depth holds colour) x) (turned d))
        ∙ (front_shows depth holds colour (reverse fs) k c
        (All-permutation (λ f. depth f < k) fs (reverse fs) (IsPermutation-reverse fs) within)
        ∙ ap (shown depth holds colour c) (first_found fs rises))
      where
        turned : (d : ℕ) → at depth figures d ≡ at depth (reverse fs) d
        turned d = sym (filter-reverse (λ f. eqb (depth f) d) fs
            ∙ (ap reverse (same d) ∙ reverse-reverse (at depth figures d)))

-- numbers along a list do not fall if those of its views do not
pub rises_map : {X Y : Type 0} (f : X → Y) (n : Y → ℕ) (xs : List X)
    → IsNonDecreasingBy (λ x. n (f x)) xs → IsNonDecreasingBy n (map f xs)
rises_map f n [] h i j d l m = absurd (omega (arith, m))
rises_map f n (x ∷ xs) h i j d l m =
    let k : j < length (x ∷ xs) = rw (length-map (x ∷ xs)) at m in
    rw (get_or-map f (x ∷ xs) i x d (omega arith), get_or-map f (x ∷ xs) j x d k) (h i j x l k)

module _ {S : Type 0} (holds : S → Point → Bool) where
  -- the colour at p of a drawing is that of the first that holds p, of its figures by depth
  pub sorted_figure_colours : (table : Table) (figures fs : List (Figure S)) (p : Point)
      → IsNonDecreasingBy (λ (f : Figure S). f.depth) fs →
      ((d : ℕ) → figures_at fs d ≡ reverse (figures_at figures d))
      → All (λ (f : Figure S). f.depth < 1000) fs →
      front_colour holds table fs p ≡ drawing_colour holds table figures p
  unfolding from_back
  sorted_figure_colours table figures fs p rises same within =
      sym (front_seen (λ (f : Figure S). f.depth) (λ (f : Figure S). holds f.shape p)
      (figure_colour table) white figures fs 1000 rises same within)
