-- What stands at the positions of a list, after one element was replaced or put behind the others.
-- The crates above cite them.
use Rattle.std.proofs.Common.{◌≡◌, ◌≢◌, ℕ, zero, suc, List, [], ◌∷◌, ◌++◌, ◌<◌, length, map, set}
use Rattle.std.proofs.Common.{inl, inr, refl, sym, ap, ◌∙◌, arith}
use Rattle.std.specs.Prelude.{◌⊎◌, Some, slice_get, Contains}
use Rattle.std.proofs.lemmas.Option.{slice_get_within, get_or_from_slice_get, slice_get-get_or}

pub contained_at : {X : Type 0} (xs : List X) (i : ℕ) (x : X) → slice_get xs i ≡ Some x
    → Contains xs x
contained_at xs i x e = (i, slice_get_within xs i x e, get_or_from_slice_get xs i x x e)

pub got_set : {X : Type 0} (xs : List X) (k i : ℕ) (y x : X) → slice_get (set xs k y) i ≡ Some x
    → ((i ≡ k) × (x ≡ y)) ⊎ ((i ≢ k) × (slice_get xs i ≡ Some x))
got_set [] k i y x e = absurd cc
got_set (z ∷ zs) zero zero y x e = inl (refl, let q : x ≡ y = cc in q)
got_set (z ∷ zs) zero (suc i) y x e = inr (λ q. absurd (omega arith), e)
got_set (z ∷ zs) (suc k) zero y x e = inr (λ q. absurd (omega arith), e)
got_set (z ∷ zs) (suc k) (suc i) y x e = elim (got_set zs k i y x e) [
  | inl p ↦ let q = p.0 in inl (omega arith, p.1)
  | inr p ↦ inr (λ q. p.0 (omega arith), p.1)
]

pub got_set_same : {X : Type 0} (xs : List X) (k : ℕ) (y x : X) → slice_get xs k ≡ Some x
    → slice_get (set xs k y) k ≡ Some y
got_set_same [] k y x e = absurd cc
got_set_same (z ∷ zs) zero y x e = refl
got_set_same (z ∷ zs) (suc k) y x e = got_set_same zs k y x e

pub got_set_other : {X : Type 0} (xs : List X) (k i : ℕ) (y x : X) → i ≢ k → slice_get xs i ≡ Some x
    → slice_get (set xs k y) i ≡ Some x
got_set_other [] k i y x n e = absurd cc
got_set_other (z ∷ zs) zero zero y x n e = absurd (n refl)
got_set_other (z ∷ zs) zero (suc i) y x n e = e
got_set_other (z ∷ zs) (suc k) zero y x n e = e
got_set_other (z ∷ zs) (suc k) (suc i) y x n e = got_set_other zs k i y x (λ q. n (ap suc q)) e

pub one_value : {X : Type 0} (xs : List X) (k : ℕ) (x y : X) → slice_get xs k ≡ Some x
    → slice_get xs k ≡ Some y → x ≡ y
one_value xs k x y e f = let q : Some x ≡ Some y = sym e ∙ f in let r : x ≡ y = cc in r

-- what stood there, put back, gives the list as it was
pub set_back : {X : Type 0} (xs : List X) (k : ℕ) (y x : X) → slice_get xs k ≡ Some x
    → set (set xs k y) k x ≡ xs
set_back [] k y x e = absurd cc
set_back (z ∷ zs) zero y x e = let q : z ≡ x = cc in ap (λ w. w ∷ zs) (sym q)
set_back (z ∷ zs) (suc k) y x e = ap (λ l. z ∷ l) (set_back zs k y x e)

pub set_set : {X : Type 0} (xs : List X) (k : ℕ) (x y : X) → set (set xs k x) k y ≡ set xs k y
set_set [] k x y = refl
set_set (z ∷ zs) zero x y = refl
set_set (z ∷ zs) (suc k) x y = ap (λ l. z ∷ l) (set_set zs k x y)

pub set_itself : {X : Type 0} (xs : List X) (k : ℕ) (x : X) → slice_get xs k ≡ Some x
    → set xs k x ≡ xs
set_itself [] k x e = refl
set_itself (y ∷ ys) zero x e = let q : x ≡ y = cc in ap (λ z. z ∷ ys) q
set_itself (y ∷ ys) (suc k) x e = ap (λ zs. y ∷ zs) (set_itself ys k x e)

pub got_push : {X : Type 0} (xs : List X) (y : X) (i : ℕ) (x : X)
    → slice_get (xs ++ y ∷ []) i ≡ Some x → (slice_get xs i ≡ Some x) ⊎ ((i ≡ length xs) × (x ≡ y))
got_push [] y zero x e = inr (refl, let q : x ≡ y = cc in q)
got_push [] y (suc i) x e = absurd cc
got_push (z ∷ zs) y zero x e = inl e
got_push (z ∷ zs) y (suc i) x e = elim (got_push zs y i x e) [
  | inl p ↦ inl p
  | inr p ↦ let q = p.0 in inr (omega arith, p.1)
]

pub got_more : {X : Type 0} (xs ys : List X) (i : ℕ) (x : X) → slice_get xs i ≡ Some x
    → slice_get (xs ++ ys) i ≡ Some x
got_more [] ys i x e = absurd cc
got_more (z ∷ zs) ys zero x e = e
got_more (z ∷ zs) ys (suc i) x e = got_more zs ys i x e

pub got_last : {X : Type 0} (xs : List X) (y : X) → slice_get (xs ++ y ∷ []) (length xs) ≡ Some y
got_last [] y = refl
got_last (z ∷ zs) y = got_last zs y

pub not_snoc : {X : Type 0} (xs : List X) (x : X) → ¬ ([] ≡ xs ++ x ∷ [])
not_snoc [] x e = absurd cc
not_snoc (y ∷ xs) x e = absurd cc

pub snoc_same : {X : Type 0} (xs ys : List X) (x y : X) → xs ++ x ∷ [] ≡ ys ++ y ∷ []
    → (xs ≡ ys) × (x ≡ y)
snoc_same [] [] x y e = (refl, let q : x ≡ y = cc in q)
snoc_same [] (b ∷ ys) x y e = absurd (not_snoc ys y (let q : [] ≡ ys ++ y ∷ [] = cc in q))
snoc_same (a ∷ xs) [] x y e = absurd (not_snoc xs x (let q : [] ≡ xs ++ x ∷ [] = cc in q))
snoc_same (a ∷ xs) (b ∷ ys) x y e =
    let h : a ≡ b = cc in
    let t : xs ++ x ∷ [] ≡ ys ++ y ∷ [] = cc in
    let i = snoc_same xs ys x y t in (λ j. h j ∷ i.0 j, i.1)

pub there_is : {X : Type 0} (xs : List X) (k : ℕ) → k < length xs
    → (x : X) × (slice_get xs k ≡ Some x)
there_is [] k l = absurd (omega (arith, l))
there_is (x ∷ xs) zero l = (x, refl)
there_is (x ∷ xs) (suc k) l = there_is xs k (omega (arith, l))

pub position_in : {X : Type 0} (xs : List X) (k : ℕ) (x : X) → slice_get xs k ≡ Some x
    → Contains xs x
position_in xs k x e = (k, slice_get_within xs k x e, get_or_from_slice_get xs k x x e)

pub position_of : {X : Type 0} (xs : List X) (x : X) → Contains xs x
    → (k : ℕ) × (slice_get xs k ≡ Some x)
position_of xs x c = (c.0, slice_get-get_or xs c.0 x c.1 ∙ ap Some c.2)

-- a list whose images end in one
pub record Ends {X Y : Type 0} (f : X → Y) (zs : List X) (ys : List Y) (y : Y) : Type 0 where
  pub front : List X
  pub last : X
  pub is : zs ≡ front ++ last ∷ []
  pub images : map f front ≡ ys
  pub image : f last ≡ y

pub map_nil : {X Y : Type 0} (f : X → Y) (zs : List X) → map f zs ≡ [] → zs ≡ []
map_nil f [] e = refl
map_nil f (z ∷ zs) e = absurd cc

pub map_ends : {X Y : Type 0} (f : X → Y) (zs : List X) (ys : List Y) (y : Y)
    → map f zs ≡ ys ++ y ∷ [] → Ends f zs ys y
map_ends f [] ys y e = absurd (not_snoc ys y e)
map_ends f (z ∷ zs) [] y e =
    let h : f z ≡ y = cc in
    let t : map f zs ≡ [] = cc in record {
      front = [];
      last = z;
      is = ap (λ l. z ∷ l) (map_nil f zs t);
      images = refl;
      image = h;
    }
map_ends f (z ∷ zs) (b ∷ ys) y e =
    let h : f z ≡ b = cc in
    let t : map f zs ≡ ys ++ y ∷ [] = cc in
    let i = map_ends f zs ys y t in record {
      front = z ∷ i.front;
      last = i.last;
      is = ap (λ l. z ∷ l) i.is;
      images = λ j. h j ∷ i.images j;
      image = i.image;
    }
