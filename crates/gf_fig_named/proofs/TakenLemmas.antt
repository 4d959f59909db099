-- One more element of a list.
use Rattle.std.proofs.Common.{◌≡◌, ℕ, zero, suc, ◌+◌, ◌<◌, ◌≤◌, List, [], ◌∷◌, ◌++◌}
use Rattle.std.proofs.Common.{get_or, length, refl, sym, ap}
use Rattle.std.proofs.Common.{◌∙◌, add-one, append-nil, arith, take}
use Rattle.std.specs.Prelude.{IfOk, Result, Ok, Err}
use Rattle.std.specs.Prelude.{flat_map}
use Rattle.std.specs.List.{AllZip}
use Rattle.std.proofs.Math.Seq.{take-suc}
use Rattle.std.proofs.lemmas.Grind.{flat_map-append}

-- x stands in xs at index k
module _ {X : Type 0} (xs : List X) (k : ℕ) (x : X) (l : k < length xs)
    (is : x ≡ get_or xs k x) where
  pub taken : take (k + 1) xs ≡ take k xs ++ x ∷ []
  taken = rw add-one (take-suc xs k x l ∙ ap (λ y. take k xs ++ y ∷ []) (sym is))

  pub taken_flat : {Y : Type 0} (f : X → List Y) → flat_map f (take (k + 1) xs)
      ≡ flat_map f (take k xs) ++ f x
  taken_flat f = ap (flat_map f) taken ∙ (flat_map-append f (take k xs) (x ∷ [])
      ∙ ap (λ t. flat_map f (take k xs) ++ t) (append-nil (f x)))

-- a list's element is one, whatever stands for none
pub any_default : {X : Type 0} (xs : List X) (k : ℕ) (d e : X) → k < length xs
    → get_or xs k d ≡ get_or xs k e
any_default [] k d e l = absurd (omega (arith, l))
any_default (x ∷ xs) zero d e l = refl
any_default (x ∷ xs) (suc k) d e l = any_default xs k d e (omega (arith, l))

pub taken_all : {X : Type 0} (xs : List X) (k : ℕ) → length xs ≤ k → take k xs ≡ xs
taken_all [] zero l = refl
taken_all [] (suc k) l = refl
taken_all (x ∷ xs) zero l = absurd (omega (arith, l))
taken_all (x ∷ xs) (suc k) l = ap (λ t. x ∷ t) (taken_all xs k (omega (arith, l)))

-- what follows from a success
pub if_ok : {T E : Type 0} (r : Result T E) (P Q : T → Type 0) → ((t : T) → P t → Q t) → IfOk r P
    → IfOk r Q
if_ok (Ok t) P Q f p = f t p
if_ok (Err e) P Q f p = tt

module _ {A B : Type 0} (R : A → B → Type 0) where
  zip_snoc : (xs : List A) (ys : List B) (x : A) (y : B) → AllZip R xs ys → R x y
      → AllZip R (xs ++ x ∷ []) (ys ++ y ∷ [])
  zip_snoc [] [] x y all r = (r, tt)
  zip_snoc [] (w ∷ ws) x y all r = absurd all
  zip_snoc (v ∷ vs) [] x y all r = absurd all
  zip_snoc (v ∷ vs) (w ∷ ws) x y all r = (all.0, zip_snoc vs ws x y all.1 r)

  pub zip_more : (xs : List A) (k : ℕ) (x : A) → k < length xs → x ≡ get_or xs k x → (ys : List B)
      (y : B) → AllZip R (take k xs) ys → R x y → AllZip R (take (k + 1) xs) (ys ++ y ∷ [])
  zip_more xs k x l is ys y all r =
      rw (taken xs k x l is) (zip_snoc (take k xs) ys x y all r)
