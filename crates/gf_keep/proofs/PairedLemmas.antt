-- The elements of two lists that stand at one place.
use Rattle.std.proofs.Common.{◌≡◌, ◌≢◌, List, [], ◌∷◌, refl, sym, subst, inl, inr}
use Rattle.std.specs.Prelude.{AllPairs, Contains}
use Rattle.std.specs.List.{AllZip}
use Rattle.gf_base.proofs.ListLemmas.{Contains-cons_cases, Contains-cons_head, Contains-cons_tail}
use Rattle.gf_base.proofs.ListLemmas.{not_Contains-nil}
use Rattle.gf_versions.proofs.TopLemmas.{head_above, tail_falls}

-- a and b stand at one place of two lists
pub data Paired {A B : Type 0} : List A → List B → A → B → Type 0 where
  here : {xs : List A} {ys : List B} (a : A) (b : B) → Paired (a ∷ xs) (b ∷ ys) a b
  there : {xs : List A} {ys : List B} (c : A) (d : B) (a : A) (b : B) → Paired xs ys a b
      → Paired (c ∷ xs) (d ∷ ys) a b

module _ {A B : Type 0} where
  pub paired_left : (ps : List A) (qs : List B) (a : A) (b : B) → Paired ps qs a b → Contains ps a
  paired_left ps qs a b (here {xs = xs} c d) = Contains-cons_head c xs
  paired_left ps qs a b (there {xs = xs} {ys = ys} c d e f p) = Contains-cons_tail c xs e
      (paired_left xs ys e f p)

  pub paired_right : (ps : List A) (qs : List B) (a : A) (b : B) → Paired ps qs a b → Contains qs b
  paired_right ps qs a b (here {ys = ys} c d) = Contains-cons_head d ys
  paired_right ps qs a b (there {xs = xs} {ys = ys} c d e f p) = Contains-cons_tail d ys f
      (paired_right xs ys e f p)

  pub paired_holds : (R : A → B → Type 0) (ps : List A) (qs : List B) (a : A) (b : B)
      → AllZip R ps qs → Paired ps qs a b → R a b
  paired_holds R ps qs a b z (here c d) = z.0
  paired_holds R ps qs a b z (there {xs = xs} {ys = ys} c d e f p) = paired_holds R xs ys e f z.1 p

  -- each of the one list has one of the other
  pub some_right : (R : A → B → Type 0) (ps : List A) (qs : List B) → AllZip R ps qs → (a : A)
      → Contains ps a → (b : B) × Paired ps qs a b
  some_right R [] qs z a i = absurd (not_Contains-nil a i)
  some_right R (x ∷ xs) [] z a i = absurd z
  some_right R (x ∷ xs) (y ∷ ys) z a i = elim (Contains-cons_cases x xs a i) [
    | inl e ↦ (y, subst (λ (w : A). Paired (x ∷ xs) (y ∷ ys) w y) (sym e) (here x y))
    | inr j ↦ let p = some_right R xs ys z.1 a j in (p.0, there x y a p.0 p.1)
  ]

  pub some_left : (R : A → B → Type 0) (ps : List A) (qs : List B) → AllZip R ps qs → (b : B)
      → Contains qs b → (a : A) × Paired ps qs a b
  some_left R ps [] z b i = absurd (not_Contains-nil b i)
  some_left R [] (y ∷ ys) z b i = absurd z
  some_left R (x ∷ xs) (y ∷ ys) z b i = elim (Contains-cons_cases y ys b i) [
    | inl e ↦ (x, subst (λ (w : B). Paired (x ∷ xs) (y ∷ ys) x w) (sym e) (here x y))
    | inr j ↦ let p = some_left R xs ys z.1 b j in (p.0, there x y p.0 b p.1)
  ]

module _ {A B : Type 0} where
  -- and where all of the one list differ, only one
  pub one_right : (ps : List A) (qs : List B) (a e : A) (b c : B) → AllPairs (λ (x y : A). x ≢ y) ps
      → Paired ps qs a b → Paired ps qs e c → a ≡ e → b ≡ c
  one_right [] qs a e b c d p q same = absurd (not_Contains-nil a (paired_left [] qs a b p))
  one_right (x ∷ xs) [] a e b c d p q same =
      absurd (not_Contains-nil b (paired_right (x ∷ xs) [] a b p))
  one_right (x ∷ xs) (y ∷ ys) a e b c d p q same = one x xs y ys a e b c
      (head_above (λ (v w : A). v ≢ w) x xs d)
      (one_right xs ys a e b c (tail_falls (λ (v w : A). v ≢ w) x xs d)) p q same
    where
      one : (x : A) (xs : List A) (y : B) (ys : List B) (a e : A) (b c : B)
          → ((w : A) → Contains xs w → x ≢ w) → (Paired xs ys a b → Paired xs ys e c → a ≡ e
          → b ≡ c) → Paired (x ∷ xs) (y ∷ ys) a b → Paired (x ∷ xs) (y ∷ ys) e c → a ≡ e → b ≡ c
      one x xs y ys a e b c differ rest (here v w) (here r s) same = refl
      one x xs y ys a e b c differ rest (here v w) (there t u r s k) same =
          absurd (differ r (paired_left xs ys r s k) same)
      one x xs y ys a e b c differ rest (there t u r s k) (here v w) same =
          absurd (differ r (paired_left xs ys r s k) (sym same))
      one x xs y ys a e b c differ rest (there t u r s k) (there v w g h l) same = rest k l same
