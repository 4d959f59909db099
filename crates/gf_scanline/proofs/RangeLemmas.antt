-- Lists made number by number, cut in two.
use Rattle.std.specs.Prelude.{ℕ, zero, suc, ◌≡◌, ◌+◌, List, ◌∷◌, ◌++◌, flat_map}
use Rattle.std.specs.List.{range_with_len}
use Rattle.std.proofs.Common.{arith, ap, sym, ◌∙◌}
use Rattle.std.proofs.lemmas.Grind.{flat_map-append}

pub range_more : (i m n : ℕ) → range_with_len i (m + n) ≡ range_with_len i m ++ range_with_len
    (i + m) n
range_more i zero n = ap (λ k. range_with_len i k) (none n)
    ∙ ap (λ j. range_with_len j n) (sym (last i))
  where
    none : (n : ℕ) → 0 + n ≡ n
    none n = omega arith

    last : (i : ℕ) → i + 0 ≡ i
    last i = omega arith
range_more i (suc m) n = ap (λ k. range_with_len i k) (again m n)
    ∙ ap (λ xs. i ∷ xs) (range_more (i + 1) m n
    ∙ ap (λ j. range_with_len (i + 1) m ++ range_with_len j n) (moved i m))
  where
    moved : (i m : ℕ) → (i + 1) + m ≡ i + suc m
    moved i m = omega arith

    again : (m n : ℕ) → suc m + n ≡ suc (m + n)
    again m n = omega arith

-- the lists of n numbers more
pub ranged_more : {X : Type 0} (f : ℕ → List X) (i m n : ℕ)
    → flat_map f (range_with_len i (m + n)) ≡ flat_map f (range_with_len i m) ++ flat_map f
    (range_with_len (i + m) n)
ranged_more f i m n = ap (flat_map f) (range_more i m n) ∙ flat_map-append f (range_with_len i m)
    (range_with_len (i + m) n)
