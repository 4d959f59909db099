-- What the lines of a block read as, place by place.
use Rattle.std.proofs.Common.{◌≡◌, ℕ, ◌<◌, ◌≤◌, ◌+◌, List, [], ◌∷◌, ◌++◌, length, take, map, suc}
use Rattle.std.proofs.Common.{zero, get_or, ap, ◌∙◌, refl, arith, length-drop}
use Rattle.std.proofs.Math.Seq.{take-append_seam}
use Rattle.std.specs.List.{AllZip}
use Rattle.gf_replay.specs.declared.blocks.Reading.{Reading}
use Rattle.gf_replay.specs.Blocks.{AreFirstReadings, AreReadings, IsBlock}

-- what holds at each place holds place by place
pub zip_from_places : {A B C : Type 0} (R : B → C → Type 0) (f : A → B) (xs : List A) (ys : List C)
    → length ys ≡ length xs
    → ((i : ℕ) → i < length ys → (d : A) (e : C) → R (f (get_or xs i d)) (get_or ys i e))
    → AllZip R (map f xs) ys
zip_from_places R f [] [] long at = tt
zip_from_places R f [] (y ∷ ys) long at = absurd (omega (arith, long))
zip_from_places R f (x ∷ xs) [] long at = absurd (omega (arith, long))
zip_from_places R f (x ∷ xs) (y ∷ ys) long at = (
  at 0 (omega arith) x y,
  zip_from_places R f xs ys (omega (arith, long))
      (λ i within d e. at (suc i) (omega (arith, within)) d e),
)

-- what a block reads as, its lines read as
pub first_from_block : (k : ℕ) (lines : List (ℕ × List ℕ)) (readings : List Reading)
    → AreReadings (take k lines) readings → AreFirstReadings lines readings
first_from_block k lines [] each = tt
first_from_block zero lines (r ∷ rs) each = absurd each
first_from_block (suc k) [] (r ∷ rs) each = absurd each
first_from_block (suc k) (l ∷ ls) (r ∷ rs) each = (each.0, first_from_block k ls rs each.1)

-- a block that reads as nothing is that of no lines
pub none_from_block : (k : ℕ) (lines : List (ℕ × List ℕ)) (readings : List Reading) → 0 < k
    → length readings ≡ 0
    → AreReadings (take k lines) readings → lines ≡ []
none_from_block k [] readings some none each = refl
none_from_block zero (l ∷ ls) readings some none each = absurd (omega (arith, some))
none_from_block (suc k) (l ∷ ls) [] some none each = absurd each
none_from_block (suc k) (l ∷ ls) (r ∷ rs) some none each = absurd (omega (arith, none))

-- there are no more readings than lines
no_more : (lines : List (ℕ × List ℕ)) (readings : List Reading) → AreFirstReadings lines readings
    → length readings ≤ length lines
no_more lines [] first = omega arith
no_more [] (r ∷ rs) first = absurd first
no_more (l ∷ ls) (r ∷ rs) first = let rest = no_more ls rs first.1 in omega (arith, rest)

-- a block and the lines behind it are as many as the lines
pub block_length : (lines : List (ℕ × List ℕ)) (readings : List Reading)
    (others : List (ℕ × List ℕ)) → IsBlock lines readings others
    → length others + length readings ≡ length lines
block_length lines readings others block =
    let few = no_more lines readings block.first in
    let left = ap length block.behind ∙ length-drop (length readings) lines in
    omega (arith, few, left)

-- a list that was written over whole is the new one
pub given_back : {X : Type 0} (n : ℕ) (new rest : List X) → n ≡ length new
    → take n (new ++ rest) ≡ new
given_back n new rest e = rw e (take-append_seam new rest)
