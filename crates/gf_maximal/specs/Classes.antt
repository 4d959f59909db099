-- Numbers in classes, whose members conflict with the same numbers (this project's choice).
use Rattle.std.specs.Prelude.{◌≡◌, ◌↔◌, ℕ, Bool, true, false, List, [], ◌∷◌, filter, length}
use Rattle.std.specs.Prelude.{Contains, slice_index_or}
use Rattle.std.specs.BTreeSet.{insert_key}
use Rattle.std.specs.List.{flat_map, fold, range_with_len}
use Rattle.std.specs.Ordering.{nat_cmp}
use Rattle.gf_maximal.specs.Growing.{intersects}
use Rattle.gf_maximal.specs.Rows.{AreRows, conflict}

-- the members of each class, and the classes that it conflicts with; a class may have no members
pub record ClassesState : Type 0 where
  pub members : List (List ℕ)
  pub rows : List (List ℕ)

-- the members of the class k
abbrev pub members_of : ClassesState → ℕ → List ℕ
members_of s k = slice_index_or s.members k []

-- the list has an element
abbrev pub has_some : {X : Type 0} → List X → Bool
has_some [] = false
has_some (x ∷ xs) = true

-- the classes that have a member
abbrev pub used : ClassesState → List ℕ
used s = filter (λ k. has_some (members_of s k)) (range_with_len 0 (length s.members))

-- all members of the classes g, rising
abbrev pub spread : ClassesState → List ℕ → List ℕ
spread s g = fold (insert_key nat_cmp) [] (flat_map (members_of s) g)

-- the classes that have a member in q
abbrev pub gathered : ClassesState → List ℕ → List ℕ
gathered s q = filter (λ k. intersects q (members_of s k)) (used s)

-- each of the numbers us is in one class, and two of them conflict, by c, where their classes do
pub record AreClasses (c : ℕ → ℕ → Bool) (us : List ℕ) (s : ClassesState) : Type 0 where
  pub rows : AreRows s.rows
  pub count : length s.rows ≡ length s.members
  pub placed : (a : ℕ) → Contains us a ↔ ((k : ℕ) × Contains (members_of s k) a)
  pub once : (j k a : ℕ) → Contains (members_of s j) a → Contains (members_of s k) a → j ≡ k
  pub conflicts : (j k a b : ℕ) → Contains (members_of s j) a → Contains (members_of s k) b
      → c a b ≡ conflict s.rows j k
