-- Causal order and concurrency of operations (Sun and Chen, ACM TOCHI 9(1), 2002).
use Rattle.std.specs.Prelude.{◌≢◌, ℕ, ◌-◌, ◌≤◌, Bool, true, ◌&&◌, List}
use Rattle.std.specs.Prelude.{[], ◌∷◌, slice_index, count_by}
use Rattle.std.specs.Prelude.{nat_eq}
use Rattle.std.specs.declared.cmp.Ordering.{Ordering}
use Rattle.std.specs.Ordering.{ordering_then, nat_cmp, is_lt}
use Rattle.gf_ops.specs.declared.op.Op.{Op}
use Rattle.gf_ops.specs.declared.op.OpId.{OpId}
use Rattle.gf_ops.specs.declared.op.Clock.{Clock}

-- sites are numbered 1 to 8
abbrev pub IsSite : ℕ → Type 0
IsSite s = (1 ≤ s) × (s ≤ 8)

-- how many operations of site s the clock knows
abbrev pub entry : Clock → ℕ → ℕ
entry clock s = slice_index clock.0 (s - 1)

-- how many operations of site s are in h
abbrev pub count_of : List Op → ℕ → ℕ
count_of h s = count_by (λ a. nat_eq a.id.site s) h

-- the clock that counts the operations of h
abbrev pub clock_of : List Op → Clock
clock_of h =
    record {
      0 = count_of h 1 ∷ count_of h 2 ∷ count_of h 3 ∷ count_of h 4 ∷ count_of h 5
          ∷ count_of h 6 ∷ count_of h 7 ∷ count_of h 8 ∷ [];
    }

-- a comes before b
abbrev pub Precedes : Op → Op → Type 0
Precedes a b = a.id.seq ≤ entry b.past a.id.site

-- a and b are different, and neither comes before the other
pub record IsConcurrent (a b : Op) : Type 0 where
  pub different : a ≢ b
  pub not_before : ¬ (Precedes a b)
  pub not_after : ¬ (Precedes b a)

-- ids are ordered by site, then by number
abbrev pub id_cmp : OpId → OpId → Ordering
id_cmp i j = ordering_then (nat_cmp i.site j.site) (nat_cmp i.seq j.seq)

-- the elements rise by the order cmp, each once
abbrev pub rises : {A : Type 0} → (A → A → Ordering) → List A → Bool
rises cmp (x ∷ y ∷ ys) = is_lt (cmp x y) && rises cmp (y ∷ ys)
rises cmp xs = true
