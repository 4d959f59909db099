-- What the operations of each class say of whether their object shows. No public clause cites this
-- module.
use Rattle.std.specs.Prelude.{ℕ, Bool, true, false, not, ◌&&◌, nat_lt, nat_le, max}
use Rattle.std.specs.Prelude.{List, [], ◌∷◌, Option, Some, None, slice_get}
use Rattle.std.specs.Prelude.{slice_index_or, ◌||◌}
use Rattle.std.specs.List.{fold, repeat, list_any, list_all}
use Rattle.gf_ops.specs.declared.op.Op.{Op}
use Rattle.gf_ops.specs.declared.op.Clock.{Clock}
use Rattle.gf_ops.specs.OperationOrder.{entry}
use Rattle.gf_classes.specs.Hiding.{shown_by}
use Rattle.gf_maximal.specs.Growing.{is_in, intersects}
use Rattle.gf_maximal.specs.Rows.{row}
use Rattle.gf_visible.specs.declared.says.Says.{Says}

-- the clock that knows no operation
abbrev pub no_clock : Clock
no_clock = record { 0 = repeat 8 (0 ∷ []) }

-- the greater of the entries of both clocks at the index i
abbrev pub greater : Clock → Clock → ℕ → ℕ
greater c d i = max (slice_index_or c.0 i 0) (slice_index_or d.0 i 0)

-- what either clock knows
abbrev pub either_clock : Clock → Clock → Clock
either_clock c d = record {
  0 = greater c d 0 ∷ greater c d 1 ∷ greater c d 2 ∷ greater c d 3 ∷ greater c d 4
      ∷ greater c d 5 ∷ greater c d 6 ∷ greater c d 7 ∷ [];
}

-- nothing is said
abbrev pub silent : Says
silent = record { site = 0; last = 0; known = no_clock }

-- for each class the classes that it conflicts with, and what it says
pub record TimelineState : Type 0 where
  pub rows : List (List ℕ)
  pub says : List Says

-- what is said, with what the operation a says
abbrev pub with_said : Option Bool → Says → Op → Says
with_said (Some true) s a =
    record { site = s.site; last = s.last; known = either_clock s.known a.past }
with_said (Some false) s a =
    record { site = a.id.site; last = max s.last a.id.seq; known = s.known }
with_said None s a = s

-- what is said, with what an operation says, if it is there
abbrev pub with_op : Says → Option Op → Says
with_op s (Some a) = with_said (shown_by a.change) s a
with_op s None = s

-- what the operations of h at the positions g say
abbrev pub says_of : List Op → List ℕ → Says
says_of h g = fold (λ s i. with_op s (slice_get h i)) silent g

-- what the class k says
abbrev pub said : List Says → ℕ → Says
said t k = slice_index_or t k silent

-- the class k has an operation that hides
abbrev pub hides : List Says → ℕ → Bool
hides t k = nat_lt 0 (said t k).last

-- an operation under this clock comes after all that hides in s, where some does
abbrev pub is_after : Says → Clock → Bool
is_after s c = nat_lt 0 s.last && nat_le s.last (entry c s.site)

-- the class j has a showing that comes after all that hides in the class k
abbrev pub covers : List Says → ℕ → ℕ → Bool
covers t k j = is_after (said t k) (said t j).known

-- what the showings of the classes g know
abbrev pub known_in : List Says → List ℕ → Clock
known_in t g = fold (λ c k. either_clock c (said t k).known) no_clock g

-- the clock knows an operation
abbrev pub knows_some : Clock → Bool
knows_some c = list_any (λ n. nat_lt 0 n) c.0

-- the class k shows, or conflicts with one of the classes hs, which hide
abbrev pub matters : List (List ℕ) → List Says → List ℕ → ℕ → Bool
matters rows t hs k = knows_some (said t k).known || intersects (row rows k) hs

-- the class k matters, and does not hide
abbrev pub is_other : List (List ℕ) → List Says → List ℕ → ℕ → Bool
is_other rows t hs k = not (is_in hs k) && matters rows t hs k

-- the class k hides or matters
abbrev pub is_deciding : List (List ℕ) → List Says → List ℕ → ℕ → Bool
is_deciding rows t hs k = is_in hs k || matters rows t hs k

-- no class of us conflicts with another one of us
abbrev pub are_calm : List (List ℕ) → List ℕ → Bool
are_calm rows us = list_all (λ k. not (intersects (row rows k) us)) us

-- those that hide, and the others that matter, are two sides without a conflict within
abbrev pub are_sides : List (List ℕ) → List Says → List ℕ → List ℕ → Bool
are_sides rows t hs us = list_all (λ k. not (matters rows t hs k)) hs && are_calm rows us
