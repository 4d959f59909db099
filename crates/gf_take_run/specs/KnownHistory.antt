-- What a drawing knew of a history (this project's choice, over causal delivery).
use Rattle.std.specs.Prelude.{◌≡◌, ◌≢◌, ◌⊎◌, ◌<◌, ◌≤◌, ◌+◌, ℕ, List, Contains, Option, None, Some}
use Rattle.std.specs.Prelude.{if◌then◌else◌, nat_le}
use Rattle.gf_ops.specs.declared.op.Op.{Op}
use Rattle.gf_ops.specs.declared.op.OpId.{OpId}
use Rattle.gf_ops.specs.declared.op.Clock.{Clock}
use Rattle.gf_ops.specs.OperationOrder.{IsSite, Precedes, count_of, entry}
use Rattle.gf_edit.specs.declared.made.Made.{Made}

-- h has all operations that the clock counts
abbrev pub AreThere : Clock → List Op → Type 0
AreThere knew h = (s : ℕ) → IsSite s → entry knew s ≤ count_of h s

-- the clock counts the operation i, of one of the eight sites, and h has not so many
pub record IsAbsent (knew : Clock) (h : List Op) (i : OpId) : Type 0 where
  pub site : IsSite i.site
  pub counted : i.seq ≡ entry knew i.site
  pub fewer : count_of h i.site < i.seq

-- a is an operation of h that the clock counts, or that one of these knows
pub record WasKnown (knew : Clock) (h : List Op) (a : Op) : Type 0 where
  pub counted : Op
  pub contained : Contains h counted
  pub within : counted.id.seq ≤ entry knew counted.id.site
  pub known : (a ≡ counted) ⊎ Precedes a counted

-- of h, the operation a of site s came after the drawing, and knows x of another site, which the
-- drawing did not know
pub record IsNewer (s : ℕ) (knew : Clock) (h : List Op) (a x : Op) : Type 0 where
  pub contained : Contains h a
  pub own : a.id.site ≡ s
  pub after : entry knew s < a.id.seq
  pub there : Contains h x
  pub other : x.id.site ≢ s
  pub knows : Precedes x a
  pub unknown : ¬ (WasKnown knew h x)

-- the first and the last operation of site s behind what the drawing knew, if there are any
abbrev pub since_drawing : ℕ → Clock → List Op → Option Made
since_drawing s knew h = if nat_le (count_of h s) (entry knew s) then None else Some (record {
  first = record { site = s; seq = entry knew s + 1 };
  last = record { site = s; seq = count_of h s };
})
