-- The forms of the values of a line, whatever their limits (RFC 8259 by serde_json's value; forms
-- are this project's choice).
use Rattle.std.specs.Prelude.{ℕ, ℤ, pos, negsuc, ◌^◌, ◌==◌, List, [], ◌∷◌, length, map, Option}
use Rattle.std.specs.Prelude.{Some, None, option_map, option_and_then, if◌then◌else◌}
use Rattle.std.specs.declared.cmp.Ordering.{Ordering}
use Rattle.std.specs.Ordering.{ordering_then, int_cmp, int_eq}
use Rattle.gf_plane.specs.declared.colour.Rgb.{Rgb}
use Rattle.gf_plane.specs.declared.point.Point.{Point}
use Rattle.gf_plane.specs.HexDigits.{rgb_of_hex}
use Rattle.gf_ops.specs.declared.op.OpId.{OpId}
use Rattle.gf_ops.specs.declared.op.Clock.{Clock}
use Rattle.gf_ops.specs.OperationOrder.{rises}
use Rattle.serde_json.specs.Data.{Data, Items, no_items, item}
use Rattle.serde_json.specs.Find.{as_number, as_i64, as_str, as_array}

-- both of two parts, if both are there
infixr 10 ◌&◌
abbrev pub ◌&◌ : {A B : Type 0} → Option A → Option B → Option (A × B)
a & b = option_and_then (λ x. option_map (λ y. (x, y)) b) a

-- ---- numbers

-- a whole number that fits in 64 bits with sign
abbrev pub whole : Data → Option ℤ
whole d = option_and_then as_i64 (as_number d)

-- the number n from 0 on; one below 0 is told as 2^64, which is above all limits
abbrev pub from_zero : ℤ → ℕ
from_zero (pos n) = n
from_zero (negsuc n) = 2 ^ 64

-- a number from 0 on
abbrev pub natural : Data → Option ℕ
natural d = option_map from_zero (whole d)

-- ---- arrays

-- the items, in order
abbrev pub elements : Items → List Data
elements no_items = []
elements (item d ds) = d ∷ elements ds

-- the elements of an array
abbrev pub array : Data → Option (List Data)
array d = option_map elements (as_array d)

-- each of ds in one form
abbrev pub each : {A : Type 0} → (Data → Option A) → List Data → Option (List A)
each form [] = Some []
each form (d ∷ ds) = option_map (λ p. p.0 ∷ p.1) (form d & each form ds)

-- an array, each element in one form
abbrev pub all : {A : Type 0} → (Data → Option A) → Data → Option (List A)
all form d = option_and_then (each form) (array d)

-- the two of ds, each in one form
abbrev pub both : {A : Type 0} → (Data → Option A) → List Data → Option (A × A)
both form (a ∷ b ∷ []) = form a & form b
both form ds = None

-- an array of two, each in one form
abbrev pub pair : {A : Type 0} → (Data → Option A) → Data → Option (A × A)
pair form d = option_and_then (both form) (array d)

-- ---- values

-- the id of site and number
abbrev pub id_of : ℤ × ℤ → OpId
id_of p = record { site = from_zero p.0; seq = from_zero p.1 }

-- a name, by its site and its number there
abbrev pub name : Data → Option OpId
name d = option_map id_of (pair whole d)

-- pairs are ordered by the first number, then by the second
abbrev pub pair_cmp : ℤ × ℤ → ℤ × ℤ → Ordering
pair_cmp p q = ordering_then (int_cmp p.0 q.0) (int_cmp p.1 q.1)

-- the ids of an aim, from an array of names that rise, each once
abbrev pub ids : Data → Option (List OpId)
ids d = option_and_then (λ ps. if rises pair_cmp ps then Some (map id_of ps) else None)
    (all (pair whole) d)

-- a clock, by its eight entries
abbrev pub clock : Data → Option Clock
clock d = option_and_then (λ ns. if length ns == 8 then Some (record { 0 = ns }) else None)
    (all natural d)

-- a point, by its two coordinates
abbrev pub point : Data → Option Point
point d = option_map (λ p. record { x = p.0; y = p.1 }) (pair whole d)

-- a circle's size: its radius twice
abbrev pub radius : Data → Option ℕ
radius d = option_and_then (λ p. if int_eq p.0 p.1 then Some (from_zero p.0) else None)
    (pair whole d)

-- a string of six hexadecimal digits
abbrev pub hex_colour : Data → Option Rgb
hex_colour d = option_and_then rgb_of_hex (as_str d)
