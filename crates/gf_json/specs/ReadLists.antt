-- Lists that are read from the elements of an array. No public clause cites this module.
use Rattle.std.specs.Prelude.{ℤ, Bool, false, ◌==◌, List, ◌∷◌, length, map, Option, Some, None}
use Rattle.std.specs.Prelude.{option_and_then, if◌then◌else◌}
use Rattle.std.specs.Ordering.{is_lt}
use Rattle.gf_ops.specs.declared.op.Clock.{Clock}
use Rattle.gf_ops.specs.declared.op.OpId.{OpId}
use Rattle.gf_ops.specs.OperationOrder.{rises}
use Rattle.serde_json.specs.Data.{Data}
use Rattle.gf_json.specs.LineForms.{each, id_of, natural, pair, pair_cmp, whole}

-- a clock, by its eight entries
abbrev pub clock_of : List Data → Option Clock
clock_of ds = option_and_then (λ ns. if length ns == 8 then Some (record { 0 = ns }) else None)
    (each natural ds)

-- the ids of an aim, from names that rise, each once
abbrev pub ids_of : List Data → Option (List OpId)
ids_of ds = option_and_then (λ ps. if rises pair_cmp ps then Some (map id_of ps) else None)
    (each (pair whole) ds)

-- the pairs are there and rise, each once, behind the last pair before them, if there is one
abbrev pub rising_behind : Option (ℤ × ℤ) → Option (List (ℤ × ℤ)) → Bool
rising_behind last None = false
rising_behind None (Some ps) = rises pair_cmp ps
rising_behind (Some p) (Some ps) = rises pair_cmp (p ∷ ps)

-- the pair that is there, if it is behind the last pair
abbrev pub next_behind : Option (ℤ × ℤ) → Option (ℤ × ℤ) → Option (ℤ × ℤ)
next_behind last None = None
next_behind None (Some q) = Some q
next_behind (Some p) (Some q) = if is_lt (pair_cmp p q) then Some q else None
