-- What an operation that waits lacks first (this project's choice, over causal delivery).
use Rattle.std.specs.Prelude.{ℕ, ◌+◌, ◌-◌, ◌==◌, nat_lt, List, [], ◌∷◌}
use Rattle.std.specs.Prelude.{if◌then◌else◌}
use Rattle.gf_ops.specs.declared.op.Op.{Op}
use Rattle.gf_ops.specs.declared.op.OpId.{OpId}
use Rattle.gf_ops.specs.OperationOrder.{entry, count_of}

-- how many operations of site t the operation a needs: of its own those before it, else what it
-- knows
abbrev pub needed : Op → ℕ → ℕ
needed a t = if t == a.id.site then a.id.seq - 1 else entry a.past t

-- the next operation behind h of the first of these sites that has fewer than a needs. Where no
-- site has fewer, this is the operation before a
abbrev pub first_missing : List Op → Op → List ℕ → OpId
first_missing h a [] = record { site = a.id.site; seq = a.id.seq - 1 }
first_missing h a (t ∷ ts) =
    if nat_lt (count_of h t) (needed a t)
    then record { site = t; seq = count_of h t + 1 }
    else first_missing h a ts

-- the operation that a waits for behind h
abbrev pub waits_for : List Op → Op → OpId
waits_for h a = first_missing h a (1 ∷ 2 ∷ 3 ∷ 4 ∷ 5 ∷ 6 ∷ 7 ∷ 8 ∷ [])
