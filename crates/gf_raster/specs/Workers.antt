-- What the calls of all workers give. No public clause cites this module.
use Rattle.std.specs.Prelude.{ℕ, ◌≡◌, ◌<◌, List, Result, Ok, slice_index_or}
use denote.Param.Members.{Shared}
use Rattle.std.specs.Fn.{FnReturns}
use Rattle.gf_base.specs.declared.memory.OutOfMemory.{OutOfMemory}

-- each of the n values is one that a call of f with its place may give; the equation shows the
-- prover at which term to use the rest
abbrev pub GivesAll : {F X : Type 0} → Shared F (ℕ × Unit {0}) (Result X OutOfMemory)
    → F → ℕ
    → List X → Type 0
GivesAll {F} {X} g f n xs = (i : ℕ) (d : X) → i < n
    → (slice_index_or xs i d ≡ slice_index_or xs i d)
    × FnReturns g f (i, tt) (Ok (slice_index_or xs i d))
