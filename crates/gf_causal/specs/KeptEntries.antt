-- The entries of an operation that lies alone, or else of those that lie together. No public clause
-- cites this module.
use Rattle.std.specs.Prelude.{List, [], ◌∷◌}
use Rattle.gf_ops.specs.declared.op.Op.{Op}
use Rattle.gf_ops.specs.declared.op.OpId.{OpId}
use Rattle.gf_causal.specs.Keeping.{entry_of}

-- the entry of the first operation that lies alone, or else those of the others
abbrev pub entries_of : List Op → List (OpId × Op) → List (OpId × Op)
entries_of (a ∷ more) es = entry_of a ∷ []
entries_of [] es = es
