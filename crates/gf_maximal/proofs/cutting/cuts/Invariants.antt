use Rattle.std.proofs.Common.{◌≡◌, take, map}
use Rattle.std.specs.Prelude.{filter}
use Rattle.gf_maximal.specs.Parents.{cut, is_parent}
use Rattle.gf_maximal.specs.Rows.{conflict}
use Rattle.gf_maximal.specs.Cutting.{IsWitness}
use Rattle.gf_maximal.proofs.cutting.cuts.Given as goal

abbrev pub invariant-loop-set : goal.invariant-loop-set
invariant-loop-set l = record {
  done : l.found.items ≡ map (cut l.rivals l.number)
      (filter (is_parent (conflict l.rows) l.met l.rivals) (take l.set-index l.sets));
  witness : IsWitness (conflict l.rows) l.met l.rivals l.witness;
}
