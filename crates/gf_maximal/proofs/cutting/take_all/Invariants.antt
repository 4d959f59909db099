use Rattle.std.proofs.Common.{◌≡◌, ◌≤◌, ℕ, List, map, take, get_or}
use Rattle.gf_maximal.specs.Parents.{met}
use Rattle.gf_maximal.proofs.cutting.take_all.Given as goal

abbrev pub invariant-loop-set : goal.invariant-loop-set
invariant-loop-set l = record {
  done : take l.set-index l.set-items ≡ map (met l.rivals l.number)
      (take l.set-index l.initial.set-items);
  rest : (k : ℕ) (d : List ℕ) → l.set-index ≤ k
      → get_or l.set-items k d ≡ get_or l.initial.set-items k d;
}
