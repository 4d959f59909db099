use Rattle.std.proofs.Common.{rules}
use Rattle.gf_ops.specs.Accepted.{none}
use Rattle.gf_ops.proofs.history.History.new.Goals as goal

pub invariant_of-result : goal.invariant_of-result
invariant_of-result c = rw (c.new.ensures.items, c.new-2.ensures.items) (record {
  accepted = none;
  valid = search rules;
  counted = search rules;
  reached = search rules;
  wide = search rules;
  placed = search rules;
})
