use Rattle.gf_take_run.specs.ShownItems.{HasLinesOf, HasNamesOf}
use Rattle.gf_take_run.proofs.showing.named_objects.Given as goal

abbrev pub invariant-loop-index : goal.invariant-loop-index
invariant-loop-index l = record {
  named : HasNamesOf l.fig l.named.entries;
  rest : HasLinesOf l.fig l.rest;
}
