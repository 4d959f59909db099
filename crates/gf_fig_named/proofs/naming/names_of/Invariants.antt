use Rattle.std.proofs.Common.{◌≤◌, take}
use Rattle.std.specs.List.{AllZip}
use Rattle.gf_fig_named.specs.NamedText.{IsNameOf}
use Rattle.gf_fig_named.specs.Others.{IsLead}
use Rattle.gf_fig_named.proofs.naming.names_of.Given as goal

abbrev pub invariant-loop-index : goal.invariant-loop-index
invariant-loop-index l = record {
  names : AllZip (IsNameOf l.history.ops l.items) (take l.index l.items) l.names.items;
  lead : 1 ≤ l.index → IsLead l.items l.lead;
}
