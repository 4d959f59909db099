use Rattle.std.proofs.Common.{◌≡◌, [], filter, take}
use Rattle.gf_take.specs.Reaching.{is_counted}
use Rattle.gf_take.proofs.bases.base_site.Given as goal

abbrev pub invariant-loop-op : goal.invariant-loop-op
invariant-loop-op l = l.base ≡ record {
  number = l.site;
  ops = filter (is_counted l.reach) (take l.op-index l.ops);
  held = [];
}
