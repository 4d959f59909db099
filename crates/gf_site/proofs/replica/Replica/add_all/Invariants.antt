use Rattle.std.proofs.Common.{◌≡◌, ◌++◌, take}
use Rattle.gf_site.proofs.replica.Replica.add_all.Given as goal

-- the operations so far stand behind those of before
abbrev pub invariant-loop-op : goal.invariant-loop-op
invariant-loop-op l = l.self ≡ record l.initial.self {
  ops = l.initial.self.ops ++ take l.op-index l.ops;
}
