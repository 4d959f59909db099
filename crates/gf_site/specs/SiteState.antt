-- A site as its callers see it, and the operation that it makes of a change (this project's
-- choice).
use Rattle.std.specs.Prelude.{ℕ, ◌+◌, List, []}
use Rattle.gf_ops.specs.declared.op.Op.{Op}
use Rattle.gf_ops.specs.declared.change.Change.{Change}
use Rattle.gf_ops.specs.OperationOrder.{clock_of, count_of}
use Rattle.gf_site.specs.ReplicaState.{ReplicaState}

-- the number, the operations in the order of adding, and the held operations, rising by id
pub record SiteState : Type 0 where
  pub number : ℕ
  pub ops : List Op
  pub held : List Op

-- the site of the number n that has and holds what the replica does
abbrev pub at_site : ℕ → ReplicaState → SiteState
at_site n x = record { number = n; ops = x.ops; held = x.held }

-- what the site has and holds
abbrev pub replica_of : SiteState → ReplicaState
replica_of x = record { ops = x.ops; held = x.held }

-- the site of the number n, which has and holds nothing
abbrev pub new_site : ℕ → SiteState
new_site n = record { number = n; ops = []; held = [] }

-- the operation that site s with the history h makes of the change c
abbrev pub authored : ℕ → List Op → Change → Op
authored s h c = record {
  id = record { site = s; seq = count_of h s + 1 };
  past = clock_of h;
  change = c;
}
