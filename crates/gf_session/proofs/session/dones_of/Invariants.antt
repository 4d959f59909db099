use Rattle.std.proofs.Common.{◌≡◌, ◌++◌, map}
use Rattle.gf_mesh.specs.Linked.{rows_of}
use Rattle.gf_session.specs.Session.{done_of}
use Rattle.gf_session.proofs.session.dones_of.Given as goal

-- what the workers so far gave
abbrev pub invariant-loop-end : goal.invariant-loop-end
invariant-loop-end l = record {
  iterate : goal.iterator-loop-end.can_next l.end-iterator × goal.iterator-loop-end.is_finite
      l.end-iterator;
  rest : l.yielded ++ l.end-iterator.rest.items ≡ l.fn.ends.items;
  dones : l.dones.items ≡ map done_of l.yielded;
  peers : rows_of l.peers.items ≡ map (λ e. e.seats.items) l.yielded;
}
