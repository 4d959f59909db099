use Rattle.test_threads.proofs.RowLemmas.{first_placed, first_fresh, peer_placed}
use Rattle.test_threads.proofs.workers.two_sites.Goals as goal

pub returns-clause-placed : goal.returns-clause-placed
returns-clause-placed g c =
    first_placed c.in-Ok.mesh c.in-Ok.rows.items c.pop.new.self.items c.pop-2.new.self.items
    c.in-Some-pop.first c.in-Some.second c.in-Ok.ensures.linked c.in-Ok.ensures.fresh
    c.in-Some.ensures.items c.in-Some-pop.ensures.items

pub returns-clause-fresh : goal.returns-clause-fresh
returns-clause-fresh g c =
    first_fresh c.in-Ok.mesh c.in-Ok.rows.items c.pop.new.self.items c.pop-2.new.self.items
    c.in-Some-pop.first c.in-Some.second c.in-Ok.ensures.linked c.in-Ok.ensures.fresh
    c.in-Some.ensures.items c.in-Some-pop.ensures.items

pub returns-clause-other : goal.returns-clause-other
returns-clause-other g c =
    peer_placed c.in-Ok.mesh c.in-Ok.rows.items c.pop.new.self.items c.pop-2.new.self.items
    c.in-Some-pop.first c.in-Some.second c.in-Ok.ensures.linked c.in-Ok.ensures.fresh
    c.in-Some.ensures.items c.in-Some-pop.ensures.items c.pop-3.new.self.items c.in-Some-pop-2.peer
    c.in-Some-pop-2.ensures.items
