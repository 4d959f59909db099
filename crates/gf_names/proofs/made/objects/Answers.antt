use Rattle.gf_names.proofs.ObjectLemmas.{objects_of}
use Rattle.gf_names.proofs.made.objects.Goals as goal

pub returns : goal.returns
returns c = objects_of c.args.history.now.ops c.in_ok-made.made.items c.in_ok-found.found
    c.in_ok-made.ensures (rw c.deref.ensures.value at c.in_ok-found.ensures)
