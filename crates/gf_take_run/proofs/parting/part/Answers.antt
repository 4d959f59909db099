use Rattle.std.proofs.Common.{◌∙◌}
use Rattle.gf_take_run.proofs.PartingLemmas.{rest_whole}
use Rattle.gf_take_run.proofs.parting.part.Goals as goal

pub returns-in_default-clause-none : goal.returns-in_default-clause-none
returns-in_default-clause-none c = rw c.deref.ensures.value at c.in_default.ensures.none

pub returns-clause-parted : goal.returns-clause-parted
returns-clause-parted c =
    let text = c.args.text.items in
    let start = c.in-Some.start in
    let place = rw c.deref.ensures.value at c.in-Some.ensures.start in
    record {
      place = start;
      begins = place.begins;
      first = place.first;
      front = c.truncate.ensures.items;
      behind =
          (rw c.deref-2.ensures.value at c.in_ok-fig.ensures.items) ∙ rest_whole text start;
    }
