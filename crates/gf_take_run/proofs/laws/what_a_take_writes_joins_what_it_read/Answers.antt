use Rattle.gf_take.proofs.JoinLemmas.{takes_join}
use Rattle.gf_take_run.proofs.laws.what_a_take_writes_joins_what_it_read.Goals as goal

pub returns : goal.returns
returns c = λ s bytes others new j.
    record {
      ops = j.ops;
      lines = j.lines;
      delivers = takes_join s j.take.knew j.take.read.ops j.take.history j.take.taken.base new j.ops
          (record {
            read = j.take.read.read;
            base = j.take.taken.is_base;
            changes = j.take.taken.changes;
            makes = j.take.taken.takes.makes;
            same = j.same;
          });
    }
