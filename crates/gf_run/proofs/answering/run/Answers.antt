use Rattle.std.proofs.Common.{inl, inr, refl}
use Rattle.gf_run.proofs.AnsweringLemmas.{writes_prefix}
use Rattle.gf_run.proofs.answering.run.Goals as goal

pub returns-in-Err-f-clause-refused : goal.returns-in-Err-f-clause-refused
returns-in-Err-f-clause-refused g c =
    inl (record {
      given = c.in-Ok.bytes;
      gives = c.in-Err-f.ensures;
      bytes_are = c.in-Ok.ensures.ok;
    })

pub returns-in-Ok-write_whole-clause-writes : goal.returns-in-Ok-write_whole-clause-writes
returns-in-Ok-write_whole-clause-writes g c =
    record {
      given = c.in-Ok.bytes;
      answer = c.in-Ok-f.answer;
      gives = c.in-Ok-f.ensures;
      bytes_are = c.in-Ok.ensures.ok;
      value_is = refl;
      written = rw c.deref.ensures.value at c.in-Ok-write_whole.ensures.ok;
    }

pub returns-in-Err-write_whole-clause-sink : goal.returns-in-Err-write_whole-clause-sink
returns-in-Err-write_whole-clause-sink g c =
    let written = rw c.deref.ensures.value at c.in-Err-write_whole.ensures.err in
    record {
      writes = record {
        flushed = tt;
        failed = λ _. c.in-Err-write_whole.ensures.failed;
        prefix = λ _. writes_prefix _ _ _ c.in-Ok.ensures.ok _ _ _ c.in-Ok-f.ensures written;
      };
      unwritten = inr c.of_run-in-Err-write_whole.ensures;
    }
