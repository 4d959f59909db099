use Rattle.gf_serve.proofs.WritingLemmas.{has_float-named, has_float-taken}
use Rattle.gf_serve.proofs.writing.reply_text.Goals as goal

pub with_body-requires-in-Taken : goal.with_body-requires-in-Taken
with_body-requires-in-Taken c =
    rw c.in_ok-data-in-Taken.ensures (has_float-taken c.len.result c.in-Taken.answer.value)

pub with_body-requires-in-Named : goal.with_body-requires-in-Named
with_body-requires-in-Named c = rw c.in_ok-data-in-Named.ensures
    (has_float-named c.len-in-Named.result c.in-Named.answer.value)
