use Rattle.std.proofs.Common.{length, refl}
use Rattle.std.proofs.lemmas.Option.{slice_get_read}
use Rattle.gf_session_run.proofs.ScriptLemmas.{full_told}
use Rattle.gf_session_run.proofs.scripts.is_full.Goals as goal

pub returns-in-Some : goal.returns-in-Some
returns-in-Some c =
    let xs = c.args.scripts.now in
    let l = c.in-Some.ensures.lookup in
    full_told xs c.args.index _ c.in-Some.script.now
    (slice_get_read xs (length xs) c.args.index c.in-Some.script.now refl l.3.0 l.1) c.len.ensures
