use Rattle.std.proofs.Common.{subst}
use Rattle.gf_session_run.specs.SessionSteps.{TellsHistory}
use Rattle.gf_session_run.proofs.OutcomeLemmas.{first_there, not_told, told_session}
use Rattle.gf_session_run.proofs.playing.play.Goals as goal

pub returns-in-Ok-clause-ok : goal.returns-in-Ok-clause-ok
returns-in-Ok-clause-ok g c =
    let scripts = c.in_ok-scripts.scripts.items in
    let dones = c.in_ok-dones.dones.items in
    let first = c.index.result.now in
    let denoted = c.in_ok-scripts.ensures.ok in
    let session = c.in_ok-dones.ensures.ok in
    let tells = subst (λ ds. TellsHistory first.site.ops ds c.in-Ok.text.items)
    c.as_slice.ensures.value c.in-Ok.ensures.ok in
    told_session c.args.sites c.args.bytes.items scripts dones first denoted session
    (first_there c.args.sites c.args.bytes.items scripts dones first c.requires denoted session
    c.index.ensures) c.in-Ok.text.items tells

pub returns-clause-refused : goal.returns-clause-refused
returns-clause-refused g c =
    let scripts = c.in_ok-scripts.scripts.items in
    let dones = c.in_ok-dones.dones.items in
    let first = c.index.result.now in
    let denoted = c.in_ok-scripts.ensures.ok in
    let session = c.in_ok-dones.ensures.ok in
    not_told c.args.sites c.args.bytes.items scripts dones first denoted session
    (first_there c.args.sites c.args.bytes.items scripts dones first c.requires denoted session
    c.index.ensures) c.in-Err.fault c.in-Err.ensures.err
