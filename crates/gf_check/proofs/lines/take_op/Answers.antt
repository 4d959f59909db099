use Rattle.std.proofs.Common.{sym, ◌∙◌}
use Rattle.gf_replay.proofs.TakingLemmas.{offered}
use Rattle.gf_check.proofs.CheckingLemmas.{goes_on_behind, goes_on_clash}
use Rattle.gf_check.proofs.lines.take_op.Goals as goal

pub returns-in-Ok : goal.returns-in-Ok
returns-in-Ok c = λ editor text denotes.
    let r = c.receive.ensures in
    goes_on_behind editor c.args.number text c.args.replica.now c.step_all.new.replica
    c.args.telling.now c.step_all.new.telling c.step_all.result c.args.op denotes
    c.receive.new.self
    (offered _ _ _ _ _ r.already r.held r.same r.kept c.in-Ok.is) c.step_all.ensures

pub returns-in-Err-Clash : goal.returns-in-Err-Clash
returns-in-Err-Clash c = λ editor text denotes.
    goes_on_clash editor c.args.number text c.args.replica.now c.receive.new.self
    c.args.telling.now c.tell_clash.new.telling c.tell_clash.result c.args.op denotes
    ((c.receive.ensures.clash.0 (rw c.in-Err-Clash.field-0-is at c.in-Err-Clash.is)).1)
    (c.receive.ensures.same (λ f. let g = sym c.in-Err-Clash.is ∙ f in absurd cc))
    c.tell_clash.ensures
