use Rattle.gf_ops.proofs.AimLemmas.{same_fact, never, fits_told}
use Rattle.gf_ops.proofs.history.History.may_aim_at.Goals as goal

pub returns-in-Some : goal.returns-in-Some
returns-in-Some c =
    let f = c.in-Some.ensures.found in
    same_fact c.fits.ensures (fits_told c.args.self.now.ops c.recall_valid.ensures
    c.in-Some.member.now f.0 c.args.id f.1 c.args.op.now)

pub returns-in-None : goal.returns-in-None
returns-in-None c = never (λ t. c.in-None.ensures.none t.on.op t.on.contained t.on.id)
