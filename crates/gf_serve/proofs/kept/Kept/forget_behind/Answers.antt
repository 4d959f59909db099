use Rattle.gf_serve.proofs.kept.Kept.forget_behind.Goals as goal

pub returns-then-more-gt-MOST_FORGOTTEN : goal.returns-then-more-gt-MOST_FORGOTTEN
returns-then-more-gt-MOST_FORGOTTEN c = λ h more whole count valid run kept. c.new.ensures
    c.args.history.now.ops
