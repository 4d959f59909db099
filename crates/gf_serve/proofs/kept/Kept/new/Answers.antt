use Rattle.gf_serve.proofs.kept.Kept.new.Goals as goal

pub returns : goal.returns
returns c = λ h. record { versions = c.new.ensures h; statuses = c.new-2.ensures h }
