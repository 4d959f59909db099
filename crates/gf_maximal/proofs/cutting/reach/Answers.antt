use Rattle.std.proofs.Common.{refl, [], ap, ◌∙◌}
use Rattle.std.proofs.lemmas.List.{get_or_default}
use Rattle.gf_maximal.specs.Growing.{joined}
use Rattle.gf_maximal.specs.Rows.{row, conflict}
use Rattle.gf_maximal.specs.Cutting.{keepers}
use Rattle.gf_maximal.proofs.CuttingLemmas.{reached}
use Rattle.gf_maximal.proofs.cutting.reach.Goals as goal

pub returns : goal.returns
returns c = λ g.
    let n = c.args.number in
    let read = c.index-rows-number.is
    ∙ get_or_default c.args.rows.now n c.index-rows-number.result [] c.requires in
    reached (conflict c.args.rows.now) c.args.rivals.now (row c.args.rows.now n) n (λ b. refl)
    c.join.new.self g
    (c.in_ok-join.ensures.ok ∙ ap (joined n)
    (c.in_ok-found.ensures ∙ ap (λ z. keepers c.args.rivals.now z n) read))
