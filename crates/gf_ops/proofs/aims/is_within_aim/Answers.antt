use Rattle.std.proofs.Common.{sym, ◌∙◌}
use Rattle.gf_ops.proofs.AimLemmas.{within_told, empty_told}
use Rattle.gf_ops.proofs.aims.is_within_aim.Goals as goal

pub returns : goal.returns
returns c =
    let w = within_told c.args.ids.now c.args.aim.now c.requires.ids c.requires.aim in
    let e = empty_told c.is_empty.result c.left_of.result.now c.is_empty.ensures in
    (λ t. w.0 (sym c.left_of.ensures ∙ e.0 t), λ i. e.1 (c.left_of.ensures ∙ w.1 i))
