use Rattle.std.proofs.Common.{◌∙◌}
use Rattle.gf_names.proofs.TellingLemmas.{rising_told}
use Rattle.gf_names.proofs.sorting.rising.Goals as goal

pub returns : goal.returns
returns c =
    rising_told c.args.ids.now c.new.result (c.new.ensures
    ∙ (c.in_ok-listed.ensures ∙ c.in_ok-set.ensures))
