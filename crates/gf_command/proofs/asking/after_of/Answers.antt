use Rattle.std.proofs.Common.{◌∙◌, IfSome, codes, subst}
use Rattle.clap.specs.Words.{found_of}
use Rattle.clap.proofs.WalkLemmas.{first_value-rows}
use Rattle.gf_command.specs.Asking.{IsNaturalOrNone}
use Rattle.gf_command.proofs.asking.after_of.Goals as goal

pub returns : goal.returns
returns c =
    let is = c.get_str.ensures ∙ first_value-rows (found_of c.args.matches.now) (codes "after") in
    subst (λ t. IfSome c.natural_or_none.result (IsNaturalOrNone t)) is c.natural_or_none.ensures
