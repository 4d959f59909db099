use Rattle.std.proofs.Common.{◌∙◌, IfSome, pos, subst}
use Rattle.clap.specs.Words.{found_of}
use Rattle.clap.proofs.WalkLemmas.{first_value-rows}
use Rattle.gf_command.specs.Asking.{IsWholeOr}
use Rattle.gf_command.proofs.asking.coordinate.Goals as goal

pub returns : goal.returns
returns c =
    let is = c.get_str.ensures ∙ first_value-rows (found_of c.args.matches.now) c.args.name.now in
    subst (λ t. IfSome c.whole_or_zero.result (IsWholeOr (pos 0) t)) is c.whole_or_zero.ensures
