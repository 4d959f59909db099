use Rattle.std.proofs.Common.{◌∙◌, ap, is_some}
use Rattle.clap.specs.Words.{found_of}
use Rattle.clap.proofs.WalkLemmas.{first_value-rows}
use Rattle.gf_command.proofs.asking.is_given.Goals as goal

pub returns : goal.returns
returns c = c.has_text.ensures
    ∙ ap is_some (c.get_str.ensures ∙ first_value-rows (found_of c.args.matches.now)
    c.args.name.now)
