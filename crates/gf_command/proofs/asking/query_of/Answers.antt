use Rattle.std.proofs.Common.{◌∙◌, codes, subst, option_map}
use Rattle.clap.specs.Words.{first_of, found_of, rows_of}
use Rattle.clap.proofs.WalkLemmas.{first_value-rows}
use Rattle.gf_command.specs.Asking.{AsksQuery}
use Rattle.gf_command.proofs.asking.query_of.Goals as goal

pub returns : goal.returns
returns c =
    let f = found_of c.args.matches.now in
    let object = c.get_str.ensures ∙ first_value-rows f (codes "object") in
    let at = c.get_str-2.ensures ∙ first_value-rows f (codes "at") in
    subst (λ t. AsksQuery (first_of (codes "object") (rows_of f)) t c.asked_of.result) at
    (subst (λ t. AsksQuery t (option_map (λ t. t.now) c.get_str-2.result) c.asked_of.result) object
    c.asked_of.ensures)
