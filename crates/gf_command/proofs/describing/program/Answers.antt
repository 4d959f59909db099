use Rattle.std.proofs.Common.{◌∙◌, ap, ap₂, true}
use Rattle.std.proofs.lemmas.Result.{IfOk-weaker}
use Rattle.std.specs.List.{fold, list_all}
use Rattle.clap.specs.Simple.{Shape, app_of_fields, on_top, with_subcommand}
use Rattle.gf_command.proofs.AddingLemmas.{commands_added}
use Rattle.gf_command.proofs.describing.program.Goals as goal

abbrev with_version : Shape → Shape
with_version s = record s { has_version = true }

abbrev with_wanted : Shape → Shape
with_wanted s = record s { subcommand_required = true }

abbrev with_help : Shape → Shape
with_help s = record s { arg_required_else_help = true }

pub returns : goal.returns
returns c =
    let has = c.in_ok-runs.ensures in
    let version = ap app_of_fields c.version.ensures ∙ ap (on_top with_version) c.new.ensures.app in
    let told = ap app_of_fields c.after_help.ensures ∙ ap app_of_fields c.about.ensures ∙ version in
    let wanted = ap app_of_fields c.subcommand_required.ensures ∙ ap (on_top with_wanted) told in
    let start = ap app_of_fields c.arg_required_else_help.ensures ∙ ap (on_top with_help) wanted in
    let plain = ap (list_all (λ s. s.is_plain)) has in
    IfOk-weaker c.subcommands.result _ _ (λ r adds. commands_added c.in_ok-runs.runs.items
    c.arg_required_else_help.result r plain adds
    ∙ ap₂ (fold with_subcommand) start has) c.subcommands.ensures
