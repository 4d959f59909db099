use Rattle.std.proofs.Common.{◌≡◌, ◌∙◌, ap, ap₂}
use Rattle.std.proofs.lemmas.Result.{IfOk-weaker}
use Rattle.std.specs.List.{fold, list_all}
use Rattle.clap.specs.Simple.{app_of, app_of_fields, new_app, with_rule}
use Rattle.gf_command.proofs.AddingLemmas.{options_added, options_simple, options_whole}
use Rattle.gf_command.proofs.describing.command.Goals as goal

pub returns : goal.returns
returns c =
    let run = c.args.run.now in
    let has = c.in_ok-options.ensures in
    let start : app_of c.after_help.result ≡ new_app run.name.now =
    ap app_of_fields c.after_help.ensures ∙ ap app_of_fields c.about.ensures ∙ c.new.ensures.app in
    let simple = ap (list_all (λ r. r.is_simple)) has ∙ options_simple run.takes in
    IfOk-weaker c.args-2.result _ _ (λ r adds. options_added c.in_ok-options.options.items
    c.after_help.result r simple adds
    ∙ ap₂ (fold with_rule) start has ∙ options_whole run.name.now run.takes) c.args-2.ensures
