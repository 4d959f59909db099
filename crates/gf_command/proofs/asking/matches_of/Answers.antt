use Rattle.std.proofs.Common.{◌≡◌, ◌∙◌, [], IfErr, OnOk, ap, map, string_bytes, subst}
use Rattle.std.proofs.lemmas.Result.{IfOk-weaker}
use Rattle.clap.specs.Words.{HasKind, fault_of, is_simple, is_simple_and_free, subcommand_of}
use Rattle.gf_command.proofs.ReadingLemmas.{has_kind, no_kind, program_free, program_simple}
use Rattle.gf_command.proofs.asking.matches_of.Goals as goal

pub returns-clause-taken : goal.returns-clause-taken
returns-clause-taken c =
    let is = c.in_ok-program.ensures in
    let read = c.try_get_matches_from in
    subst (λ a. OnOk read.result (fault_of a (map string_bytes c.args.words.now) ≡ [])) is
    (no_kind _ read.result (read.ensures.kinds (ap is_simple_and_free is ∙ program_free)))

pub returns-clause-read : goal.returns-clause-read
returns-clause-read c =
    let is = c.in_ok-program.ensures in
    let read = c.try_get_matches_from in
    IfOk-weaker read.result _ _ (λ m h. (h (ap is_simple is ∙ program_simple)).1
    ∙ ap (λ a. subcommand_of a (map string_bytes c.args.words.now)) is) read.ensures.matches

pub returns-clause-fails : goal.returns-clause-fails
returns-clause-fails c =
    let is = c.in_ok-program.ensures in
    let read = c.try_get_matches_from in
    subst (λ a. IfErr read.result (HasKind (fault_of a (map string_bytes c.args.words.now)))) is
    (has_kind _ read.result (read.ensures.kinds (ap is_simple_and_free is ∙ program_free)))
