-- What a command has after options or commands were added in turn.
use Rattle.std.proofs.Common.{◌≡◌, ◌∙◌, ℕ, ◌+◌, ◌<◌, true, false, not, is_some, refl, sym, ap, ap₂}
use Rattle.std.proofs.Common.{get_or, length, take, List, [], ◌∷◌, ◌++◌, map}
use Rattle.std.proofs.lemmas.List.{map-append, take_more}
use Rattle.std.specs.List.{list_all, fold}
use Rattle.clap.specs.Walk.{is_empty, is_simple_arg, rule_of}
use Rattle.clap.specs.Simple.{App, app_of, shape_of, with_rule, with_subcommand}
use Rattle.clap.specs.Built.{AddsArg, AddsInTurn, AddsSubcommand}
use Rattle.clap.specs.declared.builder.arg.Arg.{Arg}
use Rattle.clap.specs.declared.builder.command.Command.{Command}
use Rattle.clap.specs.Simple.{new_app}
use Rattle.gf_command.specs.CommandLine.{command}
use Rattle.gf_command.specs.Usages.{leaf, options_of, usage_shape}
use Rattle.gf_command.specs.declared.describing.Usage.{Usage}
use Rattle.gf_command.specs.declared.describing.Takes.{Takes}
use Rattle.gf_command.specs.declared.describing.Takes.TheVariants as takes
use Rattle.clap.proofs.WalkLemmas.{both}
use Rattle.clap.proofs.SimpleLemmas.{is_false, plain_fields}

-- a simple option is not global
local : (a : Arg) → is_simple_arg a ≡ true → a.global ≡ false
local a e =
    let p = (both (is_empty a.overrides.items) _ e).1 in
    let q = (both (is_empty a.default_vals_ifs.items) _ p).1 in
    let r = (both (is_empty a.groups.items) _ q).1 in
    let s = (both (not (is_some a.val_delim)) _ r).1 in
    let t = (both (not (is_some a.terminator)) _ s).1 in
    let u = (both (not a.allow_hyphen_values) _ t).1 in
    let v = (both (not a.allow_negative_numbers) _ u).1 in
    let w = (both (not a.require_equals) _ v).1 in
    is_false a.global (both (not a.last) _ w).1

-- a command has the rules of the options that were added
pub options_added : (args : List Arg) (old new : Command)
    → list_all (λ r. r.is_simple) (map rule_of args) ≡ true
    → AddsInTurn AddsArg old args new → app_of new ≡ fold with_rule (app_of old) (map rule_of args)
options_added [] old new e same = ap app_of (sym same)
options_added (a ∷ rest) old new e (m, step, more) =
    options_added rest m new (both _ _ e).1 more
    ∙ ap (λ app. fold with_rule app (map rule_of rest)) (step.shape (local a (both _ _ e).0))

-- a command has the commands that were added
pub commands_added : (cs : List Command) (old new : Command)
    → list_all (λ s. s.is_plain) (map shape_of cs) ≡ true
    → AddsInTurn AddsSubcommand old cs new → app_of new ≡ fold with_subcommand (app_of old)
    (map shape_of cs)
commands_added [] old new e same = ap app_of (sym same)
commands_added (c ∷ rest) old new e (m, step, more) =
    commands_added rest m new (both _ _ e).1 more
    ∙ ap (λ app. fold with_subcommand app (map shape_of rest))
    (step.shape (plain_fields c (both _ _ e).0).globals)

-- the options of each command are simple
pub options_simple : (t : Takes) → list_all (λ r. r.is_simple) (options_of t) ≡ true
options_simple takes.Fig = refl
options_simple takes.Canvas = refl
options_simple takes.Query = refl
options_simple takes.Site = refl
options_simple takes.Drawing = refl
options_simple takes.Check = refl
options_simple takes.Editor = refl
options_simple takes.Sites = refl
options_simple takes.Requests = refl

-- a new command with the options of t
pub options_whole : (name : List ℕ) (t : Takes)
    → fold with_rule (new_app name) (options_of t) ≡ leaf (command name (options_of t))
options_whole name takes.Fig = refl
options_whole name takes.Canvas = refl
options_whole name takes.Query = refl
options_whole name takes.Site = refl
options_whole name takes.Drawing = refl
options_whole name takes.Check = refl
options_whole name takes.Editor = refl
options_whole name takes.Sites = refl
options_whole name takes.Requests = refl

-- one command more is that of one row more
pub commands_more : (cs : List Command) (c : Command) (runs : List Usage) (i : ℕ) (d : Usage)
    → i < length runs → map shape_of cs ≡ map usage_shape (take i runs)
    → app_of c ≡ leaf (usage_shape (get_or runs i d))
    → map shape_of (cs ++ c ∷ []) ≡ map usage_shape (take (i + 1) runs)
commands_more cs c runs i d within made is =
    map-append shape_of cs (c ∷ [])
    ∙ (ap₂ (λ x y. x ++ y ∷ []) made (ap (λ (a : App). a.top) is)
    ∙ (sym (map-append usage_shape (take i runs) (get_or runs i d ∷ []))
    ∙ ap (map usage_shape) (sym (take_more runs i d within))))
