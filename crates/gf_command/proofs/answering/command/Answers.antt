use Rattle.std.proofs.Common.{rules, inr, map, string_bytes}
use Rattle.gf_command.specs.Asking.{Asks}
use Rattle.gf_command.proofs.OpenLemmas.{second_of}
use Rattle.gf_command.proofs.answering.command.Goals as goal

pub returns-in-Ok-Open-clause-refused : goal.returns-in-Ok-Open-clause-refused
returns-in-Ok-Open-clause-refused g c =
    let asks : Asks (map string_bytes c.args.words.now) c.in-Ok-Some-Run.run' = search rules in
    λ e. inr (inr (
      c.in-Ok-Some-Run.run',
      asks,
      second_of (g.R.Source.left c.args.source.now) _ _
          (rw c.in-Ok-Open.field-0-is at c.in-Ok-Open.ensures.done),
    ))
