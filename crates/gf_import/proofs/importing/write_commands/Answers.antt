use Rattle.std.proofs.Common.{◌≡◌, ◌∷◌, [], ◌++◌, append_assoc, ap, sym, rules, ◌∙◌}
use Rattle.std.specs.Vec.Iter.{into_iter_items}
use Rattle.gf_import.proofs.CommandLemmas.{written_more, written_none}
use Rattle.gf_import.proofs.importing.write_commands.Goals as goal

pub loop-change-init : goal.loop-change-init
loop-change-init c =
    let all : into_iter_items c.into_iter-change-iterator.result
    ≡ c.args.changes.items = search rules in
    (all, written_none c.args.site _ c.new-text.ensures.items)

pub loop-change-preserved : goal.loop-change-preserved
loop-change-preserved c =
    let l = c.loop-change in
    let x = c.in-Some.change in (
      append_assoc l.yielded (x ∷ []) (into_iter_items c.next.new.self)
          ∙ (ap (λ r. l.yielded ++ r) (sym c.in-Some.ensures.steps.0) ∙ l.invariant.0),
      written_more c.args.site l.yielded x l.text.items c.push_command.new.text.items l.invariant.1
          c.in_ok-push_command.ensures.text c.in_ok-push_command.ensures.again,
    )
