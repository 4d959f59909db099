use Rattle.std.proofs.Common.{◌≡◌, ◌∷◌, [], ◌++◌, append_assoc, ap, sym, rules, ◌∙◌}
use Rattle.std.specs.Vec.Iter.{into_iter_items}
use Rattle.gf_edit.proofs.WritingLemmas.{wrote_more, wrote_none}
use Rattle.gf_edit.proofs.making.author_each.Goals as goal

pub loop-change-init : goal.loop-change-init
loop-change-init c =
    let all : into_iter_items c.into_iter-change-iterator.result ≡ c.args.changes.items = search
    rules in
    (all, wrote_none c.args.site.now c.args.edited.now)

pub loop-change-preserved : goal.loop-change-preserved
loop-change-preserved c =
    let l = c.loop-change in
    let x = c.in-Some.change in (
      append_assoc l.yielded (x ∷ []) (into_iter_items c.next.new.self)
          ∙ (ap (λ r. l.yielded ++ r) (sym c.in-Some.ensures.steps.0) ∙ l.invariant.0),
      wrote_more l.yielded c.args.site.now l.site c.args.edited.now l.edited l.invariant.1 x
          c.author.new.site c.author.new.edited c.in_ok-author.ensures.ok,
    )
