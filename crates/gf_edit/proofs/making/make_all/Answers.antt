use Rattle.std.proofs.Common.{◌≡◌, ◌∷◌, [], ◌++◌, append_assoc, ap, sym, refl, rules, ◌∙◌}
use Rattle.std.specs.Vec.Iter.{into_iter_items}
use Rattle.gf_edit.proofs.MakingLemmas.{passed_more, passed_none}
use Rattle.gf_edit.proofs.making.make_all.Goals as goal

pub loop-numbered-init : goal.loop-numbered-init
loop-numbered-init c =
    let all : into_iter_items c.into_iter-numbered-iterator.result ≡ c.args.commands.items = search
    rules in (
      all,
      passed_none c.args.site.now.number c.args.site.now.ops c.args.site.now _ refl refl
          c.new.ensures.items refl,
    )

pub loop-numbered-preserved : goal.loop-numbered-preserved
loop-numbered-preserved c =
    let l = c.loop-numbered in
    let x = c.in-Some.numbered in (
      append_assoc l.yielded (x ∷ []) (into_iter_items c.next.new.self)
          ∙ (ap (λ r. l.yielded ++ r) (sym c.in-Some.ensures.steps.0) ∙ l.invariant.0),
      passed_more c.args.site.now.number c.args.site.now.ops l.yielded x.line l.site l.edited
          l.invariant.1 x.command c.pass.new.site c.pass.new.edited c.in_ok-pass.ensures.ok,
    )
