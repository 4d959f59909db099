use Rattle.std.proofs.Common.{ℕ, List, subst, sym, ◌∙◌}
use Rattle.std.specs.Prelude.{Contains, Some}
use Rattle.std.proofs.lemmas.List.{take_all}
use Rattle.std.proofs.lemmas.Option.{slice_get_within}
use Rattle.gf_table.specs.Standing.{positions_of}
use Rattle.gf_fig_named.specs.declared.naming.Name.{Name}
use Rattle.gf_take_run.proofs.LeavingLemmas.{none_more}
use Rattle.gf_take_run.proofs.leaving.has_figure.Goals as goal

pub loop-index-preserved : goal.loop-index-preserved
loop-index-preserved c =
    none_more c.args.drawn.now.drawing c.args.drawn.now.names.items c.args.item.now c.args.name.now
    c.positions_at-index-items.result.now c.loop-index.index-index c.loop-index-test.true
    c.loop-index.invariant (c.in_ok-is_figure.ensures c.if-branch.false)

pub returns : goal.returns
returns c = λ e k f.
    let names = c.args.drawn.now.names.items in
    let table = c.args.drawn.now.places.entries in
    let indices = c.positions_at-index-items.result.now in
    let within = slice_get_within names k (Some f.named) f.named_at in
    let there = subst (λ (n : Name). Contains (positions_of table n.object) k) f.same
    (c.requires.named k f.named within f.named_at) in
    c.loop-index.invariant k (subst (λ (ks : List ℕ). Contains ks k)
    (sym c.positions_at-index-items.ensures
    ∙ sym (take_all c.loop-index.index-index indices c.loop-index-test.false)) there) f
