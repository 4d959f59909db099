use Rattle.std.proofs.Common.{ap, sym, ◌∙◌}
use Rattle.std.specs.List.{list_any}
use Rattle.gf_groups.specs.VersionList.{are_unordered}
use Rattle.gf_status.proofs.LastLemmas.{all_in_range, now}
use Rattle.gf_status.proofs.UnseenLemmas.{unknowing_told}
use Rattle.gf_status.proofs.unseen.is_unknowing.Goals as goal

pub some_unordered-requires-clause-others : goal.some_unordered-requires-clause-others
some_unordered-requires-clause-others c =
    rw c.deref.ensures.value (all_in_range c.args.history.now.ops c.recall_valid.ensures now
    c.in_ok-hidings.hidings.items c.in_ok-hidings.ensures.within)

pub returns : goal.returns
returns c = λ o on.
    let a = c.args.op.now in
    let test = c.some_unordered.ensures
    ∙ ap (list_any (λ r. are_unordered a (now r))) c.deref.ensures.value in
    unknowing_told now c.args.history.now.ops o c.args.seen.now a c.in_ok-hidings.hidings.items
    (c.in_ok-hidings.ensures.exactly o on)
    (sym c.is_left_out.ensures ∙ c.if-not-is_left_out.false) c.some_unordered.result test
