use Rattle.std.proofs.Common.{rules, arith, ◌≡◌, ◌<◌, ◌≤◌, ◌+◌, [], ◌∷◌, ◌++◌, length, drop}
use Rattle.std.proofs.Common.{take, false, true, map, sym, ap, subst, ◌∙◌}
use Rattle.std.proofs.lemmas.List.{drop_all, drop_more, take_all, take_more}
use Rattle.gf_figures.specs.DrawingColour.{from_front}
use Rattle.gf_take.specs.Matching.{AreMatched, AreShown}
use Rattle.gf_take.proofs.ExchangeLemmas.{all_shown, not_shown, shown_rest}
use Rattle.gf_take.proofs.MatchLemmas.{matched_all, matched_more, no_items, none_viewed}
use Rattle.gf_take.proofs.matching.show_figures.Goals as goal

pub returns-then-not-branch : goal.returns-then-not-branch
returns-then-not-branch c =
    let table = c.args.drawing.now.table in
    let items = c.args.items.now in
    let i = c.loop-item.item-index in
    let item = c.item-item.result in
    let left = map (λ f. f.now) c.loop-item.left.items in
    let within : i < length items = search (rules, arith) in
    let next : drop i items ≡ item ∷ drop (i + 1) items =
    drop_more items i item within ∙ ap (λ x. x ∷ drop (i + 1) items) (sym c.item-item.is) in
    let none : c.in_ok-take_out.field-0 ≡ false = search rules in (
      λ t. absurd cc,
      λ s. absurd (not_shown table item (drop (i + 1) items) left
          (c.in_ok-take_out.ensures.none none)
          (subst (AreShown table left) next (c.loop-item.invariant.1 s))),
    )

pub loop-item-preserved : goal.loop-item-preserved
loop-item-preserved c =
    let table = c.args.drawing.now.table in
    let fs = from_front c.args.drawing.now.figures in
    let items = c.args.items.now in
    let i = c.loop-item.item-index in
    let item = c.item-item.result in
    let left = map (λ f. f.now) c.loop-item.left.items in
    let new = map (λ f. f.now) c.take_out.new.left.items in
    let within : i < length items = search (rules, arith) in
    let next : drop i items ≡ item ∷ drop (i + 1) items =
    drop_more items i item within ∙ ap (λ x. x ∷ drop (i + 1) items) (sym c.item-item.is) in
    let done : take (i + 1) items ≡ take i items ++ item ∷ [] =
    take_more items i item within ∙ ap (λ x. take i items ++ x ∷ []) (sym c.item-item.is) in
    let some : c.in_ok-take_out.field-0 ≡ true = search rules in
    let taken = c.in_ok-take_out.ensures.some some in (
      subst (λ l. AreMatched table fs l new) (sym done)
          (matched_more table fs (take i items) item left new c.loop-item.invariant.0 taken),
      λ s. shown_rest table item (drop (i + 1) items) left new taken
          (subst (AreShown table left) next (c.loop-item.invariant.1 s)),
    )

pub returns : goal.returns
returns c =
    let table = c.args.drawing.now.table in
    let fs = from_front c.args.drawing.now.figures in
    let items = c.args.items.now in
    let i = c.loop-item.item-index in
    let left = c.loop-item.left.items in
    let all : length items ≤ i = search (rules, arith) in (
      λ t.
          let empty : length left ≡ 0 = search (rules, arith) in
          matched_all table fs items
          (subst (λ l. AreMatched table fs l []) (take_all i items all)
          (subst (λ l. AreMatched table fs (take i items) (map (λ f. f.now) l))
          (no_items left empty)
          c.loop-item.invariant.0)),
      λ s.
          let none : map (λ f. f.now) left ≡ [] =
          all_shown table (map (λ f. f.now) left)
          (subst (AreShown table (map (λ f. f.now) left)) (drop_all i items all)
          (c.loop-item.invariant.1 s)) in
          let empty : length left ≡ 0 = none_viewed (λ f. f.now) left none in search (rules, arith),
    )
