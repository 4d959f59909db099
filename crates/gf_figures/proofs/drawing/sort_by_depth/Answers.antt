use Rattle.std.proofs.Common.{rules, ◌≡◌, ◌==◌, ◌∙◌, map, length, ap, sym, arith, refl}
use Rattle.std.proofs.lemmas.List.Sorted.{IsNonDecreasingBy-from_sort_by_key, answers_always}
use Rattle.gf_figures.proofs.FrontLemmas.{filter-map, stable_by}
use Rattle.gf_figures.proofs.drawing.sort_by_depth.Goals as goal

pub returns-clause-sorted : goal.returns-clause-sorted
returns-clause-sorted g c = IsNonDecreasingBy-from_sort_by_key (λ f. f.now.depth) _
    c.in_ok-sort_by_key.ensures.sorted (λ a r q k. search rules)

pub returns-clause-stable : goal.returns-clause-stable
returns-clause-stable g c =
    let stable = c.in_ok-sort_by_key.ensures.stable (λ f. f.now.depth)
    (answers_always _ _ _ (λ f a r g h. search rules)) in
    let old = c.args.figures.now.items in
    let new = c.sort_by_key.new.self.items in
    let len : length new ≡ length old = search (rules, arith) in
    λ depth. filter-map (λ f. f.now) (λ f. f.depth == depth) new
    ∙ (ap (map (λ f. f.now))
    (stable_by (λ f. f.now.depth) (λ f d. record f { now = record f.now { depth = d } })
    (λ f d. refl) old new len stable depth)
    ∙ sym (filter-map (λ f. f.now) (λ f. f.depth == depth) old))
