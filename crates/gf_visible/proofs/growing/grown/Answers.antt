use Rattle.std.proofs.Common.{◌≤◌, ◌+◌, drop, get_or, inl, inr, length, subst, sym}
use Rattle.std.proofs.lemmas.Bool.{cases_lt}
use Rattle.std.proofs.lemmas.List.{drop_all}
use Rattle.std.proofs.lemmas.List.Elements.{Contains-get_or}
use Rattle.gf_maximal.specs.Rows.{conflict}
use Rattle.gf_visible.specs.ClassSays.{TimelineState, covers}
use Rattle.gf_visible.specs.Seen.{AreMet, IsPartOf, PartialState}
use Rattle.gf_visible.proofs.PartialLemmas.{all_met, more_met, next_met, part_largest}
use Rattle.gf_visible.proofs.SearchLemmas.{drop_next}
use Rattle.gf_visible.proofs.growing.grown.Goals as goal

pub returns-then-has_more : goal.returns-then-has_more
returns-then-has_more c =
    let t : TimelineState = c.args.timeline.now in
    let rest = c.args.rest.now in
    more_met (covers t.says) t.rows c.recall_rows.ensures.known c.args.hiders.now c.args.partial.met
    rest
    (length t.rows) c.requires.rest c.loop-class.partial.met (drop c.loop-class.class-index rest)
    c.loop-class.partial.sets c.args.most c.loop-class.invariant
    (c.has_more.ensures.0 c.if-has_more.true)

pub returns-then-has_more-2 : goal.returns-then-has_more-2
returns-then-has_more-2 c =
    let t : TimelineState = c.args.timeline.now in
    let rest = c.args.rest.now in
    more_met (covers t.says) t.rows c.recall_rows.ensures.known c.args.hiders.now c.args.partial.met
    rest
    (length t.rows) c.requires.rest c.loop-class.partial.met (drop c.loop-class.class-index rest)
    c.loop-class.partial.sets c.args.most c.loop-class.invariant
    (c.has_more-2.ensures.0 c.if-has_more-2.true)

pub grow-requires-clause-class : goal.grow-requires-clause-class
grow-requires-clause-class c =
    let rest = c.args.rest.now in
    c.requires.rest.below (get_or rest c.loop-class.class-index 0)
    (inr (Contains-get_or rest c.loop-class.class-index 0 c.loop-class-test.true))

pub grow-requires-clause-met : goal.grow-requires-clause-met
grow-requires-clause-met c = λ a i.
    c.requires.rest.below a ((c.loop-class.invariant.exactly a).0 (inl i))

pub grow-requires-clause-sets : goal.grow-requires-clause-sets
grow-requires-clause-sets c =
    let t : TimelineState = c.args.timeline.now in
    part_largest (covers t.says) (conflict t.rows) c.args.hiders.now c.loop-class.partial.met
    c.loop-class.partial.sets c.loop-class.invariant.part

pub loop-class-preserved : goal.loop-class-preserved
loop-class-preserved c =
    let t : TimelineState = c.args.timeline.now in
    let rest = c.args.rest.now in
    let i = c.loop-class.class-index in
    let met = c.loop-class.partial.met in
    let sets = c.loop-class.partial.sets in
    subst (λ (p : PartialState). AreMet (covers t.says) (conflict t.rows) c.args.hiders.now
    c.args.partial.met rest p.met (drop (i + 1) rest) p.sets) (sym c.in_ok-partial.ensures)
    (next_met (covers t.says) t.rows c.recall_rows.ensures.known c.args.hiders.now
    c.args.partial.met rest
    (length t.rows) c.requires.rest met (drop i rest) (get_or rest i 0) (drop (i + 1) rest) sets
    (drop_next rest i 0 c.loop-class-test.true) c.loop-class.invariant)

pub returns : goal.returns
returns c =
    let t : TimelineState = c.args.timeline.now in
    let rest = c.args.rest.now in
    let met = c.loop-class.partial.met in
    let sets = c.loop-class.partial.sets in
    let none = drop_all c.loop-class.class-index rest c.loop-class-test.false in
    let done = subst (λ z. AreMet (covers t.says) (conflict t.rows) c.args.hiders.now
    c.args.partial.met rest met z sets) none c.loop-class.invariant in
    let few : length sets ≤ c.args.most = elim (cases_lt c.args.most (length sets)) [
      | inl l ↦ let y = c.has_more-2.ensures.1 l in let n = c.if-has_more-2.false in absurd cc
      | inr l ↦ l
    ] in
    subst (λ z. IsPartOf (covers t.says) (conflict t.rows) c.args.hiders.now c.args.partial.met rest z
    × (length z ≤ c.args.most)) (sym c.into_sets.ensures) (
      all_met (covers t.says) t.rows c.recall_rows.ensures.known c.args.hiders.now
          c.args.partial.met rest
          (length t.rows) c.requires.rest met sets done,
      few,
    )
