use Rattle.std.proofs.Common.{refl, inl, inr, sym, ◌∙◌}
use Rattle.gf_maximal.proofs.MaximalLemmas.{intersects_none}
use Rattle.gf_classes.proofs.RangeLemmas.{cut_from}
use Rattle.gf_classes.proofs.rival_ranks.own_rival_ranks.Goals as goal

pub returns-then-intersects-clause-cut : goal.returns-then-intersects-clause-cut
returns-then-intersects-clause-cut c = cut_from c.in_ok-runs.runs.items c.in_ok-ranks.ranks
    c.in_ok-ranks.ensures.has c.args.setters.now c.args.x.now c.runs.result.now c.args.same.now
    c.requires.sorted c.runs.ensures c.in_ok-runs.ensures

pub returns-else-intersects-clause-cut : goal.returns-else-intersects-clause-cut
returns-else-intersects-clause-cut c = cut_from c.in_ok-runs.runs.items c.in_ok-ranks.ranks
    c.in_ok-ranks.ensures.has c.args.setters.now c.args.x.now c.runs.result.now c.args.same.now
    c.requires.sorted c.runs.ensures c.in_ok-runs.ensures

pub returns-then-intersects-clause-except : goal.returns-then-intersects-clause-except
returns-then-intersects-clause-except c = inl refl

pub returns-else-intersects-clause-except : goal.returns-else-intersects-clause-except
returns-else-intersects-clause-except c = inr (
  refl,
  λ q d s. intersects_none c.in_ok-ranks.ranks c.args.same.now
      (sym c.intersects.ensures ∙ c.if-intersects.false) q s d,
)
