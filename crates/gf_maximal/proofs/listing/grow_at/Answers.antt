use Rattle.std.proofs.Common.{get_or, subst, ap, ◌∙◌}
use Rattle.std.specs.Prelude.{Contains}
use Rattle.std.proofs.lemmas.List.Elements.{Contains-get_or}
use Rattle.gf_maximal.specs.Growing.{joined}
use Rattle.gf_maximal.proofs.ListingLemmas.{fresh_at, joined_take}
use Rattle.gf_maximal.proofs.listing.grow_at.Goals as goal

pub grow_by-requires-clause-number : goal.grow_by-requires-clause-number
grow_by-requires-clause-number c =
    c.requires.numbers (get_or c.args.numbers.now c.args.place 0)
    (Contains-get_or c.args.numbers.now c.args.place 0 c.requires.place)

pub grow_by-requires-clause-fresh : goal.grow_by-requires-clause-fresh
grow_by-requires-clause-fresh c = λ h.
    fresh_at c.args.numbers.now c.requires.rising c.args.place 0 c.requires.place
    (subst (λ z. Contains z (get_or c.args.numbers.now c.args.place 0)) c.requires.grown.front h)

pub returns : goal.returns
returns c = record {
  front = c.in_ok-grow_by.ensures.met
      ∙ (ap (joined (get_or c.args.numbers.now c.args.place 0)) c.requires.grown.front
      ∙ joined_take c.args.numbers.now c.requires.rising c.args.place 0 c.requires.place);
  grown = c.in_ok-grow_by.ensures.grown;
}
