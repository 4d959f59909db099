use Rattle.std.proofs.Common.{refl, subst, nat_le, ◌+◌}
use Rattle.gf_classes.specs.declared.setters.Setter.{Setter}
use Rattle.gf_classes.specs.Ranges.{SplitsAt}
use Rattle.gf_classes.proofs.RangeLemmas.{own_range, other_range}
use Rattle.gf_classes.proofs.ranges.range_of.Goals as goal

pub returns-then-site-x : goal.returns-then-site-x
returns-then-site-x c = own_range c.args.setters.now c.requires.sorted c.args.x.now c.args.site
    c.if-site-x.true (record { start = 0; end = 0 }) refl

pub returns : goal.returns
returns c = other_range c.args.setters.now c.requires.sorted c.args.x.now c.args.site
    c.if-site-x.false c.requires.site c.keys_of-keys.result c.first_above.result
    c.first_knowing.result c.keys_of-keys.ensures.start c.keys_of-keys.ensures.end
    (subst (λ z. SplitsAt (λ (e : Setter). nat_le e.key (c.keys_of-keys.result.start + z))
    c.args.setters.now c.first_above.result) c.known.ensures c.first_above.ensures)
    c.first_knowing.ensures
