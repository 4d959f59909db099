use Rattle.std.proofs.Common.{◌≡◌, of_z, rules, to_z, w32}
use Rattle.gf_objects.specs.Places.{place_along}
use Rattle.gf_objects.proofs.PlaceLemmas.{reached_place}
use Rattle.gf_objects.proofs.places.place_along.Goals as goal

pub returns-clause-reach : goal.returns-clause-reach
returns-clause-reach c =
    let is : to_z w32 (of_z w32 c.drawn-2.result)
    ≡ place_along c.args.n c.args.least c.args.greatest = search rules in
    rw is (reached_place c.args.n c.args.least c.args.greatest c.requires.least c.requires.greatest)
