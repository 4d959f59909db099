use Rattle.std.proofs.Common.{◌≡◌, ◌++◌, take}
use Rattle.std.specs.Prelude.{flat_map}
use Rattle.gf_status.specs.StatusJson.{site_json}
use Rattle.gf_status.proofs.json.push_sites.Given as goal

abbrev pub invariant-loop-site : goal.invariant-loop-site
invariant-loop-site l = l.out.items ≡ l.initial.out.items ++ flat_map (site_json l.history.ops)
    (take l.site-index l.sites)
