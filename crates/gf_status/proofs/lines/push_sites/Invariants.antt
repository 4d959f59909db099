use Rattle.std.proofs.Common.{◌≡◌, ◌++◌, take}
use Rattle.std.specs.Prelude.{flat_map}
use Rattle.gf_status.specs.StatusLines.{site_line}
use Rattle.gf_status.proofs.lines.push_sites.Given as goal

abbrev pub invariant-loop-site : goal.invariant-loop-site
invariant-loop-site l = l.out.items ≡ l.initial.out.items ++ flat_map (site_line l.history.ops)
    (take l.site-index l.sites)
