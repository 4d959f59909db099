use Rattle.std.proofs.Common.{◌≡◌, ◌++◌, take}
use Rattle.std.specs.Prelude.{flat_map}
use Rattle.gf_session_run.specs.Reports.{refused_line}
use Rattle.gf_session_run.proofs.reports.push_refusals.Given as goal

abbrev pub invariant-loop-one : goal.invariant-loop-one
invariant-loop-one l = l.out.items ≡ l.initial.out.items ++ flat_map (refused_line l.site)
    (take l.one-index l.refused)
