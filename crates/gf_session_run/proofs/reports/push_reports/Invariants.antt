use Rattle.std.proofs.Common.{◌≡◌, ◌++◌, take}
use Rattle.gf_session_run.specs.Reports.{report_text}
use Rattle.gf_session_run.proofs.reports.push_reports.Given as goal

abbrev pub invariant-loop-done : goal.invariant-loop-done
invariant-loop-done l = l.out.items ≡ l.initial.out.items ++ report_text (take l.done-index l.dones)
