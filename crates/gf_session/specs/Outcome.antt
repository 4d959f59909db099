-- What a session of scripts may give (this project's choice).
use Rattle.std.specs.Prelude.{◌≡◌, ℕ, ◌+◌, List, slice_get, Some, Contains}
use Rattle.gf_ops.specs.declared.op.Op.{Op}
use Rattle.gf_causal.specs.DeliveredPart.{HaveSame}
use Rattle.gf_site.specs.Course.{IsCourse}
use Rattle.gf_json.specs.declared.scripts.Command.{Command}
use Rattle.gf_worker.specs.declared.report.Report.{Report}
use Rattle.gf_worker.specs.Played.{IsPlayed}

-- one site at the end of a session: its number, its script, its operations and its report
pub record SiteEnd : Type 0 where
  pub number : ℕ
  pub script : List Command
  pub ops : List Op
  pub report : Report

-- the list of the site is a course, and its script was played
pub record IsSiteOutcome (p : SiteEnd) : Type 0 where
  pub course : IsCourse p.number p.ops
  pub played : IsPlayed p.number p.script p.ops p.report

-- the sites are numbered from 1, each script was played, and all lists have the same operations
pub record IsOutcome (ends : List SiteEnd) : Type 0 where
  pub numbers : (k : ℕ) (p : SiteEnd) → slice_get ends k ≡ Some p → p.number ≡ k + 1
  pub each : (p : SiteEnd) → Contains ends p → IsSiteOutcome p
  pub same : (p q : SiteEnd) → Contains ends p → Contains ends q → HaveSame p.ops q.ops
