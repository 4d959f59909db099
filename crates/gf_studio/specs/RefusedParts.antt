-- What the errors of the parts of a run say. No public clause cites this module.
use Rattle.std.specs.Prelude.{◌≡◌, List, ⊤}
use Rattle.gf_ops.specs.declared.op.Op.{Op}
use Rattle.gf_run.specs.declared.studio_error.StudioError.{StudioError}
use Rattle.gf_run.specs.declared.studio_error.StudioError.TheVariants as studio
use Rattle.gf_studio.specs.declared.inspecting.Query.{Query}
use Rattle.gf_studio.specs.declared.inspecting.Query.TheVariants as asked
use Rattle.gf_studio.specs.InspectRun.{IsMissing}

-- why a query about a history has no answer
abbrev pub RefusesQuery : List Op → Query → StudioError → Type 0
RefusesQuery h query (studio.NoObject o) = (query ≡ asked.Object o) × IsMissing h o
RefusesQuery h query studio.OutOfMemory = ⊤
RefusesQuery h query other = ⊥
