-- What a session gives for its scripts (this project's choice).
use Rattle.std.specs.Prelude.{◌≡◌, List, [], ◌∷◌, map, length}
use Rattle.gf_worker.specs.declared.script.Script.{Script}
use Rattle.gf_worker.specs.declared.worker.WorkerEnd.{WorkerEnd}
use Rattle.gf_session.specs.declared.session.Done.{Done}
use Rattle.gf_replicas.specs.Courses.{HaveEvents}
use Rattle.gf_session.specs.Outcome.{SiteEnd, IsOutcome}

-- what the site of a worker came to
abbrev pub done_of : WorkerEnd → Done
done_of e = record { site = e.site; report = e.report }

-- a script, with the number, the operations and the report of its site at the end
abbrev pub site_end : Script → Done → SiteEnd
site_end s d = record {
  number = d.site.number;
  script = s.0.items;
  ops = d.site.ops;
  report = d.report;
}

-- each script, with the number, the operations and the report of its site at the end
abbrev pub site_ends : List Script → List Done → List SiteEnd
site_ends [] ds = []
site_ends (s ∷ ss) [] = []
site_ends (s ∷ ss) (d ∷ ds) = site_end s d ∷ site_ends ss ds

-- for each script there is what its site came to, and all these are an outcome. Some events bring
-- as many sites to their lists
pub record IsSession (scripts : List Script) (dones : List Done) : Type 0 where
  pub long : length dones ≡ length scripts
  pub outcome : IsOutcome (site_ends scripts dones)
  pub events : HaveEvents (map (λ d. d.site.ops) dones)
