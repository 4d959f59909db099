-- Sites that are to run, over a table of links (this project's choice).
use Rattle.std.specs.Prelude.{◌≡◌, ◌⊎◌, ◌≤◌, ◌+◌, ℕ, List, [], map, All}
use Rattle.std.specs.Prelude.{Some, slice_get, vec_len}
use Rattle.std.specs.List.{AllZip}
use Rattle.atomic_table.specs.Seated.{TableId}
use Rattle.gf_site.specs.SiteState.{new_site}
use Rattle.gf_worker.specs.declared.peer.Peer.{Peer}
use Rattle.gf_worker.specs.declared.script.Script.{Script}
use Rattle.gf_session.specs.declared.starting.SiteToRun.{SiteToRun}
use Rattle.gf_worker.specs.declared.worker.WorkerEnd.{WorkerEnd}
use Rattle.gf_worker.specs.Peers.{StandsInTable, IsFresh}
use Rattle.gf_worker.specs.Ending.{HasWorked, HasStopped}

-- the sites are new and numbered from 1, and have these scripts and these peers
pub record AreSitesToRun (scripts : List Script) (rows : List (List Peer))
    (sites : List SiteToRun) : Type 0 where
  pub sites_are : (k : ℕ) (s : SiteToRun) → slice_get sites k ≡ Some s
      → s.site ≡ new_site (k + 1)
  pub scripts_are : map (λ s. s.script) sites ≡ scripts
  pub rows_are : map (λ s. s.peers.items) sites ≡ rows

-- the site has nothing, its script is not long, and its seats are new, at their indices in the
-- table
pub record IsReadyToStart (links : List TableId) (s : SiteToRun) : Type 0 where
  pub ops : s.site.ops ≡ []
  pub held : s.site.held ≡ []
  pub few : vec_len s.script.0 ≤ 1000
  pub placed : All (StandsInTable links) s.peers.items
  pub fresh : All IsFresh s.peers.items

-- the worker has run the site's script, or sent Stop to each peer since its thread was not started
abbrev pub Gave : SiteToRun → WorkerEnd → Type 0
Gave s e = HasWorked s.site.number s.script.0.items s.peers.items e
    ⊎ HasStopped s.site s.peers.items e

-- the worker of each site has run its script, or sent Stop to each peer
abbrev pub GaveAll : List SiteToRun → List WorkerEnd → Type 0
GaveAll sites ends = AllZip Gave sites ends
