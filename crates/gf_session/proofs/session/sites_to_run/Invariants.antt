use Rattle.std.proofs.Common.{◌≡◌, ◌+◌, ℕ, ◌++◌, map, length}
use Rattle.std.specs.Prelude.{Some, slice_get}
use Rattle.std.specs.Iterator.Adapters.{zip_first, zip_second}
use Rattle.std.specs.Vec.Iter.{into_iter_items, into_iter_len}
use Rattle.gf_site.specs.SiteState.{new_site}
use Rattle.gf_mesh.specs.Linked.{rows_of}
use Rattle.gf_session.specs.declared.starting.SiteToRun.{SiteToRun}
use Rattle.gf_session.proofs.session.sites_to_run.Given as goal

-- the sites so far, and what is left of the scripts and of the peers
abbrev pub invariant-loop-script : goal.invariant-loop-script
invariant-loop-script l = record {
  iterate : goal.iterator-loop-script.can_next l.script-iterator
      × goal.iterator-loop-script.is_finite l.script-iterator;
  counted : l.number ≡ length l.sites.items;
  sites : (k : ℕ) (s : SiteToRun) → slice_get l.sites.items k ≡ Some s → s.site ≡ new_site (k + 1);
  scripts : map (λ s. s.script) l.sites.items ++ into_iter_items
      (zip_first l.script-iterator) ≡ l.fn.scripts.items;
  rows : map (λ s. s.peers.items) l.sites.items ++ rows_of
      (into_iter_items (zip_second l.script-iterator)) ≡ rows_of l.fn.peers.items;
  scripts_left : into_iter_len (zip_first l.script-iterator) ≡ length
      (into_iter_items (zip_first l.script-iterator));
  rows_left : into_iter_len (zip_second l.script-iterator) ≡ length
      (into_iter_items (zip_second l.script-iterator));
}
