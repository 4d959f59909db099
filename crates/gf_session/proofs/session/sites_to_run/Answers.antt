use Rattle.std.proofs.Common.{◌≡◌, ◌+◌, [], ◌∷◌, length, length-append, inl, inr, refl, sym, ap}
use Rattle.std.proofs.Common.{◌∙◌, arith}
use Rattle.std.specs.Iterator.Adapters.{zip_first, zip_second}
use Rattle.std.specs.Vec.Iter.{into_iter_items, into_iter_len}
use Rattle.std.proofs.lemmas.List.{length-map}
use Rattle.gf_site.specs.SiteState.{new_site}
use Rattle.gf_mesh.specs.Linked.{rows_of}
use Rattle.gf_session.specs.declared.starting.SiteToRun.{SiteToRun}
use Rattle.gf_session.proofs.StartLemmas.{push_map, push_site, one_less, all_started}
use Rattle.gf_session.proofs.session.sites_to_run.Goals as goal

pub loop-script-preserved : goal.loop-script-preserved
loop-script-preserved c =
    let l = c.loop-script in
    let steps = c.in-Some.ensures.steps in
    let to_run : SiteToRun = record {
      site = c.new.result;
      script = c.in-Some.script;
      peers = c.in-Some.peers;
    } in
    let items = c.in_ok-push.ensures.items in
    let long : length c.push.new.self.items ≡ length l.sites.items + 1 = ap length items
    ∙ length-append l.sites.items (to_run ∷ []) in
    record {
      iterate = ((tt, tt), tt);
      counted = omega (arith, l.invariant.counted, long);
      sites = push_site l.sites.items c.push.new.self.items to_run items (c.new.ensures
          ∙ ap (λ n. new_site (n + 1)) l.invariant.counted) l.invariant.sites;
      scripts = push_map (λ (s : SiteToRun). s.script) l.sites.items c.push.new.self.items to_run
          c.in-Some.script (into_iter_items (zip_first l.script-iterator))
          (into_iter_items (zip_first c.next.new.self)) c.args.scripts.items items refl
          steps.0.0 l.invariant.scripts;
      rows = push_map (λ (s : SiteToRun). s.peers.items) l.sites.items c.push.new.self.items to_run
          c.in-Some.peers.items (rows_of (into_iter_items (zip_second l.script-iterator)))
          (rows_of (into_iter_items (zip_second c.next.new.self)))
          (rows_of c.args.peers.items) items refl (ap rows_of steps.1.0) l.invariant.rows;
      scripts_left = one_less c.in-Some.script (into_iter_items (zip_first l.script-iterator))
          (into_iter_items (zip_first c.next.new.self))
          (into_iter_len (zip_first l.script-iterator)) (into_iter_len (zip_first c.next.new.self))
          steps.0.0 steps.0.1
          l.invariant.scripts_left;
      rows_left = one_less c.in-Some.peers (into_iter_items (zip_second l.script-iterator))
          (into_iter_items (zip_second c.next.new.self))
          (into_iter_len (zip_second l.script-iterator))
          (into_iter_len (zip_second c.next.new.self)) steps.1.0 steps.1.1
          l.invariant.rows_left;
    }

pub returns : goal.returns
returns c =
    let l = c.loop-script in
    let ss = into_iter_items (zip_first l.script-iterator) in
    let rs = into_iter_items (zip_second l.script-iterator) in
    let even : length (rows_of c.args.peers.items) ≡ length c.args.scripts.items = length-map
    c.args.peers.items (λ v. v.items) ∙ sym c.args.peers.ok.0 ∙ c.requires.long
    ∙ c.args.scripts.ok.0 in
    all_started l.sites.items c.args.scripts.items (rows_of c.args.peers.items) ss (rows_of rs)
    l.invariant.sites l.invariant.scripts l.invariant.rows even
    (elim c.in-None.ensures.steps [
      | inl t ↦ inl (sym l.invariant.scripts_left ∙ t.1.0)
      | inr t ↦ inr (length-map rs (λ v. v.items) ∙ sym l.invariant.rows_left ∙ t.1.0)
    ])
