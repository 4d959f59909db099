use Rattle.std.proofs.Common.{get_or, subst, sym, List, ℕ}
use Rattle.std.specs.Prelude.{Contains}
use Rattle.gf_ops.specs.declared.op.OpId.{OpId}
use Rattle.gf_shape.specs.declared.any_shape.AnyShape.{AnyShape}
use Rattle.gf_versions.specs.declared.placed.Placed.{Placed}
use Rattle.gf_names.specs.RisingIds.{IsRisingOf}
use Rattle.gf_fig_named.specs.Others.{AreElsewhere, AreLackedAmong, AreLackedAt}
use Rattle.gf_fig_named.proofs.TakenLemmas.{if_ok}
use Rattle.gf_fig_named.proofs.LackedLemmas.{among_all, lacked_rising}
use Rattle.gf_fig_named.proofs.naming.lacked_ids.Goals as goal

pub lacked_among-requires-clause-within : goal.lacked_among-requires-clause-within
lacked_among-requires-clause-within c = λ k there.
    let item = get_or c.args.items.now c.args.index c.index-items-index.result in
    c.requires.places.within item.key.object k
    (subst (λ (ks : List ℕ). Contains ks k) c.at.ensures there)

pub returns : goal.returns
returns c =
    let items = c.args.items.now in
    let item = get_or items c.args.index c.index-items-index.result in
    let found = c.in_ok-found.found.items in
    let among = among_all items c.args.places.now c.requires.places item.key found
    (subst (λ (ks : List ℕ). AreLackedAmong items ks item.key found) c.at.ensures
    c.in_ok-found.ensures) in
    if_ok c.rising.result (λ ids. IsRisingOf c.deref.result.now ids) (AreLackedAt items c.args.index)
    (λ ids r. lacked_rising items c.args.index c.index-items-index.result found ids
    c.requires.within c.index-items-index.is
    (subst (λ (x : Placed AnyShape). AreElsewhere items x.key found) (sym c.index-items-index.is)
    among) (subst (λ (s : List OpId). IsRisingOf s ids) c.deref.ensures.value r)) c.rising.ensures
