use Rattle.std.proofs.Common.{refl}
use Rattle.gf_fig_named.proofs.NameLemmas.{ids_rise, name_more, rises_at}
use Rattle.gf_fig_named.proofs.naming.names_of.Goals as goal

pub lead_of-requires-clause-rising : goal.lead_of-requires-clause-rising
lead_of-requires-clause-rising c =
    ids_rise c.args.history.now.ops c.recall_valid.ensures c.args.items.now c.requires

pub name_of-requires-clause-ids : goal.name_of-requires-clause-ids
name_of-requires-clause-ids c =
    rises_at c.args.history.now.ops c.recall_valid.ensures c.args.items.now c.requires
    c.in_ok-lead.lead.first c.index-items-lead.result c.in_ok-lead.ensures.lead.within
    c.index-items-lead.is c.as_slice-ids.result.now c.as_slice-ids.ensures

pub name_of-requires-clause-key : goal.name_of-requires-clause-key
name_of-requires-clause-key c =
    rises_at c.args.history.now.ops c.recall_valid.ensures c.args.items.now c.requires
    c.loop-index.index c.index-items-index.result c.loop-index-test.true c.index-items-index.is _
    refl

pub loop-index-preserved : goal.loop-index-preserved
loop-index-preserved c = record {
  names = rw c.in_ok-push.ensures.items
      (name_more c.args.history.now.ops c.recall_valid.ensures c.args.items.now c.requires
      c.loop-index.index c.index-items-lead.result c.index-items-index.result c.in_ok-lead.lead
      c.as_slice-ids.result.now c.as_slice.result.now c.loop-index-test.true c.index-items-index.is
      c.index-items-lead.is c.as_slice-ids.ensures c.as_slice.ensures c.in_ok-lead.ensures.lead
      c.in_ok-lead.ensures.object c.loop-index.names.items c.in_ok-name_of.field-0
      c.loop-index.invariant.names c.in_ok-name_of.ensures);
  lead = λ l. c.in_ok-lead.ensures.lead;
}
