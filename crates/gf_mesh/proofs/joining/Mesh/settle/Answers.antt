use Rattle.std.proofs.Common.{length, refl, ◌∙◌}
use Rattle.std.proofs.lemmas.List.{length-set}
use Rattle.gf_mesh.specs.Linked.{rows_of}
use Rattle.gf_mesh.proofs.RowLemmas.{settle_begun, row_begun, row_done, settle_done, not_empty}
use Rattle.gf_mesh.proofs.RowLemmas.{pair_ends, pair_settled}
use Rattle.gf_mesh.proofs.joining.Mesh.settle.Goals as goal

pub loop-row-init : goal.loop-row-init
loop-row-init g c = settle_begun c.args.self c.self.inside.links.items c.args.peers.items
    c.self.view_is c.requires.linked

pub loop-mine-init : goal.loop-mine-init
loop-mine-init g c = (
  row_begun c.args.self (rows_of c.args.peers.items) (length c.loop-row.peers.items)
      c.loop-row.links.items c.loop-row.peers.items c.pop.new.self.items c.in-Some.row
      c.in-Some.ensures.items c.loop-row.invariant,
  refl,
)

pub unreachable-requires : goal.unreachable-requires
unreachable-requires g c =
    let l = c.loop-mine in
    not_empty c.args.self (rows_of c.args.peers.items) l.links.items l.peers.items l.row.items
    c.pop-in-loop-mine.new.self.items c.in-Some-pop.mine c.len.result c.index_mut.result.now
    l.invariant.0 c.in-Some-pop.ensures.items (c.len.ensures ∙ c.pop-in-loop-mine.new.self.ok.0)
    c.index_mut.ensures.value c.in_default-pop-2.ensures.cases.0

pub settle_pair-requires : goal.settle_pair-requires
settle_pair-requires g c =
    let l = c.loop-mine in
    pair_ends c.args.self (rows_of c.args.peers.items) l.links.items l.peers.items l.row.items
    c.pop-in-loop-mine.new.self.items c.in-Some-pop.mine c.len.result c.index_mut.result.now
    l.invariant.0 c.in-Some-pop.ensures.items (c.len.ensures ∙ c.pop-in-loop-mine.new.self.ok.0)
    c.index_mut.ensures.value
    c.requires.linked c.requires.ended c.pop-in-Some-pop.new.self c.in-Some-pop-2.theirs
    c.pop-in-Some-pop-3.new.self.items c.pop-in-Some-pop-2.new.self.items c.in-Some-pop-4.there
    c.in-Some-pop-3.back c.in-Some-pop-2.ensures.items c.in-Some-pop-3.ensures.items
    c.in-Some-pop-4.ensures.items

pub loop-mine-preserved : goal.loop-mine-preserved
loop-mine-preserved g c =
    let l = c.loop-mine in (
      pair_settled c.args.self (rows_of c.args.peers.items) l.links.items l.peers.items l.row.items
          c.pop-in-loop-mine.new.self.items c.in-Some-pop.mine c.len.result c.index_mut.result.now
          l.invariant.0 c.in-Some-pop.ensures.items (c.len.ensures ∙ c.pop-in-loop-mine.new.self.ok.0)
          c.index_mut.ensures.value
          c.requires.linked c.requires.ended c.pop-in-Some-pop.new.self c.in-Some-pop-2.theirs
          c.pop-in-Some-pop-3.new.self.items c.pop-in-Some-pop-2.new.self.items c.in-Some-pop-4.there
          c.in-Some-pop-3.back c.in-Some-pop-2.ensures.items c.in-Some-pop-3.ensures.items
          c.in-Some-pop-4.ensures.items c.settle_pair.ensures,
      length-set l.peers.items c.len.result c.pop-in-Some-pop.new.self ∙ l.invariant.1,
    )

pub loop-row-preserved : goal.loop-row-preserved
loop-row-preserved g c =
    let l = c.loop-mine in
    row_done c.args.self (rows_of c.args.peers.items) (length l.peers.items) l.links.items
    (rows_of l.peers.items) l.row c.in_default-pop.ensures.cases.0 l.invariant.0

pub returns : goal.returns
returns g c =
    let l = c.loop-row in
    settle_done c.args.self (rows_of c.args.peers.items) l.links.items l.peers c.requires.linked
    c.in_default.ensures.cases.0 l.invariant
