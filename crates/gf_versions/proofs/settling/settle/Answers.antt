use Rattle.std.proofs.Common.{◌≡◌}
use Rattle.gf_ops.specs.declared.change.Attr.TheVariants as attr
use Rattle.gf_ops.specs.declared.change.Value.TheVariants.{Place, Colour, Layer, Shown}
use Rattle.gf_versions.proofs.SettlingLemmas.{settled_by}
use Rattle.gf_versions.proofs.settling.settle.Goals as goal

pub returns-clause-version : goal.returns-clause-version
returns-clause-version c =
    let h = c.args.history.now.ops in
    let g = c.args.group.now in
    let form = c.in_ok-settled_form.ensures in
    let ids : c.in_ok-copy.field-0 ≡ g.ops = c.in_ok-copy.ensures in
    rw ids (record {
      version = c.requires;
      kind = form.kind;
      form = form.settled;
      place = settled_by h g.ops attr.Place c.last_setter-2.result.now (Place c.place.result)
          c.last_setter-2.ensures c.place.ensures;
      colour = settled_by h g.ops attr.Colour c.last_setter-3.result.now (Colour c.colour.result)
          c.last_setter-3.ensures c.colour.ensures;
      layer = settled_by h g.ops attr.Layer c.last_setter.result.now (Layer c.layer.result)
          c.last_setter.ensures c.layer.ensures;
      shown = settled_by h g.ops attr.Shown c.last_setter-4.result.now (Shown c.shown.result)
          c.last_setter-4.ensures c.shown.ensures;
    })
