use Rattle.std.proofs.Common.{refl, sym, subst}
use Rattle.gf_ops.specs.declared.change.Attr.TheVariants as attr
use Rattle.gf_ops.specs.declared.change.Form.TheVariants as form
use Rattle.gf_ops.specs.declared.change.Value.TheVariants.{Size}
use Rattle.gf_ops.specs.Attribute.{Box, Circle, Ellipse, Polygon}
use Rattle.gf_ops.specs.SettledValue.{IsSettled}
use Rattle.gf_versions.proofs.MakerLemmas.{has_attribute, kind_by_form, not_set}
use Rattle.gf_versions.proofs.SettlingLemmas.{settled_by}
use Rattle.gf_versions.proofs.VersionLemmas.{round_settled}
use Rattle.gf_versions.proofs.settling.settled_form.Goals as goal

pub unreachable-requires : goal.unreachable-requires
unreachable-requires c =
    let made = c.maker.ensures in
    not_set c.args.history.now.ops made.valid c.args.group.now.object c.args.group.now.ops
    c.requires c.maker.result.now c.in_default.field-0 c.in_default.field-1 c.in_default.field-2
    made.contained made.id c.in_default.is

pub last_setter-requires-clause-has : goal.last_setter-requires-clause-has
last_setter-requires-clause-has c =
    let made = c.maker.ensures in
    let h = c.args.history.now.ops in
    let o = c.args.group.now.object in
    has_attribute h made.valid o Box attr.Size (kind_by_form h made.valid o c.maker.result.now
    c.in-Create.start (form.Rect c.in-Rect.field-0 c.in-Rect.field-1) made.contained made.id
    c.in-Create.is c.in-Rect.is) refl

pub last_setter-requires-in-Circle-clause-has : goal.last_setter-requires-in-Circle-clause-has
last_setter-requires-in-Circle-clause-has c =
    let made = c.maker.ensures in
    let h = c.args.history.now.ops in
    let o = c.args.group.now.object in
    has_attribute h made.valid o Circle attr.Size (kind_by_form h made.valid o c.maker.result.now
    c.in-Create.start (form.Circle c.in-Circle.field-0) made.contained made.id c.in-Create.is
    c.in-Circle.is) refl

pub last_setter-requires-in-Ellipse-clause-has : goal.last_setter-requires-in-Ellipse-clause-has
last_setter-requires-in-Ellipse-clause-has c =
    let made = c.maker.ensures in
    let h = c.args.history.now.ops in
    let o = c.args.group.now.object in
    has_attribute h made.valid o Ellipse attr.Size (kind_by_form h made.valid o c.maker.result.now
    c.in-Create.start (form.Ellipse c.in-Ellipse.field-0 c.in-Ellipse.field-1) made.contained
    made.id c.in-Create.is c.in-Ellipse.is) refl

pub last_setter-requires-in-Polygon-clause-has : goal.last_setter-requires-in-Polygon-clause-has
last_setter-requires-in-Polygon-clause-has c =
    let made = c.maker.ensures in
    let h = c.args.history.now.ops in
    let o = c.args.group.now.object in
    has_attribute h made.valid o Polygon attr.Points (kind_by_form h made.valid o c.maker.result.now
    c.in-Create.start (form.Polygon c.in-Polygon.field-0) made.contained made.id c.in-Create.is
    c.in-Polygon.is) refl

pub returns-in-Circle : goal.returns-in-Circle
returns-in-Circle c =
    let made = c.maker.ensures in
    let h = c.args.history.now.ops in
    let g = c.args.group.now in
    let kind = kind_by_form h made.valid g.object c.maker.result.now c.in-Create.start
    (form.Circle c.in-Circle.field-0) made.contained made.id c.in-Create.is c.in-Circle.is in
    let size = settled_by h g.ops attr.Size c.last_setter-in-Circle.result.now
    (Size c.size-radius.result.0 c.size-radius.result.1) c.last_setter-in-Circle.ensures
    c.size-radius.ensures in
    let round = round_settled h made.valid g c.requires c.size-radius.result.0
    c.size-radius.result.1 kind size in
    record {
      kind = kind;
      settled = subst (λ n. IsSettled h g.ops attr.Size (Size c.size-radius.result.0 n)) (sym round)
          size;
    }
