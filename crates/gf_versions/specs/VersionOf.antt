-- A version of a history with its settled values (Sun and Chen's multi-versioning, ACM TOCHI 9(1),
-- 2002).
use Rattle.std.specs.Prelude.{List}
use Rattle.gf_ops.specs.declared.op.Op.{Op}
use Rattle.gf_ops.specs.declared.change.Attr.TheVariants.{Place, Colour, Layer, Shown}
use Rattle.gf_ops.specs.declared.change.Value.TheVariants as value
use Rattle.gf_ops.specs.Attribute.{form_attribute, form_value, kind_of}
use Rattle.gf_ops.specs.SettledValue.{IsSettled}
use Rattle.gf_ops.specs.Version.{IsVersion}
use Rattle.gf_ops.specs.HasOperation.{IsOfKind}
use Rattle.gf_versions.specs.declared.key.Version.{Version}

-- v is a version of an object of h and of its kind, each attribute with its settled value
pub record IsVersionOf (h : List Op) (v : Version) : Type 0 where
  pub version : IsVersion h v.key.object v.key.ops
  pub kind : IsOfKind h v.key.object (kind_of v.form)
  pub form : IsSettled h v.key.ops (form_attribute v.form) (form_value v.form)
  pub place : IsSettled h v.key.ops Place (value.Place v.place)
  pub colour : IsSettled h v.key.ops Colour (value.Colour v.colour)
  pub layer : IsSettled h v.key.ops Layer (value.Layer v.key.layer)
  pub shown : IsSettled h v.key.ops Shown (value.Shown v.shown)
