-- The line of a reply has no float.
use Rattle.std.proofs.Common.{◌≡◌, ℕ, List, Option, None, Some, false, refl}
use Rattle.serde_json.specs.Written.{has_float}
use Rattle.gf_ops.specs.declared.op.ObjectId.{ObjectId}
use Rattle.gf_json.specs.WrittenValues.{name_data}
use Rattle.gf_json.proofs.WrittenLemmas.{items_have_float-map}
use Rattle.gf_edit.specs.declared.made.Made.{Made}
use Rattle.gf_studio.specs.declared.naming.NamedRun.{NamedRun}
use Rattle.gf_take_run.specs.declared.taken.Taken.{Taken}
use Rattle.gf_serve.specs.ReplyTexts.{made_data, named_data, objects_data, taken_data}

has_float-objects : (objects : List ObjectId) → has_float (objects_data objects) ≡ false
has_float-objects objects =
    items_have_float-map (λ (o : ObjectId). name_data o.0) (λ o. refl) objects

has_float-made : (made : Option Made) → has_float (made_data made) ≡ false
has_float-made None = refl
has_float-made (Some made) = refl

pub has_float-taken : (n : ℕ) (taken : Taken) → has_float (taken_data n taken) ≡ false
has_float-taken n taken = rw (
  has_float-made taken.made,
  has_float-made taken.since,
  has_float-objects taken.thin.items,
) refl

pub has_float-named : (n : ℕ) (named : NamedRun) → has_float (named_data n named) ≡ false
has_float-named n named = rw (has_float-objects named.thin.items) refl
