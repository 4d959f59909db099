use Rattle.std.proofs.Common.{◌≡◌, map, take}
use Rattle.serde_json.specs.View.{view}
use Rattle.gf_ops.specs.declared.op.ObjectId.{ObjectId}
use Rattle.gf_json.specs.WrittenValues.{name_data}
use Rattle.gf_serve.proofs.writing.objects_data.Given as goal

abbrev pub invariant-loop-object : goal.invariant-loop-object
invariant-loop-object l = map view l.values.items
    ≡ map (λ (o : ObjectId). name_data o.0) (take l.object-index l.objects)
