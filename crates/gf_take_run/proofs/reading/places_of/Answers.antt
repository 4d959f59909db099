use Rattle.std.proofs.Common.{BTreeMap, Option, get_or, subst, sym, ◌≡◌, ◌+◌}
use Rattle.gf_ops.specs.declared.op.ObjectId.{ObjectId}
use Rattle.gf_table.specs.declared.positions.Positions.{Positions}
use Rattle.gf_fig_named.specs.declared.reading.Named.{Named}
use Rattle.gf_take_run.specs.LeavingSteps.{AreNamesBelow}
use Rattle.gf_take_run.proofs.LeavingLemmas.{names_more, names_same}
use Rattle.gf_take_run.proofs.reading.places_of.Goals as goal
use Rattle.gf_take_run.proofs.reading.places_of.Goals.{in-Some+in_ok-push_position, in_default}

pub loop-index-preserved : goal.loop-index-preserved
loop-index-preserved c =
    let names = c.args.names.now in
    let n = c.loop-index.index in
    let Below : BTreeMap ObjectId Positions → Type 0 = λ t. AreNamesBelow names (n + 1) t.entries in
    elim c.match-name.branch [
      | in-Some+in_ok-push_position w ↦
          let named = w.in-Some.named in
          let at = subst (λ (o : Option Named). o ≡ get_or names n o) w.in-Some.is
          c.index-names-index.is in
          subst Below (sym w.places-is)
          (names_more names n named c.loop-index-test.true at c.loop-index.places.entries
          w.push_position.new.objects.entries c.loop-index.invariant w.in_ok-push_position.ensures.ok)
      | in_default w ↦
          let at = subst (λ (o : Option Named). o ≡ get_or names n o) w.in_default.is
          c.index-names-index.is in
          subst Below (sym w.places-is)
          (names_same names n c.loop-index-test.true at c.loop-index.places.entries
          c.loop-index.invariant)
    ]
