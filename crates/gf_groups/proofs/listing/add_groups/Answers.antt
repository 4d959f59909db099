use Rattle.std.proofs.Common.{◌≡◌, List, [], ◌∷◌, ◌++◌, map, append_assoc, ap, ◌∙◌}
use Rattle.std.specs.Vec.Iter.{into_iter_items}
use Rattle.std.proofs.lemmas.List.Elements.{All-rest}
use Rattle.gf_groups.specs.GroupedPositions.{rising_ids, group_at}
use Rattle.gf_maximal.specs.LargestSets.{IsRising}
use Rattle.gf_groups.proofs.listing.add_groups.Goals as goal

-- one more of ys is behind the others
more : {A B : Type 0} (f : A → B) (old new all : List B) (y : A) (rest ys : List A)
    → new ≡ old ++ f y ∷ [] → ys ≡ y ∷ rest → old ++ map f ys ≡ all → new ++ map f rest ≡ all
more f old new all y rest ys e d r = rw (e, append_assoc) (rw d at r)

pub loop-set-init : goal.loop-set-init
loop-set-init c =
    let items = c.into_iter-set-iterator.ensures.into_iter_gives.0 in
    record {
      rest = ap (λ gs. c.args.groups.now.items ++ map
          (group_at c.args.history.now.ops c.args.object) gs) items;
      rising = rw items c.requires;
    }

pub loop-set-preserved : goal.loop-set-preserved
loop-set-preserved c =
    let ops : c.in_ok-ops.ops ≡ rising_ids c.args.history.now.ops c.in-Some.set = rw (
      c.deref.ensures.value,
      c.in_ok-to_vec.ensures.value,
    ) at c.in_ok-ops.ensures in
    let pushed : c.push.new.self.items ≡ c.loop-set.groups.items ++ group_at c.args.history.now.ops
    c.args.object c.in-Some.set ∷ [] =
    c.in_ok-push.ensures.items
    ∙ ap (λ ids. c.loop-set.groups.items ++ record { object = c.args.object; ops = ids } ∷ []) ops
    in
    record {
      rest = more (group_at c.args.history.now.ops c.args.object) c.loop-set.groups.items
          c.push.new.self.items _ c.in-Some.set (into_iter_items c.next.new.self)
          (into_iter_items c.loop-set.set-iterator)
          pushed c.in-Some.ensures.steps.0 c.loop-set.invariant.rest;
      rising = All-rest IsRising c.in-Some.set (into_iter_items c.next.new.self)
          (into_iter_items c.loop-set.set-iterator) c.in-Some.ensures.steps.0
          c.loop-set.invariant.rising;
    }
