-- The objects of a history, from the ids of its creations.
use Rattle.std.proofs.Common.{◌≡◌, ℕ, ◌<◌, Bool, get_or, List, length, map, refl, sym, ap, subst}
use Rattle.std.specs.Prelude.{◌↔◌, Contains, IsSome, Option, Some, None, filter, is_some}
use Rattle.std.proofs.lemmas.List.Elements.{Contains-get_or}
use Rattle.gf_base.proofs.FilterLemmas.{Contains-filter}
use Rattle.gf_base.proofs.ListLemmas.{Contains-map, Contains-map_from}
use Rattle.gf_ops.specs.declared.op.Op.{Op}
use Rattle.gf_ops.specs.declared.op.OpId.{OpId}
use Rattle.gf_ops.specs.declared.op.ObjectId.{ObjectId}
use Rattle.gf_ops.specs.Attribute.{Kind, made_kind}
use Rattle.gf_groups.specs.Versions.{IsMade}
use Rattle.gf_names.specs.Objects.{AreObjects}
use Rattle.gf_names.specs.RisingIds.{IsRisingOf}

kind_of_some : (r : Option Kind) → IsSome r → (k : Kind) × (r ≡ Some k)
kind_of_some (Some k) e = (k, refl)
kind_of_some None e = absurd cc

-- the ids of creations are the objects that were made
pub made_told : (h : List Op) (made ids : List OpId)
    → made ≡ map (λ (a : Op). a.id) (filter (λ (a : Op). is_some (made_kind a.change)) h)
    → IsRisingOf made ids → (o : ObjectId) → Contains ids o.0 ↔ IsMade h o
made_told h made ids e r o = (
  λ c.
      let w = Contains-map_from (λ (a : Op). a.id) (filter makes h) o.0
      (subst (λ is. Contains is o.0) e ((r.exactly o.0).0 c)) in
      let k = (Contains-filter makes h w.0).0 w.1 in
      let kind = kind_of_some (made_kind w.0.change) k.1 in
      record {
        kind = kind.0;
        made = record { op = w.0; contained = k.0; id = sym w.2; such = kind.1 };
      },
  λ m.
      let made_it = (Contains-filter makes h m.made.op).1
      (m.made.contained, ap is_some m.made.such) in
      (r.exactly o.0).1 (subst (λ is. Contains is o.0) (sym e)
      (subst (Contains (map (λ (a : Op). a.id) (filter makes h))) m.made.id
      (Contains-map (λ (a : Op). a.id) (filter makes h) m.made.op made_it))),
)
  where
    makes : Op → Bool
    makes a = is_some (made_kind a.change)

-- the ids of creations, rising, are those of all objects
pub objects_of : (h : List Op) (made ids : List OpId)
    → made ≡ map (λ (a : Op). a.id) (filter (λ (a : Op). is_some (made_kind a.change)) h)
    → IsRisingOf made ids → AreObjects h ids
objects_of h made ids e r = record { exactly = made_told h made ids e r; rising = r.rising }

-- an id of the list is that of an object that was made
pub made_at : (h : List Op) (ids : List OpId) (n : ℕ) (d : OpId) → AreObjects h ids
    → n < length ids → IsMade h (record { 0 = get_or ids n d })
made_at h ids n d objects within = (objects.exactly (record { 0 = get_or ids n d })).0
    (Contains-get_or ids n d within)
