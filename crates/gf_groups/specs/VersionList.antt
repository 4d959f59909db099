-- The versions of an object as a list that computes (maximal compatible groups, Sun and Chen, ACM
-- TOCHI 9(1), 2002).
use Rattle.std.specs.Prelude.{Bool, not, ◌&&◌, ◌||◌, ◌==◌, nat_le, List, [], ◌∷◌}
use Rattle.std.specs.Prelude.{◌++◌, filter, map}
use Rattle.std.specs.List.{list_any, list_all, fold}
use Rattle.std.specs.BTreeSet.{insert_key}
use Rattle.gf_ops.specs.declared.op.Op.{Op}
use Rattle.gf_ops.specs.declared.op.OpId.{OpId}
use Rattle.gf_ops.specs.declared.op.ObjectId.{ObjectId}
use Rattle.gf_ops.specs.Attribute.{aim_of, object_of}
use Rattle.gf_ops.specs.ConflictTests.{are_apart}
use Rattle.gf_ops.specs.OperationOrder.{entry, id_cmp}

-- i and j are one id
abbrev pub id_eq : OpId → OpId → Bool
id_eq i j = i.site == j.site && i.seq == j.seq

-- a comes before b
abbrev pub is_before : Op → Op → Bool
is_before a b = nat_le a.id.seq (entry b.past a.id.site)

-- neither of a and b comes before the other
abbrev pub are_unordered : Op → Op → Bool
are_unordered a b = not (is_before a b) && not (is_before b a)

-- a and b conflict directly; operations with different values of an attribute are different ones
abbrev pub in_direct_conflict : Op → Op → Bool
in_direct_conflict a b = are_unordered a b && id_eq (object_of a).0 (object_of b).0
    && are_apart a.change b.change

-- a aims at x
abbrev pub aims_at : Op → Op → Bool
aims_at a x = list_any (id_eq x.id) (aim_of a)

-- a, and the operations of h that it aims at
abbrev pub brought : List Op → Op → List Op
brought h a = a ∷ filter (aims_at a) h

-- a or one that it aims at conflicts directly with b or one that b aims at
abbrev pub in_conflict : List Op → Op → Op → Bool
in_conflict h a b = list_any (λ x. list_any (in_direct_conflict x) (brought h b)) (brought h a)

-- a is one of the group's operations
abbrev pub is_in : List OpId → Op → Bool
is_in g a = list_any (id_eq a.id) g

-- the operations of h on the object o
abbrev pub ops_on : List Op → ObjectId → List Op
ops_on h o = filter (λ a. id_eq (object_of a).0 o.0) h

-- the operations of h that the group has
abbrev pub members : List Op → List OpId → List Op
members h g = filter (is_in g) h

-- no two operations of the group conflict
abbrev pub is_compatible : List Op → List OpId → Bool
is_compatible h g = list_all (λ a. list_all (λ b. not (in_conflict h a b)) (members h g))
    (members h g)

-- each other operation on the object conflicts with an operation of the group
abbrev pub is_largest : List Op → ObjectId → List OpId → Bool
is_largest h o g = list_all (λ a. is_in g a || list_any (in_conflict h a) (members h g))
    (ops_on h o)

-- every list that can be made from a list by leaving elements out
abbrev pub sublists : {X : Type 0} → List X → List (List X)
sublists [] = [] ∷ []
sublists (x ∷ xs) = map (λ ys. x ∷ ys) (sublists xs) ++ sublists xs

-- the ids of the operations on the object o, rising
abbrev pub ids_on : List Op → ObjectId → List OpId
ids_on h o = fold (insert_key id_cmp) [] (map (λ (a : Op). a.id) (ops_on h o))

-- the versions of the object o: the sublists of its rising ids that are compatible and largest
abbrev pub versions_of : List Op → ObjectId → List (List OpId)
versions_of h o = filter (λ g. is_compatible h g && is_largest h o g) (sublists (ids_on h o))
