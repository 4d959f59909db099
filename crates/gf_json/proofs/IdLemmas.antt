-- The ids of an aim, and their order.
use Rattle.std.proofs.Common.{◌≡◌, ℕ, ◌<◌, ◌≤◌, ◌+◌, ℤ, pos, negsuc, nat_le, List, [], ◌∷◌, length}
use Rattle.std.proofs.Common.{map, drop, get_or, refl, sym, ap, ◌∙◌, arith, Ok, Bool, true, false}
use Rattle.std.proofs.Common.{if◌then◌else◌, inl, inr}
use Rattle.std.specs.Prelude.{Option, Some, None, option_map, option_and_then}
use Rattle.std.specs.Option.{ok_or}
use Rattle.std.specs.List.{list_all}
use Rattle.std.specs.Ordering.{int_cmp, nat_cmp}
use Rattle.std.proofs.lemmas.Bool.{and_parts, cases_Bool}
use Rattle.std.proofs.lemmas.Bool.Decides.{nat_tests}
use Rattle.std.proofs.lemmas.List.{length-map, drop_more}
use Rattle.gf_ops.specs.declared.op.OpId.{OpId}
use Rattle.gf_ops.specs.Limits.{is_id, is_aim}
use Rattle.gf_ops.specs.OperationOrder.{id_cmp, rises}
use Rattle.gf_json.specs.declared.line_error.LineError.TheVariants as fault
use Rattle.serde_json.specs.Data.{Data}
use Rattle.serde_json.specs.declared.value.Value.{Value}
use Rattle.serde_json.specs.View.{items_view, view}
use Rattle.gf_json.specs.LineForms.{◌&◌, each, elements, id_of, name, pair, pair_cmp, whole}
use Rattle.gf_json.specs.ReadLists.{ids_of, next_behind, rising_behind}
use Rattle.gf_json.proofs.ArrayLemmas.{length-form}

-- names are the ids of pairs of whole numbers
pub each-name : (ds : List Data) → each name ds ≡ option_map (map id_of) (each (pair whole) ds)
each-name [] = refl
each-name (d ∷ ds) = rw (each-name ds) (of_both (pair whole d) (each (pair whole) ds))
  where
    of_both : (x : Option (ℤ × ℤ)) (y : Option (List (ℤ × ℤ)))
        → option_map (λ p. p.0 ∷ p.1) (option_map id_of x & option_map (map id_of) y)
        ≡ option_map (map id_of) (option_map (λ p. p.0 ∷ p.1) (x & y))
    of_both None y = refl
    of_both (Some a) None = refl
    of_both (Some a) (Some bs) = refl

-- ---- their order

same_order : (a b : ℕ) → int_cmp (pos a) (pos b) ≡ nat_cmp a b
same_order a b = grind (arith, nat_tests)

-- ids within the limits are ordered as their pairs are
pair_cmp-id_of : (p q : ℤ × ℤ) → is_id (id_of p) ≡ true → is_id (id_of q) ≡ true
    → id_cmp (id_of p) (id_of q) ≡ pair_cmp p q
pair_cmp-id_of (pos a, pos b) (pos c, pos d) h k = rw (same_order a c, same_order b d) refl
pair_cmp-id_of (negsuc a, y) q h k = absurd (grind (arith, h))
pair_cmp-id_of (pos a, negsuc b) q h k = absurd (grind (arith, h))
pair_cmp-id_of (pos a, pos b) (negsuc c, y) h k = absurd (grind (arith, k))
pair_cmp-id_of (pos a, pos b) (pos c, negsuc d) h k = absurd (grind (arith, k))

pub rises-id_of : (ps : List (ℤ × ℤ)) → list_all is_id (map id_of ps) ≡ true
    → rises id_cmp (map id_of ps) ≡ rises pair_cmp ps
rises-id_of [] h = refl
rises-id_of (p ∷ []) h = refl
rises-id_of (p ∷ q ∷ ps) h =
    let first = and_parts (is_id (id_of p)) (list_all is_id (map id_of (q ∷ ps))) h in
    let second = and_parts (is_id (id_of q)) (list_all is_id (map id_of ps)) first.1 in
    rw (pair_cmp-id_of p q first.0 second.0, rises-id_of (q ∷ ps) first.1) refl

-- ---- one pair after the other

-- the pairs of whole numbers that the values vs are
abbrev pub pairs_of : List Value → Option (List (ℤ × ℤ))
pairs_of vs = each (pair whole) (elements (items_view vs))

pairs_more : (vs : List Value) (k : ℕ) (o : Value) → k < length vs → o ≡ get_or vs k o
    → pairs_of (drop k vs)
    ≡ option_map (λ r. r.0 ∷ r.1) (pair whole (view o) & pairs_of (drop (k + 1) vs))
pairs_more vs k o l is =
    ap pairs_of (drop_more vs k o l)
    ∙ ap (λ (v : Value). option_map {U = List (ℤ × ℤ)} (λ r. r.0 ∷ r.1) (pair whole (view v)
    & pairs_of (drop (k + 1) vs))) (sym is)

more : (last : Option (ℤ × ℤ)) (q : ℤ × ℤ) (x : Option (ℤ × ℤ)) (y : Option (List (ℤ × ℤ)))
    → next_behind last x ≡ Some q
    → rising_behind last (option_map (λ r. r.0 ∷ r.1) (x & y)) ≡ rising_behind (Some q) y
more last q x y h = grind arith

stops : (last x : Option (ℤ × ℤ)) (y : Option (List (ℤ × ℤ))) → next_behind last x ≡ None
    → rising_behind last (option_map (λ r. r.0 ∷ r.1) (x & y)) ≡ false
stops last x y h = grind arith

-- a value that is behind the last pair, and those behind it
pub rise_more : (last : Option (ℤ × ℤ)) (next : ℤ × ℤ) (vs : List Value) (k : ℕ) (o : Value)
    → k < length vs → o ≡ get_or vs k o → Some next ≡ next_behind last (pair whole (view o))
    → rising_behind last (pairs_of (drop k vs)) ≡ rising_behind None (pairs_of vs)
    → rising_behind (Some next) (pairs_of (drop (k + 1) vs)) ≡ rising_behind None (pairs_of vs)
rise_more last next vs k o l is read same =
    sym (more last next (pair whole (view o)) (pairs_of (drop (k + 1) vs)) (sym read))
    ∙ (ap (rising_behind last) (sym (pairs_more vs k o l is)) ∙ same)

-- a value that is not
pub rise_stops : (last : Option (ℤ × ℤ)) (vs : List Value) (k : ℕ) (o : Value) → k < length vs
    → o ≡ get_or vs k o → None ≡ next_behind last (pair whole (view o))
    → rising_behind last (pairs_of (drop k vs)) ≡ rising_behind None (pairs_of vs)
    → false ≡ rising_behind None (pairs_of vs)
rise_stops last vs k o l is read same =
    sym (stops last (pair whole (view o)) (pairs_of (drop (k + 1) vs)) (sym read))
    ∙ (ap (rising_behind last) (sym (pairs_more vs k o l is)) ∙ same)

-- ---- all of an aim

-- more than 1,000 names that rise
pub aim_many : (vs : List Value) → rising_behind None (pairs_of vs) ≡ true → 1000 < length vs
    → Ok false ≡ ok_or (option_map is_aim (ids_of (elements (items_view vs)))) fault.Field
aim_many vs rise l = of_pairs (pairs_of vs) (length-form (pair whole) vs) rise
  where
    of_pairs : (x : Option (List (ℤ × ℤ)))
        → ((ps : List (ℤ × ℤ)) → x ≡ Some ps → length ps ≡ length vs) → rising_behind None x ≡ true
        → Ok false ≡ ok_or (option_map is_aim (option_and_then
        (λ ps. if rises pair_cmp ps then Some (map id_of ps) else None) x)) fault.Field
    of_pairs None n r = absurd cc
    of_pairs (Some ps) n r =
        let m = n ps refl in
        let many : nat_le (length ps) 1000 ≡ false = grind (arith, m, l) in
        rw (r, length-map, many) refl

-- no more
pub aim_few : (vs : List Value) → rising_behind None (pairs_of vs) ≡ true → length vs ≤ 1000
    → option_map (list_all is_id) (each name (elements (items_view vs)))
    ≡ option_map is_aim (ids_of (elements (items_view vs)))
aim_few vs rise l =
    rw (each-name (elements (items_view vs)))
    (of_pairs (pairs_of vs) (length-form (pair whole) vs) rise)
  where
    few : (ps : List (ℤ × ℤ)) → length ps ≡ length vs → rises pair_cmp ps ≡ true
        → list_all is_id (map id_of ps) ≡ is_aim (map id_of ps)
    few ps m r =
        let e : nat_le (length ps) 1000 ≡ true = grind (arith, m, l) in
        elim (cases_Bool (list_all is_id (map id_of ps))) [
          | inl t ↦ rw (length-map, e, t, rises-id_of ps t, r) refl
          | inr f ↦ rw (length-map, e, f) refl
        ]

    of_pairs : (x : Option (List (ℤ × ℤ)))
        → ((ps : List (ℤ × ℤ)) → x ≡ Some ps → length ps ≡ length vs) → rising_behind None x ≡ true
        → option_map (list_all is_id) (option_map (map id_of) x) ≡ option_map is_aim
        (option_and_then (λ ps. if rises pair_cmp ps then Some (map id_of ps) else None) x)
    of_pairs None n r = absurd cc
    of_pairs (Some ps) n r = rw r (ap (λ (b : Bool). Some b) (few ps (n ps refl) r))

-- the names that make an aim
pub aim_named : (ds : List Data) (is : List OpId) → ids_of ds ≡ Some is → each name ds ≡ Some is
aim_named ds is h = rw (each-name ds) (of_pairs (each (pair whole) ds) h)
  where
    by_test : (t : Bool) (js : List OpId) → (if t then Some js else None) ≡ Some is
        → Some js ≡ Some is
    by_test true js k = k
    by_test false js k = absurd cc

    of_pairs : (x : Option (List (ℤ × ℤ)))
        → option_and_then (λ ps. if rises pair_cmp ps then Some (map id_of ps) else None) x
        ≡ Some is → option_map (map id_of) x ≡ Some is
    of_pairs None k = absurd cc
    of_pairs (Some ps) k = by_test (rises pair_cmp ps) (map id_of ps) k
