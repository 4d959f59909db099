-- The operations on what is hidden that knew nothing of what hides it.
use Rattle.std.proofs.Common.{◌≡◌, ◌≢◌, ℕ, ◌+◌, ◌<◌, Bool, true, false, not, get_or, take}
use Rattle.std.proofs.Common.{List, [], ◌∷◌, ◌++◌, length, map, refl, sym, ap, subst, ◌∙◌, inl, inr}
use Rattle.std.specs.Prelude.{◌↔◌, Contains, Option, Some, None, filter, is_some, IsTrue}
use Rattle.std.specs.BTreeSet.{BTreeSet, contains}
use Rattle.std.specs.List.{list_all, list_any}
use Rattle.std.proofs.lemmas.Bool.{and_parts, cases_Bool, not_from_false}
use Rattle.std.proofs.lemmas.List.{map-append}
use Rattle.std.proofs.lemmas.List.Elements.{Contains-append_left, Contains-push}
use Rattle.std.proofs.lemmas.List.Elements.{Contains-push_cases}
use Rattle.std.proofs.lemmas.List.Folds.{list_all-map}
use Rattle.gf_base.proofs.FilterLemmas.{list_all_true, list_any_from, list_any_true}
use Rattle.gf_base.proofs.ListLemmas.{not_Contains-nil}
use Rattle.gf_ops.specs.declared.op.Op.{Op}
use Rattle.gf_ops.specs.declared.op.OpId.{OpId}
use Rattle.gf_ops.specs.declared.op.ObjectId.{ObjectId}
use Rattle.gf_ops.specs.declared.change.Attr.TheVariants as attr
use Rattle.gf_ops.specs.declared.change.Change.{Change}
use Rattle.gf_ops.specs.declared.change.Change.TheVariants.{Create, Set}
use Rattle.gf_ops.specs.declared.change.Value.TheVariants as value
use Rattle.gf_ops.specs.Attribute.{change_value, value_given}
use Rattle.gf_ops.specs.Conflict.{Conflict}
use Rattle.gf_ops.specs.OperationOrder.{Precedes, id_cmp}
use Rattle.gf_groups.specs.VersionList.{are_unordered, in_conflict, is_before}
use Rattle.gf_groups.proofs.ConflictTestLemmas.{before_decided, conflict_decided}
use Rattle.gf_visible.proofs.SetterLemmas.{shown_once}
use Rattle.gf_status.specs.Hidings.{Hides}
use Rattle.gf_status.specs.Setters.{AreLastOf, AreOf, AreSettersOn, AreThose, IsUnknowing, hides}
use Rattle.gf_status.specs.Setters.{is_left_out, sets}
use Rattle.gf_status.specs.UnseenChanges.{HidesBeside}
use Rattle.gf_status.proofs.LastLemmas.{Contains-kept, list_any-map, map_more, not_told}

-- ---- one operation

hidden_told : (b : Bool) → not b ≡ true → value.Shown b ≡ value.Shown false
hidden_told b e = ap value.Shown (not_told b e)

hidden_from : (b : Bool) → Some (value.Shown b) ≡ Some (value.Shown false) → not b ≡ true
hidden_from b e = let same : value.Shown b ≡ value.Shown false = cc in
    let f = shown_once b false same in rw f refl

pub change_hides : (c : Change) → hides c ≡ true
    → change_value c attr.Shown ≡ Some (value.Shown false)
change_hides (Create start) e = ap (λ v. Some v) (hidden_told start.shown e)
change_hides (Set o (value.Shown b) aim) e = ap (λ v. Some v) (hidden_told b e)
change_hides (Set o v aim) e = absurd cc

pub hides_change : (c : Change) → change_value c attr.Shown ≡ Some (value.Shown false)
    → hides c ≡ true
hides_change (Create start) e = hidden_from start.shown e
hides_change (Set o (value.Shown b) aim) e = hidden_from b e
hides_change (Set o v aim) e = absurd cc

unordered_told : (a b : Op) → are_unordered a b ≡ true → (¬ (Precedes a b)) × (¬ (Precedes b a))
unordered_told a b t =
    let both = and_parts (not (is_before a b)) (not (is_before b a)) t in (
      λ p. let y = (before_decided a b).1 p in let f = not_told (is_before a b) both.0 in absurd cc,
      λ p. let y = (before_decided b a).1 p in let f = not_told (is_before b a) both.1 in absurd cc,
    )

unordered_from : (a b : Op) → ¬ (Precedes a b) → ¬ (Precedes b a) → are_unordered a b ≡ true
unordered_from a b n m = elim (cases_Bool (is_before a b)) [
  | inl y ↦ absurd (n ((before_decided a b).0 y))
  | inr f ↦ elim (cases_Bool (is_before b a)) [
    | inl y ↦ absurd (m ((before_decided b a).0 y))
    | inr g ↦ rw (f, g) refl
  ]
]

none_some : {X : Type 0} (r : Option X) → is_some r ≡ false → r ≡ None
none_some (Some x) e = absurd cc
none_some None e = refl

-- an operation that is left out neither shows nor hides
pub left_none : (seen : BTreeSet OpId) (a : Op) → is_left_out seen a ≡ true
    → value_given a attr.Shown ≡ None
left_none seen a t =
    let both = and_parts (not (sets attr.Shown a)) (not (contains id_cmp seen a.id)) t in
    none_some (value_given a attr.Shown) (not_told (sets attr.Shown a) both.0)

none_hides : (a b : Op) → value_given a attr.Shown ≡ None → Hides b → a ≢ b
none_hides a b n s e = let t : value_given a attr.Shown ≡ Some (value.Shown false) = subst Hides
    (sym e) s in absurd cc

-- ---- the hidings beside an operation

module _ {X : Type 0} (f : X → Op) (h : List Op) (a : Op) (setters near : List X)
    (beside : near ≡ filter (λ x. not (in_conflict h a (f x))) setters) where
  beside_told : (b : Op) → not (in_conflict h a b) ≡ true → ¬ (Conflict h a b)
  beside_told b t c = let y = (conflict_decided h a b).1 c in
      let n = not_told (in_conflict h a b) t in absurd cc

  beside_from : (b : Op) → ¬ (Conflict h a b) → not (in_conflict h a b) ≡ true
  beside_from b n = elim (cases_Bool (in_conflict h a b)) [
    | inl y ↦ absurd (n ((conflict_decided h a b).0 y))
    | inr k ↦ not_from_false (in_conflict h a b) k
  ]

  is_near : (b : Op) → Contains (map f near) b
      ↔ (Contains (map f setters) b × (not (in_conflict h a b) ≡ true))
  is_near b = Contains-kept f (λ b. not (in_conflict h a b)) setters near beside b

  pub near_within : AreOf h (map f setters) → AreOf h (map f near)
  near_within of b c = of b ((is_near b).0 c).0

  pub hidings_within : AreOf h (map f setters) → (ls found : List X)
      → AreLastOf (map f near) (map f ls) → found ≡ filter (λ x. hides (f x).change) ls
      → AreOf h (map f found)
  hidings_within of ls found last e b c =
      let k = (Contains-kept f (λ b. hides b.change) ls found e b).0 c in
      of b ((is_near b).0 (last.within b k.0)).0

  -- where a conflicts with none of the last setters, these are the last ones beside a
  pub last_near : (ls : List X) → AreLastOf (map f setters) (map f ls)
      → list_all (λ x. not (in_conflict h a (f x))) ls ≡ true → AreLastOf (map f near) (map f ls)
  last_near ls last t = record {
    within = λ b c. (is_near b).1 (
      last.within b c,
      list_all_true (λ b. not (in_conflict h a b)) (map f ls)
          (list_all-map (λ b. not (in_conflict h a b)) f ls ∙ t) b c,
    );
    last = λ b d c e p. last.last b d c ((is_near d).0 e).0 p;
    others = λ b c. last.others b ((is_near b).0 c).0;
  }

  -- THE HIDINGS BESIDE a
  pub hidings_near : (ls found : List X) → AreLastOf (map f near) (map f ls)
      → found ≡ filter (λ x. hides (f x).change) ls → (o : ObjectId)
      → AreSettersOn h o (map f setters) → (b : Op)
      → Contains (map f found) b ↔ HidesBeside h o a b
  hidings_near ls found last e o on b =
      let is_hiding = Contains-kept f (λ b. hides b.change) ls found e b in (
        λ c.
            let k = is_hiding.0 c in
            let m = (is_near b).0 (last.within b k.0) in
            record {
              setter = (on b).0 m.0;
              hides = change_hides b.change k.1;
              beside = beside_told b m.1;
              last = λ d s n p. last.last b d k.0 ((is_near d).1 ((on d).1 s, beside_from d n)) p;
            },
        λ u.
            let in_near = (is_near b).1 ((on b).1 u.setter, beside_from b u.beside) in
            elim (last.others b in_near) [
              | inl l ↦ is_hiding.1 (l, hides_change b.change u.hides)
              | inr w ↦ let m = (is_near w.0).0 (last.within w.0 w.1) in
                  absurd (u.last w.0 ((on w.0).0 m.0) (beside_told w.0 m.1) w.2)
            ],
      )

-- ---- who knew none of them

pub unknowing_told : {X : Type 0} (f : X → Op) (h : List Op) (o : ObjectId) (seen : BTreeSet OpId)
    (a : Op) (found : List X) → ((b : Op) → Contains (map f found) b ↔ HidesBeside h o a b)
    → is_left_out seen a ≡ true → (b : Bool) → b ≡ list_any (λ x. are_unordered a (f x)) found
    → IsTrue b ↔ IsUnknowing h o seen a
unknowing_told f h o seen a found hide left b e = (
  λ t.
      let w = list_any_true (are_unordered a) (map f found)
      (list_any-map f (are_unordered a) found ∙ (sym e ∙ t)) in
      let apart = unordered_told a w.0 w.2 in
      let beside = (hide w.0).0 w.1 in
      record {
        left_out = left;
        hiding = w.0;
        beside = beside;
        concurrent = record {
          different = none_hides a w.0 (left_none seen a left) beside.hides;
          not_before = apart.0;
          not_after = apart.1;
        };
      },
  λ u. e ∙ (sym (list_any-map f (are_unordered a) found)
      ∙ list_any_from (are_unordered a) (map f found) u.hiding ((hide u.hiding).1 u.beside)
      (unordered_from a u.hiding u.concurrent.not_before u.concurrent.not_after)),
)

-- ---- those of which something holds, one after the other

pub those_none : (P : Op → Type 0) → AreThose P [] []
those_none P a = (λ c. absurd (not_Contains-nil a c), λ m. absurd (not_Contains-nil a m.0))

module _ {X : Type 0} (f : X → Op) (P : Op → Type 0) (ops found : List X) (n : ℕ) (x : X)
    (within : n < length ops) (is : x ≡ get_or ops n x)
    (was : AreThose P (map f (take n ops)) (map f found)) where
  pub those_more : P (f x) → AreThose P (map f (take (n + 1) ops)) (map f (found ++ x ∷ []))
  those_more p = rw (map_more f ops n x within is, map-append f found (x ∷ [])) (λ a. (
    λ c. elim (Contains-push_cases (map f found) (f x) a c) [
      | inl k ↦ let w = (was a).0 k in (
        Contains-append_left (map f (take n ops)) (f x ∷ []) a w.0,
        w.1,
      )
      | inr e ↦ (
        subst (Contains (map f (take n ops) ++ f x ∷ [])) e
            (Contains-push (map f (take n ops)) (f x)),
        subst P e p,
      )
    ],
    λ m. elim (Contains-push_cases (map f (take n ops)) (f x) a m.0) [
      | inl k ↦ Contains-append_left (map f found) (f x ∷ []) a ((was a).1 (k, m.1))
      | inr e ↦ subst (Contains (map f found ++ f x ∷ [])) e (Contains-push (map f found) (f x))
    ],
  ))

  pub those_same : ¬ (P (f x)) → AreThose P (map f (take (n + 1) ops)) (map f found)
  those_same not = rw (map_more f ops n x within is) (λ a. (
    λ c. let w = (was a).0 c in (
      Contains-append_left (map f (take n ops)) (f x ∷ []) a w.0,
      w.1,
    ),
    λ m. elim (Contains-push_cases (map f (take n ops)) (f x) a m.0) [
      | inl k ↦ (was a).1 (k, m.1)
      | inr e ↦ absurd (not (subst P (sym e) m.1))
    ],
  ))
