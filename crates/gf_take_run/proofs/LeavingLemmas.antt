-- Changes of objects that do not stand in a drawing leave those that do.
use Rattle.std.proofs.Common.{◌≡◌, ◌⊎◌, ℕ, ◌+◌, ◌<◌, ◌≤◌, List, [], ◌∷◌, ◌++◌, ap, get_or, inl, inr}
use Rattle.std.proofs.Common.{arith}
use Rattle.std.specs.BTreeMap.{is_at}
use Rattle.std.proofs.lemmas.Bool.{cases_Bool, cases_lt, cond-false, cond-true}
use Rattle.std.proofs.Common.{subst, sym}
use Rattle.std.proofs.Common.{◌∙◌, length}
use Rattle.std.specs.Prelude.{All, Contains, None, Option, Some, IfSome, cond, slice_get, take}
use Rattle.std.specs.Prelude.{IsSomeAnd}
use Rattle.std.specs.List.{AllZip}
use Rattle.std.proofs.lemmas.List.{take_all, take_more}
use Rattle.std.proofs.lemmas.List.Elements.{All-push, All-weaker, Contains-get_or}
use Rattle.std.proofs.lemmas.List.Elements.{Contains-append_left, Contains-push}
use Rattle.std.proofs.lemmas.List.Elements.{Contains-push_cases}
use Rattle.std.proofs.lemmas.Option.{get_or_from_slice_get, slice_get-get_or, slice_get_within}
use Rattle.std.proofs.lemmas.Slice.Zip.{AllZip-left}
use Rattle.gf_base.proofs.RisingLemmas.{one_rising}
use Rattle.gf_ops.proofs.IdLemmas.{id_cmp_total}
use Rattle.gf_shape.specs.declared.any_shape.AnyShape.{AnyShape}
use Rattle.gf_ops.specs.declared.op.Op.{Op}
use Rattle.gf_ops.specs.declared.op.ObjectId.{ObjectId}
use Rattle.gf_ops.specs.declared.change.Change.{Change}
use Rattle.gf_ops.specs.OperationOrder.{id_cmp}
use Rattle.gf_versions.specs.declared.placed.Placed.{Placed}
use Rattle.gf_versions.specs.Ranking.{AreRanked}
use Rattle.gf_versions.proofs.SameHistoryLemmas.{ranked_alike}
use Rattle.gf_fig_read.specs.Objects.{Drawn}
use Rattle.gf_fig_named.specs.NamedFigures.{AreNamed}
use Rattle.gf_fig_named.specs.NamedText.{IsNameOf}
use Rattle.gf_fig_named.specs.declared.naming.Name.{Name}
use Rattle.gf_fig_named.specs.declared.reading.Named.{Named}
use Rattle.gf_take_run.specs.LeftObjects.{HasOwnFigure, LeavesStanding, StandsIn}
use Rattle.gf_table.specs.Positions.{object_cmp}
use Rattle.gf_table.specs.Standing.{positions_of}
use Rattle.gf_table.proofs.StandsLemmas.{tied_is_one, tied_with_itself}
use Rattle.gf_take_run.specs.LeavingSteps.{AreNamesBelow, HasNoFigure, IsFigureAt, IsMeant}
use Rattle.gf_take_run.specs.ShownItems.{IsOnItem}

zip_at : {A B : Type 0} (Q : A → B → Type 0) (xs : List A) (ys : List B) → AllZip Q xs ys
    → (k : ℕ) (x : A) (y : B) → slice_get xs k ≡ Some x → slice_get ys k ≡ Some y → Q x y
zip_at Q xs ys z k x y ex ey =
    let at : IsSomeAnd (slice_get ys k) (Q x) = rw ex at (AllZip-left Q xs ys z k) in
    rw ey at at

-- what holds of the items so far and of the next one holds of these
pub all_more : {X : Type 0} (P : X → Type 0) (xs : List X) (k : ℕ) (x : X) → k < length xs
    → x ≡ get_or xs k x → All P (take k xs) → P x → All P (take (k + 1) xs)
all_more {X} P xs k x l is all p =
    subst (All P) (sym (take_more xs k x l ∙ ap (λ (b : X). take k xs ++ b ∷ []) (sym is)))
    (All-push P (take k xs) x all p)

-- where none of the first n indices is that of a figure of this name that looks like the item, and
-- the next one is not, none up to this is
pub none_more : (d : Drawn) (names : List (Option Named)) (item : Placed AnyShape) (name : Name)
    (indices : List ℕ) (n : ℕ) → n < length indices
    → ((k : ℕ) → Contains (take n indices) k → ¬ (IsFigureAt d names item name k))
    → ¬ (IsFigureAt d names item name (get_or indices n 0))
    → (k : ℕ) → Contains (take (n + 1) indices) k → ¬ (IsFigureAt d names item name k)
none_more d names item name indices n l before other k m f =
    let p = get_or indices n 0 in
    elim (Contains-push_cases (take n indices) p k
    (subst (λ (ks : List ℕ). Contains ks k) (take_more indices n 0 l) m)) [
      | inl j ↦ before k j f
      | inr e ↦ other (subst (IsFigureAt d names item name) (sym e) f)
    ]

-- the table of the names below n, with the one at n
pub names_more : (names : List (Option Named)) (n : ℕ) (named : Named) → n < length names
    → Some named ≡ get_or names n (Some named) → (t u : List (ObjectId × List ℕ))
    → AreNamesBelow names n t
    → ((o : ObjectId) → positions_of u o ≡ cond (is_at (object_cmp named.name.object) o)
    (positions_of t named.name.object ++ n ∷ []) (positions_of t o))
    → AreNamesBelow names (n + 1) u
names_more names n x l is t u before puts k named less at =
    let o = named.name.object in
    elim (cases_Bool (is_at (object_cmp x.name.object) o)) [
      | inl y ↦
          let own = puts o ∙ cond-true (is_at (object_cmp x.name.object) o)
          (positions_of t x.name.object ++ n ∷ []) (positions_of t o) y in
          subst (λ (ks : List ℕ). Contains ks k) (sym own) (elim (cases_lt k n) [
            | inl below ↦ Contains-append_left (positions_of t x.name.object) (n ∷ []) k
                (subst (λ (q : ObjectId). Contains (positions_of t q) k)
                (sym (tied_is_one x.name.object o y)) (before k named below at))
            | inr last ↦
                let e : n ≡ k = omega arith in
                subst (Contains (positions_of t x.name.object ++ n ∷ [])) e
                (Contains-push (positions_of t x.name.object) n)
          ])
      | inr f ↦
          let other = puts o ∙ cond-false (is_at (object_cmp x.name.object) o)
          (positions_of t x.name.object ++ n ∷ []) (positions_of t o) f in
          subst (λ (ks : List ℕ). Contains ks k) (sym other) (elim (cases_lt k n) [
            | inl below ↦ before k named below at
            | inr last ↦
                let e : k ≡ n = omega arith in
                let there = subst (λ (m : ℕ). slice_get names m ≡ Some (Some named)) e at in
                let one : named ≡ x = same_named names n x named l is there in
                let tied = tied_with_itself x.name.object o
                (ap (λ (z : Named). z.name.object) (sym one)) in
                absurd cc
          ])
    ]
  where
    some_is_one : {X : Type 0} {a b : X} → Some a ≡ Some b → a ≡ b
    some_is_one e = cc

    same_named : (names : List (Option Named)) (n : ℕ) (x named : Named) → n < length names
        → Some x ≡ get_or names n (Some x) → slice_get names n ≡ Some (Some named) → named ≡ x
    same_named names n x named l is at =
        let got : Some (Some named) ≡ Some (Some x) = sym at ∙ (slice_get-get_or names n (Some x) l
        ∙ ap Some (sym is)) in
        some_is_one (some_is_one got)

-- where the one at n has no name, the table is that of the names up to it
pub names_same : (names : List (Option Named)) (n : ℕ) → n < length names
    → None ≡ get_or names n None → (t : List (ObjectId × List ℕ)) → AreNamesBelow names n t
    → AreNamesBelow names (n + 1) t
names_same names n l is t before k named less at = elim (cases_lt k n) [
  | inl below ↦ before k named below at
  | inr last ↦
      let e : k ≡ n = omega arith in
      let there = subst (λ (m : ℕ). slice_get names m ≡ Some (Some named)) e at in
      let got : Some (Some named) ≡ Some None = sym there ∙ (slice_get-get_or names n None l
      ∙ ap Some (sym is)) in
      absurd cc
]

-- a version has one name
name_is_one : (h : List Op) (items : List (Placed AnyShape)) (i : Placed AnyShape) (n m : Name)
    → IsNameOf h items i n → IsNameOf h items i m → n ≡ m
name_is_one h items i n m a b =
    let object : n.object ≡ m.object = a.object ∙ sym b.object in
    let telling : n.telling ≡ m.telling =
    one_rising id_cmp id_cmp_total n.telling m.telling a.telling.rising b.telling.rising (λ j. (
      λ c. (b.telling.exactly j).1 ((a.telling.exactly j).0 c),
      λ c. (a.telling.exactly j).1 ((b.telling.exactly j).0 c),
    )) in
    λ k. record { object = object k; telling = telling k }

module _ (h : List Op) (fig : List ℕ) (d : Drawn) (names : List (Option Named))
    (items : List (Placed AnyShape)) (own : List Name) (ranked : AreRanked h items)
    (named : AllZip (IsNameOf h items) items own) (reads : AreNamed fig d names) where
  -- an object of which a version has no figure does not stand in the drawing
  not_standing : (o : ObjectId) → HasNoFigure d names items own o → ¬ (StandsIn h fig d o)
  not_standing o n s =
      let same : s.items ≡ items = ranked_alike h h (λ a. (λ i. i, λ i. i)) s.items items s.ranked
      ranked in
      let within = slice_get_within items n.index n.item n.at in
      let listed = subst (Contains items) (get_or_from_slice_get items n.index n.item n.item n.at)
      (Contains-get_or items n.index n.item within) in
      let f = subst (λ is. HasOwnFigure h is fig d n.item) same
      (s.each n.item (subst (λ is. Contains is n.item) (sym same) listed) n.object) in
      n.none f.index (record {
        figure = f.figure;
        at = f.at;
        named = f.named;
        named_at = reads f.index f.named f.is_named;
        same = name_is_one h items n.item f.named.name n.name f.is_name
            (zip_at (IsNameOf h items) items own named n.index n.item n.name n.at n.name_at);
        look = f.look;
      })

  left_one : (c : Change) → IsMeant d names items own c → LeavesStanding h fig d c
  left_one c meant o stands e =
      elim (subst (λ m. IfSome m Meant) e meant) [
        | inl none ↦
            let same : stands.items ≡ items = ranked_alike h h (λ a. (λ i. i, λ i. i))
            stands.items items stands.ranked ranked in
            none (record {
              item = stands.some;
              listed = subst (λ is. Contains is stands.some) same stands.listed;
              object = stands.object;
            })
        | inr lacks ↦ not_standing o lacks stands
      ]
    where
      Meant : ObjectId → Type 0
      Meant o = (¬ (IsOnItem items o)) ⊎ HasNoFigure d names items own o

  pub left_all : (ops : List Op) (k : ℕ) → length ops ≤ k
      → All (λ (a : Op). IsMeant d names items own a.change) (take k ops)
      → All (λ (a : Op). LeavesStanding h fig d a.change) ops
  left_all ops k end all =
      let Meant : Op → Type 0 = λ a. IsMeant d names items own a.change in
      let Leaves : Op → Type 0 = λ a. LeavesStanding h fig d a.change in
      All-weaker Meant Leaves (λ (a : Op). left_one a.change) ops
      (subst (All Meant) (take_all k ops end) all)
