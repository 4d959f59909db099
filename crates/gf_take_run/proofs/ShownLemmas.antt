-- Changes of objects that have a version among those that a history shows.
use Rattle.std.proofs.Common.{◌≡◌, ◌≢◌, ◌<◌, ◌≤◌, ◌+◌, ◌∷◌, ◌++◌, ◌∙◌, ℕ, [], ap, get_or, inl, inr}
use Rattle.std.proofs.Common.{length, subst, sym, take}
use Rattle.std.specs.Prelude.{All, Contains, List}
use Rattle.std.specs.BTreeMap.{is_at}
use Rattle.std.specs.Prelude.{cond}
use Rattle.std.proofs.lemmas.Bool.{cases_Bool, cond-false}
use Rattle.std.proofs.lemmas.List.{take_all, take_more}
use Rattle.std.proofs.lemmas.List.Elements.{All-weaker, Contains-push_cases}
use Rattle.gf_shape.specs.declared.any_shape.AnyShape.{AnyShape}
use Rattle.gf_ops.specs.declared.op.Op.{Op}
use Rattle.gf_ops.specs.declared.change.Change.{Change}
use Rattle.gf_ops.specs.declared.change.Change.TheVariants.{Create, Set}
use Rattle.gf_versions.specs.declared.placed.Placed.{Placed}
use Rattle.gf_versions.specs.Ranking.{AreRanked}
use Rattle.gf_take_run.specs.ChangedObjects.{MayChange}
use Rattle.gf_ops.specs.declared.op.ObjectId.{ObjectId}
use Rattle.gf_table.specs.Positions.{object_cmp}
use Rattle.gf_table.specs.Standing.{positions_of}
use Rattle.gf_table.proofs.StandsLemmas.{tied_is_one}
use Rattle.gf_fig_named.specs.Places.{ArePlaces}
use Rattle.gf_fig_named.proofs.LackedLemmas.{at_index}
use Rattle.gf_take_run.specs.ChangedObjects.{NamesObject}
use Rattle.gf_take_run.specs.ShownItems.{HasNamesOf, IsOnItem, IsOnOne}

pub on_shown : (h : List Op) (items : List (Placed AnyShape)) (fig : List ℕ) → AreRanked h items
    → (c : Change) → IsOnOne items fig c → MayChange h fig c
on_shown h items fig ranked (Create start) on = tt
on_shown h items fig ranked (Set o v aim) (inr named) = inr named
on_shown h items fig ranked (Set o v aim) (inl on) = inl (record {
  item = on.item;
  placed = (ranked.exactly on.item).1 on.listed;
  object = on.object;
})

pub all_on_shown : (h : List Op) (items : List (Placed AnyShape)) (fig : List ℕ)
    → AreRanked h items → (ops : List Op) (k : ℕ) → length ops ≤ k
    → All (λ (a : Op). IsOnOne items fig a.change) (take k ops)
    → All (λ (a : Op). MayChange h fig a.change) ops
all_on_shown h items fig ranked ops k end all =
    let On : Op → Type 0 = λ a. IsOnOne items fig a.change in
    let May : Op → Type 0 = λ a. MayChange h fig a.change in
    All-weaker On May (λ (a : Op). on_shown h items fig ranked a.change) ops
    (subst (All On) (take_all k ops end) all)

-- ---- an object that has no version at its places

module _ (items : List (Placed AnyShape)) (places : List ℕ) (o : ObjectId) where
  -- none of the items at the first n places is of the object
  abbrev pub HasNoneAt : ℕ → Type 0
  HasNoneAt n = (i : Placed AnyShape) (k : ℕ) → Contains (take n places) k
      → i ≡ get_or items k i → i.key.object ≢ o

  -- nor is the next one
  pub none_at_more : (n : ℕ) (item : Placed AnyShape) → n < length places
      → get_or places n 0 < length items → item ≡ get_or items (get_or places n 0) item
      → HasNoneAt n → item.key.object ≢ o → HasNoneAt (n + 1)
  none_at_more n item l within is before other i k m at e =
      let p = get_or places n 0 in
      elim (Contains-push_cases (take n places) p k
      (subst (λ (ks : List ℕ). Contains ks k) (take_more places n 0 l) m)) [
        | inl j ↦ before i k j at e
        | inr q ↦
            let same = at_index items p k item i q within is at in
            other (ap (λ (x : Placed AnyShape). x.key.object) same ∙ e)
      ]

  -- so the items have no version of it
  pub none_at_all : (table : List (ObjectId × List ℕ)) → ArePlaces items (length items) table
      → places ≡ positions_of table o → (n : ℕ) → length places ≤ n → HasNoneAt n
      → ¬ (IsOnItem items o)
  none_at_all table are same n end before on =
      let (k, l, at) = on.listed in
      let there = subst (λ (q : ObjectId). Contains (positions_of table q) k) on.object
      (are.each k on.item l (sym at)) in
      before on.item k (subst (λ (ks : List ℕ). Contains ks k) (sym same ∙ sym (take_all n places end))
      there) (sym at) on.object

-- ---- objects that lines name

-- the table with one more name, whose line is there
pub named_more : (fig : List ℕ) (x : ObjectId) (n : ℕ) (t u : List (ObjectId × List ℕ))
    → ((o : ObjectId) → positions_of u o ≡ cond (is_at (object_cmp x) o)
    (positions_of t x ++ n ∷ []) (positions_of t o))
    → HasNamesOf fig t → NamesObject fig x → HasNamesOf fig u
named_more fig x n t u puts before named o some =
    elim (cases_Bool (is_at (object_cmp x) o)) [
      | inl y ↦ subst (NamesObject fig) (tied_is_one x o y) named
      | inr f ↦ before o (λ e. some (puts o
          ∙ (cond-false (is_at (object_cmp x) o) (positions_of t x ++ n ∷ []) (positions_of t o) f
          ∙ e)))
    ]
