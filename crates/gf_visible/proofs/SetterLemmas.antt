-- What the operations at positions say of `Shown`: setters agree where they are compatible and
-- neither is later.
use Rattle.std.proofs.Common.{◌≡◌, ◌≢◌, ℕ, Bool, true, false, List, inl, inr, refl, subst, sym, ap}
use Rattle.std.proofs.Common.{◌∙◌}
use Rattle.std.specs.Prelude.{◌⊎◌, Option, Some, None, IsSome, option_map, slice_get, unwrap_or}
use Rattle.std.specs.Option.{is_some}
use Rattle.std.proofs.lemmas.Bool.{and_parts, and_from}
use Rattle.gf_ops.specs.declared.op.Op.{Op}
use Rattle.gf_ops.specs.declared.op.ObjectId.{ObjectId}
use Rattle.gf_ops.specs.declared.change.Change.{Change}
use Rattle.gf_ops.specs.declared.change.Change.TheVariants.{Create, Set}
use Rattle.gf_ops.specs.declared.change.Value.{Value}
use Rattle.gf_ops.specs.declared.change.Value.TheVariants as value
use Rattle.gf_ops.specs.declared.change.Attr.TheVariants as attr
use Rattle.gf_ops.specs.Attribute.{change_value}
use Rattle.gf_ops.specs.OperationOrder.{Precedes}
use Rattle.gf_ops.specs.DirectConflict.{DirectConflict}
use Rattle.gf_ops.specs.ValidHistory.{IsValid}
use Rattle.gf_ops.proofs.ConflictLemmas.{conflict_direct}
use Rattle.gf_table.specs.Positions.{is_on}
use Rattle.gf_groups.specs.Growing.{conflict_at}
use Rattle.gf_groups.proofs.ConflictTestLemmas.{before_decided}
use Rattle.gf_groups.proofs.OnPositionLemmas.{conflict_from, on_from}
use Rattle.gf_groups.specs.Growing.{both_before}
use Rattle.gf_classes.specs.Hiding.{shown_by}
use Rattle.gf_visible.specs.ShownAt.{op_says, said_at, shows_or_hides_at}
use Rattle.gf_visible.specs.ShownAt.{shows_at, later_at}

-- ---- one operation

-- what an operation says of `Shown` is what it gives to it
pub same_given : (c : Change) → change_value c attr.Shown ≡ option_map value.Shown (shown_by c)
same_given (Create start) = refl
same_given (Set o (value.Shown b) aim) = refl
same_given (Set o (value.Place p) aim) = refl
same_given (Set o (value.Points ps) aim) = refl
same_given (Set o (value.Size w h) aim) = refl
same_given (Set o (value.Colour c) aim) = refl
same_given (Set o (value.Layer n) aim) = refl

shown_in : Option Value → Bool
shown_in (Some (value.Shown b)) = b
shown_in v = false

pub shown_once : (x y : Bool) → value.Shown x ≡ value.Shown y → x ≡ y
unfolding shown_in
shown_once x y e = ap (λ v. shown_in (Some v)) e

pub value_from : (x : Bool) (r : Option Bool) → option_map value.Shown r ≡ Some (value.Shown x)
    → r ≡ Some x
unfolding shown_in
value_from x (Some b) e = ap (λ y. Some y) (ap shown_in e)
value_from x None e = absurd cc

pub said_from : (r : Option Bool) → IsSome (option_map value.Shown r) → is_some r ≡ true
said_from (Some b) e = refl
said_from None e = e

pub said_to : (r : Option Bool) → is_some r ≡ true → IsSome (option_map value.Shown r)
said_to (Some b) e = refl
said_to None e = absurd cc

said_value : (r : Option Bool) → is_some r ≡ true → (x : Bool) × (r ≡ Some x)
said_value (Some b) e = (b, refl)
said_value None e = absurd cc

yes_value : (r : Option Bool) → unwrap_or r false ≡ true → r ≡ Some true
yes_value (Some b) e = ap (λ x. Some x) e
yes_value None e = absurd cc

two_bools : (x y : Bool) → (x ≡ y) ⊎ (x ≢ y)
two_bools true true = inl refl
two_bools false false = inl refl
two_bools true false = inr (λ e. cc)
two_bools false true = inr (λ e. cc)

-- ---- an operation at a position

-- a stands there and says x of its object
abbrev pub Says : Option Op → Bool → Type 0
Says r x = (a : Op) × (r ≡ Some a) × (shown_by a.change ≡ Some x)

op_said : (r : Option Op) (x : Bool) → op_says r ≡ Some x → Says r x
op_said (Some a) x e = (a, refl, e)
op_said None x e = absurd cc

-- the operations stand there, and the first comes before the second
abbrev pub Told : Option Op → Option Op → Type 0
Told r q = (a : Op) × (b : Op) × (r ≡ Some a) × (q ≡ Some b) × Precedes a b

both_told : (r q : Option Op) → both_before r q ≡ true → Told r q
both_told (Some a) (Some b) t = (a, b, refl, refl, (before_decided a b).0 t)
both_told (Some a) None t = absurd cc
both_told None (Some b) t = absurd cc
both_told None None t = absurd cc

both_from : (r q : Option Op) (a b : Op) → r ≡ Some a → q ≡ Some b → Precedes a b
    → both_before r q ≡ true
both_from r q a b e f p = rw (e, f) ((before_decided a b).1 p)

pub one_op : (r : Option Op) (a b : Op) → r ≡ Some a → r ≡ Some b → a ≡ b
one_op r a b e f = cc

module _ (h : List Op) where
  pub says : (i : ℕ) → shows_or_hides_at h i ≡ true → (x : Bool) × Says (slice_get h i) x
  says i y = let v = said_value (said_at h i) y in (v.0, op_said (slice_get h i) v.0 v.1)

  pub says_yes : (i : ℕ) → shows_at h i ≡ true → Says (slice_get h i) true
  says_yes i y = op_said (slice_get h i) true (yes_value (said_at h i) y)

  pub said_op : (i : ℕ) (a : Op) (r : Option Bool) → slice_get h i ≡ Some a → shown_by a.change ≡ r
      → said_at h i ≡ r
  said_op i a r e f = ap op_says e ∙ f

  pub setter_shows : (i : ℕ) → shows_at h i ≡ true → shows_or_hides_at h i ≡ true
  setter_shows i y = ap (λ (r : Option Bool). is_some r) (yes_value (said_at h i) y)

  pub setter_later : (i j : ℕ) → later_at h i j ≡ true → shows_or_hides_at h j ≡ true
  setter_later i j y = (and_parts (shows_or_hides_at h j)
      (both_before (slice_get h i) (slice_get h j)) y).0

  pub told : (i j : ℕ) → later_at h i j ≡ true → Told (slice_get h i) (slice_get h j)
  told i j y = both_told (slice_get h i) (slice_get h j)
      (and_parts (shows_or_hides_at h j) (both_before (slice_get h i) (slice_get h j)) y).1

  pub from_told : (i j : ℕ) (a b : Op) → slice_get h i ≡ Some a → slice_get h j ≡ Some b
      → shows_or_hides_at h j ≡ true → Precedes a b → later_at h i j ≡ true
  from_told i j a b e f s p = and_from (shows_or_hides_at h j)
      (both_before (slice_get h i) (slice_get h j)) s (both_from (slice_get h i) (slice_get h j) a b
      e f p)

module _ (h : List Op) (valid : IsValid h) where
  -- setters of one object that are compatible and neither of which is later say the same
  pub agree_at : (o : ObjectId) (i j : ℕ) → is_on o (slice_get h i) ≡ true
      → is_on o (slice_get h j) ≡ true → conflict_at h i j ≡ false → shows_or_hides_at h i ≡ true
      → shows_or_hides_at h j ≡ true → later_at h i j ≡ false → later_at h j i ≡ false
      → shows_at h i ≡ shows_at h j
  agree_at o i j on_i on_j calm set_i set_j no_i no_j =
      let x = says h i set_i in
      let y = says h j set_j in
      let a = x.1.0 in
      let b = y.1.0 in
      let same : x.0 ≡ y.0 → shows_at h i ≡ shows_at h j = λ e.
      ap (λ (r : Option Bool). unwrap_or r false) (said_op h i a (Some x.0) x.1.1 x.1.2
      ∙ (ap (λ z. Some z) e ∙ sym (said_op h j b (Some y.0) y.1.1 y.1.2))) in
      elim (two_bools x.0 y.0) [
        | inl e ↦ same e
        | inr n ↦
            let k : DirectConflict a b = record {
              concurrent = record {
                different = λ e.
                    let says : shown_by a.change ≡ shown_by b.change = ap
                    (λ (z : Op). shown_by z.change) e in
                    n (one_value (shown_by a.change) (shown_by b.change) x.0 y.0 says x.1.2 y.1.2);
                not_before = λ p. no_later no_i (from_told h i j a b x.1.1 y.1.1 set_j p);
                not_after = λ p. no_later no_j (from_told h j i b a y.1.1 x.1.1 set_i p);
              };
              one_object = on_from o a (subst (λ r. is_on o r ≡ true) x.1.1 on_i)
                  ∙ sym (on_from o b (subst (λ r. is_on o r ≡ true) y.1.1 on_j));
              apart = record {
                attribute = attr.Shown;
                first = value.Shown x.0;
                second = value.Shown y.0;
                first_given = same_given a.change ∙ ap (λ r. option_map value.Shown r) x.1.2;
                second_given = same_given b.change ∙ ap (λ r. option_map value.Shown r) y.1.2;
                differ = λ e. n (shown_once x.0 y.0 e);
              };
            } in
            absurd (no_later calm (conflict_from h valid i j a b x.1.1 y.1.1
            (conflict_direct h a b k)))
      ]
    where
      no_later : {b : Bool} → b ≡ false → b ≡ true → ⊥
      no_later p q = cc

      one_value : (r q : Option Bool) (x y : Bool) → r ≡ q → r ≡ Some x → q ≡ Some y → x ≡ y
      one_value r q x y e f g = cc
