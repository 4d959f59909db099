-- Two histories of the same operations have the same versions, and so one ranked list.
use Rattle.std.proofs.Common.{◌≡◌, List, [], ◌∷◌, sym, subst, ◌∙◌, refl, inl, inr}
use Rattle.std.specs.Prelude.{AllPairs, Contains, ◌↔◌}
use Rattle.gf_shape.specs.declared.any_shape.AnyShape.{AnyShape}
use Rattle.gf_ops.specs.declared.op.Op.{Op}
use Rattle.gf_ops.specs.declared.op.OpId.{OpId}
use Rattle.gf_ops.specs.declared.op.ObjectId.{ObjectId}
use Rattle.gf_ops.specs.declared.change.Attr.{Attr}
use Rattle.gf_ops.specs.declared.change.Value.{Value}
use Rattle.gf_ops.specs.Aims.{Brings}
use Rattle.gf_ops.specs.Attribute.{Kind}
use Rattle.gf_ops.specs.Conflict.{Conflict}
use Rattle.gf_ops.specs.SettledValue.{IsSettled}
use Rattle.gf_ops.specs.Version.{ConflictsWithin, IsMember, IsVersion}
use Rattle.gf_ops.specs.HasOperation.{HasOn, IsOfKind}
use Rattle.gf_base.proofs.ListLemmas.{Contains-cons_cases, Contains-cons_head, Contains-cons_tail}
use Rattle.gf_base.proofs.ListLemmas.{not_Contains-nil}
use Rattle.gf_versions.specs.declared.key.Version.{Version}
use Rattle.gf_versions.specs.declared.placed.Placed.{Placed}
use Rattle.gf_versions.specs.Above.{IsAbove}
use Rattle.gf_versions.specs.Ranking.{AreRanked, IsPlaced}
use Rattle.gf_versions.specs.VersionOf.{IsVersionOf}
use Rattle.gf_versions.specs.Visible.{IsVisible}
use Rattle.gf_versions.proofs.KeyLemmas.{above_one_way}
use Rattle.gf_versions.proofs.TopLemmas.{head_above, tail_falls}
use Rattle.gf_ops.proofs.ValidityLemmas.{has_beyond}

-- ---- what a history has, one with more operations has too

module _ (h k : List Op) (more : (a : Op) → Contains h a → Contains k a) where
  has_on : (o : ObjectId) (i : OpId) → HasOn h o i → HasOn k o i
  has_on o i = has_beyond h k more

  of_kind : (o : ObjectId) (t : Kind) → IsOfKind h o t → IsOfKind k o t
  of_kind o t = has_beyond h k more

  is_member : (g : List OpId) (a : Op) → IsMember h g a → IsMember k g a
  is_member g a x = record { contained = more a x.contained; grouped = x.grouped }

  brings : (a x : Op) → Brings h a x → Brings k a x
  brings a x b = elim b [
    | inl e ↦ inl e
    | inr m ↦ inr (record { contained = more x m.contained; aimed = m.aimed })
  ]

  conflicts : (a b : Op) → Conflict h a b → Conflict k a b
  conflicts a b c = record {
    first = c.first;
    second = c.second;
    brings_first = brings a c.first c.brings_first;
    brings_second = brings b c.second c.brings_second;
    direct = c.direct;
  }

  clashes : (g : List OpId) (a : Op) → ConflictsWithin (Conflict h) h g a
      → ConflictsWithin (Conflict k) k g a
  clashes g a x = record {
    member = x.member;
    is_member = is_member g x.member x.is_member;
    conflict = conflicts a x.member x.conflict;
  }

-- ---- what speaks of all operations goes over to a history of the same ones

module _ (h k : List Op) (same : (a : Op) → Contains h a ↔ Contains k a) where
  there : (a : Op) → Contains h a → Contains k a
  there a = (same a).0

  back : (a : Op) → Contains k a → Contains h a
  back a = (same a).1

  is_version : (o : ObjectId) (g : List OpId) → IsVersion h o g → IsVersion k o g
  unfolding has_on
  is_version o g x = record {
    rising = x.rising;
    created = has_on h k there o o.0 x.created;
    makes = x.makes;
    members = λ i c. has_on h k there o i (x.members i c);
    compatible = λ a b m n c. x.compatible a b (is_member k h back g a m) (is_member k h back g b n)
        (conflicts k h back a b c);
    largest = λ a c e n. clashes h k there g a (x.largest a (back a c) e n);
  }

  is_settled : (g : List OpId) (t : Attr) (v : Value) → IsSettled h g t v → IsSettled k g t v
  is_settled g t v x = record {
    setter = x.setter;
    member = is_member h k there g x.setter x.member;
    gives = x.gives;
    last = λ b m s. x.last b (is_member k h back g b m) s;
  }

  is_version_of : (v : Version) → IsVersionOf h v → IsVersionOf k v
  is_version_of v x = record {
    version = is_version v.key.object v.key.ops x.version;
    kind = of_kind h k there v.key.object _ x.kind;
    form = is_settled v.key.ops _ _ x.form;
    place = is_settled v.key.ops _ _ x.place;
    colour = is_settled v.key.ops _ _ x.colour;
    layer = is_settled v.key.ops _ _ x.layer;
    shown = is_settled v.key.ops _ _ x.shown;
  }

  is_visible : (v : Version) → IsVisible h v → IsVisible k v
  is_visible v x = record { version = is_version_of v x.version; shown = x.shown }

  is_placed : (i : Placed AnyShape) → IsPlaced h i → IsPlaced k i
  is_placed i x = record {
    version = x.version;
    visible = is_visible x.version x.visible;
    placed = x.placed;
  }

-- ---- two falling lists with the same elements are one

module _ {X : Type 0} (Above : X → X → Type 0) (one_way : (a b : X) → Above a b
    → ¬ (Above b a)) where
  same_head : (x y : X) (xs ys : List X) → AllPairs Above (x ∷ xs) → AllPairs Above (y ∷ ys)
      → Contains (y ∷ ys) x → Contains (x ∷ xs) y → x ≡ y
  same_head x y xs ys s r c d = elim (Contains-cons_cases y ys x c) [
    | inl e ↦ e
    | inr i ↦ elim (Contains-cons_cases x xs y d) [
      | inl e ↦ sym e
      | inr j ↦ absurd (one_way x y (head_above Above x xs s y j) (head_above Above y ys r x i))
    ]
  ]

  in_tail : (x y : X) (xs ys : List X) → AllPairs Above (x ∷ xs) → x ≡ y → (a : X)
      → (Contains (x ∷ xs) a → Contains (y ∷ ys) a) → Contains xs a → Contains ys a
  in_tail x y xs ys s e a f c =
      elim (Contains-cons_cases y ys a (f (Contains-cons_tail x xs a c))) [
        | inl d ↦ let b = subst (Above x) (d ∙ sym e) (head_above Above x xs s a c) in
            absurd (one_way x x b b)
        | inr i ↦ i
      ]

  one_falling : (xs ys : List X) → AllPairs Above xs → AllPairs Above ys
      → ((a : X) → Contains xs a ↔ Contains ys a) → xs ≡ ys
  one_falling [] [] s r f = refl
  one_falling [] (y ∷ ys) s r f = absurd (not_Contains-nil y ((f y).1 (Contains-cons_head y ys)))
  one_falling (x ∷ xs) [] s r f = absurd (not_Contains-nil x ((f x).0 (Contains-cons_head x xs)))
  one_falling (x ∷ xs) (y ∷ ys) s r f =
      let e = same_head x y xs ys s r ((f x).0 (Contains-cons_head x xs))
      ((f y).1 (Contains-cons_head y ys)) in
      let t = one_falling xs ys (tail_falls Above x xs s) (tail_falls Above y ys r)
      (λ a. (in_tail x y xs ys s e a (f a).0, in_tail y x ys xs r (sym e) a (f a).1)) in
      λ i. e i ∷ t i

-- histories of the same operations rank alike
pub ranked_alike : (h k : List Op) → ((a : Op) → Contains h a ↔ Contains k a)
    → (items others : List (Placed AnyShape)) → AreRanked h items → AreRanked k others
    → items ≡ others
ranked_alike h k same items others x y = one_falling (λ i j. IsAbove i.key j.key)
    (λ i j. above_one_way i.key j.key) items others x.falling y.falling (λ i. (
      λ c. (y.exactly i).0 (is_placed h k same i ((x.exactly i).1 c)),
      λ c. (x.exactly i).0 (is_placed k h (λ a. ((same a).1, (same a).0)) i ((y.exactly i).1 c)),
    ))

-- and what ranks one ranks the other
pub ranks_both : (h k : List Op) → ((a : Op) → Contains h a ↔ Contains k a)
    → (items : List (Placed AnyShape)) → AreRanked h items → AreRanked k items
ranks_both h k same items x = record {
  exactly = λ i. (
    λ p. (x.exactly i).0 (is_placed k h (λ a. ((same a).1, (same a).0)) i p),
    λ c. is_placed h k same i ((x.exactly i).1 c),
  );
  falling = x.falling;
}
