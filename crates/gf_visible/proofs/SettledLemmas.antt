-- The settled value of `Shown` is what a last setter gives.
use Rattle.std.proofs.Common.{◌≡◌, ℕ, Bool, true, false, List, inl, inr, refl, subst, sym, ap, ◌∙◌}
use Rattle.std.specs.Prelude.{Contains, Option, Some, IsSome, option_map, slice_get, unwrap_or}
use Rattle.std.specs.Option.{is_some}
use Rattle.std.proofs.lemmas.Bool.{cases_Bool}
use Rattle.gf_ops.specs.declared.op.Op.{Op}
use Rattle.gf_ops.specs.declared.change.Value.{Value}
use Rattle.gf_ops.specs.declared.change.Value.TheVariants as value
use Rattle.gf_ops.specs.declared.change.Attr.TheVariants as attr
use Rattle.gf_ops.specs.OperationOrder.{Precedes}
use Rattle.gf_ops.specs.SettledValue.{IsSettled}
use Rattle.gf_ops.specs.ValidHistory.{IsValid}
use Rattle.gf_ops.specs.Version.{IsMember}
use Rattle.gf_ops.proofs.ValidityLemmas.{same_op}
use Rattle.gf_groups.specs.GroupedPositions.{rising_ids}
use Rattle.gf_groups.proofs.IdPositionLemmas.{Contains-rising_ids}
use Rattle.gf_base.proofs.PositionLemmas.{contained_at}
use Rattle.gf_classes.specs.Hiding.{shown_by}
use Rattle.gf_visible.specs.ShownAt.{said_at, shows_or_hides_at, later_at}
use Rattle.gf_visible.specs.ShownSets.{ShowsSomewhere}
use Rattle.gf_visible.proofs.SetterLemmas.{same_given, value_from, said_from, said_to, says_yes}
use Rattle.gf_visible.proofs.SetterLemmas.{said_op, setter_later, told, from_told, one_op}

module _ (h : List Op) (valid : IsValid h) (g : List ℕ) where
  -- a member of the group with its position
  pub record At (b : Op) : Type 0 where
    pub position : ℕ
    pub within : Contains g position
    pub at : slice_get h position ≡ Some b

  position_of : (b : Op) → IsMember h (rising_ids h g) b → At b
  position_of b m =
      let t = (Contains-rising_ids h g b.id).0 m.grouped in
      let e : t.op ≡ b = same_op h valid t.op b (contained_at h t.position t.op t.at) m.contained
      t.id in
      record { position = t.position; within = t.contained; at = t.at ∙ ap (λ (z : Op). Some z) e }

  member_at : (i : ℕ) (a : Op) → Contains g i → slice_get h i ≡ Some a
      → IsMember h (rising_ids h g) a
  member_at i a c e = record {
    contained = contained_at h i a e;
    grouped = (Contains-rising_ids h g a.id).1
        (record { position = i; op = a; contained = c; at = e; id = refl });
  }

  -- where a last setter of the group shows, the settled value is that it shows
  pub to_settled : ShowsSomewhere h g → IsSettled h (rising_ids h g) attr.Shown (value.Shown true)
  to_settled w =
      let s = says_yes h w.last w.given in
      record {
        setter = s.0;
        member = member_at w.last s.0 w.within s.1;
        gives = same_given s.0.change ∙ ap (λ r. option_map value.Shown r) s.2;
        last = λ b m gives p.
            let t = position_of b m in
            let said : is_some (shown_by b.change) ≡ true = said_from (shown_by b.change)
            (subst (λ (o : Option Value). IsSome o) (same_given b.change) gives) in
            let set : shows_or_hides_at h t.position ≡ true = ap (λ (r : Option Bool). is_some r)
            (said_op h t.position b (shown_by b.change) t.at refl) ∙ said in
            let y = from_told h w.last t.position s.0 b s.1 t.at set p in
            let n = w.none t.position t.within in
            absurd cc;
      }

  -- one of the group that no setter of the group comes after says b
  pub record LastSays (b : Bool) : Type 0 where
    pub last : ℕ
    pub within : Contains g last
    pub given : said_at h last ≡ Some b
    pub none : (j : ℕ) → Contains g j → later_at h last j ≡ false

  -- what is settled is what a last setter says
  pub last_from : (b : Bool) → IsSettled h (rising_ids h g) attr.Shown (value.Shown b) → LastSays b
  last_from b w =
      let t = position_of w.setter w.member in
      let said_b = value_from b (shown_by w.setter.change) (sym (same_given w.setter.change)
      ∙ w.gives) in
      record {
        last = t.position;
        within = t.within;
        given = said_op h t.position w.setter (Some b) t.at said_b;
        none = λ j c. elim (cases_Bool (later_at h t.position j)) [
          | inl y ↦
              let k = told h t.position j y in
              let e : k.0 ≡ w.setter = one_op (slice_get h t.position) k.0 w.setter k.2 t.at in
              let before : Precedes w.setter k.1 = subst (λ (z : Op). Precedes z k.1) e k.4 in
              let said : is_some (shown_by k.1.change) ≡ true = ap (λ (r : Option Bool). is_some r)
              (sym (said_op h j k.1 (shown_by k.1.change) k.3 refl))
              ∙ setter_later h t.position j y in
              absurd (w.last k.1 (member_at j k.1 c k.3)
              (subst (λ (o : Option Value). IsSome o) (sym (same_given k.1.change))
              (said_to (shown_by k.1.change) said)) before)
          | inr n ↦ n
        ];
      }

  -- and back
  pub from_settled : IsSettled h (rising_ids h g) attr.Shown (value.Shown true) → ShowsSomewhere h g
  from_settled w = let l = last_from true w in record {
    last = l.last;
    within = l.within;
    given = ap (λ (r : Option Bool). unwrap_or r false) l.given;
    none = l.none;
  }
