-- Behind what keeps some versions, the visible ones are these.
--
-- A new operation knows all before it, so its conflicts come from its aim, which is of one kept
-- version. So a kept version is compatible with the operation that hides it and the one that shows
-- it.
-- With these two the version is largest, as another showing aims at what tells another version.
-- A visible version has a showing and holds its aim, so it is a kept version.
use Rattle.std.proofs.Common.{◌≡◌, ◌≢◌, true, false, List, [], ◌∷◌, ◌++◌, refl, sym, subst, ap, ◌∙◌}
use Rattle.std.proofs.Common.{arith, inl, inr}
use Rattle.std.specs.Prelude.{◌⊎◌, ◌↔◌, AllPairs, Contains, Some, IsSome}
use Rattle.std.specs.List.{AllZip}
use Rattle.std.specs.List.Sorted.{IsStrictlySortedBy}
use Rattle.std.proofs.lemmas.List.Elements.{Contains-append_cases, Contains-append_left}
use Rattle.std.proofs.lemmas.List.Elements.{Contains-append_right}
use Rattle.gf_base.proofs.ListLemmas.{Contains-cons_cases, Contains-cons_head, Contains-cons_tail}
use Rattle.gf_base.proofs.ListLemmas.{not_Contains-nil}
use Rattle.gf_ops.specs.declared.op.Op.{Op}
use Rattle.gf_ops.specs.declared.op.OpId.{OpId}
use Rattle.gf_ops.specs.declared.op.ObjectId.{ObjectId}
use Rattle.gf_ops.specs.declared.change.Attr.TheVariants as attr
use Rattle.gf_ops.specs.declared.change.Change.{Change}
use Rattle.gf_ops.specs.declared.change.Value.TheVariants.{Shown}
use Rattle.gf_ops.specs.Aims.{AimsAt, Brings}
use Rattle.gf_ops.specs.Attribute.{aim_of, change_aim, change_value, changed_object, object_of}
use Rattle.gf_ops.specs.Attribute.{value_given}
use Rattle.gf_ops.specs.Conflict.{Conflict}
use Rattle.gf_ops.specs.DirectConflict.{DirectConflict}
use Rattle.gf_ops.specs.OperationOrder.{Precedes, id_cmp}
use Rattle.gf_ops.specs.SettledValue.{IsSettled}
use Rattle.gf_ops.specs.ValidHistory.{IsValid}
use Rattle.gf_ops.specs.Version.{IsMember, IsVersion, ConflictsWithin}
use Rattle.gf_ops.specs.HasOperation.{HasOn}
use Rattle.gf_ops.proofs.ConflictLemmas.{conflict_direct, conflict_carried, version_holds_aims}
use Rattle.gf_ops.proofs.DirectConflictLemmas.{direct-sym}
use Rattle.gf_ops.proofs.HistoryLemmas.{seq_in_range, site_in_range}
use Rattle.gf_ops.proofs.ValidityLemmas.{precedes_irreflexive, precedes_transitive, same_op, has_beyond}
use Rattle.gf_groups.specs.declared.group.Group.{Group}
use Rattle.gf_names.proofs.OneVersionLemmas.{brought, listed_or_not, one_is_last, one_version}
use Rattle.gf_keep.specs.Keeping.{IsMark, IsShowing, hiding}
use Rattle.gf_keep.proofs.PairedLemmas.{Paired, paired_left, paired_right, paired_holds, some_left}
use Rattle.gf_keep.proofs.PairedLemmas.{one_right}

-- all of the ids are among others, or one is not
all_or_one : (ids others : List OpId) → ((i : OpId) → Contains ids i → Contains others i)
    ⊎ ((i : OpId) × Contains ids i × (¬ (Contains others i)))
all_or_one [] others = inl (λ i c. absurd (not_Contains-nil i c))
all_or_one (j ∷ js) others = elim (listed_or_not others j) [
  | inl d ↦ elim (all_or_one js others) [
    | inl f ↦ inl (λ i c. elim (Contains-cons_cases j js i c)
        [ inl e ↦ subst (Contains others) (sym e) d | inr k ↦ f i k ])
    | inr w ↦ inr (w.0, Contains-cons_tail j js w.0 w.1, w.2)
  ]
  | inr out ↦ inr (j, Contains-cons_head j js, out)
]

mark_in : (h : List Op) (g : Group) (i : OpId) → IsMark h g i → Contains g.ops i
mark_in h g i t = subst (Contains g.ops) t.id t.last.member.grouped

-- a showing aims at operations of its group
pub showing_in : (h : List Op) → IsValid h → (o : ObjectId) (g : Group) → IsVersion h o g.ops
    → (x : Op) → IsShowing h g x.change → (i : OpId) → Contains (aim_of x) i → Contains g.ops i
showing_in h valid o g version x s i c =
    elim ((s.aims.exactly i).0 (subst (λ (is : List OpId). Contains is i) (ap change_aim s.is) c)) [
      | inl t ↦ mark_in h g i t
      | inr w ↦ version_holds_aims h valid o g.ops version w.op
          (record { contained = w.contained; grouped = mark_in h g w.op.id w.mark }) i w.aimed
    ]

hide_false : ¬ (Some (Shown false) ≡ Some (Shown true))
hide_false e = absurd cc

-- h with the new operations behind it: one that hides the object o, and those that show groups
module _ (h : List Op) (hide : Op) (shows : List Op) (valid : IsValid h)
    (whole : IsValid (h ++ hide ∷ shows)) (o : ObjectId) (groups : List Group)
    (hides : hide.change ≡ hiding o) (each : AllZip (λ (g : Group) (x : Op). IsShowing h g x.change)
    groups shows)
    (versions : (g : Group) → Contains groups g → (g.object ≡ o) × IsVersion h o g.ops)
    (once : AllPairs (λ (g k : Group). g ≢ k) groups)
    (known : (b x : Op) → Contains h b → Contains (hide ∷ shows) x → Precedes b x) (first : (x : Op)
    → Contains shows x → Precedes hide x)
    (calm : (x y : Op) → Contains (hide ∷ shows) x → Contains (h ++ hide ∷ shows) y
    → ¬ (DirectConflict x y)) where
  abbrev new : List Op
  new = hide ∷ shows

  abbrev all : List Op
  all = h ++ hide ∷ shows

  old : (x : Op) → Contains h x → Contains all x
  old x i = Contains-append_left h new x i

  later : (x : Op) → Contains new x → Contains all x
  later x i = Contains-append_right h new x i

  hidden : Contains new hide
  hidden = Contains-cons_head hide shows

  shown : (x : Op) → Contains shows x → Contains new x
  shown x i = Contains-cons_tail hide shows x i

  old_by_id : (x y : Op) → Contains all x → Contains h y → x.id ≡ y.id → Contains h x
  old_by_id x y i j e = subst (Contains h) (sym (same_op all whole x y i (old y j) e)) j

  hide_object : object_of hide ≡ o
  hide_object = ap (changed_object hide.id) hides

  hide_aim : aim_of hide ≡ []
  hide_aim = ap change_aim hides

  abbrev Shows : Group → Op → Type 0
  Shows g x = Paired groups shows g x

  showing : (g : Group) (x : Op) → Shows g x → IsShowing h g x.change
  showing g x p = paired_holds (λ (g : Group) (x : Op). IsShowing h g x.change) groups shows g x
      each p

  listed : (g : Group) (x : Op) → Shows g x → Contains groups g
  listed g x p = paired_left groups shows g x p

  is_new : (g : Group) (x : Op) → Shows g x → Contains new x
  is_new g x p = shown x (paired_right groups shows g x p)

  show_object : (g : Group) (x : Op) → Shows g x → object_of x ≡ o
  show_object g x p = ap (changed_object x.id) (showing g x p).is ∙ (versions g (listed g x p)).0

  module _ (g : Group) (x : Op) (p : Shows g x) where
    abbrev version : IsVersion h o g.ops
    version = (versions g (listed g x p)).1

    aims : aim_of x ≡ (showing g x p).aim
    aims = ap change_aim (showing g x p).is

    -- the showing aims at operations of its group, among them what tells it
    aim_in : (i : OpId) → Contains (aim_of x) i → Contains g.ops i
    aim_in = showing_in h valid o g version x (showing g x p)

    aims_at_marks : (i : OpId) → IsMark h g i → Contains (aim_of x) i
    aims_at_marks i t = subst (λ (is : List OpId). Contains is i) (sym aims)
        (((showing g x p).aims.exactly i).1 (inl t))

    -- a member of the group by its id
    member_by : (y : Op) → Contains all y → Contains g.ops y.id → IsMember h g.ops y
    member_by y i c = let on = version.members y.id c in record {
      contained = old_by_id y on.op i on.contained (sym on.id);
      grouped = c;
    }

  -- ---- what an operation brings

  brings_old : (a x : Op) → Contains h a → Brings all a x → Brings h a x
  brings_old a x i b = elim b [
    | inl e ↦ inl e
    | inr t ↦ let m = ((valid.aimed a i).each x.id t.aimed).on in
        inr (record {
          contained = old_by_id x m.op t.contained m.contained (sym m.id);
          aimed = t.aimed;
        })
  ]

  brings_up : (a x : Op) → Brings h a x → Brings all a x
  brings_up a x b = elim b [
    | inl e ↦ inl e
    | inr t ↦ inr (record { contained = old x t.contained; aimed = t.aimed })
  ]

  brings_there : (a x : Op) → Contains all a → Brings all a x → Contains all x
  brings_there a x i b = elim b [ inl e ↦ subst (Contains all) (sym e) i | inr t ↦ t.contained ]

  conflict_up : (a b : Op) → Conflict h a b → Conflict all a b
  conflict_up a b c = record {
    first = c.first;
    second = c.second;
    brings_first = brings_up a c.first c.brings_first;
    brings_second = brings_up b c.second c.brings_second;
    direct = c.direct;
  }

  hide_brings : (x : Op) → Brings all hide x → x ≡ hide
  hide_brings x b = elim b [
    | inl e ↦ e
    | inr t ↦ absurd (not_Contains-nil x.id (subst (λ (is : List OpId). Contains is x.id) hide_aim
        t.aimed))
  ]

  calm_back : (x y : Op) → Contains all x → Contains new y → ¬ (DirectConflict x y)
  calm_back x y i j d = calm y x j i (direct-sym x y d)

  -- what hides conflicts with nothing
  hide_calm : (m : Op) → Contains all m → ¬ (Conflict all hide m)
  hide_calm m i c = calm c.first c.second
      (subst (Contains new) (sym (hide_brings c.first c.brings_first)) hidden)
      (brings_there m c.second i c.brings_second) c.direct

  -- of two operations only one comes before the other
  never_both : (a b : Op) → Contains all a → Contains all b → Precedes a b → ¬ (Precedes b a)
  never_both a b i j l k =
      let r = whole.in_range a i in
      let t = whole.in_range b j in
      precedes_irreflexive all whole a i
      (precedes_transitive all whole a b a j i (site_in_range a r) (site_in_range b t)
      (seq_in_range b t).0 l k)

  -- ---- a group with what hides and what shows it

  module _ (g : Group) (show : Op) (p : Shows g show) where
    -- a member of the group, or new
    abbrev IsInside : Op → Type 0
    IsInside a = IsMember h g.ops a ⊎ ((a ≡ hide) ⊎ (a ≡ show))

    inside_there : (a : Op) → IsInside a → Contains all a
    inside_there a w = elim w [
      | inl m ↦ old a m.contained
      | inr v ↦ elim v [
        | inl e ↦ later a (subst (Contains new) (sym e) hidden)
        | inr e ↦ later a (subst (Contains new) (sym e) (is_new g show p))
      ]
    ]

    inside_brings : (a x : Op) → IsInside a → Brings all a x → IsMember h g.ops x ⊎ Contains new x
    inside_brings a x w b = elim w [
      | inl m ↦ inl (brought h valid o g.ops (version g show p) a x m
          (brings_old a x m.contained b))
      | inr v ↦ elim v [
        | inl e ↦ inr (subst (Contains new)
            (sym (hide_brings x (subst (λ (y : Op). Brings all y x) e b))) hidden)
        | inr e ↦ elim b [
          | inl f ↦ inr (subst (Contains new) (sym (f ∙ e)) (is_new g show p))
          | inr t ↦ inl (member_by g show p x t.contained
              (aim_in g show p x.id (subst (λ (y : Op). Contains (aim_of y) x.id) e t.aimed)))
        ]
      ]
    ]

    inside_calm : (a b : Op) → IsInside a → IsInside b → ¬ (Conflict all a b)
    inside_calm a b v w c =
        let x = c.first in
        let y = c.second in
        let there = brings_there a x (inside_there a v) c.brings_first in
        let other = brings_there b y (inside_there b w) c.brings_second in
        elim (inside_brings a x v c.brings_first) [
          | inr i ↦ calm x y i other c.direct
          | inl m ↦ elim (inside_brings b y w c.brings_second) [
            | inr j ↦ calm_back x y there j c.direct
            | inl n ↦ (version g show p).compatible x y m n (conflict_direct h x y c.direct)
          ]
        ]

    -- another showing aims at something that this group has not
    pub other_shows : (k : Group) (x : Op) → Shows k x
        → (x ≡ show) ⊎ ((i : OpId) × Contains (aim_of x) i × (¬ (Contains g.ops i)))
    other_shows k x q = elim (all_or_one (aim_of x) g.ops) [
      | inl f ↦
          let ops = one_version h valid o k.ops g.ops (version k x q) (version g show p)
          (λ y c m l. f c.id (aims_at_marks k x q c.id (record {
            op = c;
            id = refl;
            against = y;
            other = record {
              contained = m.contained;
              object = let on = (version g show p).members y.id m.grouped in
                  ap object_of (same_op h valid y on.op m.contained on.contained (sym on.id))
                  ∙ on.such ∙ sym (versions k (listed k x q)).0;
            };
            last = l;
          }))) in
          let object = (versions k (listed k x q)).0 ∙ sym (versions g (listed g show p)).0 in
          let same : k ≡ g = λ i. record { object = object i; ops = ops i } in
          inl (one_right groups shows k g x show once q p same)
      | inr w ↦ inr w
    ]

    module _ (ids : List OpId) (exactly : (i : OpId)
        → Contains ids i ↔ (Contains g.ops i ⊎ ((i ≡ hide.id) ⊎ (i ≡ show.id)))) where
      inside : (a : Op) → IsMember all ids a → IsInside a
      inside a m = elim ((exactly a.id).0 m.grouped) [
        | inl c ↦ inl (member_by g show p a m.contained c)
        | inr v ↦ elim v [
          | inl e ↦ inr (inl (same_op all whole a hide m.contained (later hide hidden) e))
          | inr e ↦ inr (inr (same_op all whole a show m.contained (later show (is_new g show p))
              e))
        ]
      ]

      member_up : (a : Op) → IsMember h g.ops a → IsMember all ids a
      member_up a m = record {
        contained = old a m.contained;
        grouped = (exactly a.id).1 (inl m.grouped);
      }

      conflicts_up : (a : Op) → ConflictsWithin (Conflict h) h g.ops a
          → ConflictsWithin (Conflict all) all ids a
      conflicts_up a w = record {
        member = w.member;
        is_member = member_up w.member w.is_member;
        conflict = conflict_up a w.member w.conflict;
      }

      largest_old : (a : Op) → Contains h a → object_of a ≡ o → ¬ (Contains ids a.id)
          → ConflictsWithin (Conflict all) all ids a
      largest_old a i on out = conflicts_up a
          ((version g show p).largest a i on (λ c. out ((exactly a.id).1 (inl c))))

      largest_show : (k : Group) (x : Op) → Shows k x → ¬ (Contains ids x.id)
          → ConflictsWithin (Conflict all) all ids x
      largest_show k x q out = elim (other_shows k x q) [
        | inl e ↦ absurd (out ((exactly x.id).1 (inr (inr (ap (λ (y : Op). y.id) e)))))
        | inr w ↦
            let on = (version k x q).members w.0 (aim_in k x q w.0 w.1) in
            let c = (version g show p).largest on.op on.contained on.such
            (λ c. w.2 (subst (Contains g.ops) on.id c)) in
            let at : AimsAt all x on.op = record {
              contained = old on.op on.contained;
              aimed = subst (Contains (aim_of x)) (sym on.id) w.1;
            } in
            record {
              member = c.member;
              is_member = member_up c.member c.is_member;
              conflict = conflict_carried all whole x on.op c.member (later x (is_new k x q))
                  at (conflict_up on.op c.member c.conflict);
            }
      ]

      largest : (a : Op) → Contains all a → object_of a ≡ o → ¬ (Contains ids a.id)
          → ConflictsWithin (Conflict all) all ids a
      largest a i on out = elim (Contains-append_cases h new a i) [
        | inl j ↦ largest_old a j on out
        | inr j ↦ elim (Contains-cons_cases hide shows a j) [
          | inl e ↦ absurd (out ((exactly a.id).1 (inr (inl (ap (λ (y : Op). y.id) e)))))
          | inr l ↦ let q = some_left (λ (g : Group) (x : Op). IsShowing h g x.change) groups shows
              each a l in largest_show q.0 a q.1 out
        ]
      ]

      abbrev has_up : (i : OpId) → HasOn h o i → HasOn all o i
      has_up i = has_beyond h all old

      has_on : (i : OpId) → Contains ids i → HasOn all o i
      has_on i c = elim ((exactly i).0 c) [
        | inl d ↦ has_up i ((version g show p).members i d)
        | inr v ↦ elim v [
          | inl e ↦ record {
            op = hide;
            contained = later hide hidden;
            id = sym e;
            such = hide_object;
          }
          | inr e ↦ record {
            op = show;
            contained = later show (is_new g show p);
            id = sym e;
            such = show_object g show p;
          }
        ]
      ]

      -- this is a version
      pub becomes_version : IsStrictlySortedBy id_cmp ids → IsVersion all o ids
      becomes_version rising = record {
        rising = rising;
        created = has_up o.0 (version g show p).created;
        makes = (version g show p).makes;
        members = has_on;
        compatible = λ a b m n. inside_calm a b (inside a m) (inside b n);
        largest = largest;
      }

      show_member : IsMember all ids show
      show_member = record {
        contained = later show (is_new g show p);
        grouped = (exactly show.id).1 (inr (inr refl));
      }

      show_gives : value_given show attr.Shown ≡ Some (Shown true)
      show_gives = ap (λ (c : Change). change_value c attr.Shown) (showing g show p).is

      show_last : (b : Op) → IsInside b → ¬ (Precedes show b)
      show_last b w l = elim w [
        | inl m ↦ never_both show b (later show (is_new g show p)) (old b m.contained) l
            (known b show m.contained (is_new g show p))
        | inr v ↦ elim v [
          | inl e ↦ never_both show hide (later show (is_new g show p)) (later hide hidden)
              (subst (Precedes show) e l) (first show (paired_right groups shows g show p))
          | inr e ↦ precedes_irreflexive all whole show (later show (is_new g show p))
              (subst (Precedes show) e l)
        ]
      ]

      -- and it is shown
      pub becomes_shown : IsSettled all ids attr.Shown (Shown true)
      becomes_shown = record {
        setter = show;
        member = show_member;
        gives = show_gives;
        last = λ b m s. show_last b (inside b m);
      }

  -- ---- a version that is shown

  module _ (ids : List OpId) (found : IsVersion all o ids) where
    abbrev Holds : Op → Type 0
    Holds a = IsMember all ids a

    brought_in : (a x : Op) → Holds a → Brings all a x → Holds x
    brought_in a x m b = brought all whole o ids found a x m b

    -- it has what hides
    hide_in : Holds hide
    hide_in = elim (listed_or_not ids hide.id) [
      | inl c ↦ record { contained = later hide hidden; grouped = c }
      | inr out ↦ let w = found.largest hide (later hide hidden) hide_object out in
          absurd (hide_calm w.member w.is_member.contained w.conflict)
    ]

    hide_sets : IsSome (value_given hide attr.Shown)
    hide_sets = subst (λ (c : Change). IsSome (change_value c attr.Shown)) (sym hides) refl

    -- the last setter of what is shown is one that shows
    pub setter_shows : (s : IsSettled all ids attr.Shown (Shown true))
        → (g : Group) × Shows g s.setter
    setter_shows s = elim (Contains-append_cases h new s.setter s.member.contained) [
      | inl i ↦ absurd (s.last hide hide_in hide_sets (known s.setter hide i hidden))
      | inr j ↦ elim (Contains-cons_cases hide shows s.setter j) [
        | inl e ↦ absurd (hide_false (sym (ap (λ (c : Change). change_value c attr.Shown) hides)
            ∙ (ap (λ (x : Op). value_given x attr.Shown) (sym e) ∙ s.gives)))
        | inr l ↦ some_left (λ (g : Group) (x : Op). IsShowing h g x.change) groups shows each
            s.setter l
      ]
    ]

    module _ (g : Group) (show : Op) (p : Shows g show) (m : Holds show) where
      aim_held : (k : Group) (x : Op) (q : Shows k x) → Holds x → (i : OpId) → Contains (aim_of x) i
          → Contains ids i
      aim_held k x q n i c = version_holds_aims all whole o ids found x n i c

      -- what the group conflicts with is not in it
      part_calm : (a b : Op) → Contains h a → Holds a → IsMember h g.ops b → ¬ (Conflict h a b)
      part_calm a b i n k c =
          let x = c.first in
          let y = c.second in
          let there = brings_in_old a x i c.brings_first in
          let n' = brought_in a x n (brings_up a x c.brings_first) in
          let y' = brought h valid o g.ops (version g show p) b y k c.brings_second in
          let on : object_of x ≡ g.object = c.direct.one_object
          ∙ (member_object y y' ∙ sym (versions g (listed g show p)).0) in
          one_is_last h valid g.ops x
          (λ d l.
          let held = aim_held g show p m d.id
          (aims_at_marks g show p d.id
          (record {
            op = d;
            id = refl;
            against = x;
            other = record { contained = there; object = on };
            last = l;
          })) in
          found.compatible x d n' (record { contained = old d l.member.contained; grouped = held })
          (conflict_direct all x d l.conflict))
          10000 y y' c.direct (omega arith)
        where
          brings_in_old : (a x : Op) → Contains h a → Brings h a x → Contains h x
          brings_in_old a x i b = elim b [
            | inl e ↦ subst (Contains h) (sym e) i
            | inr t ↦ t.contained
          ]

          member_object : (y : Op) → IsMember h g.ops y → object_of y ≡ o
          member_object y k = let on = (version g show p).members y.id k.grouped in
              ap object_of (same_op h valid y on.op k.contained on.contained (sym on.id))
              ∙ on.such

      -- what it has of h is of the group
      old_in : (a : Op) → Contains h a → Holds a → Contains g.ops a.id
      old_in a i n = elim (listed_or_not g.ops a.id) [
        | inl c ↦ c
        | inr out ↦
            let on = found.members a.id n.grouped in
            let object : object_of a ≡ o = ap object_of
            (same_op all whole a on.op n.contained on.contained (sym on.id)) ∙ on.such in
            let w = (version g show p).largest a i object out in
            absurd (part_calm a w.member i n w.is_member w.conflict)
      ]

      -- and it has no other showing
      show_in : (k : Group) (x : Op) → Shows k x → Holds x → x ≡ show
      show_in k x q n = elim (other_shows g show p k x q) [
        | inl e ↦ e
        | inr w ↦
            let on = (version k x q).members w.0 (aim_in k x q w.0 w.1) in
            let held : Contains ids on.op.id = subst (Contains ids) (sym on.id)
            (aim_held k x q n w.0 w.1) in
            absurd (w.2 (subst (Contains g.ops) on.id
            (old_in on.op on.contained
            (record { contained = old on.op on.contained; grouped = held }))))
      ]

      is_inside : (a : Op) → Holds a → IsInside g show p a
      is_inside a n = elim (Contains-append_cases h new a n.contained) [
        | inl i ↦ inl (record { contained = i; grouped = old_in a i n })
        | inr j ↦ elim (Contains-cons_cases hide shows a j) [
          | inl e ↦ inr (inl e)
          | inr l ↦ let q = some_left (λ (g : Group) (x : Op). IsShowing h g x.change) groups shows
              each a l in inr (inr (show_in q.0 a q.1 n))
        ]
      ]

      group_in : (i : OpId) → Contains g.ops i → Contains ids i
      group_in i c =
          let on = (version g show p).members i c in
          let k : IsMember h g.ops on.op = record {
            contained = on.contained;
            grouped = subst (Contains g.ops) (sym on.id) c;
          } in
          elim (listed_or_not ids on.op.id) [
            | inl d ↦ subst (Contains ids) on.id d
            | inr out ↦
                let w = found.largest on.op (old on.op on.contained) on.such out in
                absurd (inside_calm g show p on.op w.member (inl k) (is_inside w.member w.is_member)
                w.conflict)
          ]

      pub shown_exactly : (i : OpId)
          → Contains ids i ↔ (Contains g.ops i ⊎ ((i ≡ hide.id) ⊎ (i ≡ show.id)))
      shown_exactly i = (
        λ c.
            let on = found.members i c in
            elim (is_inside on.op (record {
              contained = on.contained;
              grouped = subst (Contains ids) (sym on.id) c;
            })) [
              | inl k ↦ inl (subst (Contains g.ops) on.id k.grouped)
              | inr v ↦ elim v [
                | inl e ↦ inr (inl (sym on.id ∙ ap (λ (x : Op). x.id) e))
                | inr e ↦ inr (inr (sym on.id ∙ ap (λ (x : Op). x.id) e))
              ]
            ],
        λ w. elim w [
          | inl c ↦ group_in i c
          | inr v ↦ elim v [
            | inl e ↦ subst (Contains ids) (sym e) hide_in.grouped
            | inr e ↦ subst (Contains ids) (sym e) m.grouped
          ]
        ],
      )
