-- What keeps some versions of a valid history leaves these, and each of them.
use Rattle.std.proofs.Common.{◌≡◌, ◌≢◌, ℕ, true, false, List, [], ◌∷◌, ◌++◌, get_or, refl, sym}
use Rattle.std.proofs.Common.{subst, ap, ◌∙◌, inl, inr}
use Rattle.std.specs.Prelude.{◌⊎◌, ◌↔◌, AllPairs, Contains, Some}
use Rattle.std.specs.BTreeSet.{insert_key}
use Rattle.std.specs.declared.cmp.Ordering.TheVariants.{Less, Greater}
use Rattle.std.specs.Ordering.{ordering_reverse}
use Rattle.std.proofs.lemmas.Map.Keys.{Less-from_sorted}
use Rattle.std.specs.List.{AllZip}
use Rattle.std.specs.List.Sorted.{IsStrictlySortedBy}
use Rattle.gf_base.proofs.ListLemmas.{Contains-cons_cases, Contains-cons_head, Contains-cons_tail}
use Rattle.gf_ops.specs.declared.op.Op.{Op}
use Rattle.gf_ops.specs.declared.op.OpId.{OpId}
use Rattle.gf_ops.specs.declared.op.ObjectId.{ObjectId}
use Rattle.gf_ops.specs.declared.change.Attr.TheVariants as attr
use Rattle.gf_ops.specs.declared.change.Change.{Change}
use Rattle.gf_ops.specs.declared.change.Value.TheVariants.{Shown}
use Rattle.gf_ops.specs.Attribute.{change_value}
use Rattle.gf_ops.specs.Accepted.{AreAccepted, IsAccepted}
use Rattle.gf_ops.specs.Limits.{IsInRange}
use Rattle.gf_ops.specs.OperationOrder.{Precedes, id_cmp}
use Rattle.gf_ops.specs.SettledValue.{IsSettled}
use Rattle.gf_ops.specs.ValidHistory.{IsValid}
use Rattle.gf_ops.specs.Version.{IsVersion}
use Rattle.gf_groups.specs.declared.group.Group.{Group}
use Rattle.gf_groups.specs.Versions.{IsVersionGroup, group_cmp}
use Rattle.gf_groups.proofs.GroupLemmas.{group_cmp_total}
use Rattle.gf_ops.proofs.IdLemmas.{id_cmp_total, id_cmp_exact}
use Rattle.gf_base.proofs.InsertLemmas.{holds, inserted}
use Rattle.gf_versions.proofs.SettlingLemmas.{settled_once}
use Rattle.gf_versions.proofs.VersionLemmas.{some_version}
use Rattle.gf_site.specs.SiteState.{authored}
use Rattle.gf_visible.specs.ShownVersions.{IsVisibleGroup}
use Rattle.gf_visible.proofs.SetterLemmas.{shown_once}
use Rattle.gf_keep.specs.declared.keep.Keep.{Keep}
use Rattle.gf_keep.specs.Keeping.{AreKept, AreKeeping, IsKept, IsShowing, hiding}
use Rattle.gf_site.specs.MadeEach.{MakesEach, next as made_next}
use Rattle.gf_keep.specs.MadeOf.{Becomes, GoesOn, IsHide, IsKeptOn, IsShow}
use Rattle.gf_keep.proofs.KeptLemmas.{becomes_shown, becomes_version, other_shows, setter_shows}
use Rattle.gf_keep.proofs.KeptLemmas.{showing_in, shown_exactly}
use Rattle.gf_site.proofs.EachLemmas.{each_valid}
use Rattle.gf_keep.proofs.MadeLemmas.{first_known, made_calm, made_known, shows_made}
use Rattle.gf_keep.proofs.PairedLemmas.{Paired, paired_holds, paired_left, paired_right, some_left}
use Rattle.gf_keep.proofs.PairedLemmas.{some_right}

-- the groups of a rising list differ
rising_differ : (groups : List Group) → IsStrictlySortedBy group_cmp groups
    → AllPairs (λ (g k : Group). g ≢ k) groups
rising_differ groups rising i j d before inside same =
    let less = Less-from_sorted group_cmp groups i j d rising before inside in
    let g = get_or groups i d in
    let self : group_cmp g g ≡ Less = subst (λ (k : Group). group_cmp g k ≡ Less) (sym same) less in
    let turned = group_cmp_total.antisymm g g in
    absurd (let e : Less ≡ Greater = sym self ∙ (turned ∙ ap ordering_reverse self) in cc)

-- a version is visible where it is shown
visible_told : (h : List Op) → IsValid h → (g : Group) → IsVersionGroup h g
    → IsSettled h g.ops attr.Shown (Shown true) → IsVisibleGroup h g
visible_told h valid g version shown =
    let v = some_version h valid g version in
    let ids : v.0.key.ops ≡ g.ops = ap (λ (k : Group). k.ops) v.2 in
    let own : IsSettled h g.ops attr.Shown (Shown v.0.shown) = subst
    (λ (is : List OpId). IsSettled h is attr.Shown (Shown v.0.shown)) ids v.1.shown in
    let yes = shown_once v.0.shown true (settled_once h valid g.object g.ops version attr.Shown
    (Shown v.0.shown) (Shown true) own shown) in
    record { version = v.0; visible = record { version = v.1; shown = yes }; group = v.2 }

visible_version : (h : List Op) (g : Group) → IsVisibleGroup h g → IsVersionGroup h g
visible_version h g w = subst (IsVersionGroup h) w.group w.visible.version.version

visible_shown : (h : List Op) (g : Group) → IsVisibleGroup h g
    → IsSettled h g.ops attr.Shown (Shown true)
visible_shown h g w =
    let own : IsSettled h w.version.key.ops attr.Shown (Shown true) = subst
    (λ b. IsSettled h w.version.key.ops attr.Shown (Shown b)) w.visible.shown
    w.visible.version.shown in
    subst (λ (k : Group). IsSettled h k.ops attr.Shown (Shown true)) w.group own

module _ (s : ℕ) (h : List Op) (k : Keep) (run : AreAccepted h) (valid : IsValid h)
    (groups : List Group) (kept : AreKept h k groups) (cs : List Change)
    (each : AllZip (IsShowing h) groups cs)
    (shows : List Op) (range : IsInRange (authored s h (hiding k.object)))
    (accepted : IsAccepted h (authored s h (hiding k.object)))
    (m : MakesEach s (h ++ authored s h (hiding k.object) ∷ []) cs shows) where
  abbrev hide : Op
  hide = authored s h (hiding k.object)

  abbrev new : List Op
  new = hide ∷ shows

  makes : MakesEach s h (hiding k.object ∷ cs) new
  makes = made_next (hiding k.object) range accepted m

  whole : IsValid (h ++ new)
  whole = each_valid s h (hiding k.object ∷ cs) new run valid makes

  showing : AllZip (λ (g : Group) (x : Op). IsShowing h g x.change) groups shows
  showing = shows_made s h (h ++ hide ∷ []) groups cs shows each m

  versions : (g : Group) → Contains groups g → (g.object ≡ k.object) × IsVersion h k.object g.ops
  versions g i = let t = (kept.exactly g).0 i in (
    t.object,
    subst (λ (o : ObjectId). IsVersion h o g.ops) t.object (visible_version h g t.visible),
  )

  once : AllPairs (λ (g k : Group). g ≢ k) groups
  once = rising_differ groups kept.rising

  known : (b x : Op) → Contains h b → Contains new x → Precedes b x
  known b x i j = made_known s h (hiding k.object ∷ cs) new run valid makes b x i j

  first : (x : Op) → Contains shows x → Precedes hide x
  first x i = first_known s h (hiding k.object) cs shows run valid range accepted m x i

  is_hide : IsHide k new hide
  is_hide = record { contained = Contains-cons_head hide shows; change = refl }

  pub kept_on : (g : Group) → g.object ≡ k.object → IsVisibleGroup (h ++ new) g → IsKeptOn h k new g
  kept_on g object w =
      let version : IsVersion (h ++ new) k.object g.ops = subst
      (λ (o : ObjectId). IsVersion (h ++ new) o g.ops) object (visible_version (h ++ new) g w) in
      let settled = visible_shown (h ++ new) g w in
      let found = setter_shows h hide shows valid whole k.object groups refl showing versions once
      known first (made_calm s h (hiding k.object ∷ cs) new run valid makes) g.ops version settled
      in
      let before = found.0 in
      let t = (kept.exactly before).0 (paired_left groups shows before settled.setter found.1) in
      record {
        group = before;
        kept = t;
        becomes = record {
          hide = hide;
          hides = is_hide;
          show = settled.setter;
          shows = record {
            contained = Contains-cons_tail hide shows settled.setter
                (paired_right groups shows before settled.setter found.1);
            change = paired_holds (λ (g : Group) (x : Op). IsShowing h g x.change) groups shows
                before settled.setter showing found.1;
          };
          object = object ∙ sym t.object;
          exactly = shown_exactly h hide shows valid whole k.object groups refl showing versions
              once known first (made_calm s h (hiding k.object ∷ cs) new run valid makes) g.ops
              version before settled.setter found.1 settled.member;
          rising = version.rising;
        };
      }

  -- the change of a showing is no hiding
  not_both : (g : Group) (c : Change) → IsShowing h g c → c ≢ hiding k.object
  not_both g c t e = absurd (let f : Some (Shown true) ≡ Some (Shown false) = ap
      (λ (d : Change). change_value d attr.Shown) (sym t.is ∙ e) in cc)

  one_hide : (x : Op) → IsHide k new x → x ≡ hide
  one_hide x t = elim (Contains-cons_cases hide shows x t.contained) [
    | inl e ↦ e
    | inr i ↦ let p = some_left (λ (g : Group) (x : Op). IsShowing h g x.change) groups shows
        showing x i in
        absurd (not_both p.0 x.change (paired_holds (λ (g : Group) (x : Op). IsShowing h g x.change)
        groups shows p.0 x showing p.1) t.change)
  ]

  -- what shows a kept version stands at its place
  module _ (g : Group) (i : Contains groups g) where
    abbrev own : (x : Op) × Paired groups shows g x
    own = some_right (λ (g : Group) (x : Op). IsShowing h g x.change) groups shows showing g i

    one_show : (x : Op) → IsShow h new g x → x ≡ own.0
    one_show x t = elim (Contains-cons_cases hide shows x t.contained) [
      | inl e ↦ absurd (not_both g x.change t.change (ap (λ (y : Op). y.change) e))
      | inr j ↦
          let q = some_left (λ (g : Group) (x : Op). IsShowing h g x.change) groups shows showing x
          j in
          elim (other_shows h hide shows valid whole k.object groups refl showing versions once
          known first (made_calm s h (hiding k.object ∷ cs) new run valid makes) g own.0 own.1 q.0 x
          q.1) [
            | inl e ↦ e
            | inr w ↦ absurd (w.2 (showing_in h valid k.object g (versions g i).1 x t.change w.0
                w.1))
          ]
    ]

    becomes : (f : Group) → f.object ≡ k.object
        → ((j : OpId) → Contains f.ops j ↔ (Contains g.ops j ⊎ ((j ≡ hide.id) ⊎ (j ≡ own.0.id))))
        → IsStrictlySortedBy id_cmp f.ops → IsVisibleGroup (h ++ new) f
    becomes f object exactly rising =
        let version = becomes_version h hide shows valid whole k.object groups refl showing versions
        once known first (made_calm s h (hiding k.object ∷ cs) new run valid makes) g own.0 own.1
        f.ops exactly rising in
        visible_told (h ++ new) whole f (subst (λ (o : ObjectId). IsVersion (h ++ new) o f.ops)
        (sym object) version)
        (becomes_shown h hide shows valid whole k.object groups refl showing versions once known
        first (made_calm s h (hiding k.object ∷ cs) new run valid makes) g own.0 own.1 f.ops
        exactly)

    pub becomes_visible : (f : Group) → Becomes h k new g f
        → (f.object ≡ k.object) × IsVisibleGroup (h ++ new) f
    becomes_visible f b =
        let object = b.object ∙ (versions g i).0 in
        let hide_id = ap (λ (x : Op). x.id) (one_hide b.hide b.hides) in
        let show_id = ap (λ (x : Op). x.id) (one_show b.show b.shows) in (
          object,
          becomes f object (subst (λ (a : OpId). (j : OpId)
              → Contains f.ops j ↔ (Contains g.ops j ⊎ ((j ≡ hide.id) ⊎ (j ≡ a)))) show_id
              (subst (λ (a : OpId). (j : OpId)
              → Contains f.ops j ↔ (Contains g.ops j ⊎ ((j ≡ a) ⊎ (j ≡ b.show.id)))) hide_id
              b.exactly)) b.rising,
        )

    pub goes_on : GoesOn h k new g
    goes_on =
        let first_in = insert_key id_cmp g.ops hide.id in
        let second_in = insert_key id_cmp first_in own.0.id in
        let start = (versions g i).1.rising in
        record {
          group = record { object = g.object; ops = second_in };
          becomes = record {
            hide = hide;
            hides = is_hide;
            show = own.0;
            shows = record {
              contained = Contains-cons_tail hide shows own.0
                  (paired_right groups shows g own.0 own.1);
              change = paired_holds (λ (g : Group) (x : Op). IsShowing h g x.change) groups shows g
                  own.0 showing own.1;
            };
            object = refl;
            exactly = λ j. let p = holds id_cmp id_cmp_total id_cmp_exact own.0.id first_in j in
                let q = holds id_cmp id_cmp_total id_cmp_exact hide.id g.ops j in (
                  λ c. elim (p.0 c) [
                    | inl d ↦ elim (q.0 d) [ inl e ↦ inl e | inr e ↦ inr (inl e) ]
                    | inr d ↦ inr (inr d)
                  ],
                  λ w. p.1 (elim w [
                    | inl e ↦ inl (q.1 (inl e))
                    | inr v ↦ elim v [ inl e ↦ inl (q.1 (inr e)) | inr e ↦ inr e ]
                  ]),
                );
            rising = inserted id_cmp id_cmp_total id_cmp_exact own.0.id first_in
                (inserted id_cmp id_cmp_total id_cmp_exact hide.id g.ops start);
          };
        }

  pub law_visible : (f : Group) → ((f.object ≡ k.object) × IsVisibleGroup (h ++ new) f) ↔ IsKeptOn h
      k new f
  law_visible f = (
    λ p. kept_on f p.0 p.1,
    λ w. becomes_visible w.group ((kept.exactly w.group).1 w.kept) f w.becomes,
  )

  pub law_each : (g : Group) → IsKept h k g → GoesOn h k new g
  law_each g t = goes_on g ((kept.exactly g).1 t)

-- the first operation that is made, and the others
record MadeFirst (s : ℕ) (h : List Op) (c : Change) (cs : List Change) (new : List Op) : Type
    0 where
  pub range : IsInRange (authored s h c)
  pub accepted : IsAccepted h (authored s h c)
  pub others : List Op
  pub makes : MakesEach s (h ++ authored s h c ∷ []) cs others
  pub is : new ≡ authored s h c ∷ others

made_first : (s : ℕ) (h : List Op) (c : Change) (cs : List Change) (new : List Op)
    → MakesEach s h (c ∷ cs) new → MadeFirst s h c cs new
made_first s h c cs made (made_next {new = others} d range accepted m) = record {
  range = range;
  accepted = accepted;
  others = others;
  makes = m;
  is = refl;
}

module _ (s : ℕ) (h : List Op) (k : Keep) (changes : List Change) (new : List Op)
    (run : AreAccepted h) (valid : IsValid h) (t : AreKeeping h k changes)
    (m : MakesEach s h changes new) where
  parts : MadeFirst s h (hiding k.object) t.shows new
  parts = made_first s h (hiding k.object) t.shows new
      (subst (λ (cs : List Change). MakesEach s h cs new) t.is m)

  -- THE LAW
  pub keeping_visible : (f : Group) → ((f.object ≡ k.object) × IsVisibleGroup (h ++ new) f)
      ↔ IsKeptOn h k new f
  keeping_visible = subst (λ (ns : List Op). (f : Group)
      → ((f.object ≡ k.object) × IsVisibleGroup (h ++ ns) f) ↔ IsKeptOn h k ns f) (sym parts.is)
      (law_visible s h k run valid t.groups t.kept t.shows t.each parts.others parts.range
      parts.accepted parts.makes)

  pub keeping_each : (g : Group) → IsKept h k g → GoesOn h k new g
  keeping_each = subst (λ (ns : List Op). (g : Group) → IsKept h k g → GoesOn h k ns g)
      (sym parts.is)
      (law_each s h k run valid t.groups t.kept t.shows t.each parts.others parts.range
      parts.accepted parts.makes)
