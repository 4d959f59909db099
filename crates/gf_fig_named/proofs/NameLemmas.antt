-- The names that are found among the visible versions tell each from the others.
use Rattle.std.proofs.Common.{◌≡◌, ℕ, ◌+◌, ◌<◌, List, [], ◌∷◌, ◌++◌}
use Rattle.std.proofs.Common.{get_or, length, refl, sym, ap}
use Rattle.std.proofs.Common.{subst, ◌∙◌, inl, take}
use Rattle.std.specs.Prelude.{Contains}
use Rattle.std.specs.List.{AllZip}
use Rattle.std.specs.List.Sorted.{IsStrictlySortedBy}
use Rattle.gf_shape.specs.declared.any_shape.AnyShape.{AnyShape}
use Rattle.gf_ops.specs.declared.op.Op.{Op}
use Rattle.gf_ops.specs.declared.op.OpId.{OpId}
use Rattle.gf_ops.specs.DirectConflict.{DirectConflict}
use Rattle.gf_ops.specs.OperationOrder.{id_cmp}
use Rattle.gf_ops.specs.ValidHistory.{IsValid}
use Rattle.gf_ops.specs.Version.{IsMember, IsVersion}
use Rattle.gf_versions.specs.declared.placed.Placed.{Placed}
use Rattle.gf_versions.specs.Ranking.{AreRanked}
use Rattle.gf_names.specs.Telling.{IsTelling}
use Rattle.gf_fig_named.specs.declared.naming.Name.{Name}
use Rattle.gf_fig_named.specs.NamedText.{IsNameOf, IsOfOther}
use Rattle.gf_fig_named.specs.declared.naming.Lead.{Lead}
use Rattle.gf_fig_named.specs.Others.{AreElsewhere, AreOfOne, AreRising}
use Rattle.gf_fig_named.specs.Others.{IsLead, IsNameAmong}
use Rattle.gf_fig_named.proofs.LackedLemmas.{led_elsewhere}
use Rattle.gf_fig_named.proofs.TakenLemmas.{zip_more}

module _ (h : List Op) (valid : IsValid h) (items : List (Placed AnyShape))
    (ranked : AreRanked h items) where
  version_of : (i : Placed AnyShape) → Contains items i → IsVersion h i.key.object i.key.ops
  version_of i c =
      let w = (ranked.exactly i).1 c in
      subst (λ (p : Placed AnyShape). IsVersion h p.key.object p.key.ops) (sym w.placed)
      w.visible.version.version

  pub ids_rise : AreRising items
  ids_rise i c = (version_of i c).rising

  module _ (item : Placed AnyShape) (listed : Contains items item) (others : List OpId)
      (elsewhere : AreElsewhere items item.key others) where
    is_of_other : (x : Op) → IsMember h others x → IsOfOther h items item x
    is_of_other x m =
        let w = (elsewhere x.id).0 m.grouped in
        record {
          other = w.item;
          listed = w.listed;
          different = λ s. w.lacked.lacking
              (subst (λ (p : Placed AnyShape). Contains p.key.ops x.id) s w.lacked.has);
          object = w.lacked.object;
          member = record { contained = m.contained; grouped = w.lacked.has };
        }

    -- what conflicts directly with an operation of the version is not its own
    is_elsewhere : (x a : Op) → IsOfOther h items item x → IsMember h item.key.ops a
        → DirectConflict x a → IsMember h others x
    is_elsewhere x a o m conflict = record {
      contained = o.member.contained;
      grouped = (elsewhere x.id).1 (record {
        item = o.other;
        listed = o.listed;
        lacked = record {
          object = o.object;
          has = o.member.grouped;
          lacking = λ own. (version_of item listed).compatible x a
              (record { contained = o.member.contained; grouped = own }) m
              (record {
                first = x;
                second = a;
                brings_first = inl refl;
                brings_second = inl refl;
                direct = conflict;
              });
        };
      });
    }

    tells_other : (i : OpId) → IsTelling h item.key.ops (IsMember h others) i
        → IsTelling h item.key.ops (IsOfOther h items item) i
    tells_other i t = record {
      op = t.op;
      id = t.id;
      against = t.against;
      other = is_of_other t.against t.other;
      last = t.last;
    }

    tells_back : (i : OpId) → IsTelling h item.key.ops (IsOfOther h items item) i
        → IsTelling h item.key.ops (IsMember h others) i
    tells_back i t = record {
      op = t.op;
      id = t.id;
      against = t.against;
      other = is_elsewhere t.against t.op t.other t.last.member t.last.conflict;
      last = t.last;
    }

  -- a name that is found by the lead is one of the item
  named : (lead item : Placed AnyShape) (lacked : List OpId) (name : Name) → Contains items lead
      → Contains items item → lead.key.object ≡ item.key.object
      → AreElsewhere items lead.key lacked
      → IsNameAmong h lead.key.ops lacked item.key name → IsNameOf h items item name
  named lead item lacked name led listed one so n =
      let elsewhere = led_elsewhere items lead item led one lacked n.others so n.are in
      record {
        object = n.object;
        telling = record {
          exactly = λ i. (
            (λ c. tells_other item listed n.others elsewhere i ((n.telling.exactly i).0 c)),
            (λ t. (n.telling.exactly i).1 (tells_back item listed n.others elsewhere i t)),
          );
          rising = n.telling.rising;
        };
      }

  -- the ids of what stands at an index rise
  pub rises_at : (k : ℕ) (x : Placed AnyShape) → k < length items → x ≡ get_or items k x
      → (ids : List OpId) → ids ≡ (get_or items k x).key.ops → IsStrictlySortedBy id_cmp ids
  rises_at k x l is ids e =
      subst (IsStrictlySortedBy id_cmp) (ap (λ (p : Placed AnyShape). p.key.ops) is ∙ sym e)
      (ids_rise x (k, l, sym is))

  -- one name more, of the item at index k by the lead
  pub name_more : (k : ℕ) (lead item : Placed AnyShape) (by : Lead) (ids lacked : List OpId)
      → k < length items → item ≡ get_or items k item → lead ≡ get_or items by.first lead
      → ids ≡ (get_or items by.first lead).key.ops → lacked ≡ by.lacked → IsLead items by
      → AreOfOne items by.first k → (names : List Name) (name : Name)
      → AllZip (IsNameOf h items) (take k items) names
      → IsNameAmong h ids lacked (get_or items k item).key name
      → AllZip (IsNameOf h items) (take (k + 1) items) (names ++ name ∷ [])
  name_more k lead item by ids lacked l is at own those led one names name all n =
      let same : ids ≡ lead.key.ops = own ∙ sym (ap (λ (p : Placed AnyShape). p.key.ops) at) in
      let of_item : IsNameAmong h ids lacked item.key name =
      subst (λ (p : Placed AnyShape). IsNameAmong h ids lacked p.key name) (sym is) n in
      let of_lead : IsNameAmong h lead.key.ops lacked item.key name =
      subst (λ (t : List OpId). IsNameAmong h t lacked item.key name) same of_item in
      zip_more (IsNameOf h items) items k item l is names name all
      (named lead item by.lacked name (by.first, led.within, sym at) (k, l, sym is)
      (one lead item at is) (led.lacked.elsewhere lead at)
      (subst (λ (t : List OpId). IsNameAmong h lead.key.ops t item.key name) those of_lead))
