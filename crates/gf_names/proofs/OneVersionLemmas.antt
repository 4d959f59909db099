-- A version that has all that tells another one from it is this other one.
use Rattle.std.proofs.Common.{◌≡◌, ℕ, zero, suc, ◌+◌, ◌≤◌, List, refl, sym, subst, arith, inl, inr}
use Rattle.std.specs.Prelude.{◌⊎◌, Contains}
use Rattle.std.specs.List.{list_any}
use Rattle.std.proofs.lemmas.Bool.{cases_Bool, cases_lt}
use Rattle.gf_base.proofs.FilterLemmas.{list_any_true, list_any_false}
use Rattle.gf_base.proofs.RisingLemmas.{one_rising}
use Rattle.gf_groups.specs.VersionList.{id_eq}
use Rattle.gf_groups.proofs.ConflictTestLemmas.{id_decided}
use Rattle.gf_ops.proofs.IdLemmas.{id_cmp_total}
use Rattle.gf_ops.specs.declared.op.Op.{Op}
use Rattle.gf_ops.specs.declared.op.OpId.{OpId}
use Rattle.gf_ops.specs.declared.op.ObjectId.{ObjectId}
use Rattle.gf_ops.specs.Aims.{Brings}
use Rattle.gf_ops.specs.Conflict.{Conflict}
use Rattle.gf_ops.specs.DirectConflict.{DirectConflict}
use Rattle.gf_ops.specs.OperationOrder.{id_cmp}
use Rattle.gf_ops.specs.ValidHistory.{IsValid}
use Rattle.gf_ops.specs.Version.{IsMember, IsVersion}
use Rattle.gf_ops.proofs.ConflictLemmas.{conflict-sym, conflict_direct, version_holds_aims}
use Rattle.gf_ops.proofs.HistoryLemmas.{seq_in_range}
use Rattle.gf_names.specs.Telling.{IsLastAgainst, AreTelling}

-- an id is listed or not
pub listed_or_not : (ids : List OpId) (i : OpId) → Contains ids i ⊎ (¬ (Contains ids i))
listed_or_not ids i = elim (cases_Bool (list_any (id_eq i) ids)) [
  | inl t ↦ let w = list_any_true (id_eq i) ids t in
      inl (subst (Contains ids) (sym ((id_decided i w.0).0 w.2)) w.1)
  | inr f ↦ inr (λ c. let u = list_any_false (id_eq i) ids f i c in
      let v = (id_decided i i).1 refl in absurd cc)
]

module _ (h : List Op) (valid : IsValid h) where
  -- where a member of g conflicts with x, one is the last that does
  pub one_is_last : (g : List OpId) (x : Op) → ((c : Op) → ¬ (IsLastAgainst h g x c))
      → (n : ℕ) (a : Op) → IsMember h g a → DirectConflict x a → ¬ (10000 ≤ a.id.seq + n)
  one_is_last g x none zero a m d high = none a (record {
    member = m;
    conflict = d;
    last = λ b k same e. let p = (seq_in_range b (valid.in_range b k.contained)).1 in omega arith;
  })
  one_is_last g x none (suc n) a m d high = none a (record {
    member = m;
    conflict = d;
    last = λ b k same e. elim (cases_lt a.id.seq b.id.seq) [
      | inl less ↦ absurd (one_is_last g x none n b k e (omega arith))
      | inr most ↦ omega arith
    ];
  })

  -- a version has what its members bring
  pub brought : (o : ObjectId) (g : List OpId) → IsVersion h o g → (a x : Op) → IsMember h g a
      → Brings h a x → IsMember h g x
  brought o g v a x m b = elim b [
    | inl e ↦ subst (IsMember h g) (sym e) m
    | inr t ↦ record {
      contained = t.contained;
      grouped = version_holds_aims h valid o g v a m x.id t.aimed;
    }
  ]

  -- the members of one version that are the last against members of another are all in this one
  module _ (o : ObjectId) (g k : List OpId) (first : IsVersion h o g) (second : IsVersion h o k)
      (has : (x c : Op) → IsMember h k x → IsLastAgainst h g x c → Contains k c.id) where
    none_last : (x : Op) → IsMember h k x → (c : Op) → ¬ (IsLastAgainst h g x c)
    none_last x m c l = second.compatible x c m
        (record { contained = l.member.contained; grouped = has x c m l })
        (conflict_direct h x c l.conflict)

    compatible : (a b : Op) → IsMember h g a → IsMember h k b → ¬ (Conflict h b a)
    compatible a b m n c =
        let p = brought o k second b c.first n c.brings_first in
        let q = brought o g first a c.second m c.brings_second in
        one_is_last g c.first (none_last c.first p) 10000 c.second q c.direct (omega arith)

    in_first : (i : OpId) → Contains k i → Contains g i
    in_first i c = elim (listed_or_not g i) [
      | inl d ↦ d
      | inr out ↦
          let on = second.members i c in
          let w = first.largest on.op on.contained on.such (λ d. out (subst (Contains g) on.id d))
          in
          absurd (compatible w.member on.op w.is_member
          (record { contained = on.contained; grouped = subst (Contains k) (sym on.id) c })
          w.conflict)
    ]

    in_second : (i : OpId) → Contains g i → Contains k i
    in_second i c = elim (listed_or_not k i) [
      | inl d ↦ d
      | inr out ↦
          let on = first.members i c in
          let w = second.largest on.op on.contained on.such
          (λ d. out (subst (Contains k) on.id d)) in
          absurd (compatible on.op w.member
          (record { contained = on.contained; grouped = subst (Contains g) (sym on.id) c })
          w.is_member (conflict-sym h on.op w.member w.conflict))
    ]

    pub one_version : g ≡ k
    one_version = one_rising id_cmp id_cmp_total g k first.rising second.rising
        (λ i. (in_second i, in_first i))

  -- and so of what tells the version from others
  pub told_version : (o : ObjectId) (g k : List OpId) → IsVersion h o g → IsVersion h o k
      → (others ids : List OpId) → ((i : OpId) → Contains k i → Contains others i)
      → AreTelling h g (IsMember h others) ids → ((i : OpId) → Contains ids i → Contains k i)
      → g ≡ k
  told_version o g k first second others ids within tells has = one_version o g k first second
      (λ x c m l. has c.id ((tells.exactly c.id).1
      (record {
        op = c;
        id = refl;
        against = x;
        other = record { contained = m.contained; grouped = within x.id m.grouped };
        last = l;
      })))
