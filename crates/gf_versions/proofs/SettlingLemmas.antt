-- In a version of a valid history each attribute that the object has is settled, to one value.
use Rattle.std.proofs.Common.{◌≡◌, ◌≢◌, ℕ, ◌+◌, ◌<◌, length, get_or, take, false, List, [], ◌∷◌}
use Rattle.std.proofs.Common.{◌++◌, refl, subst, sym, ap, ◌∙◌, inl, inr, arith}
use Rattle.std.specs.Prelude.{Contains, Some, IsSome, is_some}
use Rattle.std.proofs.lemmas.Bool.{cases_Bool, cases_lt}
use Rattle.std.proofs.lemmas.List.{append_assoc, append-nil, take_more}
use Rattle.std.proofs.lemmas.List.Elements.{Contains-get_or, Contains-push_cases}
use Rattle.gf_ops.specs.declared.op.Op.{Op}
use Rattle.gf_ops.specs.declared.op.OpId.{OpId}
use Rattle.gf_ops.specs.declared.op.ObjectId.{ObjectId}
use Rattle.gf_ops.specs.declared.change.Attr.{Attr}
use Rattle.gf_ops.specs.declared.change.Value.{Value}
use Rattle.gf_ops.specs.Attribute.{value_given}
use Rattle.gf_ops.specs.DirectConflict.{DirectConflict}
use Rattle.gf_ops.specs.ConflictTests.{value_eq}
use Rattle.gf_ops.specs.OperationOrder.{Precedes, entry}
use Rattle.gf_ops.specs.SettledValue.{IsSettled}
use Rattle.gf_ops.specs.ValidHistory.{IsValid}
use Rattle.gf_ops.specs.Version.{IsMember, IsVersion}
use Rattle.gf_ops.proofs.ConflictLemmas.{conflict_direct}
use Rattle.gf_ops.proofs.HistoryLemmas.{site_in_range, seq_in_range}
use Rattle.gf_base.proofs.ListLemmas.{Contains-cons_head, Contains-cons_tail, not_Contains-nil}
use Rattle.gf_ops.proofs.SameLemmas.{value_eq-same, value_eq-true}
use Rattle.gf_ops.proofs.ValidityLemmas.{same_op, precedes_irreflexive, precedes_transitive}
use Rattle.gf_versions.specs.Settling.{IsLastOf, IsLastSetter, HasAttribute}
use Rattle.gf_versions.proofs.MakerLemmas.{member_object, maker_grouped, maker_sets, some_value}

-- ---- last setters

module _ (h : List Op) (g : List OpId) (t : Attr) where
  pub last_first : (a : Op) → IsMember h g a → IsSome (value_given a t) → IsLastOf h g [] t a
  last_first a m s = record {
    member = m;
    sets = s;
    last = λ b n. absurd (not_Contains-nil b.id n.grouped);
  }

  -- one more id changes nothing if its operation doesn't set t or doesn't come after the last
  pub last_stays : (ids : List OpId) (i : OpId) (a : Op) → IsLastOf h g ids t a
      → ((b : Op) → Contains h b → b.id ≡ i → IsSome (value_given b t) → ¬ (Precedes a b))
      → IsLastOf h g (ids ++ i ∷ []) t a
  last_stays ids i a k none = record {
    member = k.member;
    sets = k.sets;
    last = λ b m s. elim (Contains-push_cases ids i b.id m.grouped) [
      | inl c ↦ k.last b (record { contained = m.contained; grouped = c }) s
      | inr e ↦ none b m.contained (sym e) s
    ];
  }

  -- a setter that comes after the last takes its place
  pub last_taken : IsValid h → (ids : List OpId) (a b : Op) → IsLastOf h g ids t a → IsMember h g b
      → IsSome (value_given b t) → Precedes a b → IsLastOf h g (ids ++ b.id ∷ []) t b
  last_taken valid ids a b k m s before = record {
    member = m;
    sets = s;
    last = λ c n x after. elim (Contains-push_cases ids b.id c.id n.grouped) [
      | inl d ↦
          let first = valid.in_range a k.member.contained in
          let second = valid.in_range b m.contained in
          k.last c (record { contained = n.contained; grouped = d }) x
          (precedes_transitive h valid a b c m.contained n.contained (site_in_range a first)
          (site_in_range b second) (seq_in_range b second).0 before after)
      | inr e ↦ precedes_irreflexive h valid b m.contained
          (subst (Precedes b) (same_op h valid c b n.contained m.contained (sym e)) after)
    ];
  }

  -- what a last setter gives is settled
  pub settled_by : (a : Op) (v : Value) → IsLastSetter h g t a → value_given a t ≡ Some v
      → IsSettled h g t v
  settled_by a v k e = record { setter = a; member = k.member; gives = e; last = k.last }

-- ---- a last setter is found by one pass over the ids

module _ (h : List Op) (valid : IsValid h) (g : List OpId) (t : Attr) (n : ℕ) (d : OpId)
    (within : n < length g) (a : Op) (k : IsLastOf h g (take n g) t a) where
  grown : (b : Op) → IsLastOf h g (take n g ++ get_or g n d ∷ []) t b
      → IsLastOf h g (take (n + 1) g) t b
  grown b l = subst (λ ids. IsLastOf h g ids t b) (sym (take_more g n d within)) l

  pub next_taken : (b : Op) → Contains h b → b.id ≡ get_or g n d → IsSome (value_given b t)
      → Precedes a b → IsLastOf h g (take (n + 1) g) t b
  next_taken b x named s before =
      let member : IsMember h g b = record {
        contained = x;
        grouped = subst (Contains g) (sym named) (Contains-get_or g n d within);
      } in
      grown b (subst (λ i. IsLastOf h g (take n g ++ i ∷ []) t b) named
      (last_taken h g t valid (take n g) a b k member s before))

  pub next_stays : (b : Op) → Contains h b → b.id ≡ get_or g n d
      → (IsSome (value_given b t) → ¬ (Precedes a b)) → IsLastOf h g (take (n + 1) g) t a
  next_stays b x named none =
      let one : (c : Op) → Contains h c → c.id ≡ get_or g n d
      → b ≡ c = λ c y e. same_op h valid b c x y (named ∙ sym e) in
      grown a (last_stays h g t (take n g) (get_or g n d) a k
      (λ c y e. subst (λ (f : Op). IsSome (value_given f t) → ¬ (Precedes a f)) (one c y e) none))

  pub next_absent : ((b : Op) → Contains h b → b.id ≢ get_or g n d)
      → IsLastOf h g (take (n + 1) g) t a
  next_absent none = grown a (last_stays h g t (take n g) (get_or g n d) a k
      (λ b x e. absurd (none b x e)))

-- ---- settled values

module _ (h : List Op) (valid : IsValid h) (o : ObjectId) (g : List OpId)
    (version : IsVersion h o g) where
  last_step : (t : Attr) (ids : List OpId) (a b : Op) → IsLastOf h g ids t a → IsMember h g b
      → (c : Op) × IsLastOf h g (ids ++ b.id ∷ []) t c
  last_step t ids a b k m = elim (cases_Bool (is_some (value_given b t))) [
    | inl s ↦ elim (cases_lt (entry b.past a.id.site) a.id.seq) [
      | inl l ↦ (
        a,
        last_stays h g t ids b.id a k (λ c x e s before. let p = subst (Precedes a) (one c x e)
            before in absurd (omega arith)),
      )
      | inr l ↦ (b, last_taken h g t valid ids a b k m s l)
    ]
    | inr n ↦ (
      a,
      last_stays h g t ids b.id a k
          (λ c x e s before. let f = subst (λ (d : Op). IsSome (value_given d t)) (one c x e) s in
          absurd cc),
    )
  ]
    where
      one : (c : Op) → Contains h c → c.id ≡ b.id → c ≡ b
      one c x e = same_op h valid c b x m.contained e

  last_over : (t : Attr) (ids rest : List OpId) (a : Op) → IsLastOf h g ids t a
      → ((i : OpId) → Contains rest i → Contains g i) → (b : Op) × IsLastOf h g (ids ++ rest) t b
  last_over t ids [] a k inside = (a, rw append-nil k)
  last_over t ids (i ∷ rest) a k inside =
      let grouped = inside i (Contains-cons_head i rest) in
      let on = version.members i grouped in
      let step = last_step t ids a on.op k
      (record { contained = on.contained; grouped = subst (Contains g) (sym on.id) grouped }) in
      let more : IsLastOf h g (ids ++ i ∷ []) t step.0 = subst
      (λ j. IsLastOf h g (ids ++ j ∷ []) t step.0) on.id step.1 in
      let end = last_over t (ids ++ i ∷ []) rest step.0 more
      (λ j c. inside j (Contains-cons_tail i rest j c)) in
      (end.0, rw append_assoc at end.1)

  -- each attribute that the object has is settled
  pub settles : (t : Attr) → HasAttribute h o t → (v : Value) × IsSettled h g t v
  settles t has_it =
      let first = last_first h g t version.created.op (maker_grouped h valid o g version)
      (maker_sets h valid o g version t has_it) in
      let last = last_over t [] g version.created.op first (λ i c. c) in
      let value = some_value (value_given last.0 t) last.1.sets in
      (value.0, settled_by h g t last.0 value.0 last.1 value.1)

  sets : (a : Op) (t : Attr) (v : Value) → value_given a t ≡ Some v → IsSome (value_given a t)
  sets a t v e = subst IsSome (sym e) refl

  -- two setters, neither of which comes after the other, are compatible, so they give one value
  pub settled_once : (t : Attr) (v w : Value) → IsSettled h g t v → IsSettled h g t w → v ≡ w
  settled_once t v w x y = elim (cases_Bool (value_eq v w)) [
    | inl s ↦ value_eq-true v w s
    | inr f ↦ absurd (version.compatible x.setter y.setter x.member y.member
        (conflict_direct h x.setter y.setter (apart f)))
  ]
    where
      differ : value_eq v w ≡ false → v ≢ w
      differ f e = let s = value_eq-same v in let n = subst (λ u. value_eq v u ≡ false) (sym e) f in
          absurd cc

      two : value_eq v w ≡ false → x.setter ≢ y.setter
      two f e =
          let same : Some v ≡ Some w = sym x.gives ∙ (ap (λ (a : Op). value_given a t) e ∙ y.gives)
          in
          differ f cc

      apart : value_eq v w ≡ false → DirectConflict x.setter y.setter
      apart f = record {
        concurrent = record {
          different = two f;
          not_before = x.last y.setter y.member (sets y.setter t w y.gives);
          not_after = y.last x.setter x.member (sets x.setter t v x.gives);
        };
        one_object = member_object h valid o g version x.setter x.member
            ∙ sym (member_object h valid o g version y.setter y.member);
        apart = record {
          attribute = t;
          first = v;
          second = w;
          first_given = x.gives;
          second_given = y.gives;
          differ = differ f;
        };
      }
