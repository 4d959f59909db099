-- What the held operation that blocks with the least id tells of the operations that were read.
use Rattle.std.specs.Prelude.{Contains, Option, Some, None, ◌⊎◌, ◌||◌, drop, find, length, map}
use Rattle.std.specs.List.Sorted.{IsStrictlySortedBy}
use Rattle.std.specs.declared.cmp.Ordering.TheVariants.{Less}
use Rattle.std.proofs.Common.{◌≡◌, ◌≢◌, ℕ, suc, ◌+◌, ◌<◌, cond, get_or, nat_lt, ◌==◌, Bool, true}
use Rattle.std.proofs.Common.{false, List, [], ◌∷◌, refl, sym, ap, subst, ◌∙◌, inl, inr, arith}
use Rattle.std.proofs.lemmas.Bool.{lt-ltb, ltb-true, eq-eqb}
use Rattle.std.proofs.lemmas.Bool.Decides.{eqb_tells}
use Rattle.std.proofs.lemmas.Map.Keys.{sorted_tail}
use Rattle.std.proofs.Math.Seq.{drop-cons}
use Rattle.gf_ops.specs.declared.op.Op.{Op}
use Rattle.gf_ops.specs.OperationOrder.{count_of, entry, id_cmp}
use Rattle.gf_base.proofs.ListLemmas.{Contains-cons_cases, Contains-cons_head, Contains-cons_tail}
use Rattle.gf_base.proofs.ListLemmas.{Contains-map, not_Contains-nil}
use Rattle.gf_base.proofs.RisingLemmas.{below_tail, never_both}
use Rattle.gf_causal.specs.HeldOperations.{AreHeld, ids_of}
use Rattle.gf_causal.proofs.HeldLemmas.{ids_total}
use Rattle.gf_site.specs.ReplicaState.{ReplicaState}
use Rattle.gf_replay.specs.Taking.{HasTaken}
use Rattle.gf_replay.specs.Waiting.{AreWaiting}
use Rattle.gf_causal.specs.Blocking.{Blocks}
use Rattle.gf_edit.specs.EditRun.{IsFirstBlocking}
use Rattle.gf_edit.specs.Waiting.{is_blocking}

-- ---- the first that is found

module _ (p : Op → Bool) where
  found_there : (ops : List Op) (a : Op) → find p ops ≡ Some a → Contains ops a × (p a ≡ true)
  found_there [] a e = absurd cc
  found_there (x ∷ xs) a e = by_answer (p x) refl e (found_there xs a)
    where
      by_answer : (b : Bool) → p x ≡ b → cond b (Some x) (find p xs) ≡ Some a
          → (find p xs ≡ Some a → Contains xs a × (p a ≡ true)) → Contains (x ∷ xs) a × (p a ≡ true)
      by_answer true is e later =
          let same : x ≡ a = cc in (
            subst (Contains (x ∷ xs)) same (Contains-cons_head x xs),
            subst (λ (y : Op). p y ≡ true) same is,
          )
      by_answer false is e later = let r = later e in (Contains-cons_tail x xs a r.0, r.1)

  none_found : (ops : List Op) → find p ops ≡ None → (a : Op) → Contains ops a → p a ≡ false
  none_found [] e a i = absurd (not_Contains-nil a i)
  none_found (x ∷ xs) e a i = by_answer (p x) refl e (λ q j. none_found xs q a j)
    where
      by_answer : (b : Bool) → p x ≡ b → cond b (Some x) (find p xs) ≡ None
          → (find p xs ≡ None → Contains xs a → p a ≡ false) → p a ≡ false
      by_answer true is e later = absurd cc
      by_answer false is e later = elim (Contains-cons_cases x xs a i) [
        | inl q ↦ subst (λ (y : Op). p y ≡ false) (sym q) is
        | inr j ↦ later e j
      ]

  -- among rising ids, the first that is found has the least
  least_found : (ops : List Op) (a : Op) → IsStrictlySortedBy id_cmp (ids_of ops)
      → find p ops ≡ Some a → (b : Op) → Contains ops b → p b ≡ true → id_cmp b.id a.id ≢ Less
  least_found [] a s e b i told = absurd (not_Contains-nil b i)
  least_found (x ∷ xs) a s e b i told = by_answer (p x) refl e
      (λ q j. least_found xs a (sorted_tail id_cmp x.id (ids_of xs) s) q b j told)
    where
      not_less : x ≡ a → id_cmp b.id a.id ≢ Less
      not_less same l = elim (Contains-cons_cases x xs b i) [
        | inl q ↦ let m = subst (λ (y : Op). id_cmp y.id a.id ≡ Less) (q ∙ same) l in
            never_both id_cmp ids_total a.id a.id m m
        | inr j ↦
            let below = below_tail id_cmp ids_total x.id (ids_of xs) s b.id
            (Contains-map (λ (y : Op). y.id) xs b j) in
            never_both id_cmp ids_total a.id b.id (subst (λ (y : Op). id_cmp y.id b.id ≡ Less) same
            below) l
      ]

      by_answer : (t : Bool) → p x ≡ t → cond t (Some x) (find p xs) ≡ Some a
          → (find p xs ≡ Some a → Contains xs b → id_cmp b.id a.id ≢ Less) → id_cmp b.id a.id ≢ Less
      by_answer true is e later = let same : x ≡ a = cc in not_less same
      by_answer false is e later = elim (Contains-cons_cases x xs b i) [
        | inl q ↦ let no = subst (λ (y : Op). p y ≡ false) (sym q) is in absurd cc
        | inr j ↦ later e j
      ]

-- ---- a search from the front

module _ {X : Type 0} (f : X → Op) (p : Op → Bool) (xs : List X) (k : ℕ) (x : X)
    (inside : k < length xs) (is : x ≡ get_or xs k x) (so_far : find p (map f (drop k xs)) ≡ find p
    (map f xs)) where
  abbrev answer : Bool → Option Op
  answer b = cond b (Some (f x)) (find p (map f (drop (suc k) xs)))

  from_here : answer (p (f x)) ≡ find p (map f xs)
  from_here = sym (ap (λ ys. find p (map f ys)) (drop-cons xs k x inside
      ∙ ap (λ y. y ∷ drop (suc k) xs) (sym is))) ∙ so_far

  -- the search ends where p holds
  pub found_here : p (f x) ≡ true → Some (f x) ≡ find p (map f xs)
  found_here holds = sym (ap answer holds) ∙ from_here

  -- where p fails the search goes on
  pub passed_here : p (f x) ≡ false → find p (map f (drop (k + 1) xs)) ≡ find p (map f xs)
  passed_here fails = subst (λ j. find p (map f (drop j xs)) ≡ find p (map f xs)) {x = suc k}
      {y = k + 1} (omega arith) (sym (ap answer fails) ∙ from_here)

-- ---- what blocks

one_true : (a b : Bool) → (a ≡ true) ⊎ (b ≡ true) → (a || b) ≡ true
one_true true b t = refl
one_true false b (inl p) = absurd cc
one_true false b (inr p) = p

one_of : (a b : Bool) → (a || b) ≡ true → (a ≡ true) ⊎ (b ≡ true)
one_of true b t = inl refl
one_of false b t = inr t

-- what a replica holds is what waits of the operations that it has taken
pub waiting_taken : (ops : List Op) (x : ReplicaState) → HasTaken ops x → AreHeld x.held
    → AreWaiting ops x.ops x.held
waiting_taken ops x t held = record {
  exactly = λ a. (
    λ i. ((t.all a).1 (inl i), t.others a i),
    λ w. elim ((t.all a).0 w.0) [ inl j ↦ j | inr j ↦ absurd (w.1 j) ],
  );
  rising = held.rising;
}

module _ (s : ℕ) (ops : List Op) (x : ReplicaState) (w : AreWaiting ops x.ops x.held) where
  blocking_told : (a : Op) → Blocks s x.ops a → is_blocking s x.ops a ≡ true
  blocking_told a b = one_true _ _ (elim b.knows [
    | inl e ↦ inl (eq-eqb a.id.site s e)
    | inr l ↦ inr (lt-ltb (count_of x.ops s) (entry a.past s) l)
  ])

  told_blocking : (a : Op) → Contains x.held a → is_blocking s x.ops a ≡ true → Blocks s x.ops a
  told_blocking a i e = record {
    waits = ((w.exactly a).0 i).1;
    knows = elim (one_of (a.id.site == s) (nat_lt (count_of x.ops s) (entry a.past s)) e) [
      | inl q ↦ elim (eqb_tells a.id.site s) [ inl y ↦ inl y.1 | inr n ↦ let z = n.0 in absurd cc ]
      | inr l ↦ inr (ltb-true (count_of x.ops s) (entry a.past s) l)
    ];
  }

  held_there : (a : Op) → Contains ops a → ¬ (Contains x.ops a) → Contains x.held a
  held_there a i out = (w.exactly a).1 (i, out)

  -- where none is found, none blocks
  pub none_blocks : find (is_blocking s x.ops) x.held ≡ None → (a : Op) → Contains ops a
      → ¬ (Blocks s x.ops a)
  none_blocks e a i b = let no = none_found (is_blocking s x.ops) x.held e a
      (held_there a i b.waits) in let yes = blocking_told a b in absurd cc

  -- the one that is found blocks, and none with a lesser id does
  pub first_blocks : (a : Op) → find (is_blocking s x.ops) x.held ≡ Some a
      → IsFirstBlocking s x.ops ops a
  first_blocks a e =
      let f = found_there (is_blocking s x.ops) x.held a e in
      record {
        contained = ((w.exactly a).0 f.0).0;
        blocks = told_blocking a f.0 f.1;
        least = λ b i k. least_found (is_blocking s x.ops) x.held a w.rising e b
            (held_there b i k.waits) (blocking_told b k);
      }
