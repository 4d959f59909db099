-- The last operations of a list: kept one by one, they are those that come before none of the
-- others.
use Rattle.std.proofs.Common.{◌≡◌, ℕ, ◌+◌, ◌<◌, Bool, Bor, true, false, not, ◌||◌, get_or}
use Rattle.std.proofs.Common.{List, [], ◌∷◌, ◌++◌, length, map, take, drop, refl, sym, ap, subst}
use Rattle.std.proofs.Common.{◌∙◌, inl, inr}
use Rattle.std.specs.Prelude.{◌↔◌, ◌⊎◌, All, Contains, filter}
use Rattle.std.specs.List.{list_any}
use Rattle.std.proofs.lemmas.Bool.{cases_Bool, not_from_false}
use Rattle.std.proofs.lemmas.List.{map-append, take-append-drop, take_more}
use Rattle.std.proofs.lemmas.List.Elements.{All-contains_itself, All-weaker}
use Rattle.std.proofs.lemmas.List.Elements.{Contains-append_left, Contains-get_or, Contains-push}
use Rattle.std.proofs.lemmas.List.Elements.{Contains-push_cases}
use Rattle.gf_base.proofs.FilterLemmas.{Contains-filter, list_any_false, list_any_true}
use Rattle.gf_base.proofs.ListLemmas.{Contains-map, not_Contains-nil}
use Rattle.gf_ops.specs.declared.op.Op.{Op}
use Rattle.gf_ops.specs.Limits.{IsInRange}
use Rattle.gf_ops.specs.OperationOrder.{Precedes}
use Rattle.gf_ops.specs.ValidHistory.{IsValid}
use Rattle.gf_ops.proofs.HistoryLemmas.{seq_in_range, site_in_range}
use Rattle.gf_ops.proofs.ValidityLemmas.{precedes_irreflexive, precedes_transitive}
use Rattle.gf_groups.specs.VersionList.{is_before}
use Rattle.gf_groups.proofs.ConflictTestLemmas.{before_decided}
use Rattle.gf_status.specs.Setters.{AreLastOf, AreOf}

-- the operation behind a reference
abbrev pub now : Bor Op → Op
now r = r.now

-- ---- what a function gives of the elements of a list

module _ {X Y : Type 0} (f : X → Y) where
  map-filter : (p : Y → Bool) (xs : List X) → map f (filter (λ x. p (f x)) xs) ≡ filter p (map f xs)
  map-filter p [] = refl
  map-filter p (x ∷ xs) = elim (cases_Bool (p (f x))) [
    | inl k ↦ rw k (ap (λ ys. f x ∷ ys) (map-filter p xs))
    | inr k ↦ rw k (map-filter p xs)
  ]

  pub list_any-map : (p : Y → Bool) (xs : List X) → list_any p (map f xs)
      ≡ list_any (λ x. p (f x)) xs
  list_any-map p [] = refl
  list_any-map p (x ∷ xs) = ap (λ b. p (f x) || b) (list_any-map p xs)

  -- what a filter keeps
  pub Contains-kept : (p : Y → Bool) (xs found : List X) → found ≡ filter (λ x. p (f x)) xs
      → (y : Y) → Contains (map f found) y ↔ (Contains (map f xs) y × (p y ≡ true))
  Contains-kept p xs found e y =
      subst (λ ys. Contains ys y ↔ (Contains (map f xs) y × (p y ≡ true)))
      (sym (ap (map f) e ∙ map-filter p xs)) (Contains-filter p (map f xs) y)

  -- one element more
  pub map_more : (xs : List X) (n : ℕ) (x : X) → n < length xs → x ≡ get_or xs n x
      → map f (take (n + 1) xs) ≡ map f (take n xs) ++ f x ∷ []
  map_more xs n x within is = ap (map f)
      (take_more xs n x within ∙ ap (λ z. take n xs ++ z ∷ []) (sym is))
      ∙ map-append f (take n xs) (x ∷ [])

  pub Contains-first : (n : ℕ) (xs : List X) (y : Y) → Contains (map f (take n xs)) y
      → Contains (map f xs) y
  Contains-first n xs y c = subst (λ zs. Contains zs y)
      (sym (map-append f (take n xs) (drop n xs)) ∙ ap (map f) (take-append-drop n xs))
      (Contains-append_left (map f (take n xs)) (map f (drop n xs)) y c)

pub not_told : (b : Bool) → not b ≡ true → b ≡ false
not_told false e = refl
not_told true e = absurd cc

-- ---- operations of a history

-- an item of a list of them
pub item_of : {X : Type 0} (h : List Op) (f : X → Op) (xs : List X) (n : ℕ) (x : X)
    → AreOf h (map f xs) → n < length xs → x ≡ get_or xs n x → Contains h (f x)
item_of h f xs n x of within is = of (f x) (Contains-map f xs x
    (subst (Contains xs) (sym is) (Contains-get_or xs n x within)))

module _ (h : List Op) (valid : IsValid h) where
  pub all_in_range : {X : Type 0} (f : X → Op) (xs : List X) → AreOf h (map f xs)
      → All (λ x. IsInRange (f x)) xs
  all_in_range f xs of = All-weaker (Contains xs) (λ x. IsInRange (f x))
      (λ x c. valid.in_range (f x) (of (f x) (Contains-map f xs x c))) xs (All-contains_itself xs)

  after_both : (a b c : Op) → Contains h a → Contains h b → Contains h c → Precedes a b
      → Precedes b c → Precedes a c
  after_both a b c i j k p q =
      let second = valid.in_range b j in
      precedes_transitive h valid a b c j k (site_in_range a (valid.in_range a i))
      (site_in_range b second) (seq_in_range b second).0 p q

  -- ---- the last ones, one after the other

  module _ (ops ls : List Op) (x : Op) (of : AreOf h (ops ++ x ∷ [])) (was : AreLastOf ops ls) where
    old : (a : Op) → Contains ops a → Contains (ops ++ x ∷ []) a
    old a c = Contains-append_left ops (x ∷ []) a c

    there : (a : Op) → Contains ops a → Contains h a
    there a c = of a (old a c)

    there_x : Contains h x
    there_x = of x (Contains-push ops x)

    passed : (b : Op) → Contains ls b → Precedes x b → AreLastOf (ops ++ x ∷ []) ls
    passed b c after = record {
      within = λ a i. old a (was.within a i);
      last = λ a d i j p. elim (Contains-push_cases ops x d j) [
        | inl k ↦ was.last a d i k p
        | inr e ↦ was.last a b i (was.within b c)
            (after_both a x b (there a (was.within a i)) there_x (there b (was.within b c))
            (subst (λ z. Precedes a z) (sym e) p) after)
      ];
      others = λ a i. elim (Contains-push_cases ops x a i) [
        | inl k ↦ was.others a k
        | inr e ↦ inr (b, c, subst (λ z. Precedes z b) e after)
      ];
    }

    abbrev stays : Op → Bool
    stays a = not (is_before a x)

    added : ((b : Op) → Contains ls b → ¬ (Precedes x b))
        → AreLastOf (ops ++ x ∷ []) (filter stays ls ++ x ∷ [])
    added none = record {
      within = λ a i. elim (Contains-push_cases (filter stays ls) x a i) [
        | inl k ↦ old a (was.within a (kept a k).0)
        | inr e ↦ subst (Contains (ops ++ x ∷ [])) e (Contains-push ops x)
      ];
      last = λ a b i j p. elim (Contains-push_cases (filter stays ls) x a i) [
        | inl k ↦ elim (Contains-push_cases ops x b j) [
          | inl m ↦ was.last a b (kept a k).0 m p
          | inr e ↦ (kept a k).1 (subst (λ z. Precedes a z) (sym e) p)
        ]
        | inr e ↦ not_before b j (subst (λ z. Precedes z b) (sym e) p)
      ];
      others = λ a i. elim (Contains-push_cases ops x a i) [
        | inl k ↦ elim (was.others a k) [
          | inl m ↦ elim (still a m) [ inl s ↦ inl s | inr t ↦ inr (x, new, t) ]
          | inr w ↦ elim (still w.0 w.1) [
            | inl s ↦ inr (w.0, s, w.2)
            | inr t ↦ inr (
              x,
              new,
              after_both a w.0 x (there a k) (there w.0 (was.within w.0 w.1)) there_x w.2 t,
            )
          ]
        ]
        | inr e ↦ inl (subst (Contains (filter stays ls ++ x ∷ [])) e new)
      ];
    }
      where
        new : Contains (filter stays ls ++ x ∷ []) x
        new = Contains-push (filter stays ls) x

        kept : (a : Op) → Contains (filter stays ls) a → Contains ls a × (¬ (Precedes a x))
        kept a c = let f = (Contains-filter stays ls a).0 c in (
          f.0,
          λ p. let t = (before_decided a x).1 p in let n = not_told (is_before a x) f.1 in
              absurd cc,
        )

        still : (a : Op) → Contains ls a → Contains (filter stays ls ++ x ∷ []) a ⊎ Precedes a x
        still a c = elim (cases_Bool (is_before a x)) [
          | inl t ↦ inr ((before_decided a x).0 t)
          | inr f ↦ inl (Contains-append_left (filter stays ls) (x ∷ []) a
              ((Contains-filter stays ls a).1 (c, not_from_false (is_before a x) f)))
        ]

        not_before : (b : Op) → Contains (ops ++ x ∷ []) b → ¬ (Precedes x b)
        not_before b j p = elim (Contains-push_cases ops x b j) [
          | inl m ↦ elim (was.others b m) [
            | inl k ↦ none b k p
            | inr w ↦ none w.0 w.1 (after_both x b w.0 there_x (there b m)
                (there w.0 (was.within w.0 w.1)) p w.2)
          ]
          | inr e ↦ precedes_irreflexive h valid x there_x (subst (λ z. Precedes x z) (sym e) p)
        ]

  -- ---- the same of references

  module _ {X : Type 0} (f : X → Op) (ops lasts : List X) (n : ℕ) (x : X) (within : n < length ops)
      (is : x ≡ get_or ops n x) (of : AreOf h (map f ops))
      (was : AreLastOf (map f (take n ops)) (map f lasts)) where
    all_of : AreOf h (map f (take n ops) ++ f x ∷ [])
    all_of a c = of a (Contains-first f (n + 1) ops a
        (subst (λ zs. Contains zs a) (sym (map_more f ops n x within is)) c))

    pub lasts_of : AreOf h (map f lasts)
    lasts_of a c = of a (Contains-first f n ops a (was.within a c))

    pub last_passed : list_any (λ y. is_before (f x) (f y)) lasts ≡ true
        → AreLastOf (map f (take (n + 1) ops)) (map f lasts)
    last_passed t =
        let w = list_any_true (is_before (f x)) (map f lasts)
        (list_any-map f (is_before (f x)) lasts ∙ t) in
        subst (λ zs. AreLastOf zs (map f lasts)) (sym (map_more f ops n x within is))
        (passed (map f (take n ops)) (map f lasts) (f x) all_of was w.0 w.1
        ((before_decided (f x) w.0).0 w.2))

    pub last_added : list_any (λ y. is_before (f x) (f y)) lasts ≡ false → (found : List X)
        → found ≡ filter (λ y. not (is_before (f y) (f x))) lasts
        → AreLastOf (map f (take (n + 1) ops)) (map f (found ++ x ∷ []))
    last_added t found e =
        let none = list_any_false (is_before (f x)) (map f lasts)
        (list_any-map f (is_before (f x)) lasts ∙ t) in
        let kept = ap (map f) e ∙ map-filter f (λ a. not (is_before a (f x))) lasts in
        rw (map_more f ops n x within is, map-append f found (x ∷ []), kept)
        (added (map f (take n ops)) (map f lasts) (f x) all_of was
        (λ b c p. let y = (before_decided (f x) b).1 p in let n = none b c in absurd cc))

pub none_last : AreLastOf [] []
none_last = record {
  within = λ a c. c;
  last = λ a b c. absurd (not_Contains-nil a c);
  others = λ a c. absurd (not_Contains-nil a c);
}
