-- The parts of a named text, one after another.
use Rattle.std.proofs.Common.{◌≡◌, ◌≤◌, ◌<◌, ℕ, zero, suc, ◌+◌, ◌-◌, List, [], ◌∷◌, ◌++◌, map}
use Rattle.std.proofs.Common.{length}
use Rattle.std.proofs.Common.{get_or, refl, sym, ap, ◌∙◌, arith, append_assoc, append-nil, take}
use Rattle.std.specs.Prelude.{flat_map, zip}
use Rattle.std.specs.List.{enumerate_from, range_with_len}
use Rattle.std.proofs.lemmas.List.{length-map}
use Rattle.std.proofs.lemmas.Grind.{flat_map-append}
use Rattle.std.proofs.lemmas.Slice.Zip.{get_or-zip, length-zip}
use Rattle.gf_ops.specs.declared.op.OpId.{OpId}
use Rattle.gf_fig_named.specs.Comments.{nth_id}
use Rattle.gf_fig_named.proofs.TakenLemmas.{any_default, taken, taken_all, taken_flat}

-- ---- sites

-- one site more, up to e
pub sites_pushed : {Y : Type 0} (f : ℕ → List Y) (old new all : List Y) (s e : ℕ) → s < e
    → new ≡ old ++ f s → old ++ flat_map f (range_with_len s (e - s)) ≡ all
    → new ++ flat_map f (range_with_len (s + 1) (e - (s + 1))) ≡ all
sites_pushed f old new all s e l is so =
    let left : e - s ≡ suc (e - (s + 1)) = omega (arith, l) in
    let others = flat_map f (range_with_len (s + 1) (e - (s + 1))) in
    ap (λ t. t ++ others) is
    ∙ (append_assoc old (f s) others
    ∙ (ap (λ n. old ++ flat_map f (range_with_len s n)) (sym left) ∙ so))

pub sites_done : {Y : Type 0} (f : ℕ → List Y) (new all : List Y) (s e : ℕ) → e ≤ s
    → new ++ flat_map f (range_with_len s (e - s)) ≡ all → new ≡ all
sites_done f new all s e l so =
    let left : e - s ≡ 0 = omega (arith, l) in
    sym (append-nil new) ∙ (ap (λ n. new ++ flat_map f (range_with_len s n)) (sym left) ∙ so)

-- ---- ids

enumerated_snoc : {X : Type 0} (n : ℕ) (xs : List X) (x : X) → enumerate_from n (xs ++ x ∷ [])
    ≡ enumerate_from n xs ++ (n + length xs, x) ∷ []
enumerated_snoc n [] x = let e : n + 0 ≡ n = omega arith in rw e refl
enumerated_snoc n (y ∷ ys) x =
    let e : n + 1 + length ys ≡ n + suc (length ys) = omega arith in
    ap (λ t. (n, y) ∷ t) (enumerated_snoc (n + 1) ys x)
    ∙ ap (λ m. (n, y) ∷ (enumerate_from (n + 1) ys ++ (m, x) ∷ [])) e

length-taken : {X : Type 0} (k : ℕ) (xs : List X) → k < length xs → length (take k xs) ≡ k
length-taken zero xs l = refl
length-taken (suc k) [] l = absurd (omega (arith, l))
length-taken (suc k) (x ∷ xs) l = ap suc (length-taken k xs (omega (arith, l)))

ids_next : (ids : List OpId) (k : ℕ) (i : OpId) → k < length ids → i ≡ get_or ids k i
    → flat_map nth_id (enumerate_from 0 (take (k + 1) ids))
    ≡ flat_map nth_id (enumerate_from 0 (take k ids)) ++ nth_id (k, i)
ids_next ids k i l is =
    let long = length-taken k ids l in
    let n : 0 + length (take k ids) ≡ k = omega (arith, long) in
    ap (λ t. flat_map nth_id (enumerate_from 0 t)) (taken ids k i l is)
    ∙ (ap (flat_map nth_id) (enumerated_snoc 0 (take k ids) i)
    ∙ (flat_map-append nth_id (enumerate_from 0 (take k ids)) ((0 + length (take k ids), i) ∷ [])
    ∙ (ap (λ t. flat_map nth_id (enumerate_from 0 (take k ids)) ++ t)
    (append-nil (nth_id (0 + length (take k ids), i)))
    ∙ ap (λ m. flat_map nth_id (enumerate_from 0 (take k ids)) ++ nth_id (m, i)) n)))

pub ids_pushed : (ids : List OpId) (k : ℕ) (d : OpId) → k < length ids → (first old new : List ℕ)
    → new ≡ old ++ nth_id (k, get_or ids k d)
    → old ≡ first ++ flat_map nth_id (enumerate_from 0 (take k ids))
    → new ≡ first ++ flat_map nth_id (enumerate_from 0 (take (k + 1) ids))
ids_pushed ids k d l first old new is so =
    let i = get_or ids k d in
    let before = flat_map nth_id (enumerate_from 0 (take k ids)) in
    is ∙ (ap (λ t. t ++ nth_id (k, i)) so
    ∙ (append_assoc first before (nth_id (k, i))
    ∙ ap (λ t. first ++ t) (sym (ids_next ids k i l (any_default ids k d i l)))))

-- ---- figures

get_or-mapped : {X Y : Type 0} (r : X → Y) (xs : List X) (k : ℕ) (x : X) → k < length xs
    → get_or (map r xs) k (r x) ≡ r (get_or xs k x)
get_or-mapped r [] k x l = absurd (omega (arith, l))
get_or-mapped r (y ∷ ys) zero x l = refl
get_or-mapped r (y ∷ ys) (suc k) x l = get_or-mapped r ys k x (omega (arith, l))

module _ {A B C : Type 0} (f : A × C → List ℕ) (r : B → C) (names : List A) (figures : List B)
    (long : length names ≡ length figures) where
  abbrev pairs : List (A × C)
  pairs = zip names (map r figures)

  pairs_long : length pairs ≡ length figures
  pairs_long =
      let both : length (map r figures) ≡ length figures = length-map figures r in
      length-zip names (map r figures) ∙ omega (arith, both, long)

  -- one more figure behind its name
  pair_next : (k : ℕ) (n : A) (b : B) → k < length figures → n ≡ get_or names k n
      → b ≡ get_or figures k b
      → flat_map f (take (k + 1) pairs) ≡ flat_map f (take k pairs) ++ f (n, r b)
  pair_next k n b l name figure =
      let both : length (map r figures) ≡ length figures = length-map figures r in
      let longs = pairs_long in
      let there : k < length pairs = omega (arith, longs, l) in
      let got : get_or pairs k (n, r b) ≡ (n, r b) =
      get_or-zip names (map r figures) k (n, r b) (omega (arith, long, l)) (omega (arith, both, l))
      ∙ (ap (λ c. (get_or names k n, c)) (get_or-mapped r figures k b l ∙ ap r (sym figure))
      ∙ ap (λ a. (a, r b)) (sym name)) in
      taken_flat pairs k (n, r b) there (sym got) f

  pub pairs_pushed : (k : ℕ) (n : A) (b : B) → k < length figures → n ≡ get_or names k n
      → b ≡ get_or figures k b → (first old new : List ℕ) → new ≡ old ++ f (n, r b)
      → old ≡ first ++ flat_map f (take k pairs)
      → new ≡ first ++ flat_map f (take (k + 1) pairs)
  pairs_pushed k n b l name figure first old new is so =
      is ∙ (ap (λ t. t ++ f (n, r b)) so
      ∙ (append_assoc first (flat_map f (take k pairs)) (f (n, r b))
      ∙ ap (λ t. first ++ t) (sym (pair_next k n b l name figure))))

  pub pairs_done : (k : ℕ) → length figures ≤ k → (first old : List ℕ)
      → old ≡ first ++ flat_map f (take k pairs) → old ≡ first ++ flat_map f pairs
  pairs_done k l first old so =
      let long = pairs_long in
      so ∙ ap (λ ps. first ++ flat_map f ps) (taken_all pairs k (omega (arith, long, l)))
