-- Runs that change at one index.
use Rattle.std.proofs.Common.{◌≡◌, ℕ, zero, suc, ◌<◌, ◌≤◌, ◌+◌, true, false, List, [], ◌∷◌, ◌++◌}
use Rattle.std.proofs.Common.{length, get_or, set, take, drop, ◌-◌, append_assoc, inl, inr, refl}
use Rattle.std.proofs.Common.{subst, sym, ap, ◌∙◌, arith, max, nat_le, nat_lt}
use Rattle.std.specs.Prelude.{◌==◌}
use Rattle.std.specs.List.{remove, range_with_len}
use Rattle.std.proofs.lemmas.Bool.{cases_Bool, cond-true, cond-false}
use Rattle.std.proofs.lemmas.Bool.Decides.{Decides-eqb}
use Rattle.std.proofs.lemmas.List.{append-nil}
use Rattle.gf_maximal.specs.declared.run.Run.{Run}
use Rattle.gf_maximal.specs.Runs.{AreRuns, absorb, put_into, put_at, put, pushed, IsFirstFrom}
use Rattle.gf_maximal.proofs.RunLemmas.{ends_rise, nat_lt_true, nat_lt_from}

-- later runs end later, told by the test
pub ends_parted_below : (rs : List Run) → AreRuns rs → (n : ℕ) (i j : ℕ) (d : Run) → i ≤ j
    → j < length rs → nat_lt (get_or rs j d).end n ≡ true → nat_lt (get_or rs i d).end n ≡ true
ends_parted_below rs a n i j d l m up =
    let w = ends_rise rs a i j d l m in let v = nat_lt_true (get_or rs j d).end n up in
    nat_lt_from (get_or rs i d).end n (omega arith)

pub put_point : (x : ℕ) (rs : List Run) (i : ℕ) → IsFirstFrom x rs i
    → put x rs ≡ take i rs ++ put_at x (drop i rs)
put_point x [] zero f = refl
put_point x [] (suc i) f = let b = f.bound in absurd (omega arith)
put_point x (q ∷ qs) zero f = cond-false (nat_lt q.end x) (q ∷ put x qs) (put_into x q qs)
    (f.above 0 q (omega arith) (omega arith))
put_point x (q ∷ qs) (suc i) f =
    let rec = put_point x qs i (record {
      bound = let b = f.bound in omega arith;
      below = λ k d l. f.below (suc k) d (omega arith);
      above = λ k d l m. f.above (suc k) d (omega arith) (omega arith);
    }) in
    cond-true (nat_lt q.end x) (q ∷ put x qs) (put_into x q qs) (f.below 0 q (omega arith))
    ∙ ap (λ z. q ∷ z) rec

pub drop_one : (rs : List Run) (i j : ℕ) (d : Run) → j ≡ i + 1 → i < length rs
    → drop i rs ≡ get_or rs i d ∷ drop j rs
drop_one [] i j d e l = absurd (omega arith)
drop_one (r ∷ rs) zero zero d e l = absurd (omega arith)
drop_one (r ∷ rs) zero (suc j) d e l = let z : j ≡ 0 = omega arith in
    subst (λ k. (r ∷ rs) ≡ r ∷ drop k rs) (sym z) refl
drop_one (r ∷ rs) (suc i) zero d e l = absurd (omega arith)
drop_one (r ∷ rs) (suc i) (suc j) d e l = drop_one rs i j d (omega arith) (omega arith)

pub set_is : (rs : List Run) (i j : ℕ) (v : Run) → j ≡ i + 1 → i < length rs
    → set rs i v ≡ take i rs ++ v ∷ drop j rs
set_is [] i j v e l = absurd (omega arith)
set_is (r ∷ rs) zero zero v e l = absurd (omega arith)
set_is (r ∷ rs) zero (suc j) v e l = let z : j ≡ 0 = omega arith in
    subst (λ k. (v ∷ rs) ≡ v ∷ drop k rs) (sym z) refl
set_is (r ∷ rs) (suc i) zero v e l = absurd (omega arith)
set_is (r ∷ rs) (suc i) (suc j) v e l = ap (λ z. r ∷ z)
    (set_is rs i j v (omega arith) (omega arith))

pub remove_is : (rs : List Run) (i j k : ℕ) (v : Run) → j ≡ i + 1 → k ≡ j + 1 → i < length rs
    → remove (set rs i v) j ≡ take i rs ++ v ∷ drop k rs
remove_is [] i j k v e f l = absurd (omega arith)
remove_is (r ∷ rs) i zero k v e f l = absurd (omega arith)
remove_is (r ∷ rs) i (suc j) zero v e f l = absurd (omega arith)
remove_is (r ∷ rs) zero (suc j) (suc k) v e f l =
    let z : j ≡ 0 = omega arith in let y : k ≡ 1 = omega arith in
    subst (λ n. v ∷ (take n rs ++ drop (suc n) rs) ≡ v ∷ drop k rs) (sym z)
    (subst (λ n. (v ∷ drop 1 rs) ≡ v ∷ drop n rs) (sym y) refl)
remove_is (r ∷ rs) (suc i) (suc j) (suc k) v e f l = ap (λ z. r ∷ z)
    (remove_is rs i j k v (omega arith) (omega arith) (omega arith))

drop_end : (rs : List Run) (j : ℕ) → length rs ≤ j → drop j rs ≡ []
drop_end [] zero l = refl
drop_end [] (suc j) l = refl
drop_end (r ∷ rs) zero l = absurd (omega arith)
drop_end (r ∷ rs) (suc j) l = drop_end rs j (omega arith)

-- ---- the run at the index i becomes v

pub absorb_none : (rs : List Run) (i : ℕ) (v : Run) → i < length rs → length rs ≤ i + 1
    → set rs i v ≡ take i rs ++ absorb v (drop (i + 1) rs)
absorb_none rs i v l m =
    set_is rs i (i + 1) v refl l ∙ ap (λ z. take i rs ++ z) (let e = drop_end rs (i + 1) m in
    rw e refl)

pub absorb_far : (rs : List Run) (i : ℕ) (v q : Run) → i + 1 < length rs → q ≡ get_or rs (i + 1) q
    → (v.end == q.start) ≡ false → set rs i v ≡ take i rs ++ absorb v (drop (i + 1) rs)
absorb_far rs i v q l e n =
    let d : drop (i + 1) rs ≡ q ∷ drop (i + 1 + 1) rs = subst
    (λ z. drop (i + 1) rs ≡ z ∷ drop (i + 1 + 1) rs) (sym e)
    (drop_one rs (i + 1) (i + 1 + 1) q refl l) in
    set_is rs i (i + 1) v refl (omega arith)
    ∙ ap (λ z. take i rs ++ z)
    (rw d (sym (cond-false (v.end == q.start) (record { start = v.start; end = q.end } ∷ drop
    (i + 1 + 1) rs) (v ∷ q ∷ drop (i + 1 + 1) rs) n)))

pub absorb_near : (rs : List Run) (i : ℕ) (v q : Run) → i + 1 < length rs → q ≡ get_or rs (i + 1) q
    → (v.end == q.start) ≡ true → remove (set rs i (record { start = v.start; end = q.end }))
    (i + 1) ≡ take i rs ++ absorb v (drop (i + 1) rs)
absorb_near rs i v q l e n =
    let d : drop (i + 1) rs ≡ q ∷ drop (i + 1 + 1) rs = subst
    (λ z. drop (i + 1) rs ≡ z ∷ drop (i + 1 + 1) rs) (sym e)
    (drop_one rs (i + 1) (i + 1 + 1) q refl l) in
    remove_is rs i (i + 1) (i + 1 + 1) (record { start = v.start; end = q.end }) refl refl
    (omega arith)
    ∙ ap (λ z. take i rs ++ z)
    (rw d (sym (cond-true (v.end == q.start) (record { start = v.start; end = q.end } ∷ drop
    (i + 1 + 1) rs) (v ∷ q ∷ drop (i + 1 + 1) rs) n)))

-- ---- x comes to the runs from the index i on, the first of which is q

pub first_put_at : (x : ℕ) (rs : List Run) (i : ℕ) (q : Run) → i < length rs → q ≡ get_or rs i q
    → take i rs ++ put_at x (drop i rs) ≡ take i rs ++ put_into x q (drop (i + 1) rs)
first_put_at x rs i q l e =
    let d : drop i rs ≡ q ∷ drop (i + 1) rs = subst (λ z. drop i rs ≡ z ∷ drop (i + 1) rs) (sym e)
    (drop_one rs i (i + 1) q refl l) in
    ap (λ z. take i rs ++ put_at x z) d

pub put_at_lower : (x : ℕ) (rs : List Run) (i : ℕ) (q : Run) → i < length rs → q ≡ get_or rs i q
    → (q.end == x) ≡ false → nat_le q.start x ≡ false → (q.start == x + 1) ≡ true
    → set rs i (record { start = x; end = q.end }) ≡ take i rs ++ put_at x (drop i rs)
put_at_lower x rs i q l e n m t = set_is rs i (i + 1) (record { start = x; end = q.end }) refl l
    ∙ sym (first_put_at x rs i q l e ∙ ap (λ z. take i rs ++ z) (rw (n, m, t) refl))

get_any : (rs : List Run) (i : ℕ) (d e : Run) → i < length rs → get_or rs i d ≡ get_or rs i e
get_any [] i d e l = absurd (omega arith)
get_any (r ∷ rs) zero d e l = refl
get_any (r ∷ rs) (suc i) d e l = get_any rs i d e (omega arith)

-- the run at the index i, which is r, ends behind x
pub longer_alone : (x : ℕ) (rs : List Run) (i : ℕ) (r d : Run) → i < length rs → r ≡ get_or rs i r
    → length rs ≤ i + 1 →
    set rs i (record { start = r.start; end = x + 1 }) ≡ take i rs ++ absorb
    (record { start = (get_or rs i d).start; end = x + 1 }) (drop (i + 1) rs)
longer_alone x rs i r d l e m =
    let s : get_or rs i d ≡ r = get_any rs i d r l ∙ sym e in
    absorb_none rs i (record { start = r.start; end = x + 1 }) l m
    ∙ ap (λ (z : Run). take i rs ++ absorb (record { start = z.start; end = x + 1 })
    (drop (i + 1) rs)) (sym s)

pub longer_apart : (x : ℕ) (rs : List Run) (i : ℕ) (r q d : Run) → i + 1 < length rs
    → r ≡ get_or rs i r → q ≡ get_or rs (i + 1) q → (q.start ≡ x + 1 → ⊥) →
    set rs i (record { start = r.start; end = x + 1 }) ≡ take i rs ++ absorb
    (record { start = (get_or rs i d).start; end = x + 1 }) (drop (i + 1) rs)
longer_apart x rs i r q d l e f n =
    let s : get_or rs i d ≡ r = get_any rs i d r (omega arith) ∙ sym e in
    let no : (x + 1 == q.start) ≡ false = elim (cases_Bool (x + 1 == q.start)) [
      | inl t ↦ absurd (n (sym ((Decides-eqb (x + 1) q.start).0 t)))
      | inr t ↦ t
    ] in
    absorb_far rs i (record { start = r.start; end = x + 1 }) q l f no
    ∙ ap (λ (z : Run). take i rs ++ absorb (record { start = z.start; end = x + 1 })
    (drop (i + 1) rs)) (sym s)

pub longer_joined : (x : ℕ) (rs : List Run) (i : ℕ) (r q d : Run) → i + 1 < length rs
    → r ≡ get_or rs i r → q ≡ get_or rs (i + 1) q → q.start ≡ x + 1 →
    remove (set rs i (record { start = r.start; end = q.end })) (i + 1) ≡ take i rs ++ absorb
    (record { start = (get_or rs i d).start; end = x + 1 }) (drop (i + 1) rs)
longer_joined x rs i r q d l e f n =
    let s : get_or rs i d ≡ r = get_any rs i d r (omega arith) ∙ sym e in
    absorb_near rs i (record { start = r.start; end = x + 1 }) q l f
    ((Decides-eqb (x + 1) q.start).1 (sym n))
    ∙ ap (λ (z : Run). take i rs ++ absorb (record { start = z.start; end = x + 1 })
    (drop (i + 1) rs)) (sym s)

pub one_read : (rs : List Run) (i : ℕ) (d e : Run) → i < length rs → d ≡ get_or rs i d
    → e ≡ get_or rs i e → d.start ≡ e.start
one_read rs i d e l f g = ap (λ (z : Run). z.start) (f ∙ (get_any rs i d e l ∙ sym g))

pub pushed_last : (rs : List Run) (i : ℕ) (q r : Run) → i + 1 ≡ length rs → q ≡ get_or rs i q
    → nat_le r.start q.end ≡ true
    → set rs i (record { start = q.start; end = max q.end r.end }) ≡ pushed rs r
pushed_last [] i q r e f t = absurd (omega arith)
pushed_last (p ∷ []) zero q r e f t = subst
    (λ (z : Run). (record { start = q.start; end = max q.end r.end } ∷ []) ≡ pushed (z ∷ []) r) f
    (sym (cond-true (nat_le r.start q.end) (record { start = q.start; end = max q.end r.end } ∷ [])
    (q ∷ r ∷ []) t))
pushed_last (p ∷ []) (suc i) q r e f t = absurd (omega arith)
pushed_last (p ∷ o ∷ os) zero q r e f t = absurd (omega arith)
pushed_last (p ∷ o ∷ os) (suc i) q r e f t = ap (λ z. p ∷ z)
    (pushed_last (o ∷ os) i q r (omega arith) f t)

pub pushed_new : (rs : List Run) (r : Run)
    → ((q : Run) (i : ℕ) → i + 1 ≡ length rs → q ≡ get_or rs i q → nat_le r.start q.end ≡ false)
    → rs ++ r ∷ [] ≡ pushed rs r
pushed_new [] r f = refl
pushed_new (p ∷ []) r f = sym
    (cond-false (nat_le r.start p.end) (record { start = p.start; end = max p.end r.end } ∷ [])
    (p ∷ r ∷ []) (f p 0 (omega arith) refl))
pushed_new (p ∷ o ∷ os) r f = ap (λ z. p ∷ z)
    (pushed_new (o ∷ os) r (λ q i e g. f q (suc i) (omega arith) g))

pub pushed_behind : (rs : List Run) (i : ℕ) (q r : Run) → i + 1 ≡ length rs → q ≡ get_or rs i q
    → nat_le r.start q.end ≡ false → rs ++ r ∷ [] ≡ pushed rs r
pushed_behind rs i q r e f t = pushed_new rs r (λ p j g h.
    let k : j ≡ i = omega arith in
    let same : p ≡ q = subst (λ z. p ≡ get_or rs z p) k h ∙ (get_any rs i p q (omega arith) ∙ sym f)
    in
    subst (λ (z : Run). nat_le r.start z.end ≡ false) (sym same) t)

pub pushed_first : (rs : List Run) (r : Run) → length rs ≡ 0 → rs ++ r ∷ [] ≡ pushed rs r
pushed_first rs r e = pushed_new rs r (λ p j g h. absurd (omega arith))

pub longer_to : (rs : List Run) (i : ℕ) (q r : Run) (m : ℕ) → i + 1 ≡ length rs → q ≡ get_or rs i q
    → nat_le r.start q.end ≡ true → m ≡ max q.end r.end
    → set rs i (record { start = q.start; end = m }) ≡ pushed rs r
longer_to rs i q r m e f t h = rw h (pushed_last rs i q r e f t)

-- ---- the numbers from n on that are below e

pub range_pushed : (old new all : List ℕ) (n e : ℕ) → n < e → new ≡ old ++ n ∷ []
    → old ++ range_with_len n (e - n) ≡ all → new ++ range_with_len (n + 1) (e - (n + 1)) ≡ all
range_pushed old new all n e l p q =
    let k : e - n ≡ suc (e - (n + 1)) = omega arith in
    let step : range_with_len n (e - n) ≡ n ∷ range_with_len (n + 1) (e - (n + 1)) = rw k refl in
    rw p (append_assoc old (n ∷ []) (range_with_len (n + 1) (e - (n + 1))) ∙ rw step at q)

pub range_done : (new all : List ℕ) (n e : ℕ) → e ≤ n → new ++ range_with_len n (e - n) ≡ all
    → new ≡ all
range_done new all n e l q = let z : e - n ≡ 0 = omega arith in sym (append-nil new) ∙ rw z at q
