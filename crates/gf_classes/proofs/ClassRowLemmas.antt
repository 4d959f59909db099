-- The rows of direct and joint classes: two classes conflict where direct classes that they bring do.
use Rattle.std.proofs.Common.{◌≡◌, ◌≢◌, set, ℕ, ◌<◌, ◌≤◌, ◌+◌, ◌-◌, true, false, Bool, List, [], ◌∷◌, ◌++◌}
use Rattle.std.proofs.Common.{take, length, get_or, refl, sym, ap, subst, inl, inr, ◌∙◌, arith}
use Rattle.std.specs.Prelude.{◌↔◌, ◌⊎◌, Contains, Some, slice_get, slice_index_or}
use Rattle.std.proofs.lemmas.Bool.{cases_eq, cases_lt}
use Rattle.std.proofs.lemmas.Bool.Decides.{same_from_decides}
use Rattle.std.proofs.lemmas.List.{take_all, take_more, length-take-le, get_or_append_left}
use Rattle.std.proofs.lemmas.List.{get_or-append-add, get_or_past, get_or-set_same, get_or-set_other, length-set, length_push}
use Rattle.std.proofs.Math.Seq.{get_or-append_seam}
use Rattle.std.proofs.lemmas.Option.{slice_get_within, get_or_from_slice_get, slice_get-get_or}
use Rattle.gf_base.proofs.ListLemmas.{not_Contains-nil}
use Rattle.gf_base.proofs.PositionLemmas.{got_push, got_more, got_last}
use Rattle.gf_maximal.proofs.UnitedLemmas.{Contains-united}
use Rattle.gf_maximal.specs.Growing.{intersects, joined, united}
use Rattle.gf_maximal.specs.Rows.{AreRows, row, conflict}
use Rattle.gf_maximal.proofs.MaximalLemmas.{in_list, from_list, intersects_one, intersects_from}
use Rattle.gf_classes.specs.ClassRows.{Meets, AddsMet, IsNear, IsRowOver}
use Rattle.gf_classes.specs.ClassRows.{AreDirectRows, AreJoinedRows, AreAllRows}
use Rattle.gf_classes.proofs.OwnLemmas.{Contains-joined}

-- ---- the sets that have one of the numbers, one by one

module _ (n : ℕ) (sets : List (List ℕ)) (set : List ℕ) (i : ℕ) (d : List ℕ)
    (l : i < length sets) where
  met_before : (f : ℕ) → Meets n (take i sets) set f → Meets n (take (i + 1) sets) set f
  met_before f m = record {
    index = m.index;
    number = m.number;
    one = m.one;
    at = subst (λ z. slice_get z m.index ≡ Some m.one) (sym (take_more sets i d l))
        (got_more (take i sets) (get_or sets i d ∷ []) m.index m.one m.at);
    met = m.met;
  }

  met_cases : (f : ℕ) → Meets n (take (i + 1) sets) set f
      → Meets n (take i sets) set f
      ⊎ ((f ≡ n + i) × (intersects (get_or sets i d) set ≡ true))
  met_cases f m =
      let at = subst (λ z. slice_get z m.index ≡ Some m.one) (take_more sets i d l) m.at in
      elim (got_push (take i sets) (get_or sets i d) m.index m.one at) [
        | inl e ↦ inl (record {
          index = m.index;
          number = m.number;
          one = m.one;
          at = e;
          met = m.met;
        })
        | inr e ↦
            let count = length-take-le i sets (let q : i ≤ length sets = omega arith in q) in
            inr (
              m.number ∙ ap (λ z. n + z) (e.0 ∙ count),
              subst (λ z. intersects z set ≡ true) e.1 m.met,
            )
      ]

  met_now : intersects (get_or sets i d) set ≡ true → Meets n (take (i + 1) sets) set (n + i)
  met_now t =
      let count = length-take-le i sets (let q : i ≤ length sets = omega arith in q) in
      record {
        index = i;
        number = refl;
        one = get_or sets i d;
        at = subst (λ z. slice_get z i ≡ Some (get_or sets i d)) (sym (take_more sets i d l))
            (subst (λ z. slice_get (take i sets ++ get_or sets i d ∷ []) z ≡ Some (get_or sets i d))
            count (got_last (take i sets) (get_or sets i d)));
        met = t;
      }

  pub met_more : (b : Bool) (start old new : List ℕ) → b ≡ intersects (get_or sets i d) set
      → ((b ≡ true) × (new ≡ joined (n + i) old)) ⊎ ((b ≡ false) × (new ≡ old))
      → AddsMet n (take i sets) set start old → AddsMet n (take (i + 1) sets) set start new
  met_more b start old new is (inl (t, e)) g f = (
    λ c. elim ((Contains-joined (n + i) old f).0 (subst (λ z. Contains z f) e c)) [
      | inl j ↦ elim ((g f).0 j) [ inl s ↦ inl s | inr m ↦ inr (met_before f m) ]
      | inr q ↦ inr (subst (Meets n (take (i + 1) sets) set) (sym q) (met_now (sym is ∙ t)))
    ],
    λ j. subst (λ z. Contains z f) (sym e) ((Contains-joined (n + i) old f).1 (elim j [
      | inl s ↦ inl ((g f).1 (inl s))
      | inr m ↦ elim (met_cases f m) [
        | inl w ↦ inl ((g f).1 (inr w))
        | inr w ↦ inr w.0
      ]
    ])),
  )
  met_more b start old new is (inr (t, e)) g f = (
    λ c. elim ((g f).0 (subst (λ z. Contains z f) e c))
        [ inl s ↦ inl s | inr m ↦ inr (met_before f m) ],
    λ j. subst (λ z. Contains z f) (sym e) ((g f).1 (elim j [
      | inl s ↦ inl s
      | inr m ↦ elim (met_cases f m) [
        | inl w ↦ inr w
        | inr w ↦ let x = w.1 in absurd cc
      ]
    ])),
  )

pub met_all : (n : ℕ) (sets : List (List ℕ)) (set start found : List ℕ) (i : ℕ) → length sets ≤ i
    → AddsMet n (take i sets) set start found → AddsMet n sets set start found
met_all n sets set start found i l f = subst (λ z. AddsMet n z set start found) (take_all i sets l) f

pub met_none : (n : ℕ) (sets : List (List ℕ)) (set start found : List ℕ) → start ≡ []
    → AddsMet n sets set start found → (f : ℕ) → Contains found f ↔ Meets n sets set f
met_none n sets set start found e g f = (
  λ c. elim ((g f).0 c) [
    | inl s ↦ absurd (not_Contains-nil f (subst (λ z. Contains z f) e s))
    | inr m ↦ m
  ],
  λ m. (g f).1 (inr m),
)

-- the joint classes that were found, put to the row
pub met_united : (n : ℕ) (owns : List (List ℕ)) (old joints new : List ℕ)
    → ((f : ℕ) → Contains joints f ↔ Meets n owns old f)
    → (new ≡ united old joints) ⊎ ((new ≡ old) × (joints ≡ [])) → IsRowOver n owns old new
met_united n owns old joints new is (inl e) f = (
  λ c. elim ((Contains-united old joints f).0 (subst (λ z. Contains z f) e c)) [
    | inl d ↦ inl d
    | inr d ↦ inr ((is f).0 d)
  ],
  λ j. subst (λ z. Contains z f) (sym e) ((Contains-united old joints f).1 (elim j [
    | inl d ↦ inl d
    | inr m ↦ inr ((is f).1 m)
  ])),
)
met_united n owns old joints new is (inr (e, none)) f = (
  λ c. inl (subst (λ z. Contains z f) e c),
  λ j. subst (λ z. Contains z f) (sym e) (elim j [
    | inl d ↦ d
    | inr m ↦ absurd (not_Contains-nil f (subst (λ z. Contains z f) none ((is f).1 m)))
  ]),
)

pub joined_start : (rows owns : List (List ℕ)) → AreJoinedRows rows owns rows 0
joined_start rows owns = record {
  count = refl;
  done = λ k l. absurd (omega arith);
  rest = λ k l. refl;
}

pub joined_more : (rows owns old : List (List ℕ)) (n first : ℕ) (item new : List ℕ)
    → n < length old → first ≡ length rows → item ≡ row old n → IsRowOver first owns item new
    → AreJoinedRows rows owns old n → AreJoinedRows rows owns (set old n new) (n + 1)
joined_more rows owns old n first item new l same is over are = record {
  count = length-set old n new ∙ are.count;
  done = λ k m. elim (cases_eq k n) [
    | inl e ↦
        let there : row (set old n new) k ≡ new =
        ap (row (set old n new)) e ∙ get_or-set_same old n new [] l in
        let from : item ≡ row rows k =
        is ∙ (are.rest n (omega arith) ∙ ap (row rows) (sym e)) in
        subst (IsRowOver (length rows) owns (row rows k)) (sym there)
        (subst (λ z. IsRowOver z owns (row rows k) new) same
        (subst (λ z. IsRowOver first owns z new) from over))
    | inr e ↦
        let o : k < n = omega arith in
        subst (IsRowOver (length rows) owns (row rows k)) (sym (get_or-set_other old n k new [] e))
        (are.done k o)
  ];
  rest = λ k m.
      let e : k ≢ n = omega arith in
      get_or-set_other old n k new [] e ∙ are.rest k (omega arith);
}

pub joined_all : (rows owns found : List (List ℕ)) (n : ℕ) → length rows ≤ n
    → AreJoinedRows rows owns found n → AreDirectRows rows owns found
joined_all rows owns found n l are = record {
  count = are.count;
  each = λ k m. are.done k (omega arith);
}

-- ---- one more row

pub pushed_each : (P : ℕ → List ℕ → Type 0) (ys new : List (List ℕ)) (y : List ℕ)
    → new ≡ ys ++ y ∷ [] → ((k : ℕ) → k < length ys → P k (row ys k)) → P (length ys) y
    → (k : ℕ) → k < length new → P k (row new k)
pushed_each P ys new y e f p k l = subst (λ z. P k (row z k)) (sym e) (elim (cases_lt k (length ys)) [
  | inl m ↦ subst (P k) (sym (get_or_append_left ys (y ∷ []) [] k m)) (f k m)
  | inr m ↦
      let count = length_push ys y in
      let long = ap length e in
      let same : k ≡ length ys = omega arith in
      subst (λ z. P z (row (ys ++ y ∷ []) z)) (sym same)
      (subst (P (length ys)) (sym (get_or-append_seam ys y [] [])) p)
])

-- ---- what a class brings

-- the class e brings the direct class k
pub record IsJointOwn (n : ℕ) (owns : List (List ℕ)) (e k : ℕ) : Type 0 where
  pub index : ℕ
  pub number : e ≡ n + index
  pub own : List ℕ
  pub at : slice_get owns index ≡ Some own
  pub among : Contains own k

abbrev pub HasOwn : ℕ → List (List ℕ) → ℕ → ℕ → Type 0
HasOwn n owns e k = ((e < n) × (k ≡ e)) ⊎ IsJointOwn n owns e k

-- direct classes that the classes e and f bring conflict
pub record HaveConflict (rows owns : List (List ℕ)) (e f : ℕ) : Type 0 where
  pub one : ℕ
  pub other : ℕ
  pub brings_one : HasOwn (length rows) owns e one
  pub brings_other : HasOwn (length rows) owns f other
  pub conflict : conflict rows one other ≡ true

module _ (rows owns : List (List ℕ)) (are : AreRows rows) where
  -- near are the direct classes that conflict with one that e brings
  abbrev AreNear : ℕ → List ℕ → Type 0
  AreNear e near = (l : ℕ) → Contains near l
      ↔ ((k : ℕ) × HasOwn (length rows) owns e k × (conflict rows k l ≡ true))

  turned : (k l : ℕ) → conflict rows k l ≡ true → conflict rows l k ≡ true
  turned k l t = sym (are.symmetric k l) ∙ t

  bounded : (k l : ℕ) → conflict rows k l ≡ true → k < length rows
  bounded k l t = elim (cases_lt k (length rows)) [
    | inl m ↦ m
    | inr m ↦ absurd (not_Contains-nil l (subst (λ z. Contains z l) (get_or_past rows k [] m)
        (from_list (row rows k) l t)))
  ]

  near_direct : (e : ℕ) → e < length rows → AreNear e (row rows e)
  near_direct e b l = (
    λ c. (e, inl (b, refl), in_list (row rows e) l c),
    λ w. elim w.1 [
      | inl q ↦ from_list (row rows e) l (subst (λ z. conflict rows z l ≡ true) q.1 w.2)
      | inr q ↦ let s = q.number in absurd (omega arith)
    ],
  )

  near_joint : (j : ℕ) (own near : List ℕ) → slice_get owns j ≡ Some own → IsNear rows own near
      → AreNear (length rows + j) near
  near_joint j own near at is l = (
    λ c.
        let m = (is l).0 c in
        let w = intersects_one m.one own m.met in
        let same : l ≡ m.index = let s = m.number in omega arith in
        let there : row rows l ≡ m.one = ap (row rows) same
        ∙ get_or_from_slice_get rows m.index m.one [] m.at in (
          w.0,
          inr (record { index = j; number = refl; own = own; at = at; among = w.2 }),
          turned l w.0 (in_list (row rows l) w.0 (subst (λ z. Contains z w.0) (sym there) w.1)),
        ),
    λ w. elim w.1 [
      | inl q ↦ let s = q.0 in absurd (omega arith)
      | inr q ↦
          let same : q.index ≡ j = let s = q.number in omega arith in
          let one : q.own ≡ own =
          let z : Some q.own ≡ Some own = sym q.at ∙ (ap (slice_get owns) same ∙ at) in cc in
          let back = turned w.0 l w.2 in
          (is l).1 (record {
            index = l;
            number = omega arith;
            one = row rows l;
            at = slice_get-get_or rows l [] (bounded l w.0 back);
            met = intersects_from (row rows l) own w.0 (from_list (row rows l) w.0 back)
                (subst (λ z. Contains z w.0) one q.among);
          })
    ],
  )

  row_met : (e : ℕ) (near found : List ℕ) → AreNear e near
      → IsRowOver (length rows) owns near found → (f : ℕ)
      → Contains found f ↔ HaveConflict rows owns e f
  row_met e near found is over f = (
    λ c. elim ((over f).0 c) [
      | inl s ↦
          let w = (is f).0 s in
          record {
            one = w.0;
            other = f;
            brings_one = w.1;
            brings_other = inl (bounded f w.0 (turned w.0 f w.2), refl);
            conflict = w.2;
          }
      | inr m ↦
          let x = intersects_one m.one near m.met in
          let w = (is x.0).0 x.2 in
          record {
            one = w.0;
            other = x.0;
            brings_one = w.1;
            brings_other = inr (record {
              index = m.index;
              number = m.number;
              own = m.one;
              at = m.at;
              among = x.1;
            });
            conflict = w.2;
          }
    ],
    λ h.
        let c = (is h.other).1 (h.one, h.brings_one, h.conflict) in
        (over f).1 (elim h.brings_other [
          | inl q ↦ inl (subst (Contains near) q.1 c)
          | inr q ↦ inr (record {
            index = q.index;
            number = q.number;
            one = q.own;
            at = q.at;
            met = intersects_from q.own near h.other q.among c;
          })
        ]),
  )

  module _ (found : List (List ℕ)) (all : AreAllRows rows owns found) where
    front_row : (e : ℕ) → e < length rows → row found e ≡ row all.front e
    front_row e b = ap (λ z. row z e) all.all ∙ get_or_append_left all.front all.back [] e
        (let c = all.front_rows.count in let q : e < length all.front = omega arith in q)

    back_row : (j : ℕ) → row found (length rows + j) ≡ row all.back j
    back_row j = ap (λ z. row z (length rows + j)) all.all
        ∙ (ap (λ z. row (all.front ++ all.back) (z + j)) (sym all.front_rows.count)
        ∙ get_or-append-add all.front all.back j [])

    found_met : (e f : ℕ) → Contains (row found e) f ↔ HaveConflict rows owns e f
    found_met e f = elim (cases_lt e (length rows)) [
      | inl b ↦ subst (λ z. Contains z f ↔ HaveConflict rows owns e f) (sym (front_row e b))
          (row_met e (row rows e) (row all.front e) (near_direct e b)
          (all.front_rows.each e b) f)
      | inr b ↦ behind (e - length rows) (omega arith)
    ]
      where
        behind : (j : ℕ) → e ≡ length rows + j
            → Contains (row found e) f ↔ HaveConflict rows owns e f
        behind j q = subst (λ z. Contains (row found z) f ↔ HaveConflict rows owns z f) (sym q)
            (subst (λ z. Contains z f ↔ HaveConflict rows owns (length rows + j) f)
            (sym (back_row j)) (elim (cases_lt j (length owns)) [
              | inl l ↦
                  let w = all.back_rows j (let c = all.back_count in
                  let q : j < length all.back = omega arith in q) in
                  row_met (length rows + j) w.near (row all.back j)
                  (near_joint j (slice_index_or owns j []) w.near (slice_get-get_or owns j [] l)
                  w.is_near) w.is_row f
              | inr l ↦ (
                λ c. absurd (not_Contains-nil f (subst (λ z. Contains z f)
                    (get_or_past all.back j []
                    (let c = all.back_count in let q : length all.back ≤ j = omega arith in q)) c)),
                λ h. elim h.brings_one [
                  | inl q ↦ let s = q.0 in absurd (omega arith)
                  | inr q ↦
                      let s = q.number in
                      let t = slice_get_within owns q.index q.own q.at in absurd (omega arith)
                ],
              )
            ]))

    -- TWO CLASSES CONFLICT WHERE DIRECT CLASSES THAT THEY BRING DO
    pub rows_told : (e f : ℕ) → (conflict found e f ≡ true) ↔ HaveConflict rows owns e f
    rows_told e f = (
      λ t. (found_met e f).0 (from_list (row found e) f t),
      λ h. in_list (row found e) f ((found_met e f).1 h),
    )
