-- How what is told grows by one fault.
use Rattle.std.specs.Prelude.{ℕ, ◌↔◌, ◌⊎◌, Contains, IsTrue, OnOk, Result, Ok, Err, ⊤}
use Rattle.std.proofs.Common.{◌≡◌, Bool, true, false, cond, List, [], ◌∷◌, ◌++◌, refl, sym, ap}
use Rattle.std.proofs.Common.{subst, ◌∙◌, inl, inr}
use Rattle.std.proofs.lemmas.Grind.{flat_map-append}
use Rattle.std.proofs.lemmas.List.{append-nil, map-append}
use Rattle.std.proofs.lemmas.List.Elements.{Contains-append_left, Contains-push}
use Rattle.std.proofs.lemmas.List.Elements.{Contains-push_cases}
use Rattle.std.proofs.lemmas.Map.Lookups.{CmpEqualImpliesEq, exact_pairs, exact_unsigned}
use Rattle.std.proofs.lemmas.Cmp.{then_total, on_total, tied_itself}
use Rattle.std.specs.BTreeMap.{is_at}
use Rattle.std.specs.BTreeSet.{contains}
use Rattle.std.specs.Cmp.{IsTotalOrder, Equal-is, nat_cmp_total}
use Rattle.std.specs.Ordering.{is_eq, nat_cmp}
use Rattle.gf_ops.specs.declared.op.OpId.{OpId}
use Rattle.gf_ops.specs.declared.faults.OpFault.{OpFault}
use Rattle.gf_ops.specs.declared.faults.OpFault.TheVariants as fault
use Rattle.gf_ops.specs.OperationOrder.{id_cmp}
use Rattle.gf_causal.proofs.HeldLemmas.{exact_ids, ids_total}
use Rattle.gf_replay.specs.declared.reading_error.LineCause.{LineCause}
use Rattle.gf_replay.specs.declared.reading_error.ReadingError.{ReadingError}
use Rattle.gf_replay.specs.declared.reading_error.ReadingError.TheVariants as reading
use Rattle.gf_check.specs.declared.telling.Telling.{Telling}
use Rattle.gf_check.specs.FaultLines.{Told, IsOnOneLine, errors, told_line, told_text}
use Rattle.gf_check.specs.AllFaults.{TellsOnLines}
use Rattle.gf_check.specs.Telling.{HasDrop, HasTold, TellsOne, check_number, drop_cmp}

-- ---- the faults that are told

told_more : (told : List Told) (u : Told) → told_text (told ++ u ∷ []) ≡ told_text told ++ told_line
    u.error u.why
told_more told u =
    flat_map-append (λ (t : Told). told_line t.error t.why) told (u ∷ [])
    ∙ ap (λ x. told_text told ++ x) (append-nil (told_line u.error u.why))

pub errors_more : (told : List Told) (u : Told)
    → errors (told ++ u ∷ []) ≡ errors told ++ u.error ∷ []
errors_more told u = map-append (λ (t : Told). t.error) told (u ∷ [])

pub error_there : (told : List Told) (u : Told) (e : ReadingError) → Contains (errors told) e
    → Contains (errors (told ++ u ∷ [])) e
error_there told u e c = subst (λ es. Contains es e) (sym (errors_more told u))
    (Contains-append_left (errors told) (u.error ∷ []) e c)

pub error_last : (told : List Told) (u : Told) → Contains (errors (told ++ u ∷ [])) u.error
error_last told u = subst (λ es. Contains es u.error) (sym (errors_more told u))
    (Contains-push (errors told) u.error)

pub error_cases : (told : List Told) (u : Told) (e : ReadingError)
    → Contains (errors (told ++ u ∷ [])) e → Contains (errors told) e ⊎ (u.error ≡ e)
error_cases told u e c = Contains-push_cases (errors told) u.error e
    (subst (λ es. Contains es e) (errors_more told u) c)

plain_more : (told : List Told) (u : Told) → TellsOnLines told → IsOnOneLine u.why
    → TellsOnLines (told ++ u ∷ [])
plain_more told u plain own t c = elim (Contains-push_cases told u t c) [
  | inl j ↦ plain t j
  | inr e ↦ subst (λ (v : Told). IsOnOneLine v.why) e own
]

-- ---- the drops that are kept

drop_total : IsTotalOrder drop_cmp
drop_total = then_total (on_total (λ p. p.0) ids_total) (on_total (λ p. p.1) nat_cmp_total)

drop_exact : CmpEqualImpliesEq drop_cmp
drop_exact = exact_pairs id_cmp nat_cmp exact_ids exact_unsigned

at_itself : (p : OpId × ℕ) → is_at (drop_cmp p) p ≡ true
at_itself p = ap is_eq (tied_itself drop_total p)

at_same : (p q : OpId × ℕ) → is_at (drop_cmp p) q ≡ true → p ≡ q
at_same p q t = drop_exact p q ((Equal-is (drop_cmp p q)).0 t)

number_exact : (f g : OpFault) → check_number f ≡ check_number g → f ≡ g
number_exact fault.BadClock fault.BadClock e = refl
number_exact fault.NoObject fault.NoObject e = refl
number_exact fault.WrongKind fault.WrongKind e = refl
number_exact fault.BadAim fault.BadAim e = refl
number_exact f g e = absurd cc

put_cases : (b old : Bool) → IsTrue (cond b true old) → (b ≡ true) ⊎ IsTrue old
put_cases true old t = inl refl
put_cases false old t = inr t

put_there : (b old : Bool) → IsTrue old → IsTrue (cond b true old)
put_there true old t = refl
put_there false old t = t

put_itself : (b old : Bool) → b ≡ true → IsTrue (cond b true old)
put_itself true old e = refl
put_itself false old e = absurd cc

pub drop_kept : (told : List Told) (t : Telling) (i : OpId) (why : OpFault) (n : ℕ) (b : Bool)
    → n ≡ check_number why → b ≡ contains drop_cmp t.drops (i, n) → HasTold told t →
    IsTrue b ↔ Contains (errors told) (reading.Dropped i why)
drop_kept told t i why n b number is h = rw (is, number) (h.drops i why)

-- ---- one fault more

line_more : (told : List Told) (old new : Telling) (n : ℕ) (cause : LineCause) (why : List ℕ)
    → new.text.items ≡ old.text.items ++ told_line (reading.Line n cause) why
    → new.drops ≡ old.drops →
    IsOnOneLine why → HasTold told old → TellsOne (reading.Line n cause) told new
line_more told old new n cause why grows same own h = record {
  why = why;
  is = record {
    text = grows ∙ (ap (λ s. s ++ told_line (reading.Line n cause) why) h.text
        ∙ sym (told_more told u));
    plain = plain_more told u h.plain own;
    drops = λ i f. (
      λ d. error_there told u (reading.Dropped i f)
          ((h.drops i f).0 (subst (λ s. IsTrue (contains drop_cmp s (i, check_number f))) same d)),
      λ c. elim (error_cases told u (reading.Dropped i f) c) [
        | inl j ↦ subst (λ s. IsTrue (contains drop_cmp s (i, check_number f))) (sym same)
            ((h.drops i f).1 j)
        | inr e ↦ absurd cc
      ],
    );
  };
}
  where
    u : Told
    u = record { error = reading.Line n cause; why = why }

drop_more : (told : List Told) (old new : Telling) (i : OpId) (f : OpFault) (why : List ℕ)
    → new.text.items ≡ old.text.items ++ told_line (reading.Dropped i f) why →
    ((q : OpId × ℕ) → contains drop_cmp new.drops q ≡ cond (is_at (drop_cmp (i, check_number f)) q)
    true (contains drop_cmp old.drops q)) → IsOnOneLine why → HasTold told old
    → TellsOne (reading.Dropped i f) told new
drop_more told old new i f why grows puts own h = record {
  why = why;
  is = record {
    text = grows ∙ (ap (λ s. s ++ told_line (reading.Dropped i f) why) h.text
        ∙ sym (told_more told u));
    plain = plain_more told u h.plain own;
    drops = λ j g. (kept j g, there j g);
  };
}
  where
    u : Told
    u = record { error = reading.Dropped i f; why = why }

    is_it : OpId → OpFault → Bool
    is_it j g = is_at (drop_cmp (i, check_number f)) (j, check_number g)

    kept : (j : OpId) (g : OpFault) → HasDrop new j g
        → Contains (errors (told ++ u ∷ [])) (reading.Dropped j g)
    kept j g d = elim (put_cases (is_it j g) (contains drop_cmp old.drops (j, check_number g))
        (subst IsTrue (puts (j, check_number g)) d)) [
          | inl e ↦
              let same = at_same (i, check_number f) (j, check_number g) e in
              let id : i ≡ j = ap (λ (p : OpId × ℕ). p.0) same in
              let cause : f ≡ g = number_exact f g (ap (λ (p : OpId × ℕ). p.1) same) in
              subst (λ k. Contains (errors (told ++ u ∷ [])) (reading.Dropped k g)) id
              (subst (λ k. Contains (errors (told ++ u ∷ [])) (reading.Dropped i k)) cause
              (error_last told u))
          | inr o ↦ error_there told u (reading.Dropped j g) ((h.drops j g).0 o)
        ]

    itself : (j : OpId) (g : OpFault) → reading.Dropped i f ≡ reading.Dropped j g → is_it j g ≡ true
    itself j g e =
        let id : i ≡ j = cc in
        let cause : f ≡ g = cc in
        subst (λ k. is_at (drop_cmp (i, check_number f)) (k, check_number g) ≡ true) id
        (subst (λ k. is_at (drop_cmp (i, check_number f)) (i, check_number k) ≡ true) cause
        (at_itself (i, check_number f)))

    there : (j : OpId) (g : OpFault) → Contains (errors (told ++ u ∷ [])) (reading.Dropped j g)
        → HasDrop new j g
    there j g c = subst IsTrue (sym (puts (j, check_number g)))
        (elim (error_cases told u (reading.Dropped j g) c) [
          | inl k ↦ put_there (is_it j g) (contains drop_cmp old.drops (j, check_number g))
              ((h.drops j g).1 k)
          | inr e ↦ put_itself (is_it j g) (contains drop_cmp old.drops (j, check_number g))
              (itself j g e)
        ])

pub line_told : (told : List Told) (old new : Telling) (n : ℕ) (cause : LineCause) (why : List ℕ)
    {E : Type 0} (r : Result ⊤ E)
    → OnOk r (new.text.items ≡ old.text.items ++ told_line (reading.Line n cause) why)
    → new.drops ≡ old.drops →
    IsOnOneLine why → HasTold told old → OnOk r (TellsOne (reading.Line n cause) told new)
line_told told old new n cause why (Ok u) grows same own h = line_more told old new n cause why
    grows same own h
line_told told old new n cause why (Err e) grows same own h = tt

pub drop_told : (told : List Told) (old new : Telling) (i : OpId) (f : OpFault) (n : ℕ)
    (why : List ℕ) {E : Type 0} (r : Result ⊤ E)
    → OnOk r (new.text.items ≡ old.text.items ++ told_line (reading.Dropped i f) why) →
    n ≡ check_number f → ((q : OpId × ℕ)
    → contains drop_cmp new.drops q ≡ cond (is_at (drop_cmp (i, n)) q) true
    (contains drop_cmp old.drops q)) → IsOnOneLine why → HasTold told old
    → OnOk r (TellsOne (reading.Dropped i f) told new)
drop_told told old new i f n why (Ok u) grows number puts own h = drop_more told old new i f why
    grows (rw number at puts) own h
drop_told told old new i f n why (Err e) grows number puts own h = tt
