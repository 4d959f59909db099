-- Arrays of the length that is asked for, and of another.
use Rattle.std.proofs.Common.{◌≡◌, ℕ, ◌≤◌, ◌<◌, ◌==◌, List, [], ◌∷◌, ◌++◌, length, refl, arith, ◌∙◌}
use Rattle.std.proofs.Common.{Bool, false, nat_le, Ok, Err, get_or, if◌then◌else◌}
use Rattle.std.specs.Prelude.{Option, Some, None, option_map, option_and_then}
use Rattle.std.specs.List.{list_all}
use Rattle.gf_ops.specs.declared.op.Clock.{Clock}
use Rattle.gf_ops.specs.Limits.{is_clock}
use Rattle.serde_json.specs.Data.{Data}
use Rattle.serde_json.specs.declared.value.Value.{Value}
use Rattle.serde_json.specs.View.{view, items_view}
use Rattle.gf_json.specs.declared.line_error.LineError.{LineError}
use Rattle.gf_json.specs.LineForms.{◌&◌, both, each, elements, natural}
use Rattle.gf_json.specs.LineValues.{Got}
use Rattle.gf_json.specs.Limited.{limited}
use Rattle.gf_json.specs.ReadLists.{clock_of}
use Rattle.gf_json.proofs.KeyLemmas.{list_all-append}

-- ---- arrays of two

-- fewer than two
pub both-short : {A : Type 0} (form : Data → Option A) (vs : List Value) → length vs < 2
    → both form (elements (items_view vs)) ≡ None
both-short form [] h = refl
both-short form (v ∷ []) h = refl
both-short form (v ∷ w ∷ vs) h = absurd (omega (arith, h))

-- more than two
pub both-long : {A : Type 0} (form : Data → Option A) (vs : List Value) → 3 ≤ length vs
    → both form (elements (items_view vs)) ≡ None
both-long form [] h = refl
both-long form (v ∷ []) h = refl
both-long form (v ∷ w ∷ []) h = absurd (omega (arith, h))
both-long form (v ∷ w ∷ x ∷ vs) h = refl

pub ruleset not_two = (both-short, both-long)

-- ---- as many as there are

-- an array has as many elements as it has values
pub length-elements : (vs : List Value) → length (elements (items_view vs)) ≡ length vs
length-elements [] = refl
length-elements (v ∷ vs) = let i = length-elements vs in omega (arith, i)

-- as many have their form as there are
pub length-each : {A : Type 0} (form : Data → Option A) (ds : List Data) (xs : List A)
    → each form ds ≡ Some xs → length xs ≡ length ds
length-each form [] xs h = let e : [] ≡ xs = cc in rw (← e) refl
length-each {A = A} form (d ∷ ds) xs h = of_both (form d) (each form ds) (length-each form ds) h
  where
    of_both : (x : Option A) (y : Option (List A))
        → ((zs : List A) → y ≡ Some zs → length zs ≡ length ds)
        → option_map (λ p. p.0 ∷ p.1) (x & y) ≡ Some xs → length xs ≡ length (d ∷ ds)
    of_both None y m k = absurd cc
    of_both (Some a) None m k = absurd cc
    of_both (Some a) (Some bs) m k =
        let e : a ∷ bs ≡ xs = cc in
        let l = m bs refl in
        rw (← e) (omega (arith, l))

-- as many values have their form as there are
pub length-form : {A : Type 0} (form : Data → Option A) (vs : List Value) (xs : List A)
    → each form (elements (items_view vs)) ≡ Some xs → length xs ≡ length vs
length-form form vs xs h = length-each form (elements (items_view vs)) xs h ∙ length-elements vs

pub ruleset lengths = (length-form)

-- ---- clocks

-- no number of entries but eight makes a clock
clock-other : (ds : List Data) → (length ds == 8) ≡ false → clock_of ds ≡ None
clock-other ds h = of_each (each natural ds) (length-each natural ds)
  where
    of_each : (x : Option (List ℕ)) → ((ns : List ℕ) → x ≡ Some ns → length ns ≡ length ds)
        → option_and_then {U = Clock}
        (λ ns. if length ns == 8 then Some (record { 0 = ns }) else None) x ≡ None
    of_each None l = refl
    of_each (Some ns) l = let e = l ns refl in rw (e, h) refl

-- no fewer
pub clock-short : (vs : List Value) → length vs < 8 → clock_of (elements (items_view vs)) ≡ None
clock-short vs h =
    let e = length-elements vs in
    let n : length (elements (items_view vs)) < 8 = omega arith in
    clock-other (elements (items_view vs)) (grind (arith, n))

-- nor more
pub clock-long : (vs : List Value) → 9 ≤ length vs → clock_of (elements (items_view vs)) ≡ None
clock-long vs h =
    let e = length-elements vs in
    let n : 9 ≤ length (elements (items_view vs)) = omega arith in
    clock-other (elements (items_view vs)) (grind (arith, n))

pub ruleset not_eight = (clock-short, clock-long)

-- a clock of four entries and four
abbrev joined : List ℕ × List ℕ → Clock
joined p = record { 0 = p.0 ++ p.1 }

eight : (a b c d e f g h : Data) → clock_of (a ∷ b ∷ c ∷ d ∷ e ∷ f ∷ g ∷ h ∷ [])
    ≡ option_map joined
    (each natural (a ∷ b ∷ c ∷ d ∷ []) & each natural (e ∷ f ∷ g ∷ h ∷ []))
eight a b c d e f g h = of_each (natural a) (natural b) (natural c) (natural d) (natural e)
    (natural f) (natural g) (natural h)
  where
    cons : Option ℕ → Option (List ℕ) → Option (List ℕ)
    cons x y = option_map (λ p. p.0 ∷ p.1) (x & y)

    of_each : (a b c d e f g h : Option ℕ) → option_and_then
        (λ ns. if length ns == 8 then Some (record { 0 = ns }) else None)
        (cons a (cons b (cons c (cons d (cons e (cons f (cons g (cons h (Some [])))))))))
        ≡ option_map joined
        (cons a (cons b (cons c (cons d (Some [])))) & cons e (cons f (cons g (cons h (Some [])))))
    of_each a b c d e f g h = grind arith

-- the clock of eight values
pub clock_of_eight : (vs : List Value) (a b c d e f g h : Value) → 8 ≤ length vs → length vs < 9
    → a ≡ get_or vs 0 a → b ≡ get_or vs 1 b → c ≡ get_or vs 2 c → d ≡ get_or vs 3 d
    → e ≡ get_or vs 4 e → f ≡ get_or vs 5 f → g ≡ get_or vs 6 g → h ≡ get_or vs 7 h
    → clock_of (elements (items_view vs)) ≡ option_map joined
    (each natural (view a ∷ view b ∷ view c ∷ view d ∷ [])
    & each natural (view e ∷ view f ∷ view g ∷ view h ∷ []))
clock_of_eight (v0 ∷ v1 ∷ v2 ∷ v3 ∷ v4 ∷ v5 ∷ v6 ∷ v7 ∷ []) a b c d e f g h l m p q r s t u v w =
    rw (p, q, r, s, t, u, v, w) (eight (view v0) (view v1) (view v2) (view v3) (view v4) (view v5)
    (view v6) (view v7))
clock_of_eight vs a b c d e f g h l m p q r s t u v w = absurd (omega (arith, l, m))

abbrev are_entries : List ℕ → Bool
are_entries ns = list_all (λ n. nat_le n 10000) ns

-- it keeps its limits where both fours do
pub entries_limited : (x y u v : Option (List ℕ))
    → ◌≡◌ {A = Got (Option (List ℕ))} (Ok u) (limited are_entries x)
    → ◌≡◌ {A = Got (Option (List ℕ))} (Ok v) (limited are_entries y)
    → Ok (option_map joined (u & v)) ≡ limited is_clock (option_map joined (x & y))
entries_limited x y u v h k = grind (arith, list_all-append)

-- and has the fault of the first four
pub first_fault : (e : LineError) (x y : Option (List ℕ))
    → ◌≡◌ {A = Got (Option (List ℕ))} (Err e) (limited are_entries x)
    → Err e ≡ limited is_clock (option_map joined (x & y))
first_fault e x y h = grind arith

-- or of the last
pub last_fault : (e : LineError) (x y : Option (List ℕ))
    → ◌≡◌ {A = Got (Option (List ℕ))} (Err e) (limited are_entries y)
    → Err e ≡ limited is_clock (option_map joined (x & y))
last_fault e x y h = grind arith
