-- Where objects begin, and on which line.
use Rattle.std.proofs.Common.{◌≡◌, ◌≢◌, ℕ, ◌+◌, ◌-◌, ◌<◌, ◌≤◌, false, true, List, [], ◌∷◌, length}
use Rattle.std.proofs.Common.{drop, get_or, Option, Some, None, Result, Ok, Err, refl, sym, ap, ◌∙◌}
use Rattle.std.proofs.Common.{subst, arith, inl, inr, ◌⊎◌}
use Rattle.std.specs.Prelude.{IfOk, IsSome, MatchOption, slice_get, unwrap_or}
use Rattle.std.proofs.lemmas.Option.{slice_get-get_or}
use Rattle.gf_fig_tokens.specs.Layout.{Token, object_tokens}
use Rattle.gf_fig_tokens.specs.TokenLines.{token_lines}
use Rattle.gf_fig_tokens.specs.declared.faults.FigFault.{FigFault}
use Rattle.gf_fig_tokens.specs.declared.faults.FigFault.TheVariants as fault
use Rattle.gf_fig_tokens.proofs.NumberingLemmas.{a_line_for_each}
use Rattle.gf_fig_read.specs.declared.faults.FigError.{FigError}
use Rattle.gf_fig_read.specs.Objects.{Drawn, object}
use Rattle.gf_fig_read.specs.FigGrammar.{Leads, none, more, nothing, Fails, is_of_header}
use Rattle.gf_fig_read.specs.FaultLines.{BeginsAt, BeginsOn, last_line, front_line, IsFaultLine}
use Rattle.gf_fig_read.specs.Stepping.{Finds}
use Rattle.gf_fig_read.proofs.ObjectLemmas.{made_of, object_takes}
use Rattle.gf_fig_read.proofs.FaultLemmas.{front_has_no_object}
use Rattle.gf_fig_read.proofs.GrammarLemmas.{apart, ok_or, no_object}

-- ---- two runs over the same tokens

grows : (d e : Drawn) (ts left : List Token) → Leads d ts e left → made_of d ≤ made_of e
grows d e ts left (none c us) = omega arith
grows d e ts left (more a n b vs between ends one others) =
    let takes = object_takes a n vs between one in
    let further = grows n b between ends others in
    omega (arith, takes.1, further)

one_more : (a n b : Drawn) (vs between ends : List Token) → object a vs ≡ Ok (n, between)
    → Leads n between b ends → made_of a < made_of b
one_more a n b vs between ends one others =
    let takes = object_takes a n vs between one in
    let further = grows n b between ends others in
    omega (arith, takes.1, further)

-- two runs that have made as many objects are alike
alike : (d e k : Drawn) (ts left behind : List Token) → Leads d ts e left → Leads d ts k behind
    → made_of e ≡ made_of k → left ≡ behind
alike d e k ts left behind (none c us) (none a vs) same = refl
alike d e k ts left behind (none c us) (more a n b vs between ends one others) same =
    let l = one_more a n b vs between ends one others in absurd (omega (arith, l, same))
alike d e k ts left behind (more a n b vs between ends one others) (none c us) same =
    let l = one_more a n b vs between ends one others in absurd (omega (arith, l, same))
alike d e k ts left behind (more a n b vs between ends one others)
    (more c m i us middle stops other more_others) same =
    let both : (n, between) ≡ (m, middle) = ap (ok_or (n, between)) (sym one ∙ other) in
    alike m b i middle ends stops
    (subst (λ (x : Drawn × List Token). Leads x.0 x.1 b ends) both others) more_others same

-- no run goes on where one can go no further
stopped : (d e k : Drawn) (ts left behind : List Token) (f : FigFault) → Leads d ts e left
    → object e left ≡ Err f → Leads d ts k behind → made_of e ≤ made_of k
    → (made_of e ≡ made_of k) × (left ≡ behind)
stopped d e k ts left behind f (none c us) p (none a vs) far = (refl, refl)
stopped d e k ts left behind f (none c us) p (more a n b vs between ends one others) far =
    apart (object c us) (n, between) f one p
stopped d e k ts left behind f (more a n b vs between ends one others) p (none c us) far =
    let l = one_more a n b vs between ends one others in absurd (omega (arith, l, far))
stopped d e k ts left behind f (more a n b vs between ends one others) p
    (more c m i us middle stops other more_others) far =
    let both : (n, between) ≡ (m, middle) = ap (ok_or (n, between)) (sym one ∙ other) in
    stopped m b i middle ends stops f
    (subst (λ (x : Drawn × List Token). Leads x.0 x.1 b ends) both others) p more_others far

-- ---- where an object begins

-- an object behind a fault
pub behind_fault : (all left : List Token) (d : Drawn) (n : ℕ) (f : FigFault)
    → Leads nothing all d left → object d left ≡ Err f → made_of d + 1 < n → Finds None all n
behind_fault all left d n f led wrong far behind b =
    let m = b.number in
    let s = stopped nothing d b.before all left behind f led wrong b.objects (omega (arith, far, m))
    in
    let same = s.0 in
    absurd (omega (arith, same, far, m))

-- an object behind the last token
pub behind_all : (all : List Token) (d : Drawn) (n : ℕ) → Leads nothing all d []
    → made_of d + 1 ≤ n → Finds None all n
behind_all all d n led far behind b =
    let m = b.number in
    let s = stopped nothing d b.before all [] behind fault.Cut led (no_object d) b.objects
    (omega (arith, far, m)) in
    absurd (b.further (sym s.1))

-- ---- on which line

-- an object that begins nowhere begins on no line
pub none_on_a_line : (text : List ℕ) (all : List Token) (n line : ℕ) → object_tokens text ≡ Ok all
    → Finds None all n → ¬ (BeginsOn text n line)
none_on_a_line text all n line e h b =
    let same : b.all ≡ all = ap (ok_or b.all) (sym b.tokens ∙ e) in
    h b.left (subst (λ ts. BeginsAt ts n b.left) same b.begins)

-- the line of an object that begins
pub on_its_line : (text : List ℕ) (all : List Token) (n count : ℕ) (found : Option ℕ)
    → object_tokens text ≡ Ok all → Finds (Some count) all n
    → found ≡ slice_get (drop 2 (token_lines text)) (length all - count)
    → MatchOption found ((line : ℕ) → ¬ (BeginsOn text n line)) (BeginsOn text n)
on_its_line text all n count (Some line) e h is = record {
  all = all;
  left = h.0;
  tokens = e;
  begins = h.1;
  place = ap (λ k. slice_get (drop 2 (token_lines text)) (length all - k)) (sym h.2) ∙ sym is;
}
on_its_line text all n count None e h is = λ line b.
    let same : b.all ≡ all = ap (ok_or b.all) (sym b.tokens ∙ e) in
    let begins = subst (λ ts. BeginsAt ts n b.left) same b.begins in
    let m = h.1.number in
    let k = begins.number in
    let left : b.left ≡ h.0 = alike nothing begins.before h.1.before all b.left h.0 begins.objects
    h.1.objects (omega (arith, m, k)) in
    let there : slice_get (drop 2 (token_lines text)) (length all - count) ≡ Some line =
    ap (λ j. slice_get (drop 2 (token_lines text)) (length all - j)) h.2
    ∙ (there_too (λ us vs. slice_get (drop 2 (token_lines text)) (length us - length vs))
    all b.all h.0 b.left (sym same) (sym left) ∙ b.place) in
    absurd (let no : None ≡ Some line = is ∙ there in cc)
  where
    there_too : (f : List Token → List Token → Option ℕ) (us vs ws xs : List Token) → us ≡ vs
        → ws ≡ xs → f us ws ≡ f vs xs
    there_too f us vs ws xs p q = rw (p, q) refl

-- ---- each fault is reported at a line

shrinks : (d e : Drawn) (ts left : List Token) → Leads d ts e left → length left ≤ length ts
shrinks d e ts left (none c us) = omega arith
shrinks d e ts left (more a n b vs between ends one others) =
    let takes = object_takes a n vs between one in
    let further = shrinks n b between ends others in
    omega (arith, takes.0, further)

has_one : {X : Type 0} (xs : List X) → xs ≢ [] → 0 < length xs
has_one [] n = absurd (n refl)
has_one (x ∷ xs) n = omega arith

-- an object that begins has a line
pub begins_on_a_line : (text : List ℕ) (all left : List Token) (n : ℕ) → object_tokens text ≡ Ok all
    → BeginsAt all n left → (line : ℕ) × BeginsOn text n line
begins_on_a_line text all left n e b =
    let i = length all - length left in
    let some = has_one left b.further in
    let few = shrinks nothing b.before all left b.objects in
    let size = a_line_for_each text all e in (
      get_or (drop 2 (token_lines text)) i 0,
      record {
        all = all;
        left = left;
        tokens = e;
        begins = b;
        place = slice_get-get_or (drop 2 (token_lines text)) i 0 (omega (arith, some, few, size));
      },
    )

-- a fault before the objects has a line of its own, and one of an object has none
front_or_object : (text : List ℕ) (f : FigFault)
    → ((k : ℕ) × (front_line text f ≡ Some k))
    ⊎ ((is_of_header f ≡ false) × (front_line text f ≡ None))
front_or_object text fault.Version = inl (1, refl)
front_or_object text fault.Header = inl (last_line text, refl)
front_or_object text fault.Resolution =
    inl (unwrap_or (slice_get (token_lines text) 0) (last_line text), refl)
front_or_object text fault.Token = inr (refl, refl)
front_or_object text fault.Cut = inr (refl, refl)
front_or_object text fault.Object = inr (refl, refl)
front_or_object text fault.SubType = inr (refl, refl)
front_or_object text fault.Outline = inr (refl, refl)
front_or_object text fault.Fill = inr (refl, refl)
front_or_object text fault.Arrow = inr (refl, refl)
front_or_object text fault.Count = inr (refl, refl)
front_or_object text fault.Open = inr (refl, refl)
front_or_object text fault.Radius = inr (refl, refl)
front_or_object text fault.Range = inr (refl, refl)
front_or_object text fault.LateColour = inr (refl, refl)
front_or_object text fault.ColourTwice = inr (refl, refl)
front_or_object text fault.NoColour = inr (refl, refl)
front_or_object text fault.Depth = inr (refl, refl)
front_or_object text fault.OutOfMemory = inr (refl, refl)
front_or_object text fault.Angle = inr (refl, refl)

has_a_line : (text : List ℕ) (e : FigError) → Fails text e.fault e.object
    → (line : ℕ) × IsFaultLine text e line
has_a_line text e fails = elim (front_or_object text e.fault) [
  | inl p ↦ (p.0, rw p.1 refl)
  | inr p ↦ of_object p.0 p.1 fails
]
  where
    of_object : is_of_header e.fault ≡ false → front_line text e.fault ≡ None
        → Fails text e.fault e.object → (line : ℕ) × IsFaultLine text e line
    of_object t is (inl f) =
        let front : is_of_header e.fault ≡ true =
        (front_has_no_object text e.fault e.object (inl f)).0 f.1 in
        absurd (cc)
    of_object t is (inr f) =
        let s = f.2 in
        let there = begins_on_a_line text f.0 s.left e.object f.1 (record {
          before = s.before;
          objects = s.objects;
          further = s.further;
          number = s.number;
        }) in
        (there.0, rw is there.1)

-- a fault of an object is reported, if the text has it
pub object_is_reported : {E : Type 0} (text : List ℕ) (e : FigError) (answer : Result (Option ℕ) E)
    → None ≡ front_line text e.fault
    → IfOk answer (λ found. MatchOption found ((line : ℕ) → ¬ (BeginsOn text e.object line))
    (BeginsOn text e.object))
    → Fails text e.fault e.object → IfOk answer (λ found. IsSome found)
object_is_reported text e (Ok (Some line)) is h fails = refl
object_is_reported text e (Ok None) is h fails =
    let there = has_a_line text e fails in
    let begins : BeginsOn text e.object there.0 = rw (sym is) at there.1 in
    absurd (h there.0 begins)
object_is_reported text e (Err m) is h fails = tt
