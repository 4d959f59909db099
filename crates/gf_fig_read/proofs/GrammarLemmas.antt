-- Every text comes to what is computed, and to nothing else.
use Rattle.std.proofs.Common.{◌≡◌, ◌≤◌, ℕ, zero, suc, List, [], ◌∷◌, length, Result, Ok, Err, refl}
use Rattle.std.proofs.Common.{sym, ap, ◌∙◌, subst, arith, inl, inr}
use Rattle.std.specs.Prelude.{IfErr, ◌⊎◌}
use Rattle.gf_fig_read.specs.declared.faults.FigError.{FigError}
use Rattle.gf_fig_tokens.specs.declared.faults.FigFault.{FigFault}
use Rattle.gf_fig_tokens.specs.declared.faults.FigFault.TheVariants as fault
use Rattle.gf_fig_tokens.specs.Layout.{Token, object_tokens}
use Rattle.gf_fig_tokens.specs.Fields.{Read, natural}
use Rattle.gf_fig_read.specs.Objects.{Drawn, object}
use Rattle.gf_fig_read.specs.FigGrammar.{Leads, none, more, nothing, Reads, StopsAt, Fails}
use Rattle.gf_fig_read.specs.Computed.{Outcome, ComesTo, next_number, objects_of, outcome_of_tokens}
use Rattle.gf_fig_read.specs.Computed.{outcome_of}
use Rattle.gf_fig_read.proofs.FaultLemmas.{fault_or}
use Rattle.gf_fig_read.proofs.ObjectLemmas.{leads_on, object_takes}

-- ---- to one

pub no_object : (d : Drawn) → object d [] ≡ Err fault.Cut
unfolding object natural
no_object d = refl

abbrev drawn : Drawn → Read Drawn → Drawn
drawn d (Ok x) = x.0
drawn d (Err f) = d

abbrev rest : Read Drawn → List Token
rest (Ok x) = x.1
rest (Err f) = []

abbrev pub ok_or : {A : Type 0} → A → Result A FigFault → A
ok_or a (Ok b) = b
ok_or a (Err f) = a

pub apart : {A : Type 0} (r : Result A FigFault) (a : A) (f : FigFault) → r ≡ Ok a → r ≡ Err f
    → {X : Type 0} → X
apart r a f e g = let h : Ok a ≡ Err f = sym e ∙ g in absurd (cc)

-- two runs over the same tokens that can go no further end alike
same_end : (d e k : Drawn) (ts left behind : List Token) (f g : FigFault) → Leads d ts e left
    → object e left ≡ Err f → Leads d ts k behind → object k behind ≡ Err g
    → (e ≡ k) × (left ≡ behind)
same_end d e k ts left behind f g (none c us) p (none a vs) q = (refl, refl)
same_end d e k ts left behind f g (none c us) p (more a n b vs between ends one others) q = apart
    (object c us) (n, between) f one p
same_end d e k ts left behind f g (more a n b vs between ends one others) p (none c us) q = apart
    (object a vs) (n, between) g one q
same_end d e k ts left behind f g (more a n b vs between ends one others) p
    (more c m i us middle stops other more_others) q =
    let both : (n, between) ≡ (m, middle) = ap (ok_or (n, between)) (sym one ∙ other) in
    same_end m b i middle ends stops f g (subst (λ (x : Drawn × List Token). Leads x.0 x.1 b ends)
    both others) p more_others q

rw_pair : (f g : FigFault) (m n : ℕ) → f ≡ g → m ≡ n → ◌≡◌ {A = FigFault × ℕ} (f, m) (g, n)
rw_pair f g m n a b = rw (a, b) refl

pair : (e g : FigFault × ℕ) → e.0 ≡ g.0 → e.1 ≡ g.1 → e ≡ g
pair e g a b = rw_pair e.0 g.0 e.1 g.1 a b

drawn_pair : (d e : Drawn) (ts us : List Token) → d ≡ e → ts ≡ us
    → ◌≡◌ {A = Drawn × List Token} (d, ts) (e, us)
drawn_pair d e ts us a b = rw (a, b) refl

pub once : (text : List ℕ) (r s : Outcome) → ComesTo text r → ComesTo text s → r ≡ s
once text (Ok d) (Ok e) p q =
    let all : p.all ≡ q.all = ap (ok_or p.all) (sym p.tokens ∙ q.tokens) in
    let h = same_end nothing d e q.all [] [] fault.Cut fault.Cut
    (subst (λ ts. Leads nothing ts d []) all p.objects) (no_object d) q.objects (no_object e) in
    ap Ok h.0
once text (Ok d) (Err e) p (inl q) = apart (object_tokens text) p.all e.0 p.tokens q.0
once text (Ok d) (Err e) p (inr q) =
    let all : p.all ≡ q.0 = ap (ok_or p.all) (sym p.tokens ∙ q.1) in
    let s = q.2 in
    let h = same_end nothing d s.before q.0 [] s.left fault.Cut e.0
    (subst (λ ts. Leads nothing ts d []) all p.objects) (no_object d) s.objects s.wrong in
    absurd (s.further (sym h.1))
once text (Err e) (Ok d) (inl p) q = apart (object_tokens text) q.all e.0 q.tokens p.0
once text (Err e) (Ok d) (inr p) q =
    let all : q.all ≡ p.0 = ap (ok_or q.all) (sym q.tokens ∙ p.1) in
    let s = p.2 in
    let h = same_end nothing d s.before p.0 [] s.left fault.Cut e.0
    (subst (λ ts. Leads nothing ts d []) all q.objects) (no_object d) s.objects s.wrong in
    absurd (s.further (sym h.1))
once text (Err e) (Err g) (inl p) (inl q) = ap Err (pair e g (ap (fault_or e.0) (sym p.0 ∙ q.0))
    (p.1 ∙ sym q.1))
once text (Err e) (Err g) (inl p) (inr q) = apart (object_tokens text) q.0 e.0 q.1 p.0
once text (Err e) (Err g) (inr p) (inl q) = apart (object_tokens text) p.0 g.0 p.1 q.0
once text (Err e) (Err g) (inr p) (inr q) =
    let all : p.0 ≡ q.0 = ap (ok_or p.0) (sym p.1 ∙ q.1) in
    let s = p.2 in
    let t = q.2 in
    let h = same_end nothing s.before t.before q.0 s.left t.left e.0 g.0
    (subst (λ ts. Leads nothing ts s.before s.left) all s.objects) s.wrong t.objects t.wrong in
    let same : object s.before s.left ≡ object t.before t.left = ap
    (λ (x : Drawn × List Token). object x.0 x.1) (drawn_pair s.before t.before s.left t.left h.0
    h.1) in
    ap Err (pair e g (ap (fault_or e.0) (sym s.wrong ∙ (same ∙ t.wrong)))
    (s.number ∙ (ap next_number h.0 ∙ sym t.number)))

-- ---- to what is computed

-- what the tokens come to
abbrev Ends : List Token → Outcome → Type 0
Ends all (Ok d) = Leads nothing all d []
Ends all (Err e) = StopsAt all e.0 e.1

abbrev after_object : ℕ → Drawn → Read Drawn → Outcome
after_object n d (Ok x) = objects_of n x.0 x.1
after_object n d (Err f) = Err (f, next_number d)

-- the first object of those left, and then what others say of the rest
step : (all : List Token) (n : ℕ) (d : Drawn) (t : Token) (ts : List Token)
    → Leads nothing all d (t ∷ ts) → length (t ∷ ts) ≤ suc n → (r : Read Drawn)
    → object d (t ∷ ts) ≡ r
    → ((e : Drawn) (left : List Token) → object d (t ∷ ts) ≡ Ok (e, left) → Leads nothing all e left
    → length left ≤ n → Ends all (objects_of n e left)) → Ends all (after_object n d r)
step all n d t ts led few (Ok x) is others =
    let takes = object_takes d x.0 (t ∷ ts) x.1 is in
    others x.0 x.1 is (leads_on nothing d x.0 all (t ∷ ts) x.1 led is) (omega (arith, takes.0, few))
step all n d t ts led few (Err f) is others = record {
  before = d;
  left = t ∷ ts;
  objects = led;
  further = λ e. cc;
  wrong = is;
  number = refl;
}

-- at most n objects that are left
ends_of : (all : List Token) (n : ℕ) (d : Drawn) (ts : List Token) → Leads nothing all d ts
    → length ts ≤ n → Ends all (objects_of n d ts)
unfolding objects_of
ends_of all zero d [] led few = led
ends_of all zero d (t ∷ ts) led few = absurd (omega (arith, few))
ends_of all (suc n) d [] led few = led
ends_of all (suc n) d (t ∷ ts) led few = step all n d t ts led few (object d (t ∷ ts)) refl
    (λ e left takes. ends_of all n e left)

comes_to_tokens : (text : List ℕ) (ts : List Token) → object_tokens text ≡ Ok ts → (r : Outcome)
    → Ends ts r → ComesTo text r
comes_to_tokens text ts e (Ok d) h = record { all = ts; tokens = e; objects = h }
comes_to_tokens text ts e (Err x) h = inr (ts, e, h)

come_to : (text : List ℕ) (r : Result (List Token) FigFault) → object_tokens text ≡ r
    → ComesTo text (outcome_of_tokens r)
come_to text (Ok ts) e = comes_to_tokens text ts e (objects_of (length ts) nothing ts)
    (ends_of ts (length ts) nothing ts (none nothing ts) (omega arith))
come_to text (Err f) e = inl (e, refl)

pub computed : (text : List ℕ) → ComesTo text (outcome_of text)
unfolding outcome_of
computed text = come_to text (object_tokens text) refl

-- ---- one drawing or one fault

in_parts : (text : List ℕ) (r : Outcome) → ComesTo text r
    → ((d : Drawn) × Reads text d) ⊎ ((f : FigFault) × (n : ℕ) × Fails text f n)
in_parts text (Ok d) h = inl (d, h)
in_parts text (Err e) h = inr (e.0, e.1, h)

pub either : (text : List ℕ)
    → ((d : Drawn) × Reads text d) ⊎ ((f : FigFault) × (n : ℕ) × Fails text f n)
either text = in_parts text (outcome_of text) (computed text)

abbrev drawn_or : Drawn → Outcome → Drawn
drawn_or d (Ok e) = e
drawn_or d (Err g) = d

pub one_drawing : (text : List ℕ) (d e : Drawn) → Reads text d → Reads text e → d ≡ e
one_drawing text d e p q = ap (drawn_or d) (once text (Ok d) (Ok e) p q)

abbrev err_or : FigFault × ℕ → Outcome → FigFault × ℕ
err_or e (Ok d) = e
err_or e (Err g) = g

pub one_fault : (text : List ℕ) (f g : FigFault) (m n : ℕ) → Fails text f m → Fails text g n
    → (f ≡ g) × (m ≡ n)
one_fault text f g m n p q =
    let same : ◌≡◌ {A = FigFault × ℕ} (f, m) (g, n) = ap (err_or (f, m))
    (once text (Err (f, m)) (Err (g, n)) p q) in
    (ap (λ (e : FigFault × ℕ). e.0) same, ap (λ (e : FigFault × ℕ). e.1) same)

pub not_both : (text : List ℕ) (d : Drawn) (f : FigFault) (n : ℕ) → Reads text d
    → ¬ (Fails text f n)
not_both text d f n p q = let both = once text (Ok d) (Err (f, n)) p q in absurd (cc)

-- ---- by computing

pub reads_by : (text : List ℕ) (d : Drawn) → outcome_of text ≡ Ok d → Reads text d
reads_by text d is = subst (ComesTo text) is (computed text)

pub fails_by : (text : List ℕ) (f : FigFault) (n : ℕ) → outcome_of text ≡ Err (f, n)
    → Fails text f n
fails_by text f n is = subst (ComesTo text) is (computed text)

-- what reads as a drawing has no fault
pub only : (text : List ℕ) (result : Result Drawn FigError)
    → IfErr result (λ e. ((e.fault ≡ fault.OutOfMemory) × (e.object ≡ 0)) ⊎ Fails text e.fault
    e.object) → (d : Drawn) → Reads text d
    → IfErr result (λ e. e.fault ≡ fault.OutOfMemory)
only text (Ok x) h d reads = tt
only text (Err e) (inl h) d reads = h.0
only text (Err e) (inr h) d reads = absurd (not_both text d e.fault e.object reads h)
