-- Which faults there are: three before the objects, those of objects, and want of memory, which is
-- none of a text.
use Rattle.std.proofs.Common.{◌≡◌, ◌≢◌, ℕ, zero, suc, Bool, true, false, List, [], ◌∷◌, length}
use Rattle.std.proofs.Common.{drop, Option, Some, None, Result, Ok, Err, refl, ap, subst, cond}
use Rattle.std.proofs.Common.{arith, inl, inr}
use Rattle.std.specs.Prelude.{not, ◌&&◌, ◌||◌, ◌==◌, nat_lt, nat_le, IsTrue, ◌↔◌, pos, nat_abs}
use Rattle.std.proofs.lemmas.Bool.{and_parts}
use Rattle.gf_plane.specs.Reach.{is_reached}
use Rattle.gf_shape.specs.declared.outline.Outline.{Outline}
use Rattle.gf_figures.specs.Colours.{Table}
use Rattle.gf_fig_tokens.specs.declared.faults.FigFault.{FigFault}
use Rattle.gf_fig_tokens.specs.declared.faults.FigFault.TheVariants as fault
use Rattle.gf_fig_tokens.specs.Layout.{Token, object_tokens, is_version, plain_lines, tokens}
use Rattle.gf_fig_tokens.specs.Layout.{after_resolution}
use Rattle.gf_fig_tokens.specs.Forms.{whole, decimal, colour}
use Rattle.gf_fig_tokens.specs.Fields.{Read, Reader, ◌>>=◌, read_on, field, any, check, checked}
use Rattle.gf_fig_tokens.specs.Fields.{give, is_in, natural, coordinate, point, points}
use Rattle.gf_fig_read.specs.Styles.{known_colour, is_known, filling, style}
use Rattle.gf_fig_read.specs.Outlines.{count, chain, ellipse}
use Rattle.gf_fig_read.specs.Objects.{Drawn, colour_object, figure_object, object}
use Rattle.gf_fig_read.specs.FigGrammar.{Fails, is_of_header}

-- f is the want of memory
abbrev is_memory : FigFault → Bool
is_memory fault.OutOfMemory = true
is_memory f = false

abbrev is_of_object : FigFault → Bool
is_of_object f = not (is_of_header f) && not (is_memory f)

abbrev IsOfObject : FigFault → Type 0
IsOfObject f = is_of_object f ≡ true

abbrev IsOfFront : FigFault → Type 0
IsOfFront f = is_of_header f ≡ true

-- whatever fault r has is one of objects
record Blames {A : Type 0} (r : Reader A) : Type 0 where
  of : (ts : List Token) (f : FigFault) → r ts ≡ Err f → IsOfObject f

abbrev pub fault_or : {A : Type 0} → FigFault → Result A FigFault → FigFault
fault_or f (Ok a) = f
fault_or f (Err g) = g

-- ---- fields

passed : {A : Type 0} (p : Bool) (x : A × List Token) (wrong f : FigFault) → IsOfObject wrong
    → cond {A = Read A} p (Ok x) (Err wrong) ≡ Err f → IsOfObject f
passed true x wrong f h e = absurd (cc)
passed false x wrong f h e = subst IsOfObject (ap (fault_or wrong) e) h

of_checked : {A : Type 0} (o : Option A) (passes : A → Bool) (wrong f : FigFault) (ts : List Token)
    → IsOfObject wrong → checked o passes wrong ts ≡ Err f → IsOfObject f
of_checked None passes wrong f ts h e = subst IsOfObject (ap (fault_or wrong) e) refl
of_checked (Some a) passes wrong f ts h e = passed (passes a) (a, ts) wrong f h e

of_field : {A : Type 0} (form : Token → Option A) (passes : A → Bool) (wrong f : FigFault)
    (ts : List Token) → IsOfObject wrong → field form passes wrong ts ≡ Err f → IsOfObject f
of_field form passes wrong f [] h e = subst IsOfObject (ap (fault_or wrong) e) refl
of_field form passes wrong f (t ∷ ts) h e = of_checked (form t) passes wrong f ts h e

blames_field : {A : Type 0} (form : Token → Option A) (passes : A → Bool) (wrong : FigFault)
    → IsOfObject wrong → Blames (field form passes wrong)
blames_field form passes wrong h = record { of = λ ts f e. of_field form passes wrong f ts h e }

blames_check : (p : Bool) (wrong : FigFault) → IsOfObject wrong → Blames (check p wrong)
blames_check p wrong h = record { of = λ ts f e. passed p (tt, ts) wrong f h e }

blames_give : {A : Type 0} (a : A) → Blames (give a)
blames_give a = record { of = λ ts f e. absurd (cc) }

-- ---- one after the other

of_either : {A B : Type 0} (first : Reader A) (next : A → Reader B) (ts : List Token) (f : FigFault)
    → Blames first → ((a : A) → Blames (next a)) → (r : Read A) → first ts ≡ r
    → read_on r next ≡ Err f → IsOfObject f
of_either first next ts f h k (Ok x) is e = (k x.0).of x.1 f e
of_either first next ts f h k (Err g) is e = subst IsOfObject (ap (fault_or g) e) (h.of ts g is)

blames_bind : {A B : Type 0} (first : Reader A) (next : A → Reader B) → Blames first
    → ((a : A) → Blames (next a)) → Blames (first >>= next)
blames_bind first next h k = record {
  of = λ ts f e. of_either first next ts f h k (first ts) refl e;
}

-- ---- the readers

blames_natural : (low high : ℕ) (wrong : FigFault) → IsOfObject wrong
    → Blames (natural low high wrong)
unfolding natural
blames_natural low high wrong h = blames_bind _ _ (blames_field whole (is_in (pos low) (pos high))
    wrong h) (λ n. blames_give (nat_abs n))

any_whole : Blames (any whole)
any_whole = blames_field whole (λ _. true) fault.Token refl

any_decimal : Blames (any decimal)
any_decimal = blames_field decimal (λ _. true) fault.Token refl

any_colour : Blames (any colour)
any_colour = blames_field colour (λ _. true) fault.Token refl

blames_coordinate : Blames coordinate
blames_coordinate = blames_field whole is_reached fault.Range refl

blames_point : Blames point
unfolding point
blames_point = blames_bind _ _ blames_coordinate
    (λ x. blames_bind _ _ blames_coordinate (λ y. blames_give _))

blames_points : (n : ℕ) → Blames (points n)
unfolding points
blames_points zero = blames_give []
blames_points (suc n) = blames_bind _ _ blames_point
    (λ p. blames_bind _ _ (blames_points n) (λ ps. blames_give (p ∷ ps)))

blames_known : (table : Table) → Blames (known_colour table)
unfolding known_colour
blames_known table = blames_bind _ _ (blames_field whole (is_known table) fault.NoColour refl)
    (λ n. blames_give (nat_abs n))

blames_filling : (table : Table) → Blames (filling table)
unfolding filling
blames_filling table = blames_bind _ _ any_whole
    (λ _. blames_bind _ _ (blames_natural 0 0 fault.Outline refl)
    (λ _. blames_bind _ _ any_whole (λ _. blames_known table)))

blames_style : (least most : ℕ) (table : Table) → Blames (style least most table)
unfolding style
blames_style least most table =
    blames_bind _ _ (blames_natural least most fault.SubType refl)
    (λ _. blames_bind _ _ (blames_filling table)
    (λ _. blames_bind _ _ (blames_natural 0 999 fault.Depth refl) (λ _.
    blames_bind _ _ any_whole (λ _. blames_bind _ _ (blames_natural 20 20 fault.Fill refl)
    (λ _. blames_bind _ _ any_decimal (λ _. blames_give _))))))

blames_count : (boxed : Bool) → Blames (count boxed)
unfolding count
blames_count boxed =
    blames_bind _ _ any_whole
    (λ _. blames_bind _ _ any_whole
    (λ _. blames_bind _ _ any_whole (λ _. blames_bind _ _ (blames_natural 0 0 fault.Arrow refl)
    (λ _.
    blames_bind _ _ (blames_natural 0 0 fault.Arrow refl)
    (λ _. blames_natural _ _ fault.Count refl)))))

blames_chain : (boxed : Bool) → Blames (chain boxed)
unfolding chain
blames_chain boxed = blames_bind _ _ (blames_count boxed)
    (λ n. blames_bind _ _ (blames_points n) (λ ps. blames_bind _ _ (blames_check _ fault.Open refl)
    (λ _. blames_give _)))

blames_ellipse : (round : Bool) → Blames (ellipse round)
unfolding ellipse
blames_ellipse round =
    blames_bind _ _ any_whole
    (λ _. blames_bind _ _ any_decimal
    (λ zero. blames_bind _ _ (blames_check (round || zero) fault.Angle refl)
    (λ _. blames_bind _ _ blames_point
    (λ c. blames_bind _ _ (blames_natural 1 10000000 fault.Radius refl) (λ r.
    blames_bind _ _ (blames_natural _ _ fault.Radius refl)
    (λ _. blames_bind _ _ any_whole
    (λ _. blames_bind _ _ any_whole (λ _. blames_bind _ _ any_whole (λ _.
    blames_bind _ _ any_whole (λ _. blames_give _))))))))))

blames_colour_object : (d : Drawn) → Blames (colour_object d)
unfolding colour_object
blames_colour_object d =
    blames_bind _ _ (blames_check _ fault.LateColour refl)
    (λ _. blames_bind _ _ (blames_natural 32 543 fault.Range refl)
    (λ n. blames_bind _ _ (blames_check _ fault.ColourTwice refl) (λ _.
    blames_bind _ _ any_colour (λ c. blames_give _))))

blames_figure : (least most : ℕ) (outline : ℕ → Reader Outline) → ((n : ℕ) → Blames (outline n))
    → (d : Drawn) → Blames (figure_object least most outline d)
unfolding figure_object
blames_figure least most outline h d = blames_bind _ _ (blames_style least most d.table)
    (λ s. blames_bind _ _ (h s.sub_type) (λ o. blames_give _))

blames_of_code : (d : Drawn) (zero_is one_is : Bool)
    → Blames (cond zero_is (colour_object d)
    (cond one_is (figure_object 1 4 (λ t. ellipse (nat_le 3 t)) d)
    (figure_object 2 3 (λ t. chain (t == 2)) d)))
blames_of_code d true one_is = blames_colour_object d
blames_of_code d false true = blames_figure 1 4 _ (λ n. blames_ellipse (nat_le 3 n)) d
blames_of_code d false false = blames_figure 2 3 _ (λ n. blames_chain (n == 2)) d

blames_object : (d : Drawn) → Blames (object d)
unfolding object
blames_object d = blames_bind _ _ (blames_natural 0 2 fault.Object refl)
    (λ code. blames_of_code d (code == 0) (code == 1))

-- ---- before the objects

of_resolution : (p : Bool) (ts : List Token) (f : FigFault)
    → cond {A = Result (List Token) FigFault} p (Ok ts) (Err fault.Resolution) ≡ Err f → IsOfFront f
of_resolution true ts f e = absurd (cc)
of_resolution false ts f e = subst IsOfFront (ap (fault_or f) e) refl

of_first_two : (ts : List Token) (f : FigFault) → after_resolution ts ≡ Err f → IsOfFront f
of_first_two [] f e = subst IsOfFront (ap (fault_or f) e) refl
of_first_two (t ∷ []) f e = subst IsOfFront (ap (fault_or f) e) refl
of_first_two (t ∷ u ∷ ts) f e = of_resolution _ ts f e

of_lines : (p q : Bool) (ts : List Token) (f : FigFault)
    → cond {A = Result (List Token) FigFault} p (Err fault.Version)
    (cond q (Err fault.Header) (after_resolution ts)) ≡ Err f → IsOfFront f
of_lines true q ts f e = subst IsOfFront (ap (fault_or f) e) refl
of_lines false true ts f e = subst IsOfFront (ap (fault_or f) e) refl
of_lines false false ts f e = of_first_two ts f e

of_front : (text : List ℕ) (f : FigFault) → object_tokens text ≡ Err f → IsOfFront f
unfolding object_tokens
of_front text f e = of_lines (not (is_version text)) (nat_lt (length (plain_lines text)) 7)
    (tokens (drop 7 (plain_lines text))) f e

-- ---- of a text

not_both : (b : Bool) → not b ≡ true → b ≡ true → {X : Type 0} → X
not_both true h k = absurd (cc)
not_both false h k = absurd (cc)

pub front_has_no_object : (text : List ℕ) (f : FigFault) (n : ℕ) → Fails text f n
    → n ≡ 0 ↔ IsTrue (is_of_header f)
front_has_no_object text f n (inl p) = (λ e. of_front text f p.0, λ h. p.1)
front_has_no_object text f n (inr p) =
    let s = p.2 in
    let q = and_parts (not (is_of_header f)) (not (is_memory f))
    ((blames_object s.before).of s.left f s.wrong) in
    let m = s.number in
    (λ e. absurd (omega (arith, e, m)), λ h. not_both (is_of_header f) q.0 h)

no_memory_in_front : (f : FigFault) → f ≡ fault.OutOfMemory → IsOfFront f → {X : Type 0} → X
no_memory_in_front f e h = let k : is_of_header fault.OutOfMemory ≡ true = subst IsOfFront e h in
    absurd (cc)

no_memory_in_object : (f : FigFault) → f ≡ fault.OutOfMemory → not (is_memory f) ≡ true
    → {X : Type 0} → X
no_memory_in_object f e h = let k : not (is_memory fault.OutOfMemory) ≡ true = subst
    (λ g. not (is_memory g) ≡ true) e h in absurd (cc)

pub memory_is_no_fault : (text : List ℕ) (f : FigFault) (n : ℕ) → Fails text f n
    → f ≢ fault.OutOfMemory
memory_is_no_fault text f n (inl p) e = no_memory_in_front f e (of_front text f p.0)
memory_is_no_fault text f n (inr p) e =
    let s = p.2 in
    let q = and_parts (not (is_of_header f)) (not (is_memory f))
    ((blames_object s.before).of s.left f s.wrong) in
    no_memory_in_object f e q.1
