-- What each object takes and adds: at least a token, and one colour or one figure.
use Rattle.std.proofs.Common.{◌≡◌, ◌≤◌, ◌<◌, ℕ, zero, suc, ◌+◌, Bool, true, false, List, [], ◌∷◌}
use Rattle.std.proofs.Common.{◌++◌, length, length-append, Option, Some, None, Ok, Err, refl, ap}
use Rattle.std.proofs.Common.{subst, cond, arith}
use Rattle.std.specs.Prelude.{⊤, pos, nat_abs, nat_le, ◌==◌, ◌||◌}
use Rattle.gf_plane.specs.declared.point.Point.{Point}
use Rattle.gf_plane.specs.Reach.{is_reached}
use Rattle.gf_shape.specs.declared.outline.Outline.{Outline}
use Rattle.gf_figures.specs.Colours.{Table}
use Rattle.gf_fig_tokens.specs.declared.faults.FigFault.{FigFault}
use Rattle.gf_fig_tokens.specs.declared.faults.FigFault.TheVariants as fault
use Rattle.gf_fig_read.specs.declared.styles.Style.{Style}
use Rattle.gf_fig_tokens.specs.Layout.{Token}
use Rattle.gf_fig_tokens.specs.Forms.{whole, decimal, colour}
use Rattle.gf_fig_tokens.specs.Fields.{Read, Reader, ◌>>=◌, read_on, field, any, check, checked}
use Rattle.gf_fig_tokens.specs.Fields.{give, is_in, natural, coordinate, point, points}
use Rattle.gf_fig_read.specs.Objects.{Drawn, colour_object, figure_object, object}
use Rattle.gf_fig_read.specs.Stepping.{with_figure}
use Rattle.gf_fig_read.specs.Styles.{known_colour, is_known, filling, style}
use Rattle.gf_fig_read.specs.Outlines.{count, chain, ellipse}
use Rattle.gf_fig_read.specs.FigGrammar.{Leads, none, more, nothing}

-- whatever r gives has P, and r makes no tokens
pub record Gives {A : Type 0} (P : A → Type 0) (r : Reader A) : Type 0 where
  pub of : (ts left : List Token) (a : A) → r ts ≡ Ok (a, left) → P a × (length left ≤ length ts)

abbrev Any : {A : Type 0} → Reader A → Type 0
Any {A} r = Gives (λ (a : A). ⊤) r

abbrev value : {A : Type 0} → A → Read A → A
value a (Ok x) = x.0
value a (Err f) = a

abbrev rest : {A : Type 0} → Read A → List Token
rest (Ok x) = x.1
rest (Err f) = []

-- ---- fields

passed : {A : Type 0} (a b : A) (p : Bool) (wrong : FigFault) (ts left : List Token)
    → cond {A = Read A} p (Ok (a, ts)) (Err wrong) ≡ Ok (b, left)
    → (a ≡ b) × (p ≡ true) × (ts ≡ left)
passed a b true wrong ts left e = (ap (value a) e, refl, ap rest e)
passed a b false wrong ts left e = absurd (cc)

checked_some : {A : Type 0} (o : Option A) (passes : A → Bool) (wrong : FigFault)
    (ts left : List Token) (a : A) → checked o passes wrong ts ≡ Ok (a, left)
    → (o ≡ Some a) × (passes a ≡ true) × (ts ≡ left)
checked_some None passes wrong ts left a e = absurd (cc)
checked_some (Some b) passes wrong ts left a e = let p = passed b a (passes b) wrong ts left e in
    (ap Some p.0, subst (λ z. passes z ≡ true) p.0 p.1, p.2)

pub field_takes : {A : Type 0} (form : Token → Option A) (passes : A → Bool) (wrong : FigFault)
    (ts left : List Token) (a : A) → field form passes wrong ts ≡ Ok (a, left)
    → (t : Token) × (ts ≡ t ∷ left) × (form t ≡ Some a) × (passes a ≡ true)
field_takes form passes wrong [] left a e = absurd (cc)
field_takes form passes wrong (t ∷ ts) left a e = let p = checked_some (form t) passes wrong ts left
    a e in (t, ap (λ us. t ∷ us) p.2, p.0, p.1)

gives_field : {A : Type 0} (form : Token → Option A) (passes : A → Bool) (wrong : FigFault)
    → Any (field form passes wrong)
gives_field form passes wrong = record {
  of = λ ts left a e. let p = field_takes form passes wrong ts left a e in
      let n : length ts ≡ suc (length left) = ap (λ us. length us) p.1 in (tt, omega (arith, n));
}

gives_check : (p : Bool) (wrong : FigFault) → Any (check p wrong)
gives_check p wrong = record {
  of = λ ts left a e. let q = passed tt a p wrong ts left e in
      let n : length ts ≡ length left = ap (λ us. length us) q.2 in (tt, omega (arith, n));
}

gives_give : {A : Type 0} (P : A → Type 0) (a : A) → P a → Gives P (give a)
gives_give {A} P a h = record {
  of = λ ts left b e. let n : length ts ≡ length left = ap (λ (r : Read A). length (rest r)) e in
      (subst P (ap (value a) e) h, omega (arith, n));
}

-- ---- one after the other

pub record Both {A B : Type 0} (first : Reader A) (next : A → Reader B) (ts : List Token) (b : B)
    (left : List Token) : Type 0 where
  pub value : A
  pub between : List Token
  pub firstly : first ts ≡ Ok (value, between)
  pub then : next value between ≡ Ok (b, left)

on_ok : {A B : Type 0} (first : Reader A) (next : A → Reader B) (ts : List Token) (b : B)
    (left : List Token) (r : Read A) → first ts ≡ r → read_on r next ≡ Ok (b, left)
    → Both first next ts b left
on_ok first next ts b left (Ok x) is e = record {
  value = x.0;
  between = x.1;
  firstly = is;
  then = e;
}
on_ok first next ts b left (Err f) is e = absurd (cc)

pub bind_ok : {A B : Type 0} (first : Reader A) (next : A → Reader B) (ts : List Token) (b : B)
    (left : List Token) → (first >>= next) ts ≡ Ok (b, left) → Both first next ts b left
bind_ok first next ts b left e = on_ok first next ts b left (first ts) refl e

gives_bind : {A B : Type 0} (P : B → Type 0) (first : Reader A) (next : A → Reader B) → Any first
    → ((a : A) → Gives P (next a)) → Gives P (first >>= next)
gives_bind P first next h k = record {
  of = λ ts left b e.
      let p = bind_ok first next ts b left e in
      let q = h.of ts p.between p.value p.firstly in
      let r = (k p.value).of p.between left b p.then in
      (r.0, omega (arith, q.1, r.1));
}

-- ---- the readers

gives_natural : (low high : ℕ) (wrong : FigFault) → Any (natural low high wrong)
unfolding natural
gives_natural low high wrong = gives_bind _ _ _ (gives_field whole (is_in (pos low) (pos high))
    wrong) (λ n. gives_give (λ (m : ℕ). ⊤) (nat_abs n) tt)

any_whole : Any (any whole)
any_whole = gives_field whole (λ _. true) fault.Token

any_decimal : Any (any decimal)
any_decimal = gives_field decimal (λ _. true) fault.Token

any_colour : Any (any colour)
any_colour = gives_field colour (λ _. true) fault.Token

gives_coordinate : Any coordinate
gives_coordinate = gives_field whole is_reached fault.Range

gives_point : Any point
unfolding point
gives_point = gives_bind _ _ _ gives_coordinate
    (λ x. gives_bind _ _ _ gives_coordinate (λ y. gives_give (λ (p : Point). ⊤) _ tt))

gives_points : (n : ℕ) → Any (points n)
unfolding points
gives_points zero = gives_give (λ (ps : List Point). ⊤) [] tt
gives_points (suc n) = gives_bind _ _ _ gives_point
    (λ p. gives_bind _ _ _ (gives_points n) (λ ps. gives_give (λ (qs : List Point). ⊤) (p ∷ ps) tt))

gives_known : (table : Table) → Any (known_colour table)
unfolding known_colour
gives_known table = gives_bind _ _ _ (gives_field whole (is_known table) fault.NoColour)
    (λ n. gives_give (λ (m : ℕ). ⊤) (nat_abs n) tt)

gives_filling : (table : Table) → Any (filling table)
unfolding filling
gives_filling table = gives_bind _ _ _ any_whole
    (λ _. gives_bind _ _ _ (gives_natural 0 0 fault.Outline)
    (λ _. gives_bind _ _ _ any_whole (λ _. gives_known table)))

gives_style : (least most : ℕ) (table : Table) → Any (style least most table)
unfolding style
gives_style least most table =
    gives_bind _ _ _ (gives_natural least most fault.SubType)
    (λ _. gives_bind _ _ _ (gives_filling table)
    (λ _. gives_bind _ _ _ (gives_natural 0 999 fault.Depth) (λ _.
    gives_bind _ _ _ any_whole (λ _. gives_bind _ _ _ (gives_natural 20 20 fault.Fill)
    (λ _. gives_bind _ _ _ any_decimal (λ _. gives_give (λ (s : Style). ⊤) _ tt))))))

gives_count : (boxed : Bool) → Any (count boxed)
unfolding count
gives_count boxed =
    gives_bind _ _ _ any_whole
    (λ _. gives_bind _ _ _ any_whole
    (λ _. gives_bind _ _ _ any_whole (λ _. gives_bind _ _ _ (gives_natural 0 0 fault.Arrow) (λ _.
    gives_bind _ _ _ (gives_natural 0 0 fault.Arrow) (λ _. gives_natural _ _ fault.Count)))))

gives_chain : (boxed : Bool) → Any (chain boxed)
unfolding chain
gives_chain boxed =
    gives_bind _ _ _ (gives_count boxed)
    (λ n. gives_bind _ _ _ (gives_points n) (λ ps. gives_bind _ _ _ (gives_check _ fault.Open)
    (λ _. gives_give (λ (o : Outline). ⊤) _ tt)))

gives_ellipse : (round : Bool) → Any (ellipse round)
unfolding ellipse
gives_ellipse round =
    gives_bind _ _ _ any_whole
    (λ _. gives_bind _ _ _ any_decimal
    (λ zero. gives_bind _ _ _ (gives_check (round || zero) fault.Angle)
    (λ _. gives_bind _ _ _ gives_point
    (λ c. gives_bind _ _ _ (gives_natural 1 10000000 fault.Radius) (λ r.
    gives_bind _ _ _ (gives_natural _ _ fault.Radius)
    (λ _. gives_bind _ _ _ any_whole
    (λ _. gives_bind _ _ _ any_whole (λ _. gives_bind _ _ _ any_whole (λ _.
    gives_bind _ _ _ any_whole (λ _. gives_give (λ (o : Outline). ⊤) _ tt))))))))))

-- ---- objects

-- how many objects drawing d is made of
abbrev pub made_of : Drawn → ℕ
made_of d = length d.table + length d.figures

abbrev HasOneMore : Drawn → Drawn → Type 0
HasOneMore d e = made_of e ≡ made_of d + 1

one_more : {X : Type 0} (xs : List X) (x : X) → length (xs ++ x ∷ []) ≡ length xs + 1
one_more xs x = let l = length-append xs (x ∷ []) in omega (arith, l)

more_figures : (d : Drawn) (s : Style) (o : Outline) → HasOneMore d (with_figure d s o)
more_figures d s o = let l = one_more d.figures
    (record { shape = o; colour = s.colour; depth = s.depth }) in omega (arith, l)

gives_colour_object : (d : Drawn) → Gives (HasOneMore d) (colour_object d)
unfolding colour_object
gives_colour_object d =
    gives_bind _ _ _ (gives_check _ fault.LateColour)
    (λ _. gives_bind _ _ _ (gives_natural 32 543 fault.Range)
    (λ n. gives_bind _ _ _ (gives_check _ fault.ColourTwice) (λ _.
    gives_bind _ _ _ any_colour
    (λ c. gives_give (HasOneMore d) (record d { table = d.table ++ (n, c) ∷ [] })
    (let l = one_more d.table (n, c) in omega (arith, l))))))

gives_figure : (least most : ℕ) (outline : ℕ → Reader Outline) → ((n : ℕ) → Any (outline n))
    → (d : Drawn) → Gives (HasOneMore d) (figure_object least most outline d)
unfolding figure_object
gives_figure least most outline h d = gives_bind _ _ _ (gives_style least most d.table)
    (λ s. gives_bind _ _ _ (h s.sub_type)
    (λ o. gives_give (HasOneMore d) (with_figure d s o) (more_figures d s o)))

gives_of_code : (d : Drawn) (zero_is one_is : Bool)
    → Gives (HasOneMore d) (cond zero_is (colour_object d)
    (cond one_is (figure_object 1 4 (λ t. ellipse (nat_le 3 t)) d)
    (figure_object 2 3 (λ t. chain (t == 2)) d)))
gives_of_code d true one_is = gives_colour_object d
gives_of_code d false true = gives_figure 1 4 _ (λ n. gives_ellipse (nat_le 3 n)) d
gives_of_code d false false = gives_figure 2 3 _ (λ n. gives_chain (n == 2)) d

strict : (low high : ℕ) (wrong : FigFault) (ts left : List Token) (n : ℕ)
    → natural low high wrong ts ≡ Ok (n, left) → length left < length ts
unfolding natural
strict low high wrong ts left n e =
    let p = bind_ok (field whole (is_in (pos low) (pos high)) wrong) (λ m. give (nat_abs m)) ts n
    left e in
    let q = field_takes whole (is_in (pos low) (pos high)) wrong ts p.between p.value p.firstly in
    let a : length ts ≡ suc (length p.between) = ap (λ us. length us) q.1 in
    let b : length p.between ≡ length left = ap (λ (r : Read ℕ). length (rest r)) p.then in
    omega (arith, a, b)

-- a whole object takes a token at least, and is one more
pub object_takes : (d e : Drawn) (ts left : List Token) → object d ts ≡ Ok (e, left)
    → (length left < length ts) × (made_of e ≡ made_of d + 1)
unfolding object
object_takes d e ts left read =
    let p = bind_ok (natural 0 2 fault.Object) _ ts e left read in
    let s = strict 0 2 fault.Object ts p.between p.value p.firstly in
    let q = (gives_of_code d (p.value == 0) (p.value == 1)).of p.between left e p.then in
    (omega (arith, s, q.1), q.0)

-- ---- objects, one after another

pub leads_on : (d m e : Drawn) (ts between left : List Token) → Leads d ts m between
    → object m between ≡ Ok (e, left) → Leads d ts e left
leads_on d m e ts between left (none c us) read = more c e e us left left read (none e left)
leads_on d m e ts between left (more c k n us first vs one others) read = more c k e us first left
    one (leads_on k n e first vs left others read)

pub record Goes (all : List Token) (d e : Drawn) (ts left : List Token) : Type 0 where
  pub led : Leads nothing all e left
  pub shorter : length left < length ts
  pub number : made_of e ≡ made_of d + 1

-- one object further
pub goes : (all : List Token) (d e : Drawn) (code : Token) (ts next left : List Token)
    → Leads nothing all d ts → ts ≡ code ∷ next → object d (code ∷ next) ≡ Ok (e, left)
    → Goes all d e ts left
goes all d e code ts next left led is read =
    let whole_read : object d ts ≡ Ok (e, left) = rw is read in
    let takes = object_takes d e ts left whole_read in
    record {
      led = leads_on nothing d e all ts left led whole_read;
      shorter = takes.0;
      number = takes.1;
    }
