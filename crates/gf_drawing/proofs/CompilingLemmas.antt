-- The distinct colours of versions, and the figures of the canonical drawing, one more at a time.
use Rattle.std.proofs.Common.{◌≡◌, ℕ, ◌+◌, ◌<◌, true, false, List, [], ◌∷◌, ◌++◌, map, length, take}
use Rattle.std.proofs.Common.{get_or, suc, refl, sym, ap, subst, ◌∙◌, inl, inr, arith}
use Rattle.std.specs.Prelude.{All, not, ◌||◌, filter, if◌then◌else◌}
use Rattle.std.specs.List.{enumerate_from, list_any}
use Rattle.std.proofs.Math.Seq.{take-suc}
use Rattle.std.proofs.lemmas.Bool.{cases_Bool}
use Rattle.std.proofs.lemmas.List.{append-nil, map-append, length-map, length-take-le}
use Rattle.std.proofs.lemmas.List.Elements.{filter-append, All-nil, All-cons, All-weaker}
use Rattle.std.proofs.lemmas.List.FromFn.{length-enumerate_from}
use Rattle.gf_plane.specs.declared.colour.Rgb.{Rgb}
use Rattle.gf_versions.specs.declared.placed.Placed.{Placed}
use Rattle.gf_ops.specs.ConflictTests.{colour_eq}
use Rattle.gf_ops.proofs.SameLemmas.{colours_told}
use Rattle.gf_drawing.specs.CanonicalDrawing.{first_seen, colours_of, canonical_figure}

-- the distinct colours cs with c, which goes last if it is new
abbrev pub with_new : List Rgb → Rgb → List Rgb
with_new cs c = if list_any (colour_eq c) cs then cs else cs ++ c ∷ []

rgb_false : (c d : Rgb) → colour_eq d c ≡ false → colour_eq c d ≡ false
rgb_false c d e = elim (cases_Bool (colour_eq c d)) [
  | inl t ↦ let k = (colours_told d c).1 (sym ((colours_told c d).0 t)) in absurd cc
  | inr t ↦ t
]

-- whether c is there is the same where d is taken out
list_any-filter : (c d : Rgb) (cs : List Rgb) → colour_eq d c ≡ false
    → list_any (colour_eq c) (filter (λ x. not (colour_eq d x)) cs) ≡ list_any (colour_eq c) cs
list_any-filter c d [] e = refl
list_any-filter c d (x ∷ cs) e = elim (cases_Bool (colour_eq d x)) [
  | inl t ↦
      let k : d ≡ x = (colours_told d x).0 t in
      let n : colour_eq c x ≡ false = subst (λ y. colour_eq c y ≡ false) k (rgb_false c d e) in
      rw (t, n) (list_any-filter c d cs e)
  | inr t ↦ rw t (ap (λ b. colour_eq c x || b) (list_any-filter c d cs e))
]

-- taking out d behind c: c stays unless it is d
filter-with_new : (c d : Rgb) (cs : List Rgb)
    → d ∷ filter (λ x. not (colour_eq d x)) (with_new cs c) ≡ with_new
    (d ∷ filter (λ x. not (colour_eq d x)) cs) c
filter-with_new c d cs = elim (cases_Bool (colour_eq d c)) [
  | inl t ↦
      let k : colour_eq c d ≡ true = (colours_told c d).1 (sym ((colours_told d c).0 t)) in
      rw k (elim (cases_Bool (list_any (colour_eq c) cs)) [
        | inl there ↦ rw there
        | inr new ↦ rw (new, filter-append (λ x. not (colour_eq d x)) cs (c ∷ []), t, append-nil)
      ])
  | inr t ↦
      rw (rgb_false c d t, list_any-filter c d cs t)
      (elim (cases_Bool (list_any (colour_eq c) cs)) [
        | inl there ↦ rw there
        | inr new ↦ rw (new, filter-append (λ x. not (colour_eq d x)) cs (c ∷ []), t)
      ])
]

first_seen-push : (cs : List Rgb) (c : Rgb) → first_seen (cs ++ c ∷ []) ≡ with_new (first_seen cs) c
first_seen-push [] c = refl
first_seen-push (d ∷ cs) c = ap (λ xs. d ∷ filter (λ x. not (colour_eq d x)) xs)
    (first_seen-push cs c) ∙ filter-with_new c d (first_seen cs)

pub colours_of-push : {S : Type 0} → (items : List (Placed S)) (i : Placed S)
    → colours_of (items ++ i ∷ []) ≡ with_new (colours_of items) i.colour
colours_of-push {S} items i = ap first_seen (map-append (λ (j : Placed S). j.colour) items (i ∷ []))
    ∙ first_seen-push (map (λ (j : Placed S). j.colour) items) i.colour

pub enumerate_from-push : {X : Type 0} (n : ℕ) (xs : List X) (x : X)
    → enumerate_from n (xs ++ x ∷ []) ≡ enumerate_from n xs ++ (n + length xs, x) ∷ []
enumerate_from-push n [] x = let e : n ≡ n + 0 = omega arith in ap (λ k. (k, x) ∷ []) e
enumerate_from-push n (y ∷ xs) x =
    let e : n + 1 + length xs ≡ n + suc (length xs) = omega arith in
    ap (λ ys. (n, y) ∷ ys) (enumerate_from-push (n + 1) xs x
    ∙ ap (λ k. enumerate_from (n + 1) xs ++ (k, x) ∷ []) e)

-- what was seen stays seen behind another colour
seen-cons : (c d : Rgb) (cs : List Rgb) → list_any (colour_eq c) (first_seen cs) ≡ true
    → list_any (colour_eq c) (first_seen (d ∷ cs)) ≡ true
seen-cons c d cs e = elim (cases_Bool (colour_eq c d)) [
  | inl t ↦ rw t
  | inr t ↦ rw (t, list_any-filter c d (first_seen cs) (rgb_false d c t)) e
]

-- the colour of an item is among those of all
pub item_colour : {S : Type 0} → (before : List (Placed S)) (i : Placed S) (after : List (Placed S))
    → list_any (colour_eq i.colour) (colours_of (before ++ i ∷ after)) ≡ true
item_colour [] i after = rw ((colours_told i.colour i.colour).1 refl)
item_colour {S} (j ∷ before) i after = seen-cons i.colour j.colour
    (map (λ (k : Placed S). k.colour) (before ++ i ∷ after)) (item_colour before i after)

-- the colour of each item is among the colours of the items
pub own_colour : {S : Type 0} → (items : List (Placed S))
    → All (λ (i : Placed S). list_any (colour_eq i.colour) (colours_of items) ≡ true) items
own_colour {S} [] = All-nil _
own_colour {S} (i ∷ items) =
    let Seen : List (Placed S) → Placed S → Type 0 = λ all j. list_any (colour_eq j.colour)
    (colours_of all) ≡ true in
    All-cons (Seen (i ∷ items)) i items (item_colour [] i items)
    (All-weaker (Seen items) (Seen (i ∷ items))
    (λ j e. seen-cons j.colour i.colour (map (λ (k : Placed S). k.colour) items) e) items
    (own_colour items))

-- one more figure behind those of the items, with their colours numbered among cs
pub figures-push : {S : Type 0} → (cs : List Rgb) (items : List (Placed S)) (i : Placed S) →
    map (canonical_figure cs) (enumerate_from 0 (items ++ i ∷ [])) ≡ map (canonical_figure cs)
    (enumerate_from 0 items) ++ canonical_figure cs (length items, i) ∷ []
figures-push {S} cs items i =
    let e : 0 + length items ≡ length items = omega arith in
    ap (map (canonical_figure cs)) (enumerate_from-push 0 items i
    ∙ ap (λ n. enumerate_from 0 items ++ (n, i) ∷ []) e)
    ∙ map-append (canonical_figure cs) (enumerate_from 0 items) ((length items, i) ∷ [])

pub length-figures : {S : Type 0} → (cs : List Rgb) (items : List (Placed S))
    → length (map (canonical_figure cs) (enumerate_from 0 items)) ≡ length items
length-figures cs items = length-map (enumerate_from 0 items) (canonical_figure cs)
    ∙ length-enumerate_from 0 items

take_next : {X : Type 0} → (xs : List X) (n : ℕ) (d : X) → n < length xs
    → take (n + 1) xs ≡ take n xs ++ get_or xs n d ∷ []
take_next xs n d less =
    let e : n + 1 ≡ suc n = omega arith in
    ap (λ k. take k xs) e ∙ take-suc xs n d less

-- the colours of one item more
pub one_item_more : {S : Type 0} → (items : List (Placed S)) (n : ℕ) (i : Placed S)
    → n < length items → i ≡ get_or items n i →
    colours_of (take (n + 1) items) ≡ with_new (colours_of (take n items)) i.colour
one_item_more items n i less is =
    ap colours_of (take_next items n i less ∙ ap (λ j. take n items ++ j ∷ []) (sym is))
    ∙ colours_of-push (take n items) i

-- the colours numbered from 32, one more
pub numbered-next : (cs : List Rgb) (n : ℕ) (d : Rgb) → n < length cs
    → enumerate_from 32 (take (n + 1) cs) ≡ enumerate_from 32
    (take n cs) ++ (32 + n, get_or cs n d) ∷ []
numbered-next cs n d less =
    let long : length (take n cs) ≡ n = length-take-le n cs (omega (arith, less)) in
    ap (enumerate_from 32) (take_next cs n d less)
    ∙ (enumerate_from-push 32 (take n cs) (get_or cs n d)
    ∙ ap (λ k. enumerate_from 32 (take n cs) ++ (32 + k, get_or cs n d) ∷ []) long)
