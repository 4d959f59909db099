-- The text of a lawful drawing denotes it.
use Rattle.std.proofs.Common.{◌≡◌, ◌≤◌, ◌<◌, ◌^◌, ℕ, Bool, true, false, List, [], ◌∷◌, ◌++◌, length}
use Rattle.std.proofs.Common.{drop, Ok, refl, sym, ap, ◌∙◌, arith, append_assoc, append-nil, lit<}
use Rattle.std.specs.Prelude.{nat_le, IsTrue, is_some, flat_map, map, All, codes, ℤ, pos, ◌+ℤ◌}
use Rattle.std.specs.Prelude.{◌&&◌}
use Rattle.std.specs.Fmt.{decimal, signed_decimal}
use Rattle.std.specs.List.{list_all}
use Rattle.std.proofs.lemmas.Bool.{and_parts, and_from, leb-true, le-ltb}
use Rattle.std.proofs.lemmas.List.Elements.{All-head, All-tail, All-map}
use Rattle.gf_plane.specs.declared.point.Point.{Point}
use Rattle.gf_plane.specs.declared.colour.Rgb.{Rgb}
use Rattle.gf_shape.specs.declared.outline.Outline.{Outline}
use Rattle.gf_shape.specs.declared.outline.Outline.TheVariants.{Chain, Disc, Oval}
use Rattle.gf_plane.specs.Reach.{is_reached, is_within_reach}
use Rattle.gf_shape.specs.Ring.{Ring}
use Rattle.gf_shape.specs.Round.{Round, is_round}
use Rattle.gf_shape.specs.Oblong.{Oblong, is_oblong}
use Rattle.gf_shape.specs.ShapeLaws.{IsLawful}
use Rattle.gf_plane.specs.ColourBytes.{HasBytes}
use Rattle.gf_plane.specs.HexDigits.{hex_rgb}
use Rattle.gf_figures.specs.declared.figure.Figure.{Figure}
use Rattle.gf_figures.specs.DrawingState.{DrawingState, IsLawfulDrawing, IsLawfulFigure}
use Rattle.gf_figures.specs.Colours.{Table, rgb_of}
use Rattle.gf_figures.specs.Outlined.{figure_outlined, outlined}
use Rattle.gf_fig_tokens.specs.Layout.{Token, lines, plain, tokens, object_tokens, is_version}
use Rattle.gf_fig_tokens.specs.Layout.{plain_lines, after_resolution}
use Rattle.gf_fig_read.specs.FigGrammar.{Reads}
use Rattle.gf_fig_write.proofs.PrintedLines.{is_word, led, led_in_line, line_of_words}
use Rattle.gf_fig_write.proofs.PrintedLines.{tokens_printed, words_all_led}
use Rattle.gf_fig_write.proofs.PrintedNumbers.{decimal_word, signed_word, rgb_word, rgb_dark}
use Rattle.gf_fig_write.proofs.PrintedObjects.{colour_words, point_words, style_words, count_words}
use Rattle.gf_fig_write.proofs.PrintedObjects.{disc_words, oval_words, limits, reached_small}
use Rattle.gf_fig_write.proofs.PrintedObjects.{sum_small}
use Rattle.gf_fig_write.proofs.PrintedFigures.{outline_words, figure_words}
use Rattle.gf_fig_write.proofs.PrintedDrawings.{drawing_words, drawing_leads, known_small}
use Rattle.gf_fig_write.proofs.PrintedDrawings.{IsTableEntry, HasLawfulShape}
use Rattle.gf_fig_write.specs.FigText.{fig_header, colour_line, spaced_point, filling_fields}
use Rattle.gf_fig_write.specs.FigText.{sub_type}
use Rattle.gf_fig_write.specs.FigText.{disc_numbers, chain_line, points_line, right_end, disc_line}
use Rattle.gf_fig_write.specs.FigText.{low_end, oval_numbers, oval_line, outline_lines}
use Rattle.gf_fig_write.specs.FigText.{figure_lines, fig_text}

-- the tokens of a text behind the header
abbrev body : List ℕ → List Token
body text = tokens (plain (lines text))

front_read : (text : List ℕ) → is_version text ≡ true → 7 ≤ length (plain_lines text)
    → object_tokens text ≡ after_resolution (tokens (drop 7 (plain_lines text)))
unfolding object_tokens
front_read text v l = rw (v, le-ltb (length (plain_lines text)) 7 l) refl

eight_lines : {X : Type 0} (a b c d e f g h : X) (xs : List X)
    → 7 ≤ length (a ∷ b ∷ c ∷ d ∷ e ∷ f ∷ g ∷ h ∷ xs)
eight_lines a b c d e f g h xs = omega arith

header_read : (text : List ℕ) → object_tokens (fig_header ++ text) ≡ Ok (body text)
header_read text = front_read (fig_header ++ text) refl
    (eight_lines (codes "Landscape") (codes "Center") (codes "Metric") (codes "A4") (codes "100.00")
    (codes "Single") (codes "-2") (codes "1200 2") (plain (lines text)))

-- ---- pieces

five : (a b c d e rest : List ℕ)
    → (a ++ b ++ c ++ d ++ e) ++ rest ≡ a ++ (b ++ (c ++ (d ++ (e ++ rest))))
five a b c d e rest = simp append_assoc refl

six : (a b c d e f rest : List ℕ)
    → (a ++ b ++ c ++ d ++ e ++ f) ++ rest ≡ a ++ (b ++ (c ++ (d ++ (e ++ (f ++ rest)))))
six a b c d e f rest = simp append_assoc refl

seven : (a b c d e f g rest : List ℕ)
    → (a ++ b ++ c ++ d ++ e ++ f ++ g) ++ rest ≡ a
    ++ (b ++ (c ++ (d ++ (e ++ (f ++ (g ++ rest))))))
seven a b c d e f g rest = simp append_assoc refl

point_pieces : (a x b y rest : List ℕ)
    → ((a ++ x) ++ (b ++ y)) ++ rest ≡ a ++ (x ++ (b ++ (y ++ rest)))
point_pieces a x b y rest = simp append_assoc refl

three : (a b c rest : List ℕ) → (a ++ b ++ c) ++ rest ≡ a ++ (b ++ (c ++ rest))
three a b c rest = simp append_assoc refl

-- words behind blanks, and what follows them
abbrev led_onto : List (List ℕ) → List ℕ → List ℕ
led_onto [] rest = rest
led_onto (w ∷ ws) rest = 32 ∷ (w ++ led_onto ws rest)

led_end_all : (ws : List (List ℕ)) (rest : List ℕ) → led ws ++ rest ≡ led_onto ws rest
led_end_all [] rest = refl
led_end_all (w ∷ ws) rest = ap (λ (x : List ℕ). 32 ∷ x) (append_assoc w (led ws) rest
    ∙ ap (λ (x : List ℕ). w ++ x) (led_end_all ws rest))

led_end : (b : ℕ) (ws : List (List ℕ)) (rest : List ℕ) → (b ∷ led ws) ++ rest ≡ b ∷ led_onto ws rest
led_end b ws rest = ap (λ (x : List ℕ). b ∷ x) (led_end_all ws rest)

filling_led : (c d : ℕ) (rest : List ℕ)
    → filling_fields c d ++ rest ≡ decimal
    c ++ (32 ∷ (decimal c ++ (32 ∷ (decimal d ++ (codes " -1 20 0.000" ++ rest)))))
filling_led c d rest = six (decimal c) (codes " ") (decimal c) (codes " ") (decimal d)
    (codes " -1 20 0.000") rest

spaced_point_led : (p : Point) (rest : List ℕ)
    → spaced_point p ++ rest ≡ 32 ∷ (signed_decimal p.x ++ (32 ∷ (signed_decimal p.y ++ rest)))
spaced_point_led p rest = point_pieces (codes " ") (signed_decimal p.x) (codes " ")
    (signed_decimal p.y) rest

-- ---- colours

entry_regrouped : (number digits rest : List ℕ)
    → (codes "0 " ++ number ++ codes " #" ++ digits ++ codes "\n") ++ rest ≡ (48 ∷ led
    (number ∷ (35 ∷ digits) ∷ [])) ++ 10 ∷ rest
entry_regrouped number digits rest = simp (append_assoc, append-nil) refl

colour_regrouped : (n : ℕ) (c : Rgb) (rest : List ℕ)
    → colour_line (n, c) ++ rest ≡ (48 ∷ led (decimal n ∷ rgb_word c ∷ [])) ++ 10 ∷ rest
colour_regrouped n c rest = entry_regrouped (decimal n) (hex_rgb c) rest

colour_cut : (e : ℕ × Rgb) (rest : List ℕ) → e.0 < 2 ^ 64 → HasBytes e.1
    → body (colour_line e ++ rest) ≡ colour_words e ++ body rest
colour_cut e rest small bytes =
    let all : list_all is_word (decimal e.0 ∷ rgb_word e.1 ∷ []) ≡ true = and_from
    (is_word (decimal e.0)) (is_word (rgb_word e.1) && true) (decimal_word e.0 small)
    (and_from (is_word (rgb_word e.1)) true (rgb_dark e.1 bytes) refl) in
    ap body (colour_regrouped e.0 e.1 rest) ∙ line_of_words 48 (decimal e.0 ∷ rgb_word e.1 ∷ [])
    rest refl all refl

-- ---- chains

chain_regrouped : (c d : ℕ) (r : Ring) (rest : List ℕ)
    → chain_line c d r ++ rest ≡ (50 ∷ led
    (decimal (sub_type r.boxed) ∷ style_words c d ++ count_words (length r.points))) ++ 10 ∷ rest
chain_regrouped c d r rest =
    seven (codes "2 ") (decimal (sub_type r.boxed)) (codes " 0 0 ") (filling_fields c d)
    (codes " 0 0 -1 0 0 ") (decimal (length r.points)) (codes "\n") rest
    ∙ ap (λ (x : List ℕ). codes "2 " ++ (decimal (sub_type r.boxed) ++ (codes " 0 0 " ++ x)))
    (filling_led c d (codes " 0 0 -1 0 0 " ++ (decimal (length r.points) ++ (codes "\n" ++ rest))))
    ∙ sym (led_end 50 (decimal (sub_type r.boxed) ∷ style_words c d ++ count_words
    (length r.points)) (10 ∷ rest))

sub_small : (boxed : Bool) → sub_type boxed < 2 ^ 64
sub_small true = lit< tt
sub_small false = lit< tt

chain_cut : (c d : ℕ) (r : Ring) (rest : List ℕ) → c < 2 ^ 64 → d < 2 ^ 64
    → length r.points < 2 ^ 64 → body (chain_line c d r ++ rest) ≡ codes "2" ∷ decimal
    (sub_type r.boxed) ∷ style_words c d ++ count_words (length r.points) ++ body rest
chain_cut c d r rest x y z =
    let all : list_all is_word (decimal (sub_type r.boxed) ∷ style_words c d ++ count_words
    (length r.points)) ≡ true =
    rw (
      decimal_word (sub_type r.boxed) (sub_small r.boxed),
      decimal_word c x,
      decimal_word d y,
      decimal_word (length r.points) z,
    ) refl in
    ap body (chain_regrouped c d r rest)
    ∙ line_of_words 50 (decimal (sub_type r.boxed) ∷ style_words c d ++ count_words
    (length r.points)) rest refl all refl

-- ---- points

points_regrouped : (ps : List Point) → flat_map spaced_point ps ≡ led (flat_map point_words ps)
points_regrouped [] = refl
points_regrouped (p ∷ ps) = spaced_point_led p (flat_map spaced_point ps)
    ∙ ap (λ (x : List ℕ). 32 ∷ (signed_decimal p.x ++ (32 ∷ (signed_decimal p.y ++ x))))
    (points_regrouped ps)

coordinate_word : (z : ℤ) → is_reached z ≡ true → is_word (signed_decimal z) ≡ true
coordinate_word z h = let m = reached_small z h in signed_word z (omega (arith, m))

abbrev IsNear : Point → Type 0
IsNear p = IsTrue (is_within_reach p)

points_words : (ps : List Point) → All IsNear ps → list_all is_word (flat_map point_words ps) ≡ true
points_words [] h = refl
points_words (p ∷ ps) h =
    let r = and_parts (is_reached p.x) (is_reached p.y) (All-head IsNear p ps h) in
    and_from (is_word (signed_decimal p.x)) (is_word (signed_decimal p.y) && list_all is_word
    (flat_map point_words ps)) (coordinate_word p.x r.0)
    (and_from (is_word (signed_decimal p.y)) (list_all is_word (flat_map point_words ps))
    (coordinate_word p.y r.1) (points_words ps (All-tail IsNear p ps h)))

points_line_is : (ps : List Point) (rest : List ℕ)
    → points_line ps ++ rest ≡ (9 ∷ led (flat_map point_words ps)) ++ 10 ∷ rest
points_line_is ps rest = three (codes "\t") (flat_map spaced_point ps) (codes "\n") rest
    ∙ ap (λ (x : List ℕ). 9 ∷ (x ++ 10 ∷ rest)) (points_regrouped ps)

points_cut : (ps : List Point) (rest : List ℕ) → All IsNear ps
    → body (points_line ps ++ rest) ≡ flat_map point_words ps ++ body rest
points_cut ps rest h =
    let all = points_words ps h in
    ap body (points_line_is ps rest)
    ∙ (tokens_printed (9 ∷ led (flat_map point_words ps)) rest
    (led_in_line (flat_map point_words ps) all) refl
    ∙ ap (λ ws. ws ++ body rest) (words_all_led (flat_map point_words ps) all))

-- ---- discs

numbers_led : (r : Round) (rest : List ℕ)
    → disc_numbers r ++ rest ≡ 32 ∷ (signed_decimal
    r.centre.x ++ (32 ∷ (signed_decimal
    r.centre.y ++ (32 ∷ (decimal r.radius ++ (32 ∷ (decimal r.radius
    ++ (32 ∷ (signed_decimal
    r.centre.x ++ (32 ∷ (signed_decimal
    r.centre.y ++ (32 ∷ (signed_decimal
    (r.centre.x +ℤ pos r.radius) ++ (32 ∷ (signed_decimal r.centre.y ++ rest)))))))))))))))
numbers_led r rest =
    let x = signed_decimal r.centre.x in
    let y = signed_decimal r.centre.y in
    let n = decimal r.radius in
    let last = spaced_point_led (right_end r) rest in
    let fourth = spaced_point_led r.centre (spaced_point (right_end r) ++ rest) in
    let first = spaced_point_led r.centre
    (32 ∷ (n ++ (32 ∷ (n ++ (spaced_point r.centre ++ (spaced_point (right_end r) ++ rest)))))) in
    five (spaced_point r.centre) (codes " " ++ n) (codes " " ++ n) (spaced_point r.centre)
    (spaced_point (right_end r)) rest
    ∙ first
    ∙ ap (λ (z : List ℕ). 32 ∷ (x ++ (32 ∷ (y ++ (32 ∷ (n ++ (32 ∷ (n ++ z))))))))
    (fourth ∙ ap (λ (z : List ℕ). 32 ∷ (x ++ (32 ∷ (y ++ z)))) last)

disc_regrouped : (c d : ℕ) (r : Round) (rest : List ℕ)
    → disc_line c d r ++ rest ≡ (49 ∷ led (codes "3" ∷ style_words c d ++ disc_words r)) ++ 10
    ∷ rest
disc_regrouped c d r rest =
    let behind : List ℕ = codes "\n" ++ rest in
    five (codes "1 3 0 0 ") (filling_fields c d) (codes " 1 0.0000") (disc_numbers r) (codes "\n")
    rest
    ∙ ap (λ (x : List ℕ). codes "1 3 0 0 " ++ x)
    (filling_led c d (codes " 1 0.0000" ++ (disc_numbers r ++ behind)))
    ∙ ap (λ (x : List ℕ). codes
    "1 3 0 0 " ++ (decimal c
    ++ (32 ∷ (decimal c ++ (32 ∷ (decimal
    d ++ (codes " -1 20 0.000" ++ (codes " 1 0.0000" ++ x)))))))) (numbers_led r behind)
    ∙ sym (led_end 49 (codes "3" ∷ style_words c d ++ disc_words r) (10 ∷ rest))

disc_cut : (c d : ℕ) (r : Round) (rest : List ℕ) → c < 2 ^ 64 → d < 2 ^ 64 → IsTrue (is_round r)
    → body (disc_line c d r ++ rest) ≡ codes "1" ∷ codes "3" ∷ style_words c d ++ disc_words
    r ++ body rest
disc_cut c d r rest x y h =
    let p = and_parts (is_within_reach r.centre && nat_le 1 r.radius) (nat_le r.radius 10000000) h
    in
    let q = and_parts (is_within_reach r.centre) (nat_le 1 r.radius) p.0 in
    let near = and_parts (is_reached r.centre.x) (is_reached r.centre.y) q.0 in
    let most = leb-true r.radius 10000000 p.1 in
    let end = sum_small r.centre.x r.radius (reached_small r.centre.x near.0) most in
    let all : list_all is_word (codes "3" ∷ style_words c d ++ disc_words r) ≡ true =
    rw (
      decimal_word c x,
      decimal_word d y,
      coordinate_word r.centre.x near.0,
      coordinate_word r.centre.y near.1,
      decimal_word r.radius (omega (arith, most)),
      signed_word (r.centre.x +ℤ pos r.radius) (omega (arith, end)),
    ) refl in
    ap body (disc_regrouped c d r rest)
    ∙ line_of_words 49 (codes "3" ∷ style_words c d ++ disc_words r) rest refl all refl

-- ---- ovals

oval_numbers_led : (o : Oblong) (rest : List ℕ)
    → oval_numbers o ++ rest ≡ 32 ∷ (signed_decimal
    o.centre.x ++ (32 ∷ (signed_decimal o.centre.y ++ (32 ∷ (decimal o.rx ++ (32 ∷ (decimal o.ry
    ++ (32 ∷ (signed_decimal
    o.centre.x ++ (32 ∷ (signed_decimal
    o.centre.y ++ (32 ∷ (signed_decimal
    (o.centre.x +ℤ pos o.rx)
    ++ (32 ∷ (signed_decimal (o.centre.y +ℤ pos o.ry) ++ rest)))))))))))))))
oval_numbers_led o rest =
    let x = signed_decimal o.centre.x in
    let y = signed_decimal o.centre.y in
    let m = decimal o.rx in
    let n = decimal o.ry in
    let last = spaced_point_led (low_end o) rest in
    let fourth = spaced_point_led o.centre (spaced_point (low_end o) ++ rest) in
    let first = spaced_point_led o.centre
    (32 ∷ (m ++ (32 ∷ (n ++ (spaced_point o.centre ++ (spaced_point (low_end o) ++ rest)))))) in
    five (spaced_point o.centre) (codes " " ++ m) (codes " " ++ n) (spaced_point o.centre)
    (spaced_point (low_end o)) rest
    ∙ first
    ∙ ap (λ (z : List ℕ). 32 ∷ (x ++ (32 ∷ (y ++ (32 ∷ (m ++ (32 ∷ (n ++ z))))))))
    (fourth ∙ ap (λ (z : List ℕ). 32 ∷ (x ++ (32 ∷ (y ++ z)))) last)

oval_regrouped : (c d : ℕ) (o : Oblong) (rest : List ℕ)
    → oval_line c d o ++ rest ≡ (49 ∷ led (codes "1" ∷ style_words c d ++ oval_words o)) ++ 10
    ∷ rest
oval_regrouped c d o rest =
    let behind : List ℕ = codes "\n" ++ rest in
    five (codes "1 1 0 0 ") (filling_fields c d) (codes " 1 0.0000") (oval_numbers o) (codes "\n")
    rest
    ∙ ap (λ (x : List ℕ). codes "1 1 0 0 " ++ x)
    (filling_led c d (codes " 1 0.0000" ++ (oval_numbers o ++ behind)))
    ∙ ap (λ (x : List ℕ). codes
    "1 1 0 0 " ++ (decimal c
    ++ (32 ∷ (decimal c ++ (32 ∷ (decimal
    d ++ (codes " -1 20 0.000" ++ (codes " 1 0.0000" ++ x)))))))) (oval_numbers_led o behind)
    ∙ sym (led_end 49 (codes "1" ∷ style_words c d ++ oval_words o) (10 ∷ rest))

oval_cut : (c d : ℕ) (o : Oblong) (rest : List ℕ) → c < 2 ^ 64 → d < 2 ^ 64 → IsTrue (is_oblong o)
    → body (oval_line c d o ++ rest) ≡ codes "1" ∷ codes "1" ∷ style_words c d ++ oval_words
    o ++ body rest
oval_cut c d o rest x y h =
    let l = limits o h in
    let end_x = sum_small o.centre.x o.rx (reached_small o.centre.x l.x) l.most_rx in
    let end_y = sum_small o.centre.y o.ry (reached_small o.centre.y l.y) l.most_ry in
    let all : list_all is_word (codes "1" ∷ style_words c d ++ oval_words o) ≡ true =
    rw (
      decimal_word c x,
      decimal_word d y,
      coordinate_word o.centre.x l.x,
      coordinate_word o.centre.y l.y,
      decimal_word o.rx (omega (arith, l.most_rx)),
      decimal_word o.ry (omega (arith, l.most_ry)),
      signed_word (o.centre.x +ℤ pos o.rx) (omega (arith, end_x)),
      signed_word (o.centre.y +ℤ pos o.ry) (omega (arith, end_y)),
    ) refl in
    ap body (oval_regrouped c d o rest)
    ∙ line_of_words 49 (codes "1" ∷ style_words c d ++ oval_words o) rest refl all refl

-- ---- figures

outline_cut : (c d : ℕ) (o : Outline) (rest : List ℕ) → c < 2 ^ 64 → d < 2 ^ 64 → IsLawful o
    → body (outline_lines c d o ++ rest) ≡ outline_words c d o ++ body rest
outline_cut c d (Chain r) rest x y h =
    let most = h.most in
    ap body (append_assoc (chain_line c d r) (points_line r.points) rest)
    ∙ (chain_cut c d r (points_line r.points ++ rest) x y (omega (arith, most))
    ∙ ap (λ (ts : List Token). codes "2" ∷ decimal (sub_type r.boxed) ∷ style_words c
    d ++ count_words (length r.points) ++ ts) (points_cut r.points rest h.reach))
outline_cut c d (Disc r) rest x y h = disc_cut c d r rest x y h
outline_cut c d (Oval o) rest x y h = oval_cut c d o rest x y h

abbrev IsByteEntry : ℕ × Rgb → Type 0
IsByteEntry e = HasBytes e.1

colours_cut : (es : Table) (rest : List ℕ) → All IsTableEntry es → All IsByteEntry es
    → body (flat_map colour_line es ++ rest) ≡ flat_map colour_words es ++ body rest
colours_cut [] rest numbers bytes = refl
colours_cut (e ∷ es) rest numbers bytes =
    let most = leb-true e.0 543
    (and_parts (nat_le 32 e.0) (nat_le e.0 543) (All-head IsTableEntry e es numbers)).1 in
    ap body (append_assoc (colour_line e) (flat_map colour_line es) rest)
    ∙ (colour_cut e (flat_map colour_line es ++ rest) (omega (arith, most))
    (All-head IsByteEntry e es bytes)
    ∙ ap (λ (ts : List Token). colour_words e ++ ts)
    (colours_cut es rest (All-tail IsTableEntry e es numbers) (All-tail IsByteEntry e es bytes)))

module _ {S : Type 0} (outline : S → Outline) where
  abbrev pub DrawsLawfully : Figure S → Type 0
  DrawsLawfully f = IsLawful (outline f.shape)

  figures_cut : (table : Table) (fs : List (Figure S)) (rest : List ℕ) → All IsTableEntry table
      → All (IsLawfulFigure table) fs → All DrawsLawfully fs
      → body (flat_map (figure_lines outline) fs ++ rest) ≡ flat_map figure_words
      (map (figure_outlined outline) fs) ++ body rest
  figures_cut table [] rest numbers lawful shapes = refl
  figures_cut table (f ∷ fs) rest numbers lawful shapes =
      let l = and_parts (is_some (rgb_of table f.colour)) (nat_le f.depth 999)
      (All-head (IsLawfulFigure table) f fs lawful) in
      let small = known_small table f.colour numbers l.0 in
      let deep = leb-true f.depth 999 l.1 in
      let others = figures_cut table fs rest numbers (All-tail (IsLawfulFigure table) f fs lawful)
      (All-tail DrawsLawfully f fs shapes) in
      ap body (append_assoc (figure_lines outline f) (flat_map (figure_lines outline) fs) rest)
      ∙ (outline_cut f.colour f.depth (outline f.shape) (flat_map (figure_lines outline) fs ++ rest)
      (omega (arith, small)) (omega (arith, deep)) (All-head DrawsLawfully f fs shapes)
      ∙ (ap (λ (ts : List Token). figure_words (figure_outlined outline f) ++ ts) others
      ∙ sym (append_assoc (figure_words (figure_outlined outline f))
      (flat_map figure_words (map (figure_outlined outline) fs)) (body rest))))

  text_cut : (d : DrawingState S) → IsLawfulDrawing d → All IsByteEntry d.table
      → All DrawsLawfully d.figures
      → object_tokens (fig_text outline d) ≡ Ok (drawing_words (outlined outline d))
  text_cut d h bytes shapes =
      let behind : List ℕ = flat_map (figure_lines outline) d.figures in
      let figures : body behind ≡ flat_map figure_words (map (figure_outlined outline) d.figures) =
      ap body (sym (append-nil behind))
      ∙ (figures_cut d.table d.figures [] h.numbers h.figures shapes
      ∙ append-nil (flat_map figure_words (map (figure_outlined outline) d.figures))) in
      header_read (flat_map colour_line d.table ++ behind)
      ∙ ap Ok (colours_cut d.table behind h.numbers bytes
      ∙ ap (λ (ts : List Token). flat_map colour_words d.table ++ ts) figures)

  -- the text of a lawful drawing denotes it, each shape by its outline
  pub text_reads : (d : DrawingState S) → IsLawfulDrawing d → All IsByteEntry d.table
      → All DrawsLawfully d.figures → Reads (fig_text outline d) (outlined outline d)
  text_reads d h bytes shapes = record {
    all = drawing_words (outlined outline d);
    tokens = text_cut d h bytes shapes;
    objects = drawing_leads (outlined outline d)
        (record {
          numbers = h.numbers;
          distinct = h.distinct;
          figures = All-map (IsLawfulFigure d.table) (figure_outlined outline) d.figures h.figures;
        })
        bytes (All-map HasLawfulShape (figure_outlined outline) d.figures shapes);
  }
