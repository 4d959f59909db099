-- Figures that are printed are read back.
use Rattle.std.proofs.Common.{◌≡◌, ◌≤◌, ◌<◌, ℕ, ◌^◌, Bool, true, false, List, [], ◌∷◌, ◌++◌, length}
use Rattle.std.proofs.Common.{Ok, refl, arith, lit<}
use Rattle.std.specs.Prelude.{◌==◌, nat_le, IsTrue, is_some, codes, flat_map}
use Rattle.std.specs.Prelude.{if◌then◌else◌}
use Rattle.std.specs.Fmt.{decimal}
use Rattle.gf_shape.specs.declared.outline.Outline.{Outline}
use Rattle.gf_shape.specs.declared.outline.Outline.TheVariants.{Chain, Disc, Oval}
use Rattle.gf_shape.specs.Ring.{Ring, IsRing}
use Rattle.gf_shape.specs.Round.{Round, is_round}
use Rattle.gf_shape.specs.Oblong.{Oblong, is_oblong}
use Rattle.gf_shape.specs.ShapeLaws.{IsLawful}
use Rattle.gf_figures.specs.declared.figure.Figure.{Figure}
use Rattle.gf_figures.specs.Colours.{rgb_of}
use Rattle.gf_fig_tokens.specs.declared.faults.FigFault.TheVariants as fault
use Rattle.gf_fig_tokens.specs.Layout.{Token}
use Rattle.gf_fig_read.specs.Outlines.{chain, ellipse}
use Rattle.gf_fig_read.specs.Objects.{Drawn, figure_object, object}
use Rattle.gf_fig_write.proofs.PrintedNumbers.{whole_decimal}
use Rattle.gf_fig_write.proofs.PrintedObjects.{natural_read, one_read, two_read, three_read}
use Rattle.gf_fig_write.proofs.PrintedObjects.{style_words, style_read, count_words, point_words}
use Rattle.gf_fig_write.proofs.PrintedObjects.{chain_read, disc_words, disc_read, oval_words}
use Rattle.gf_fig_write.proofs.PrintedObjects.{oval_read}

abbrev pub outline_words : ℕ → ℕ → Outline → List Token
outline_words c d (Chain r) = codes "2" ∷ decimal (if r.boxed then 2 else 3) ∷ style_words c
    d ++ (count_words (length r.points) ++ flat_map point_words r.points)
outline_words c d (Disc r) = codes "1" ∷ codes "3" ∷ style_words c d ++ disc_words r
outline_words c d (Oval o) = codes "1" ∷ codes "1" ∷ style_words c d ++ oval_words o

abbrev pub figure_words : Figure Outline → List Token
figure_words f = outline_words f.colour f.depth f.shape

abbrev pub with_this : Drawn → Figure Outline → Drawn
with_this d f = record d { figures = d.figures ++ f ∷ [] }

circle_read : (d : Drawn) (r : Round) (c depth : ℕ) (rest : List Token) → IsTrue (is_round r)
    → c ≤ 543 → IsTrue (is_some (rgb_of d.table c)) → depth ≤ 999
    → figure_object 1 4 (λ t. ellipse (nat_le 3 t)) d (codes "3" ∷ style_words c depth ++ (disc_words r ++ rest)) ≡ Ok (
      with_this d (record { shape = Disc r; colour = c; depth = depth }),
      rest,
    )
unfolding figure_object
circle_read d r c depth rest h small known deep =
    rw (
      style_read d.table 1 4 3 (codes "3") c depth (disc_words r ++ rest) three_read (omega arith)
          (omega arith) small known deep,
      disc_read r rest h,
    ) refl

ellipse_read : (d : Drawn) (o : Oblong) (c depth : ℕ) (rest : List Token) → IsTrue (is_oblong o)
    → c ≤ 543 → IsTrue (is_some (rgb_of d.table c)) → depth ≤ 999
    → figure_object 1 4 (λ t. ellipse (nat_le 3 t)) d (codes "1" ∷ style_words c depth ++ (oval_words o ++ rest)) ≡ Ok (
      with_this d (record { shape = Oval o; colour = c; depth = depth }),
      rest,
    )
unfolding figure_object
ellipse_read d o c depth rest h small known deep =
    rw (
      style_read d.table 1 4 1 (codes "1") c depth (oval_words o ++ rest) one_read (omega arith)
          (omega arith) small known deep,
      oval_read o rest h,
    ) refl

sub_small : (boxed : Bool) → (if boxed then 2 else 3) < 10 ^ 18
sub_small true = lit< tt
sub_small false = lit< tt

sub_least : (boxed : Bool) → 2 ≤ (if boxed then 2 else 3)
sub_least true = omega arith
sub_least false = omega arith

sub_most : (boxed : Bool) → (if boxed then 2 else 3) ≤ 3
sub_most true = omega arith
sub_most false = omega arith

sub_is : (boxed : Bool) → ((if boxed then 2 else 3) == 2) ≡ boxed
sub_is true = refl
sub_is false = refl

polyline_read : (d : Drawn) (r : Ring) (c depth : ℕ) (rest : List Token) → IsRing r → c ≤ 543
    → IsTrue (is_some (rgb_of d.table c)) → depth ≤ 999
    → figure_object 2 3 (λ t. chain (t == 2)) d (decimal (if r.boxed then 2 else 3) ∷ style_words c
    depth ++ (count_words (length r.points) ++ flat_map point_words r.points ++ rest)) ≡ Ok (
      with_this d (record { shape = Chain r; colour = c; depth = depth }),
      rest,
    )
unfolding figure_object
polyline_read d r c depth rest h small known deep =
    let tail : List Token = count_words (length r.points) ++ flat_map point_words r.points ++ rest
    in
    rw (
      style_read d.table 2 3 (if r.boxed then 2 else 3) (decimal (if r.boxed then 2 else 3)) c depth
          tail (whole_decimal (if r.boxed then 2 else 3) (sub_small r.boxed)) (sub_least r.boxed)
          (sub_most r.boxed) small known deep,
      sub_is r.boxed,
      chain_read r rest h,
    ) refl

shape_read : (d : Drawn) (o : Outline) (c depth : ℕ) (rest : List Token) → IsLawful o → c ≤ 543
    → IsTrue (is_some (rgb_of d.table c)) → depth ≤ 999
    → object d (outline_words c depth o ++ rest) ≡ Ok (
      with_this d (record { shape = o; colour = c; depth = depth }),
      rest,
    )
unfolding object
shape_read d (Chain r) c depth rest h small known deep =
    rw (natural_read 0 2 2 fault.Object (codes "2")
    (decimal (if r.boxed then 2 else 3) ∷ style_words c
    depth ++ (count_words (length r.points) ++ flat_map point_words r.points ++ rest)) two_read
    (omega arith) (omega arith)) (polyline_read d r c depth rest h small known deep)
shape_read d (Disc r) c depth rest h small known deep =
    rw (natural_read 0 2 1 fault.Object (codes "1")
    (codes "3" ∷ style_words c depth ++ (disc_words r ++ rest)) one_read (omega arith)
    (omega arith)) (circle_read d r c depth rest h small known deep)
shape_read d (Oval o) c depth rest h small known deep =
    rw (natural_read 0 2 1 fault.Object (codes "1")
    (codes "1" ∷ style_words c depth ++ (oval_words o ++ rest)) one_read (omega arith)
    (omega arith)) (ellipse_read d o c depth rest h small known deep)

pub figure_read : (d : Drawn) (f : Figure Outline) (rest : List Token) → IsLawful f.shape
    → f.colour ≤ 543 → IsTrue (is_some (rgb_of d.table f.colour)) → f.depth ≤ 999
    → object d (figure_words f ++ rest) ≡ Ok (with_this d f, rest)
figure_read d f rest h small known deep = shape_read d f.shape f.colour f.depth rest h small known
    deep
