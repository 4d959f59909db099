-- A text of two numbers with a byte between them is cut there, and nowhere else.
use Rattle.std.proofs.Common.{◌≡◌, ◌≢◌, ◌∙◌, ◌<◌, ◌==◌, ℕ, Bool, true, false, zero, suc, refl, sym}
use Rattle.std.proofs.Common.{ap, arith, subst, [], ◌∷◌, ◌++◌, length, Option, Some, None}
use Rattle.std.proofs.Common.{MatchOption, get_or, length-append}
use Rattle.std.specs.Char.{digit_value}
use Rattle.std.specs.Str.Parse.{AllDigits, IsNumeral}
use Rattle.std.specs.Borrow.{Bor}
use Rattle.std.specs.Prelude.{FitsSigned}
use Rattle.std.specs.Int.{w32}
use Rattle.std.proofs.lemmas.Str.Pattern.{IsSplitOnceResult, split_after, split_parts}
use Rattle.std.proofs.lemmas.List.{get_or_at}
use Rattle.std.proofs.lemmas.Bool.Decides.{nat_tests}
use Rattle.clap.specs.Words.{Text, without_minus}
use Rattle.gf_command.specs.Spelling.{AreOfId, AreOfPoint, SpellsId, SpellsPoint}
use Rattle.gf_ops.specs.declared.op.OpId.{OpId}
use Rattle.gf_plane.specs.declared.point.Point.{Point}

-- no byte of the text is c
abbrev Lacks : ℕ → Text → Type 0
Lacks c text = (i : ℕ) → i < length text → get_or text i 0 ≢ c

digits_lack : (c : ℕ) → ¬ (digit_value c < 10) → (ds : Text) → AllDigits 10 ds → Lacks c ds
digits_lack c none [] d i lt e = absurd (omega arith)
digits_lack c none (x ∷ xs) d zero lt e = none (subst (λ b. digit_value b < 10) e d.0)
digits_lack c none (x ∷ xs) d (suc i) lt e = digits_lack c none xs d.1 i (omega arith) e

-- a whole number's text has no comma
whole_lacks : (text : Text) → IsNumeral 10 (without_minus text) → Lacks 44 text
whole_lacks [] d = λ i lt e. absurd (omega arith)
whole_lacks (b ∷ bs) d = go (b == 45) refl
  where
    tail : b ≡ 45 → Lacks 44 bs → Lacks 44 (b ∷ bs)
    tail is rest zero lt e = absurd (omega arith)
    tail is rest (suc i) lt e = rest i (omega arith) e

    go : (t : Bool) → (b == 45) ≡ t → Lacks 44 (b ∷ bs)
    go true e = let all : AllDigits 10 bs = rw e at d.1 in
        tail (grind (arith, nat_tests)) (digits_lack 44 (omega arith) bs all)
    go false e = let all : AllDigits 10 (b ∷ bs) = rw e at d.1 in
        digits_lack 44 (omega arith) (b ∷ bs) all

-- a text without the byte is no two texts around it
uncut : (c : ℕ) (text a b : Text) → Lacks c text → text ≢ a ++ c ∷ b
uncut c text a b lacks e =
    lacks (length a) (omega (arith, ap length e, length-append a (c ∷ b)))
    (ap (λ t. get_or t (length a) 0) e ∙ get_or_at a c b 0 (length a) refl)

-- a text without a dot spells no id
pub unspelt_id : (text : Text) → IsSplitOnceResult 46 text None → (i : OpId) → ¬ (SpellsId text i)
unspelt_id text h i s = uncut 46 text s.site s.seq (split_parts 46 text None h (omega arith))
    s.joined

-- a text without a comma spells no point
pub unspelt_point : (text : Text) → IsSplitOnceResult 44 text None → (p : Point)
    → ¬ (SpellsPoint text p)
unspelt_point text h p s = uncut 44 text s.x s.y (split_parts 44 text None h (omega arith)) s.joined

-- what spells an id spells it by the halves around its first dot
id_halves : (text : Text) (x : Bor Text × Bor Text) → IsSplitOnceResult 46 text (Some x)
    → (i : OpId) → SpellsId text i → AreOfId x.0.now x.1.now i
id_halves text x h i s =
    let halves = split_after 46 text s.site s.seq (Some x) h (omega arith) s.joined
    (digits_lack 46 (omega arith) s.site s.numbers.site_is.digits.1) in
    subst (λ seq. AreOfId x.0.now seq i) (sym halves.1)
    (subst (λ site. AreOfId site s.seq i) (sym halves.0) s.numbers)

-- what spells a point spells it by the halves around its first comma
point_halves : (text : Text) (q : Bor Text × Bor Text) → IsSplitOnceResult 44 text (Some q)
    → (p : Point) → SpellsPoint text p → AreOfPoint q.0.now q.1.now p
point_halves text q h p s =
    let halves = split_after 44 text s.x s.y (Some q) h (omega arith) s.joined
    (whole_lacks s.x s.numbers.x_is.digits) in
    subst (λ y. AreOfPoint q.0.now y p) (sym halves.1)
    (subst (λ x. AreOfPoint x s.y p) (sym halves.0) s.numbers)

-- a text that is cut in two spells what its halves spell
pub spelt_id : (text : Text) (x : Bor Text × Bor Text) → IsSplitOnceResult 46 text (Some x)
    → (r : Option OpId)
    → MatchOption r ((i : OpId) → ¬ (AreOfId x.0.now x.1.now i)) (AreOfId x.0.now x.1.now)
    → MatchOption r ((i : OpId) → ¬ (SpellsId text i)) (SpellsId text)
spelt_id text x h None is = λ i s. is i (id_halves text x h i s)
spelt_id text x h (Some i) is = record {
  site = x.0.now;
  seq = x.1.now;
  joined = (split_parts 46 text (Some x) h (omega arith)).0;
  numbers = is;
}

pub spelt_point : (text : Text) (q : Bor Text × Bor Text) → IsSplitOnceResult 44 text (Some q)
    → (r : Option Point)
    → MatchOption r ((p : Point) → FitsSigned w32 p.x → FitsSigned w32 p.y
    → ¬ (AreOfPoint q.0.now q.1.now p)) (AreOfPoint q.0.now q.1.now)
    → MatchOption r ((p : Point) → FitsSigned w32 p.x → FitsSigned w32 p.y → ¬ (SpellsPoint text p))
    (SpellsPoint text)
spelt_point text q h None is = λ p f g s. is p f g (point_halves text q h p s)
spelt_point text q h (Some p) is = record {
  x = q.0.now;
  y = q.1.now;
  joined = (split_parts 44 text (Some q) h (omega arith)).0;
  numbers = is;
}
