-- Points that are read make a lawful chain.
use Rattle.std.proofs.Common.{◌≡◌, ◌≤◌, ℕ, Bool, true, List, [], ◌∷◌, ◌++◌, length, Option, Some}
use Rattle.std.proofs.Common.{None, refl, ◌∙◌}
use Rattle.std.specs.Prelude.{IsTrue, All}
use Rattle.std.specs.Ordering.{int_eq}
use Rattle.std.proofs.lemmas.Bool.{and_parts}
use Rattle.std.proofs.lemmas.List.Elements.{All-nil, All-cons, All-append}
use Rattle.std.proofs.lemmas.Bool.Decides.{Decides-int_eq}
use Rattle.gf_plane.specs.declared.point.Point.{Point}
use Rattle.gf_plane.specs.Reach.{is_within_reach}
use Rattle.gf_shape.specs.Ring.{IsRing}
use Rattle.gf_fig_read.specs.Outlines.{same_point, is_closed}

same : (p q : Option Point) → IsTrue (same_point p q) → p ≡ q
same None q h = absurd (cc)
same (Some p) None h = absurd (cc)
same (Some p) (Some q) h =
    let parts = and_parts (int_eq p.x q.x) (int_eq p.y q.y) h in
    rw ((Decides-int_eq p.x q.x).0 parts.0, (Decides-int_eq p.y q.y).0 parts.1) refl

pub ring_from : (boxed : Bool) (ps : List Point) (n : ℕ) → length ps ≡ n → 4 ≤ n → n ≤ 65536
    → (boxed ≡ true → n ≡ 5) → IsTrue (is_closed ps) → All (λ p. IsTrue (is_within_reach p)) ps
    → IsRing (record { boxed = boxed; points = ps })
ring_from boxed ps n len least most box closed reach = record {
  least = rw len least;
  most = rw len most;
  box = λ e. len ∙ box e;
  closed = same _ _ closed;
  reach = reach;
}

pub within_pushed : (ps : List Point) (p : Point) → All (λ q. IsTrue (is_within_reach q)) ps
    → IsTrue (is_within_reach p) → All (λ q. IsTrue (is_within_reach q)) (ps ++ p ∷ [])
within_pushed ps p h k =
    let Q : Point → Type 0 = λ q. IsTrue (is_within_reach q) in
    All-append Q ps (p ∷ []) h (All-cons Q p [] k (All-nil Q))
