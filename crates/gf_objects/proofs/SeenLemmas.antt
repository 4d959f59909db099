-- The points of a list, as distances from another point.
use Rattle.std.proofs.Common.{◌≡◌, ℕ, ◌+◌, ◌≤◌, ◌<◌, List, [], ◌∷◌, ◌++◌, map, length, take, get_or}
use Rattle.std.proofs.Common.{sym, ap, ◌∙◌}
use Rattle.std.proofs.lemmas.List.{map-append, take_more, take_all}
use Rattle.gf_plane.specs.declared.point.Point.{Point}
use Rattle.gf_plane.specs.Moving.{minus}

pub seen_more : (old new : List Point) (m o p : Point) (ps : List Point) (i : ℕ) → i < length ps
    → new ≡ old ++ m ∷ [] → old ≡ map (λ q. minus q o) (take i ps) → m ≡ minus (get_or ps i p) o
    → new ≡ map (λ q. minus q o) (take (i + 1) ps)
seen_more old new m o p ps i l e is one =
    e ∙ (rw (is, one) (sym (ap (map (λ q. minus q o)) (take_more ps i p l)
    ∙ map-append (λ q. minus q o) (take i ps) (get_or ps i p ∷ []))))

pub seen_all : (ms ps : List Point) (o : Point) (i : ℕ) → length ps ≤ i → ms
    ≡ map (λ q. minus q o) (take i ps) → ms ≡ map (λ q. minus q o) ps
seen_all ms ps o i l is = is ∙ ap (map (λ q. minus q o)) (take_all i ps l)
