-- The sites of a world by their numbers.
use Rattle.std.proofs.Common.{◌≡◌, ◌≢◌, ℕ, zero, suc, ◌+◌, List, [], ◌∷◌, ◌++◌, length}
use Rattle.std.proofs.Common.{length-append, Some, add-one, inl, inr, refl, sym, ap, ◌∙◌, arith}
use Rattle.std.specs.Prelude.{◌⊎◌}
use Rattle.gf_base.proofs.PositionLemmas.{got_set, got_push}
use Rattle.gf_site.specs.SiteState.{SiteState, new_site}
use Rattle.gf_replicas.specs.World.{new_sites, site_at, with_site}

pub length-new_sites : (n : ℕ) → length (new_sites n) ≡ n
length-new_sites zero = refl
length-new_sites (suc n) = let i = length-new_sites n in
    length-append (new_sites n) (new_site (suc n) ∷ []) ∙ omega arith

pub new_sites-more : (n : ℕ) → new_sites (n + 1) ≡ new_sites n ++ new_site (n + 1) ∷ []
new_sites-more n = rw (add-one n) refl

-- a site of a new world is new
pub new_at : (n s : ℕ) (x : SiteState) → site_at (new_sites n) s ≡ Some x → x ≡ new_site s
new_at n zero x e = absurd cc
new_at zero (suc k) x e = absurd cc
new_at (suc n) (suc k) x e = elim (got_push (new_sites n) (new_site (suc n)) k x e) [
  | inl p ↦ new_at n (suc k) x p
  | inr p ↦
      let l = length-new_sites n in
      let q = p.0 in
      let m : k ≡ n = omega arith in
      p.1 ∙ ap (λ j. new_site (suc j)) (sym m)
]

-- after the site of one number changed, a site is that one, or as it was
pub site_cases : (sites : List SiteState) (s t : ℕ) (x y z : SiteState) → site_at sites s ≡ Some x
    → site_at (with_site sites s y) t ≡ Some z
    → ((t ≡ s) × (z ≡ y)) ⊎ ((t ≢ s) × (site_at sites t ≡ Some z))
site_cases sites zero t x y z at e = absurd cc
site_cases sites (suc k) zero x y z at e = absurd cc
site_cases sites (suc k) (suc i) x y z at e = elim (got_set sites k i y z e) [
  | inl p ↦ let q = p.0 in inl (omega arith, p.1)
  | inr p ↦ inr (λ q. p.0 (omega arith), p.1)
]
