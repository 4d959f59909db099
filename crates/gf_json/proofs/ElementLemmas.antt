-- The elements of an array, read one after the other.
use Rattle.std.proofs.Common.{◌≡◌, List, [], ◌∷◌, map, refl, sym, ap, ◌∙◌, Ok, true}
use Rattle.std.specs.Prelude.{All, Bool, Option, Some, None, option_map}
use Rattle.std.specs.Option.{ok_or}
use Rattle.std.specs.List.{list_all}
use Rattle.std.proofs.lemmas.Bool.{and_parts}
use Rattle.std.proofs.lemmas.List.Elements.{All-nil, All-cons}
use Rattle.serde_json.specs.Data.{Data}
use Rattle.serde_json.specs.declared.value.Value.{Value}
use Rattle.serde_json.specs.View.{view, items_view}
use Rattle.gf_json.specs.declared.line_error.LineError.TheVariants as fault
use Rattle.gf_json.specs.LineValues.{Got}
use Rattle.gf_json.specs.LineForms.{◌&◌, each, elements}
use Rattle.gf_json.specs.Limited.{IsKept, limited}

-- what has its form and keeps the limits
abbrev pub Keeps : {A : Type 0} → (A → Bool) → Option A → Type 0
Keeps {A = A} p x = (a : A) × (x ≡ Some a) × (p a ≡ true)

pub keeps : {A : Type 0} (p : A → Bool) (x : Option A)
    → Ok true ≡ ok_or (option_map p x) fault.Field → Keeps p x
keeps p None h = absurd cc
keeps p (Some a) h = (a, refl, cc)

-- and what it is
pub keeps_as : {A : Type 0} (p : A → Bool) (x : Option A) (a : A)
    → Ok true ≡ ok_or (option_map p x) fault.Field → x ≡ Some a
    → ◌≡◌ {A = Got (Option A)} (Ok (Some a)) (limited p x)
keeps_as p None a h k = absurd cc
keeps_as {A = A} p (Some b) a h k =
    let e : b ≡ a = cc in
    let t : p b ≡ true = cc in
    rw t (ap (λ (c : A). Ok (Some c)) (sym e))

-- values that have their form and keep the limits
pub each_kept : {A : Type 0} (form : Data → Option A) (p : A → Bool) (vs : List Value) (xs : List A)
    → each form (elements (items_view vs)) ≡ Some xs → list_all p xs ≡ true
    → All (λ v. IsKept p (form (view v))) vs
each_kept form p [] xs h k = All-nil _
each_kept {A = A} form p (v ∷ vs) xs h k =
    of_form (form (view v)) (each form (elements (items_view vs))) (each_kept form p vs) refl h
  where
    of_form : (x : Option A) (y : Option (List A))
        → ((ys : List A) → y ≡ Some ys → list_all p ys ≡ true
        → All (λ w. IsKept p (form (view w))) vs)
        → form (view v) ≡ x → option_map (λ p. p.0 ∷ p.1) (x & y) ≡ Some xs
        → All (λ w. IsKept p (form (view w))) (v ∷ vs)
    of_form None y others d f = absurd cc
    of_form (Some a) None others d f = absurd cc
    of_form (Some a) (Some ys) others d f =
        let g : a ∷ ys ≡ xs = cc in
        let parts = and_parts (p a) (list_all p ys) (ap (list_all p) g ∙ k) in
        All-cons (λ w. IsKept p (form (view w))) v vs (rw (d, parts.0) refl)
        (others ys refl parts.1)

-- values that are read as these
pub each_read : {A : Type 0} (form : Data → Option A) (vs : List Value) (xs : List A)
    → map (λ v. form (view v)) vs ≡ map Some xs → each form (elements (items_view vs)) ≡ Some xs
each_read form [] [] h = refl
each_read form [] (x ∷ xs) h = absurd cc
each_read form (v ∷ vs) [] h = absurd cc
each_read form (v ∷ vs) (x ∷ xs) h =
    let first : form (view v) ≡ Some x = cc in
    let rest : map (λ w. form (view w)) vs ≡ map Some xs = cc in
    rw (first, each_read form vs xs rest) refl
