-- What a line was read as is what it denotes, want of memory aside.
use Rattle.std.specs.Prelude.{◌⊎◌, Err, Ok}
use Rattle.std.proofs.Common.{◌≡◌, inl, inr, sym, ◌∙◌}
use Rattle.gf_json.specs.LineValues.{Got}
use Rattle.gf_json.specs.declared.line_error.LineError.{LineError}
use Rattle.gf_json.specs.declared.line_error.LineError.TheVariants as line

pub denotes_read : {A : Type 0} (q d : Got A) (a : A) → (q ≡ Err line.OutOfMemory) ⊎ (q ≡ d)
    → q ≡ Ok a → d ≡ Ok a
denotes_read q d a (inl m) is = let g = sym m ∙ is in absurd cc
denotes_read q d a (inr e) is = sym e ∙ is

pub fault_read : {A : Type 0} (q d : Got A) (f : LineError)
    → (q ≡ Err line.OutOfMemory) ⊎ (q ≡ d) → q ≡ Err f → (f ≡ line.OutOfMemory) ⊎ (d ≡ Err f)
fault_read q d f (inl m) is = inl (let g = sym m ∙ is in cc)
fault_read q d f (inr e) is = inr (sym e ∙ is)
