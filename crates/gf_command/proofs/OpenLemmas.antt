-- What is to be seen to is one of the two things that a refusal may leave.
use Rattle.std.specs.Prelude.{◌⊎◌, IfSome, Option, Some, None}
use Rattle.std.proofs.Common.{inr}

-- what holds of the value, if there is one, is the second of two facts on it
pub second_of : {T : Type 0} (o : Option T) (P Q : T → Type 0) → IfSome o Q
    → IfSome o (λ x. P x ⊎ Q x)
second_of None P Q h = tt
second_of (Some x) P Q h = inr h
