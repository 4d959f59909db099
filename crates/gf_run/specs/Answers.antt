-- What a function makes of bytes, and what a run then does with it (this project's choice).
use Rattle.std.specs.Prelude.{◌≡◌, ℕ, List, Option, Vec, Ok, Err, Result, IfSome}
use Rattle.std.proofs.Common.{Global}
use Rattle.std.specs.Io.KnownBytes.{Appends}
use Rattle.gf_run.specs.declared.answering.Answer.{Answer}

-- Gives relates bytes to what a function may make of them
module _ {A E : Type 0} (Gives : Vec ℕ Global → Result (Answer A) E → Type 0) where
  -- of the bytes it may make an answer with this text
  pub record GivesText (bytes text : List ℕ) : Type 0 where
    pub given : Vec ℕ Global
    pub answer : Answer A
    pub gives : Gives given (Ok answer)
    pub bytes_are : given.items ≡ bytes
    pub text_is : answer.text.items ≡ text

  -- left says which bytes were left, where that is known
  module _ (left : Option (List ℕ)) where
    -- of the bytes it may make an answer with this value, by whose text known bytes grow from old
    -- to new
    pub record WritesAnswer (value : A) (old new : Option (List ℕ)) : Type 0 where
      pub given : Vec ℕ Global
      pub answer : Answer A
      pub gives : Gives given (Ok answer)
      pub bytes_are : IfSome left (λ bytes. given.items ≡ bytes)
      pub value_is : answer.value ≡ value
      pub written : Appends old new answer.text.items

    -- it may refuse the bytes with this error
    pub record Refuses (error : E) : Type 0 where
      pub given : Vec ℕ Global
      pub gives : Gives given (Err error)
      pub bytes_are : IfSome left (λ bytes. given.items ≡ bytes)
