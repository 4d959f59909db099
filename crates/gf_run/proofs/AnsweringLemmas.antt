-- What a run writes of the text that its function made.
use Rattle.std.specs.Prelude.{◌≡◌, ℕ, List, Option, Vec, Ok, Result, IfSome}
use Rattle.std.proofs.Common.{Global, refl}
use Rattle.std.proofs.lemmas.Option.{IfSome_then}
use Rattle.gf_streams.specs.Taken.{AppendsPrefix}
use Rattle.gf_run.specs.declared.answering.Answer.{Answer}
use Rattle.gf_run.specs.RunAnswers.{WritesPrefix}
use Rattle.gf_run.specs.Answers.{GivesText}

pub writes_prefix : {A E : Type 0} (Gives : Vec ℕ Global → Result (Answer A) E → Type 0)
    (left : Option (List ℕ)) (given : Vec ℕ Global) → IfSome left (λ bytes. given.items ≡ bytes)
    → (answer : Answer A) (old new : Option (List ℕ)) → Gives given (Ok answer)
    → AppendsPrefix old new answer.text.items
    → IfSome left (λ bytes. WritesPrefix (GivesText Gives bytes) old new)
writes_prefix Gives left given came answer old new gives written = IfSome_then left came
    (λ bytes is. record {
      text = answer.text.items;
      is = record {
        given = given;
        answer = answer;
        gives = gives;
        bytes_are = is;
        text_is = refl;
      };
      written = written;
    })
