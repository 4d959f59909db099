-- What a site takes of a FIG text behind known operations (this project's choice).
use Rattle.std.specs.Prelude.{◌≡◌, ℕ, Bool, List, ◌++◌, Contains, Ok}
use Rattle.gf_ops.specs.declared.op.Op.{Op}
use Rattle.gf_ops.specs.declared.op.Clock.{Clock}
use Rattle.gf_json.specs.OperationLines.{denoted}
use Rattle.gf_json.specs.WrittenLines.{op_text}
use Rattle.gf_fig_named.specs.ThinPolygons.{AreThinOf}
use Rattle.gf_fig_read.specs.Objects.{Drawn}
use Rattle.gf_run.specs.declared.answering.Answer.{Answer}
use Rattle.gf_edit.specs.MadeOperations.{made_of}
use Rattle.gf_edit.specs.Making.{written_lines}
use Rattle.gf_take.specs.Bases.{AreRead}
use Rattle.gf_take_run.specs.declared.request.TakeRequest.{TakeRequest}
use Rattle.gf_take_run.specs.declared.taken.Taken.{Taken}
use Rattle.gf_take_run.specs.KnownHistory.{since_drawing}
use Rattle.gf_take_run.specs.ShownText.{IsShownText}
use Rattle.gf_take_run.specs.TakenText.{DenotesDrawing, TakesDrawing}
use Rattle.gf_take_run.specs.TakeRun.{StaysWithin}
use Rattle.gf_take_run.specs.ToldNumbers.{CountsObjects, alters, creates, hides}

-- the text has the lines of operations, each of which is read again
pub record AreWritten (new : List Op) (text : List ℕ) : Type 0 where
  pub is : text ≡ written_lines new
  pub reads : (a : Op) → Contains new a → denoted (op_text a) ≡ Ok a

-- the text has the lines of operations, and behind them what is shown of h with these
pub record IsWrittenText (named : Bool) (h new : List Op) (text : List ℕ) : Type 0 where
  pub lines : List ℕ
  pub written : AreWritten new lines
  pub shown : List ℕ
  pub shows : IsShownText named (h ++ new) shown
  pub is : text ≡ lines ++ shown

-- the site takes the new operations of the drawing behind what it knew of h, and they are written
-- and told
pub record TakesSo (q : TakeRequest) (h : List Op) (fig : List ℕ) (drawing : Drawn) (knew : Clock)
    (new : List Op) (t : Answer Taken) : Type 0 where
  pub taken : TakesDrawing q.site h fig drawing knew new
  pub within : StaysWithin q.site q.after taken.base new
  pub text : IsWrittenText q.named h new t.text.items
  pub made : t.value.made ≡ made_of new
  pub changed : CountsObjects alters new t.value.changed
  pub hidden : CountsObjects hides new t.value.hidden
  pub drawn : CountsObjects creates new t.value.drawn
  pub since : t.value.since ≡ since_drawing q.site knew h
  pub thin : AreThinOf taken.base t.value.thin.items

-- the known operations, which deliver the history, and the FIG text were read, and the site takes
-- of them the new operations, which are written and told
pub record TakesBehind (q : TakeRequest) (known history : List Op) (fig : List ℕ) (new : List Op)
    (t : Answer Taken) : Type 0 where
  pub read : AreRead q.site known history
  pub drawing : Drawn
  pub knew : Clock
  pub drawn : DenotesDrawing fig drawing knew
  pub takes : TakesSo q history fig drawing knew new t
