-- The bytes of a reply: a line of JSON, and as many bytes behind it as it says (RFC 8259 by
-- serde_json's compact text; the keys are this project's choice).
use Rattle.std.specs.Prelude.{◌≡◌, ℕ, Bool, true, false, List, [], ◌∷◌, ◌++◌, Option, None, Some}
use Rattle.std.specs.Prelude.{IfSome, codes, length, map}
use Rattle.serde_json.specs.Data.{Data, array, boolean}
use Rattle.serde_json.specs.View.{items_of}
use Rattle.gf_ops.specs.declared.op.ObjectId.{ObjectId}
use Rattle.gf_json.specs.Notations.{json_line, object_of}
use Rattle.gf_json.specs.WrittenValues.{name_data, natural_data}
use Rattle.gf_edit.specs.declared.made.Made.{Made}
use Rattle.gf_status.specs.declared.state.State.{State}
use Rattle.gf_status.specs.declared.state.State.TheVariants.{Clean, Open}
use Rattle.gf_studio.specs.declared.naming.NamedRun.{NamedRun}
use Rattle.gf_take_run.specs.declared.taken.Taken.{Taken}
use Rattle.gf_run.specs.ErrorTexts as studio
use Rattle.gf_take_run.specs.ErrorTexts as take
use Rattle.gf_serve.specs.declared.reply.Arrival.{Arrival}
use Rattle.gf_serve.specs.declared.reply.Refusal.{Refusal}
use Rattle.gf_serve.specs.declared.reply.Refusal.TheVariants as refusal
use Rattle.gf_serve.specs.declared.reply.Reply.{Reply}
use Rattle.gf_serve.specs.declared.reply.Reply.TheVariants as reply

-- the ids of objects
abbrev pub objects_data : List ObjectId → Data
objects_data objects = array (items_of (map (λ (o : ObjectId). name_data o.0) objects))

-- the first and the last of some operations, if there are any
abbrev pub made_data : Option Made → Data
made_data None = array (items_of [])
made_data (Some made) = array (items_of (name_data made.first ∷ name_data made.last ∷ []))

-- what came with operation lines
abbrev pub arrival_data : Arrival → Data
arrival_data came = object_of (
    (codes "bytes", natural_data 0)
    ∷ (codes "new", natural_data came.new)
    ∷ (codes "waiting", natural_data came.waiting)
    ∷ [])

-- what is told of a take, with so many bytes behind it
abbrev pub taken_data : ℕ → Taken → Data
taken_data n taken = object_of (
    (codes "bytes", natural_data n)
    ∷ (codes "changed", natural_data taken.changed)
    ∷ (codes "drawn", natural_data taken.drawn)
    ∷ (codes "hidden", natural_data taken.hidden)
    ∷ (codes "made", made_data taken.made)
    ∷ (codes "since", made_data taken.since)
    ∷ (codes "thin", objects_data taken.thin.items)
    ∷ [])

-- what is told of a named text of so many bytes
abbrev pub named_data : ℕ → NamedRun → Data
named_data n named = object_of (
    (codes "bytes", natural_data n)
    ∷ (codes "thin", objects_data named.thin.items)
    ∷ (codes "waiting", natural_data named.waiting)
    ∷ [])

-- whether a status is clean
abbrev pub is_clean : State → Bool
is_clean Clean = true
is_clean Open = false

-- what is told of a status of so many bytes
abbrev pub state_data : ℕ → State → Data
state_data n state =
    object_of ((codes "bytes", natural_data n) ∷ (codes "clean", boolean (is_clean state)) ∷ [])

-- that a request was refused, in so many bytes
abbrev pub refused_data : ℕ → Data
refused_data n =
    object_of ((codes "bytes", natural_data n) ∷ (codes "refused", boolean true) ∷ [])

-- a refusal in these words
abbrev pub refused_text : List ℕ → List ℕ
refused_text words = json_line (refused_data (length words)) ++ words

-- the words of a refusal, where they are stated
abbrev pub refusal_words : Refusal → Option (List ℕ)
refusal_words (refusal.Run e) = studio.error_text e
refusal_words (refusal.Take e) = take.error_text e

-- the bytes of a reply
abbrev pub IsReplyText : Reply → List ℕ → Type 0
IsReplyText (reply.Lines came) text = text ≡ json_line (arrival_data came)
IsReplyText (reply.Taken answer) text =
    text ≡ json_line (taken_data (length answer.text.items) answer.value) ++ answer.text.items
IsReplyText (reply.Named answer) text =
    text ≡ json_line (named_data (length answer.text.items) answer.value) ++ answer.text.items
IsReplyText (reply.Status answer) text =
    text ≡ json_line (state_data (length answer.text.items) answer.value) ++ answer.text.items
IsReplyText (reply.Refused why) text =
    (words : List ℕ) × IfSome (refusal_words why) (λ w. words ≡ w) × (text ≡ refused_text words)
