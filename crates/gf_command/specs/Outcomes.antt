-- What an outcome says of the output, and which window it tells. No public clause cites this
-- module.
use Rattle.std.specs.Prelude.{ℕ, List, Option, None, Some}
use Rattle.gf_command.specs.declared.runs.Run.{Run}
use Rattle.gf_scanline.specs.Windows.{View}
use Rattle.gf_studio.specs.declared.painting.Extent.{Extent}
use Rattle.gf_studio.specs.declared.painting.Extent.TheVariants.{Fitted, Window}
use Rattle.gf_command.specs.declared.chosen.Chosen.{Chosen}
use Rattle.gf_command.specs.declared.answering.Outcome.{Outcome}
use Rattle.gf_command.specs.declared.answering.Outcome.TheVariants as outcome
use Rattle.gf_command.specs.Outputs.{Answers, AnswersOpen}

-- known bytes grow from old to new by what the run asks for, and came to this outcome
abbrev pub AnswersSo : Outcome → Run → List ℕ → Option (List ℕ) → Option (List ℕ)
    → Type 0
AnswersSo outcome.Open run bytes old new = AnswersOpen run bytes old new
AnswersSo other run bytes old new = Answers run bytes old new

-- the numbers of a window
abbrev pub numbers_of : View → Chosen
numbers_of w = record { x = w.x; y = w.y; step = w.step; width = w.width; height = w.height }

-- the numbers of a window that was chosen
abbrev pub chosen_numbers : Extent → View → Option Chosen
chosen_numbers (Window v) w = None
chosen_numbers (Fitted frame) w = Some (numbers_of w)
