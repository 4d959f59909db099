-- The words for the causes of a line's fault (this project's choice).
use Rattle.std.specs.Prelude.{ℕ, List, codes}
use Rattle.gf_replay.specs.declared.reading_error.LineCause.{LineCause}
use Rattle.gf_replay.specs.declared.reading_error.LineCause.TheVariants as cause

-- the word for the cause of a line's fault
abbrev pub cause_word : LineCause → List ℕ
cause_word cause.Json = codes "Json"
cause_word cause.Field = codes "Field"
cause_word cause.Range = codes "Range"
cause_word cause.Clash = codes "Clash"
