-- What a take says where it is refused (this project's choice).
use Rattle.std.specs.Prelude.{ℕ, List, ◌++◌, Option, Some, None, codes}
use Rattle.gf_ops.specs.IdText.{id_text}
use Rattle.gf_run.specs.ErrorTexts as studio
use Rattle.gf_take_run.specs.declared.take_run_error.TakeRunError.{TakeRunError}
use Rattle.gf_take_run.specs.declared.take_run_error.TakeRunError.TheVariants as refused

-- the text of an error; none is stated of the faults of a FIG text, or of a figure
abbrev pub error_text : TakeRunError → Option (List ℕ)
error_text (refused.Run e) = studio.error_text e
error_text (refused.Waits i j) =
    Some (codes "operation " ++ id_text i ++ codes " waits for " ++ id_text j)
error_text refused.NoDrawing = Some (codes "no drawing behind the operation lines")
error_text (refused.Fig faults) = None
error_text (refused.Figure broken) = None
error_text refused.TooManyFigures = Some (codes "TooManyFigures")
error_text refused.Unnamed =
    Some (codes "drawing without names: write it by fig --named, or import it")
error_text (refused.Absent i) =
    Some (codes "operation " ++ id_text i ++ codes " is in the drawing and was not read")
error_text (refused.Older i j) =
    Some (codes "drawing older than operation " ++ id_text i ++ codes ", which knows "
    ++ id_text j ++ codes ": open the drawing anew")
error_text (refused.Behind i) =
    Some (codes "operation " ++ id_text i ++ codes " was made meanwhile: open the drawing anew")
error_text refused.Exhausted = Some (codes "Exhausted")
error_text refused.Differs =
    Some (codes "no operations found that show the drawing: change less at once")
