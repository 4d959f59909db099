-- What the run over a session text says where it is refused (this project's choice).
use Rattle.std.specs.Prelude.{ℕ, List, Option, Some}
use Rattle.gf_session.specs.SessionErrors.{session_error_text}
use Rattle.gf_run.specs.ErrorTexts as studio
use Rattle.gf_session_run.specs.declared.session_run_error.SessionRunError.{SessionRunError}
use Rattle.gf_session_run.specs.declared.session_run_error.SessionRunError.TheVariants.{Run}
use Rattle.gf_session_run.specs.declared.session_run_error.SessionRunError.TheVariants.{Session}

-- the text of an error; none is stated of a text that reads as no drawing
abbrev pub error_text : SessionRunError → Option (List ℕ)
error_text (Session e) = Some (session_error_text e)
error_text (Run e) = studio.error_text e
