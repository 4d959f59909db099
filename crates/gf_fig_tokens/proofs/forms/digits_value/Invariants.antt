use Rattle.std.proofs.Common.{◌≡◌, ◌<◌, ◌^◌, take}
use Rattle.gf_fig_tokens.specs.Forms.{digits_value}
use Rattle.gf_fig_tokens.proofs.forms.digits_value.Given as goal

abbrev pub invariant-loop-d : goal.invariant-loop-d
invariant-loop-d l = (l.n ≡ digits_value (take l.d-index l.digits)) × (l.n < 10 ^ l.d-index)
