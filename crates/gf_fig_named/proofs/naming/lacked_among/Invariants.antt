use Rattle.std.proofs.Common.{take}
use Rattle.gf_fig_named.specs.Others.{AreLackedAmong}
use Rattle.gf_fig_named.proofs.naming.lacked_among.Given as goal

abbrev pub invariant-loop-place : goal.invariant-loop-place
invariant-loop-place l = AreLackedAmong l.items (take l.place-index l.places) l.key l.ids.items
