use Rattle.std.proofs.Common.{◌++◌}
use Rattle.gf_studio.proofs.SameLemmas.{histories_draw_both, histories_paint, histories_write}
use Rattle.gf_edit.proofs.JoinLemmas.{joins}
use Rattle.gf_command.proofs.laws.what_an_edit_writes_is_drawn_with_what_it_read.Goals as goal

pub returns-clause-drawing : goal.returns-clause-drawing
returns-clause-drawing c = λ s bytes others lines new site j denotes drawing x.
    histories_draw_both lines others (j.edit.history ++ new) (j.edit.history ++ new) denotes
    (joins s bytes others new site j) (λ a. (λ i. i, λ i. i)) drawing x

pub returns-clause-text : goal.returns-clause-text
returns-clause-text c = λ s bytes others lines new site j denotes text other x y.
    histories_write lines others (j.edit.history ++ new) (j.edit.history ++ new) denotes
    (joins s bytes others new site j) (λ a. (λ i. i, λ i. i)) text other x y

pub returns-clause-picture : goal.returns-clause-picture
returns-clause-picture c = λ s bytes others lines new site j denotes w text other x y.
    histories_paint lines others (j.edit.history ++ new) (j.edit.history ++ new) denotes
    (joins s bytes others new site j) (λ a. (λ i. i, λ i. i)) w text other x y
