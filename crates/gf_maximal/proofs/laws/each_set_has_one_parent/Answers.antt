use Rattle.gf_maximal.proofs.ParentLemmas.{largest_next_cut}
use Rattle.gf_maximal.proofs.laws.each_set_has_one_parent.Goals as goal

pub returns : goal.returns
returns c = λ e symmetric alone us d all x rising new rivals exactly gs table.
    largest_next_cut e (record { symmetric = symmetric; alone = alone }) us x d all
    (record { rising = rising; fresh = new; rivals = rivals; exactly = exactly }) gs table
