use Rattle.std.proofs.Common.{List, None, arith, subst, sym}
use Rattle.gf_fig_faults.specs.declared.faults.DrawingFault.{DrawingFault}
use Rattle.gf_fig_faults.specs.DrawingFaults.{AreFaults}
use Rattle.gf_fig_faults.proofs.FaultsLemmas.{first_refuses, none_where_read}
use Rattle.gf_fig_faults.proofs.searching.drawing_faults.Goals as goal

pub returns-clause-none : goal.returns-clause-none
returns-clause-none c =
    none_where_read c.args.text.now 64 c.new.result (omega arith)
    (subst (λ (fs : List DrawingFault). AreFaults 64 None c.args.text.now fs) (sym c.new.ensures)
    c.in_ok-faults.ensures)

pub returns-clause-first : goal.returns-clause-first
returns-clause-first c =
    first_refuses c.args.text.now 64 c.new.result
    (subst (λ (fs : List DrawingFault). AreFaults 64 None c.args.text.now fs) (sym c.new.ensures)
    c.in_ok-faults.ensures)
