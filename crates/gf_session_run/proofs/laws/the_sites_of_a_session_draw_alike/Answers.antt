use Rattle.gf_studio.proofs.DrawnLemmas.{both_drawn, one_drawing}
use Rattle.gf_session_run.proofs.OutcomeLemmas.{common_history, one_text, site_valid, text_shows}
use Rattle.gf_session_run.proofs.OutcomeLemmas.{told_common, told_shows}
use Rattle.gf_session_run.proofs.laws.the_sites_of_a_session_draw_alike.Goals as goal

pub returns-clause-one : goal.returns-clause-one
returns-clause-one c = λ scripts dones session d e i j drawing other x y. one_drawing d.site.ops
    e.site.ops (common_history scripts dones session d e i j) drawing other x.canonical y.canonical

pub returns-clause-each : goal.returns-clause-each
returns-clause-each c = λ scripts dones session d e i j drawing x. both_drawn d.site.ops e.site.ops
    (common_history scripts dones session d e i j) drawing x

pub returns-clause-text : goal.returns-clause-text
returns-clause-text c = λ scripts dones session d e i j drawing other x y. one_text d.site.ops
    e.site.ops (common_history scripts dones session d e i j) drawing other x y

pub returns-clause-shows : goal.returns-clause-shows
returns-clause-shows c = λ scripts dones session d e i j drawing x. text_shows d.site.ops e.site.ops
    (common_history scripts dones session d e i j) (site_valid scripts dones session e j) drawing x

pub returns-clause-told : goal.returns-clause-told
returns-clause-told c = λ sites bytes text t d i. both_drawn t.history d.site.ops
    (told_common sites bytes text t d i) t.drawing t.drawn

pub returns-clause-told_text : goal.returns-clause-told_text
returns-clause-told_text c = λ sites bytes text t d i drawing x. one_text d.site.ops t.history
    (t.plays.common d i) drawing t.drawing x t.drawn

pub returns-clause-told_shows : goal.returns-clause-told_shows
returns-clause-told_shows c = λ sites bytes text t d i drawing x. told_shows sites bytes text t d i
    drawing x
