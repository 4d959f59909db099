use Rattle.std.proofs.Common.{rules}
use Rattle.gf_studio.proofs.LeavingLemmas.{asked_fig, asked_lines, bands, prefix, whole}
use Rattle.gf_studio.proofs.painting.picture_run.Goals as goal

pub returns-in_err-ppm_to-in-Lines-clause-sink : goal.returns-in_err-ppm_to-in-Lines-clause-sink
returns-in_err-ppm_to-in-Lines-clause-sink g c =
    let meant = c.in_ok-meant-in-Lines in
    let asked = asked_lines c.args.picture.format c.args.picture.extent
    (g.R.Source.left c.args.source.now) c.window_of-window.result meant.meant.drawing c.in-Lines.is
    meant.ensures.ok meant.ensures.meant c.window_of-window.ensures in
    search (rules, prefix, bands)

pub returns-in_err-ppm_to-in-Fig-clause-sink : goal.returns-in_err-ppm_to-in-Fig-clause-sink
returns-in_err-ppm_to-in-Fig-clause-sink g c =
    let denoted = c.in_ok-denoted-in-Fig in
    let asked = asked_fig c.args.picture.format c.args.picture.extent
    (g.R.Source.left c.args.source.now) c.window_of-window-in-Fig.result denoted.denoted c.in-Fig.is
    denoted.ensures.ok c.window_of-window-in-Fig.ensures in
    search (rules, prefix, bands)

pub returns-in_ok-ppm_to-in-Lines-clause-paints : goal.returns-in_ok-ppm_to-in-Lines-clause-paints
returns-in_ok-ppm_to-in-Lines-clause-paints g c =
    let meant = c.in_ok-meant-in-Lines in
    whole c.args.picture.format c.args.picture.extent c.window_of-window.result _ _ _ _
    (asked_lines _ _ _ c.window_of-window.result meant.meant.drawing c.in-Lines.is
    meant.ensures.ok meant.ensures.meant c.window_of-window.ensures)
    c.in_ok-ppm_to-in-Lines.ensures.whole

pub returns-in_ok-ppm_to-in-Fig-clause-paints : goal.returns-in_ok-ppm_to-in-Fig-clause-paints
returns-in_ok-ppm_to-in-Fig-clause-paints g c =
    let denoted = c.in_ok-denoted-in-Fig in
    whole c.args.picture.format c.args.picture.extent c.window_of-window-in-Fig.result _ _ _ _
    (asked_fig _ _ _ c.window_of-window-in-Fig.result denoted.denoted c.in-Fig.is
    denoted.ensures.ok c.window_of-window-in-Fig.ensures) c.in_ok-ppm_to-in-Fig.ensures.whole
