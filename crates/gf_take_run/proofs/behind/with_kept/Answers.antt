use Rattle.gf_take_run.proofs.behind.with_kept.Goals as goal

pub new-requires : goal.new-requires
new-requires c = c.forget_all.ensures c.args.history.now.ops c.args.site.ops c.recall_valid.ensures
    c.history.ensures.valid c.requires.same c.requires.keeps
