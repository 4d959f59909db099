use Rattle.gf_versions.proofs.settling.maker.Goals as goal

pub unreachable-requires : goal.unreachable-requires
unreachable-requires c = let made = c.requires.created in
    c.in-None.ensures.none made.op made.contained made.id
