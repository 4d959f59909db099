use Rattle.gf_classes.proofs.classes.classes_of.Goals as goal

pub classes_over-requires : goal.classes_over-requires
classes_over-requires c = record {
  object = c.args.object;
  positions = c.requires;
  direct = c.in_ok-direct.ensures;
}
