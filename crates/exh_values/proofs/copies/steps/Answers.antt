use Rattle.exh_values.proofs.copies.steps.Goals as goal

pub returns-in-Look : goal.returns-in-Look
returns-in-Look g c = c.look.ensures c.args.writer.now.name c.requires
