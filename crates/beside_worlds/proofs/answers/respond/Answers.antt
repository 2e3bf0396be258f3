use Rattle.beside_worlds.proofs.Settings.{line_keeps}
use Rattle.beside_worlds.proofs.answers.respond.Goals as goal

pub returns-in-Ok-clause-settings : goal.returns-in-Ok-clause-settings
returns-in-Ok-clause-settings c = λ is. line_keeps c.lines_keep_settings.ensures _ c.requires _ _ c.in-Ok.ensures.world is
