use Rattle.std.proofs.Common.{rules}
use Rattle.exhash.proofs.NewLemmas.{new_are}
use Rattle.exhash.proofs.new_file.empty_draft.Goals as goal

pub new-opened-requires : goal.new-opened-requires
new-opened-requires c = new_are c.args.settings c.in_ok-wards.wards.items c.in_ok-wards.ensures.wards (search rules)
