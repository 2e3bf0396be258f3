use Rattle.exh_array.proofs.HeldCopies.{at_start, none_there}
use Rattle.exh_array.proofs.held_copy.HeldCopy.is_at_start.Goals as goal

pub returns-then-is_none : goal.returns-then-is_none
returns-then-is_none c start sent held said =
    at_start start sent c.args.self.now held (none_there c.args.self.now.since c.is_none.result c.is_none.ensures c.if-is_none.true) (c.is_empty.ensures said)
