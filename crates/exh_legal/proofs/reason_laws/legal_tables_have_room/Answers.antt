use Rattle.exh_legal.proofs.Room.{has_room}
use Rattle.exh_legal.proofs.reason_laws.legal_tables_have_room.Goals as goal

pub returns : goal.returns
returns c pseudo parts ranges count legal = has_room c.entries_are_few.ensures pseudo parts ranges count legal
