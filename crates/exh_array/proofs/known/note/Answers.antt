use Rattle.std.proofs.Common.{◌∷◌, ◌++◌, [], ap, ◌∙◌}
use Rattle.exh_array.proofs.KnownPlaces.{forgotten_noted, known_more, known_same}
use Rattle.exh_array.proofs.known.note.Goals as goal

pub returns-in_err-is_new-clause-known : goal.returns-in_err-is_new-clause-known
returns-in_err-is_new-clause-known c sent own known up = known_same sent own c.args.known.now c.insert.new.self c.in_err-is_new.ensures.err known

pub returns-then-is_new-clause-known : goal.returns-then-is_new-clause-known
returns-then-is_new-clause-known c sent own known up = known_more sent own c.args.known.now c.insert.new.self c.args.place known up c.in_ok-is_new.ensures.updates.0

pub returns-then-is_new-clause-back : goal.returns-then-is_new-clause-back
returns-then-is_new-clause-back c =
    forgotten_noted c.args.noted.now.items c.push_reserved.new.self.items c.args.known.now c.insert.new.self c.args.place c.in_ok-is_new.is_new
    (c.push_reserved.ensures.items ∙ ap (λ noted. noted ++ c.args.place ∷ []) c.reserve.ensures.items)
    c.in_ok-is_new.ensures.keys c.in_ok-is_new.ensures.added c.if-is_new.true

pub returns-else-is_new-clause-known : goal.returns-else-is_new-clause-known
returns-else-is_new-clause-known c sent own known up = known_more sent own c.args.known.now c.insert.new.self c.args.place known up c.in_ok-is_new.ensures.updates.0
