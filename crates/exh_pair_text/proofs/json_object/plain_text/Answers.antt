use Rattle.exh_pair_text.proofs.JsonCases.{digits_asked, digits_needed, plain_where}
use Rattle.exh_pair_text.proofs.json_object.plain_text.Goals as goal

pub returns-then-is_hex-clause-none : goal.returns-then-is_hex-clause-none
returns-then-is_hex-clause-none c = digits_asked c.args.is_hex c.args.bytes.now c.if-is_hex.true

pub returns-in-Ok-clause-some : goal.returns-in-Ok-clause-some
returns-in-Ok-clause-some c = (c.in-Ok.ensures.cases.0, plain_where c.args.is_hex c.args.bytes.now c.if-is_hex.false c.in-Ok.ensures.cases.1)

pub returns-in-Err-clause-none : goal.returns-in-Err-clause-none
returns-in-Err-clause-none c = digits_needed c.args.is_hex c.args.bytes.now c.in-Err.ensures.cases.0
