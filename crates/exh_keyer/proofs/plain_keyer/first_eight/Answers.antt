use Rattle.exh_keyer.proofs.Padded.{take-append-replicate}
use Rattle.exh_keyer.proofs.plain_keyer.first_eight.Goals as goal

pub returns : goal.returns
returns c = let padded = take-append-replicate 8 c.args.bytes.now 0 in cc
