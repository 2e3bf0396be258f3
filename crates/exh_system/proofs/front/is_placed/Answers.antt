use Rattle.std.proofs.Common.{◌≡◌, sym, ◌∙◌, arith}
use Rattle.std.proofs.lemmas.Bool.{eqb-true, eq-eqb}
use Rattle.byteorder.specs.Endian.{big_from}
use Rattle.exh_system.proofs.Numbers.{number_in}
use Rattle.exh_system.proofs.front.is_placed.Goals as goal

pub returns : goal.returns
returns c =
    let read : c.read_u16.result ≡ big_from 8 2 c.args.bytes.now = c.read_u16.ensures ∙ number_in 8 92 2 c.args.bytes.now (omega arith) in
    (λ yes. sym read ∙ eqb-true c.read_u16.result 3 yes, λ is. eq-eqb c.read_u16.result 3 (read ∙ is))
