use Rattle.std.proofs.Common.{◌≡◌, ◌+◌, sym, ◌∙◌, arith}
use Rattle.byteorder.specs.Endian.{big_from}
use Rattle.exh_cells.proofs.CellBytes.{number_in}
use Rattle.std.proofs.lemmas.Bool.{eqb-true, eq-eqb}
use Rattle.exh_cells.proofs.stamped_header.is_placed.Goals as goal

pub returns : goal.returns
returns c =
    let read : c.read_u16.result ≡ big_from 8 2 c.args.block.now = c.read_u16.ensures ∙ number_in 8 4088 2 c.args.block.now (omega arith) in
    (λ yes. sym read ∙ eqb-true c.read_u16.result 3 yes, λ is. eq-eqb c.read_u16.result 3 (read ∙ is))
