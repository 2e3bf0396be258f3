use Rattle.std.proofs.Common.{◌≡◌, ◌+◌, ◌-◌, ◌++◌, ap, sym, ◌∙◌, arith}
use Rattle.byteorder.specs.Endian.{big_bytes}
use Rattle.exh_notice.specs.NoticeImages.{items}
use Rattle.exh_notice.specs.NoticeByteLemmas.{items-add, bytes_of_number}
use Rattle.exh_cells.proofs.CellBytes.{number_in}
use Rattle.exh_cells.proofs.cell.slot_in.Goals as goal

pub returns-clause-bytes : goal.returns-clause-bytes
returns-clause-bytes c =
    let block = c.args.bytes.now in
    let at = c.args.at in
    let first : big_bytes 4 c.read_u32.result ≡ items at 4 block =
    ap (big_bytes 4) (c.read_u32.ensures ∙ number_in at (164 - at) 4 block (omega arith)) ∙ bytes_of_number at 4 block c.fits-bytes in
    let second : big_bytes 4 c.read_u32-2.result ≡ items (at + 4) 4 block =
    ap (big_bytes 4) (c.read_u32-2.ensures ∙ number_in (at + 4) (164 - (at + 4)) 4 block (omega arith)) ∙ bytes_of_number (at + 4) 4 block c.fits-bytes in
    (λ i. first i ++ second i) ∙ sym (items-add at 4 4 block)
