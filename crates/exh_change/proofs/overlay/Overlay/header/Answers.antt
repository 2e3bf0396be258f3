use Rattle.std.proofs.Common.{◌≡◌}
use Rattle.exh_change.specs.Overlay.{shown}
use Rattle.exh_change.proofs.Steps.{cut_off, header_read, other_fault}
use Rattle.exh_change.proofs.overlay.Overlay.header.Goals as goal

pub returns-in_err-read_block-clause-legal : goal.returns-in_err-read_block-clause-legal
returns-in_err-read_block-clause-legal g c file bytes knows is =
    other_fault c.from_residual.result c.in_err-read_block.field-0.0 _ c.from_residual.ensures.1
    (cut_off (shown g.K.Under.known c.args.self.now.edits.items.items) bytes 0 c.in_err-read_block.field-0.0 knows (c.blocks_stand.ensures.headers file bytes is).whole c.in_err-read_block.ensures.err)

pub returns-in_err-header-clause-legal : goal.returns-in_err-header-clause-legal
returns-in_err-header-clause-legal g c file bytes knows is =
    let image = header_read c.blocks_stand.ensures.headers (shown g.K.Under.known c.args.self.now.edits.items.items) file bytes c.read_block.new.block knows is c.in_ok-read_block.ensures.block in
    let no = c.in_err-header.ensures.every file.header image in
    absurd cc

pub returns-clause-legal : goal.returns-clause-legal
returns-clause-legal g c file bytes knows is =
    let image = header_read c.blocks_stand.ensures.headers (shown g.K.Under.known c.args.self.now.edits.items.items) file bytes c.read_block.new.block knows is c.in_ok-read_block.ensures.block in
    let same : c.in_ok-header.header ≡ file.header = (let both = c.in_ok-header.ensures.every file.header image in cc) in
    same
