use Rattle.std.proofs.Common.{sym, subst}
use Rattle.exh_prefix.specs.Layout.{written_version}
use Rattle.exh_codec.specs.PageImage.{IsLaidOut}
use Rattle.exh_page.specs.Page.{records_of}
use Rattle.exh_frames.specs.InPlace.{AreKeyed}
use Rattle.exh_frames.proofs.Changed.{shown}
use Rattle.exh_frames.proofs.image.Image.of.Goals as goal

pub returns : goal.returns
returns c pseudo formed =
    let page = c.args.page.now in
    let laid : IsLaidOut written_version pseudo page c.lay_out.result = record { valid = record { in_range = c.lay_out.ensures.in_range; formed = formed }; content = c.lay_out.ensures.content } in
    shown pseudo c.blocks_are_read.ensures page c.unsealed.result (subst (IsLaidOut written_version pseudo page) (sym c.unsealed.ensures.block) laid)
    (subst (AreKeyed (records_of page)) (sym c.unsealed.ensures.pseudokeys) c.pseudokeys_of.ensures)
