use Rattle.std.proofs.Common.{List, sym, subst}
use Rattle.exh_page.specs.declared.record.Record.{Record}
use Rattle.exh_page.specs.Page.{records_of}
use Rattle.exh_page.specs.Records.{with_record}
use Rattle.exh_frames.specs.InPlace.{AreKeyed, TakesRecord}
use Rattle.exh_frames.specs.PageImages.{page_in}
use Rattle.exh_frames.proofs.Changed.{has_content, hashed_in, laid_with}
use Rattle.exh_frames.proofs.Contents.{records_with}
use Rattle.exh_frames.proofs.Kept.{room_in, written_fits}
use Rattle.exh_frames.proofs.image.Image.put.Goals as goal

pub put_record-requires : goal.put_record-requires
put_record-requires c =
    let pseudo = c.requires.0 in
    let can = c.requires.1 in
    let page = page_in pseudo c.args.self.now in
    let item : Record = record { pseudokey = c.args.pseudokey; key = c.args.key.now; value = c.args.value.now } in (
      page,
      record {
        content = has_content pseudo page c.args.self.now.block can.live can.laid;
        hashed = hashed_in pseudo page c.args.self.now.pseudokeys can.laid.valid.formed can.keyed;
        stands = can.stands;
        room = room_in pseudo (with_record item (records_of page)) page can.live can.formed;
      },
    )

pub returns : goal.returns
returns c pseudo can =
    let page = page_in pseudo c.args.self.now in
    let item : Record = record { pseudokey = c.args.pseudokey; key = c.args.key.now; value = c.args.value.now } in
    let records = with_record item (records_of page) in
    let takes : TakesRecord c.args.self.now.pseudokeys c.args.self.now.block c.args.stood item page = record {
      content = has_content pseudo page c.args.self.now.block can.live can.laid;
      hashed = hashed_in pseudo page c.args.self.now.pseudokeys can.laid.valid.formed can.keyed;
      stands = can.stands;
      room = room_in pseudo records page can.live can.formed;
    } in
    let laid = laid_with pseudo records page c.args.self.now.block c.put_record.new.block can.live can.laid (c.put_record.ensures.content page takes) can.formed in
    record {
      laid = laid;
      read = c.blocks_are_read.ensures _ written_fits pseudo _ c.put_record.new.block laid;
      keyed = subst (λ (l : List Record). AreKeyed l c.put_record.new.pseudokeys) (sym (records_with records page can.live)) (c.put_record.ensures.keyed page takes);
    }
