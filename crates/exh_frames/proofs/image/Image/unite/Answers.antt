use Rattle.std.proofs.Common.{◌≡◌, ℕ, ◌+◌, ◌≤◌, List, ◌++◌, length, take, drop, sym, subst, arith}
use Rattle.std.proofs.lemmas.List.{length-append, length-take-le}
use Rattle.exh_page.specs.Page.{records_of}
use Rattle.exh_frames.specs.InPlace.{AreKeyed, AreUnited}
use Rattle.exh_frames.specs.PageImages.{page_at, page_in}
use Rattle.exh_frames.proofs.Changed.{has_content, laid_union}
use Rattle.exh_frames.proofs.Contents.{has_records}
use Rattle.exh_frames.proofs.Keyed.{keyed_front, keyed_joined, keyed_long, keyed_some}
use Rattle.exh_frames.proofs.Kept.{written_fits}
use Rattle.exh_frames.proofs.image.Image.unite.Goals as goal

pub append_pseudokeys-requires : goal.append_pseudokeys-requires
append_pseudokeys-requires c =
    let pseudo = c.requires.0 in
    let can = c.requires.1 in
    let page = page_in pseudo c.args.self.now in
    let twin = page_at pseudo c.args.other.now in
    let said = has_records c.args.self.now.block page (has_content pseudo page c.args.self.now.block can.live can.laid) in
    let other_said = has_records c.args.other.now twin (has_content pseudo twin c.args.other.now can.other_live can.other_laid) in
    omega (arith, can.formed.1, length-append (records_of page) (records_of twin), c.from-count.ensures, c.from.ensures, said.1.count, other_said.1.count)

pub unite_blocks-requires : goal.unite_blocks-requires
unite_blocks-requires c =
    let pseudo = c.requires.0 in
    let can = c.requires.1 in
    let page = page_in pseudo c.args.self.now in
    let twin = page_at pseudo c.args.other.now in (
      page,
      twin,
      record {
        content = has_content pseudo page c.args.self.now.block can.live can.laid;
        twin_content = has_content pseudo twin c.args.other.now can.other_live can.other_laid;
        room = can.formed.1;
      },
    )

pub returns : goal.returns
returns c pseudo can link =
    let page = page_in pseudo c.args.self.now in
    let twin = page_at pseudo c.args.other.now in
    let united : AreUnited c.args.self.now.block c.args.other.now page twin = record {
      content = has_content pseudo page c.args.self.now.block can.live can.laid;
      twin_content = has_content pseudo twin c.args.other.now can.other_live can.other_laid;
      room = can.formed.1;
    } in
    let short : length c.args.parent ≤ 20 = omega (arith, c.len.ensures.length, c.len.ensures.limit) in
    let laid = laid_union pseudo c.args.parent page twin c.unite_blocks.new.block short can.other_laid.valid.in_range (c.unite_blocks.ensures page twin united link) can.formed in
    let said = has_records c.args.self.now.block page united.content in
    let other_said = has_records c.args.other.now twin united.twin_content in
    let count = c.from-count.result in
    let more = c.from.result in
    let pseudokeys : List ℕ = c.args.self.now.pseudokeys in
    let rest : List ℕ = drop (count + more) pseudokeys in
    let all : length (records_of page) ≡ count = omega (arith, c.from-count.ensures, said.1.count) in
    let others : length (records_of twin) ≡ more = omega (arith, c.from.ensures, other_said.1.count) in
    let front : length (take count pseudokeys) ≡ count = length-take-le count pseudokeys (omega (arith, all, keyed_long (records_of page) pseudokeys can.keyed)) in
    let keyed = keyed_joined (records_of page) (records_of twin) (take count pseudokeys) (take more c.args.others.now ++ rest) (omega (arith, front, all))
    (keyed_some (records_of page) pseudokeys count all can.keyed) (keyed_front (records_of twin) (take more c.args.others.now) rest (keyed_some (records_of twin) c.args.others.now more others can.other_keyed)) in
    record {
      laid = laid;
      read = c.blocks_are_read.ensures _ written_fits pseudo _ c.unite_blocks.new.block laid;
      keyed = subst (AreKeyed (records_of page ++ records_of twin)) (sym c.append_pseudokeys.ensures) keyed;
    }
