use Rattle.std.proofs.Common.{◌≡◌, sym, subst}
use Rattle.exh_prefix.specs.Layout.{written_version}
use Rattle.exh_prefix.specs.declared.version.TheConstants.{WRITTEN}
use Rattle.exh_page.specs.declared.page.Page.{Page}
use Rattle.exh_page.specs.declared.page.Page.TheVariants.{Live}
use Rattle.exh_page.specs.declared.page_head.PageHead.TheVariants.{Live as LiveHead, Forward as ForwardHead}
use Rattle.exh_page.specs.Halves.{left_half, right_half}
use Rattle.exh_page.specs.Page.{records_of}
use Rattle.exh_page.specs.PageHead.{head_of}
use Rattle.exh_codec.specs.PageImage.{IsLaidOut}
use Rattle.exh_frames.specs.InPlace.{AreKeyed, HasContent, IsSplitBlock}
use Rattle.exh_frames.specs.PageImages.{page_in}
use Rattle.exh_frames.proofs.Changed.{are_as, has_content, hashed_in, laid_left, laid_right, live_as, live_divisible, live_head, short_as, shown}
use Rattle.exh_frames.proofs.Kept.{written_fits}
use Rattle.exh_frames.proofs.image.Image.split.Goals as goal

pub unreachable-requires : goal.unreachable-requires
unreachable-requires c =
    let some = c.decode_head.ensures WRITTEN c.requires.0 (page_in c.requires.0 c.args.self.now) c.requires.1.laid in
    let none = c.in_default.is in
    cc

pub unreachable-requires-in_default-head : goal.unreachable-requires-in_default-head
unreachable-requires-in_default-head c =
    let pseudo = c.requires.0 in
    let can = c.requires.1 in
    let page = page_in pseudo c.args.self.now in
    let some = c.decode_head.ensures WRITTEN pseudo page can.laid in
    let is = c.in-Some.is in
    let which = c.in_default-head.is in
    let head : ForwardHead c.in_default-head.field-0 c.in_default-head.field-1 ≡ head_of page = cc in
    live_head pseudo page c.in_default-head.field-0 c.in_default-head.field-1 (live_divisible pseudo page can.divisible) head

pub split_block-requires-clause-short : goal.split_block-requires-clause-short
split_block-requires-clause-short c =
    let pseudo = c.requires.0 in
    let can = c.requires.1 in
    let page = page_in pseudo c.args.self.now in
    let some = c.decode_head.ensures WRITTEN pseudo page can.laid in
    let is = c.in-Some.is in
    let which = c.in-Live.is in
    let head : LiveHead c.in-Live.prefix c.in-Live.link c.in-Live.count ≡ head_of page = cc in
    let records = records_of page in
    let live = live_divisible pseudo page can.divisible in
    let page_is : page ≡ Live c.in-Live.prefix c.in-Live.link records = live_as pseudo page c.in-Live.prefix c.in-Live.link c.in-Live.count head in
    short_as pseudo page c.in-Live.prefix c.in-Live.link records page_is can.divisible

pub split_block-requires-clause-split : goal.split_block-requires-clause-split
split_block-requires-clause-split c =
    let pseudo = c.requires.0 in
    let can = c.requires.1 in
    let page = page_in pseudo c.args.self.now in
    let some = c.decode_head.ensures WRITTEN pseudo page can.laid in
    let is = c.in-Some.is in
    let which = c.in-Live.is in
    let head : LiveHead c.in-Live.prefix c.in-Live.link c.in-Live.count ≡ head_of page = cc in
    let records = records_of page in
    let live = live_divisible pseudo page can.divisible in
    let page_is : page ≡ Live c.in-Live.prefix c.in-Live.link records = live_as pseudo page c.in-Live.prefix c.in-Live.link c.in-Live.count head in
    let split : IsSplitBlock c.args.self.now.pseudokeys c.args.self.now.block c.in-Live.prefix c.in-Live.link records = record {
      content = subst (HasContent c.args.self.now.block) page_is (has_content pseudo page c.args.self.now.block live can.laid);
      hashed = hashed_in pseudo page c.args.self.now.pseudokeys can.laid.valid.formed can.keyed;
      words = can.words;
      begun = (are_as pseudo page c.in-Live.prefix c.in-Live.link records page_is can.laid.valid.formed).begun;
    } in
    (records, split)

pub returns-clause-left : goal.returns-clause-left
returns-clause-left c pseudo can =
    let page = page_in pseudo c.args.self.now in
    let some = c.decode_head.ensures WRITTEN pseudo page can.laid in
    let is = c.in-Some.is in
    let which = c.in-Live.is in
    let head : LiveHead c.in-Live.prefix c.in-Live.link c.in-Live.count ≡ head_of page = cc in
    let records = records_of page in
    let live = live_divisible pseudo page can.divisible in
    let page_is : page ≡ Live c.in-Live.prefix c.in-Live.link records = live_as pseudo page c.in-Live.prefix c.in-Live.link c.in-Live.count head in
    let split : IsSplitBlock c.args.self.now.pseudokeys c.args.self.now.block c.in-Live.prefix c.in-Live.link records = record {
      content = subst (HasContent c.args.self.now.block) page_is (has_content pseudo page c.args.self.now.block live can.laid);
      hashed = hashed_in pseudo page c.args.self.now.pseudokeys can.laid.valid.formed can.keyed;
      words = can.words;
      begun = (are_as pseudo page c.in-Live.prefix c.in-Live.link records page_is can.laid.valid.formed).begun;
    } in
    let block = c.split_block.new.block in
    let has = subst (λ (p : Page). HasContent block (left_half c.args.right p)) (sym page_is) (c.split_block.ensures.left records split) in
    let laid = laid_left pseudo page c.args.right block can.divisible c.ranges.right.fits has can.formed in
    record {
      laid = laid;
      read = c.blocks_are_read.ensures _ written_fits pseudo _ block laid;
      keyed = subst (λ (p : Page). AreKeyed (records_of (left_half c.args.right p)) c.args.self.now.pseudokeys) (sym page_is) (c.split_block.ensures.left_keyed records split);
    }

pub returns-clause-right : goal.returns-clause-right
returns-clause-right c pseudo can =
    let page = page_in pseudo c.args.self.now in
    let some = c.decode_head.ensures WRITTEN pseudo page can.laid in
    let is = c.in-Some.is in
    let which = c.in-Live.is in
    let head : LiveHead c.in-Live.prefix c.in-Live.link c.in-Live.count ≡ head_of page = cc in
    let records = records_of page in
    let live = live_divisible pseudo page can.divisible in
    let page_is : page ≡ Live c.in-Live.prefix c.in-Live.link records = live_as pseudo page c.in-Live.prefix c.in-Live.link c.in-Live.count head in
    let split : IsSplitBlock c.args.self.now.pseudokeys c.args.self.now.block c.in-Live.prefix c.in-Live.link records = record {
      content = subst (HasContent c.args.self.now.block) page_is (has_content pseudo page c.args.self.now.block live can.laid);
      hashed = hashed_in pseudo page c.args.self.now.pseudokeys can.laid.valid.formed can.keyed;
      words = can.words;
      begun = (are_as pseudo page c.in-Live.prefix c.in-Live.link records page_is can.laid.valid.formed).begun;
    } in
    let half = c.split_block.result.0 in
    let others = c.split_block.result.1 in
    let has = subst (λ (p : Page). HasContent half (right_half p)) (sym page_is) (c.split_block.ensures.right records split) in
    let laid = laid_right pseudo page half can.divisible can.laid.valid.in_range has can.right_formed in
    let keyed = subst (λ (p : Page). AreKeyed (records_of (right_half p)) others) (sym page_is) (c.split_block.ensures.right_keyed records split) in
    shown pseudo c.blocks_are_read.ensures (right_half page) c.unsealed.result (subst (IsLaidOut written_version pseudo (right_half page)) (sym c.unsealed.ensures.block) laid)
    (subst (AreKeyed (records_of (right_half page))) (sym c.unsealed.ensures.pseudokeys) keyed)
