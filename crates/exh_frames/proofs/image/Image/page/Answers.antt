use Rattle.std.proofs.Common.{◌≡◌, ap, sym, ◌∙◌, subst}
use Rattle.exh_prefix.specs.declared.version.TheConstants.{WRITTEN}
use Rattle.exh_page.specs.declared.page.Page.{Page}
use Rattle.exh_page.specs.declared.page.Page.TheVariants.{Live}
use Rattle.exh_page.specs.declared.page_head.PageHead.TheVariants.{Live as LiveHead, Forward as ForwardHead}
use Rattle.exh_page.specs.Page.{IsLive, records_of}
use Rattle.exh_page.specs.PageHead.{head_of}
use Rattle.exh_frames.specs.PageImages.{page_in}
use Rattle.exh_frames.proofs.Changed.{forward_as, has_content, hashed_in, live_as}
use Rattle.exh_frames.proofs.image.Image.page.Goals as goal

pub unreachable-requires : goal.unreachable-requires
unreachable-requires c =
    let some = c.decode_head.ensures WRITTEN c.requires.0 (page_in c.requires.0 c.args.self.now) c.requires.1 in
    let none = c.in_default.is in
    cc

pub records_in-requires : goal.records_in-requires
records_in-requires c =
    let pseudo = c.requires.0 in
    let laid = c.requires.1 in
    let page = page_in pseudo c.args.self.now in
    let some = c.decode_head.ensures WRITTEN pseudo page laid in
    let is = c.in-Some.is in
    let which = c.in-Live.is in
    let head : LiveHead c.in-Live.prefix c.in-Live.right c.in-Live.count ≡ head_of page = cc in
    let live = subst IsLive (sym (live_as pseudo page c.in-Live.prefix c.in-Live.right c.in-Live.count head)) tt in
    (page, has_content pseudo page c.args.self.now.block live laid, hashed_in pseudo page c.args.self.now.pseudokeys laid.valid.formed c.requires.2)

pub returns-in_ok-records-in-Live : goal.returns-in_ok-records-in-Live
returns-in_ok-records-in-Live c pseudo laid keyed =
    let page : Page = page_in pseudo c.args.self.now in
    let some = c.decode_head.ensures WRITTEN pseudo page laid in
    let is = c.in-Some.is in
    let which = c.in-Live.is in
    let head : LiveHead c.in-Live.prefix c.in-Live.right c.in-Live.count ≡ head_of page = cc in
    let whole : page ≡ Live c.in-Live.prefix c.in-Live.right (records_of page) = live_as pseudo page c.in-Live.prefix c.in-Live.right c.in-Live.count head in
    let live = subst IsLive (sym whole) tt in
    let records = c.in_ok-records-in-Live.ensures page (has_content pseudo page c.args.self.now.block live laid) (hashed_in pseudo page c.args.self.now.pseudokeys laid.valid.formed keyed) in
    ap (Live c.in-Live.prefix c.in-Live.right) records ∙ sym whole

pub returns-in-Forward : goal.returns-in-Forward
returns-in-Forward c pseudo laid keyed =
    let page : Page = page_in pseudo c.args.self.now in
    let some = c.decode_head.ensures WRITTEN pseudo page laid in
    let is = c.in-Some.is in
    let which = c.in-Forward.is in
    let head : ForwardHead c.in-Forward.low c.in-Forward.target ≡ head_of page = cc in
    sym (forward_as pseudo page c.in-Forward.low c.in-Forward.target head)
