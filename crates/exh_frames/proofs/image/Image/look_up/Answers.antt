use Rattle.std.proofs.Common.{◌≡◌, sym}
use Rattle.exh_prefix.specs.declared.version.TheConstants.{WRITTEN}
use Rattle.exh_page.specs.Page.{records_of}
use Rattle.exh_page.specs.PageHead.{head_of}
use Rattle.exh_frames.specs.PageImages.{page_in}
use Rattle.exh_frames.proofs.Changed.{has_content, rising_in}
use Rattle.exh_frames.proofs.Places.{key_found, key_missing}
use Rattle.exh_frames.proofs.image.Image.look_up.Goals as goal

pub unreachable-requires : goal.unreachable-requires
unreachable-requires c =
    let some = c.decode_head.ensures WRITTEN c.requires.0 (page_in c.requires.0 c.args.self.now) c.requires.1 in
    let none = c.in_default.is in
    cc

pub find-requires : goal.find-requires
find-requires c =
    let pseudo = c.requires.0 in
    let page = page_in pseudo c.args.self.now in
    let some = c.decode_head.ensures WRITTEN pseudo page c.requires.1 in
    let is = c.in-Some.is in
    let head : c.in-Some.head ≡ head_of page = cc in
    (page, head, λ live. has_content pseudo page c.args.self.now.block live c.requires.1)

pub returns-in-Some-find : goal.returns-in-Some-find
returns-in-Some-find c pseudo pseudokey laid hashed =
    let page = page_in pseudo c.args.self.now in
    let some = c.decode_head.ensures WRITTEN pseudo page laid in
    let is = c.in-Some.is in
    let head : c.in-Some.head ≡ head_of page = cc in
    let found = c.in-Some-find.ensures page head (λ live. has_content pseudo page c.args.self.now.block live laid) in
    let both = key_found pseudokey c.args.key.now (records_of page) (rising_in pseudo page laid.valid.formed) hashed c.in-Some-find.spot c.in-Some-find.value found in
    record { head = head; spot = both.0; value = both.1 }

pub returns-in-None : goal.returns-in-None
returns-in-None c pseudo pseudokey laid hashed =
    let page = page_in pseudo c.args.self.now in
    let some = c.decode_head.ensures WRITTEN pseudo page laid in
    let is = c.in-Some.is in
    let head : c.in-Some.head ≡ head_of page = cc in
    let missing = c.in-None.ensures page head (λ live. has_content pseudo page c.args.self.now.block live laid) in
    let none = key_missing pseudokey c.args.key.now (records_of page) missing in
    record { head = head; spot = none; value = sym none }
