use Rattle.exh_prefix.specs.Version.{second_version}
use Rattle.exh_cells.specs.PageFile.{page_block}
use Rattle.exh_keyer.specs.Pseudokey.{any_pseudokey}
use Rattle.exh_page.specs.declared.page.Page.{Page}
use Rattle.exh_page.specs.declared.page.Page.TheVariants.{Forward, Live}
use Rattle.exh_codec.specs.PageImage.{IsHeld, IsInRange, IsPage}
use Rattle.exh_edits.proofs.images.page_image.Goals as goal

held : (page : Page) → IsHeld page → IsInRange second_version page
held (Live prefix link records) is = is
held (Forward low target) is = is

pub returns-clause-is : goal.returns-clause-is
unfolding page_block
returns-clause-is c =
    let page : IsPage second_version (any_pseudokey c.args.keyer) c.args.page.now = record { in_range = held c.args.page.now c.encode_page.ensures.in_range; formed = c.requires } in
    (c.encode_page.ensures.image second_version page).whole
