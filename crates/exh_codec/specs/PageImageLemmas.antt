-- Pages that have an image have few records.
use Rattle.std.proofs.Common.{ℕ, ◌≤◌, List, length, arith}
use Rattle.exh_page.specs.Version.{Version}
use Rattle.exh_page.specs.declared.page.Page.{Page}
use Rattle.exh_page.specs.declared.page.Page.TheVariants.{Live, Forward}
use Rattle.exh_page.specs.Page.{records_of}
use Rattle.exh_codec.specs.PageImage.{IsPage}

pub few_records : (version : Version) (pseudo : List ℕ → ℕ) (page : Page) → IsPage version pseudo page → length (records_of page) ≤ 16
few_records version pseudo (Live prefix right records) page = page.formed.1
few_records version pseudo (Forward low target) page = omega arith
