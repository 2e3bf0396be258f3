use Rattle.std.proofs.Common.{[], ◌∷◌, ◌++◌}
use Rattle.exh_page.specs.ShareLemmas.{AreRecordsOf-begun_by}
use Rattle.exh_legal.proofs.page_laws.shares_are_records.Goals as goal

pub returns : goal.returns
returns c pseudo prefix bit records are = AreRecordsOf-begun_by pseudo prefix (prefix ++ bit ∷ []) records are
