use Rattle.std.proofs.Common.{arith}
use Rattle.exh_page.specs.ShareLemmas.{AreWords-hashed, begun_by-children}
use Rattle.exh_legal.proofs.page_laws.children_share_all.Goals as goal

pub returns : goal.returns
returns c pseudo prefix records fits short are = begun_by-children prefix records (omega arith) are.rising (AreWords-hashed pseudo fits records are.hashed) are.begun
