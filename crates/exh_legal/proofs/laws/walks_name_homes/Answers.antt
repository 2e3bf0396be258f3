use Rattle.exh_legal.specs.BareLemmas.{live_full}
use Rattle.exh_legal.proofs.Walks.{names_home}
use Rattle.exh_legal.proofs.laws.walks_name_homes.Goals as goal

pub returns : goal.returns
returns c cap pseudo ward start changes table pages pseudokey is small covered =
    let found = names_home is.legal.legal.linked is.legal.grown is.fits pseudokey small covered in
    record { leaf = found.leaf; walk = found.walk; live = live_full pages found.leaf.prefix found.leaf.page found.live; name = found.name }
