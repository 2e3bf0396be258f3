use Rattle.std.proofs.Common.{◌≡◌, ap, ◌∙◌, subst}
use Rattle.exh_table.specs.SetLemmas.{members_decide}
use Rattle.exh_table.specs.TableWalk.{walk_of}
use Rattle.exh_array.specs.Pointers.{NamesPageOf}
use Rattle.exh_array.specs.PointerLemmas.{names_page}
use Rattle.exh_copy.specs.AdditionLemmas.{table_after_of}
use Rattle.exh_copy.specs.Additions.{table_after}
use Rattle.exh_copy.proofs.laws.looks_are_walks_of_copies.Goals as goal

pub returns : goal.returns
returns c start ward_bits additions directory taken pseudokey has of same within =
    let tables : directory.table ≡ table_after start additions = members_decide _ _ directory.table (table_after start additions) same of (table_after_of start additions) in
    let pages : (walk_of directory.table ward_bits pseudokey).page ≡ (walk_of (table_after start additions) ward_bits pseudokey).page = ap (λ table. (walk_of table ward_bits pseudokey).page) tables in
    let wards = ap (λ bits. (walk_of directory.table bits pseudokey).page) has.bits in
    (pages, subst (NamesPageOf directory.pointers pseudokey) (wards ∙ pages) (names_page directory.table directory.pointers pseudokey has.array within))
