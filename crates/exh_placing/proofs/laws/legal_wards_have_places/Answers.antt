use Rattle.std.proofs.Common.{List, sym, subst}
use Rattle.exh_page.specs.declared.page.Page.{Page}
use Rattle.exh_legal.specs.LegalParts.{parts_of}
use Rattle.exh_legal.specs.ReasonLaws.{IsLegalFile}
use Rattle.exh_placing.proofs.LegalPlaces.{all_apart, all_placed, legal_ward}
use Rattle.exh_placing.proofs.WardFiles.{wards_same}
use Rattle.exh_placing.proofs.laws.legal_wards_have_places.Goals as goal

pub returns : goal.returns
returns c = λ pseudo cap ward_bits wards tables order pages few count tables_count legal ordered are.
    let same = wards_same pseudo cap ward_bits wards tables order pages few count legal ordered are in
    let by_pages = subst (λ (wards : List (List Page)). IsLegalFile pseudo (parts_of cap ward_bits wards tables)) (sym same) legal in
    let each = legal_ward pseudo cap ward_bits pages tables by_pages tables_count in (
      all_apart ward_bits pages tables few tables_count each,
      all_placed ward_bits pages tables few tables_count each,
    )
