-- What is left of rising records where a search stopped.
use Rattle.std.proofs.Common.{◌≡◌, ℕ, ◌++◌, List, take, drop, remove, sym, ap, ◌∙◌}
use Rattle.std.proofs.Math.Numerals.{suc-eq-add-one}
use Rattle.exh_page.specs.declared.record.Record.{Record}
use Rattle.exh_page.specs.Place.{Place}
use Rattle.exh_page.specs.Records.{without_place}
use Rattle.exh_page.specs.RecordsLemmas.{without_place-cut}
use Rattle.exh_page.specs.Search.{IsFound, IsGap}

-- without the record that was found
pub remove_found : {place : Place} {records : List Record} {i : ℕ} → IsFound place records i → remove records i ≡ without_place place records
remove_found {place} {records} {i} found = ap (λ n. take i records ++ drop n records) (suc-eq-add-one i) ∙ sym (without_place-cut place records _ _ _ found.cut)

-- all, where none was found
pub same_at_gap : {place : Place} {records : List Record} {i : ℕ} → IsGap place records i → records ≡ without_place place records
same_at_gap {place} {records} {i} gap = gap.cut.whole ∙ sym (without_place-cut place records _ _ _ gap.cut)
