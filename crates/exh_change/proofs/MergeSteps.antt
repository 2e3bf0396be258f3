-- What the law of merges says of a draft.
use Rattle.std.proofs.Common.{◌≡◌, ℕ, zero, suc, ◌<◌, ◌≤◌, Bool, true, false, List, [], ◌∷◌, ◌++◌, length, slice_get, Option, Some, refl, ap, ◌∙◌, subst, arith}
use Rattle.exh_prefix.specs.Prefix.{low_of}
use Rattle.exh_page.specs.declared.page.Page.{Page}
use Rattle.exh_page.specs.declared.page.Page.TheVariants.{Forward, Live}
use Rattle.exh_page.specs.Halves.{sent_to, union}
use Rattle.exh_page.specs.Page.{records_of}
use Rattle.exh_table.specs.Table.{TableMap}
use Rattle.exh_cells.specs.declared.cell.Cell.{Cell}
use Rattle.exh_cells.specs.declared.stamped_header.StampedHeader.{StampedHeader}
use Rattle.exh_cells.specs.LegalPlaced.{IsLegalPlaced}
use Rattle.exh_cells.specs.PlacedFile.{PlacedFile}
use Rattle.exh_edits.specs.PlacedEdits.{with_cell, with_page}
use Rattle.exh_change.specs.PlacedSteps.{merged, with_change}
use Rattle.exh_change.specs.StepLaws.{IsMergeable, MergesKeepLegal}
use Rattle.exh_change.specs.declared.draft.Draft.{Draft}
use Rattle.exh_change.specs.Changes.{IsOfPrefix}
use Rattle.exh_change.specs.Drafts.{IsOf}

pub page_there : (pages : List Page) (i : ℕ) → i < length pages → (page : Page) × (slice_get pages i ≡ Some page)
page_there [] i less = absurd (omega (arith, less))
page_there (page ∷ pages) zero less = (page, refl)
page_there (page ∷ pages) (suc i) less = page_there pages i (omega (arith, less))

pub of_prefix : (prefix : List Bool) (page : Page) → IsOfPrefix prefix page → (link : Option ℕ) × (page ≡ Live prefix link (records_of page))
of_prefix prefix (Live own link records) is = (link, ap (λ (prefix : List Bool). Live prefix link records) is)
of_prefix prefix (Forward low target) is = absurd is

pub mergeable : MergesKeepLegal → (base : List ℕ) (draft : Draft) (file : PlacedFile) (tables : List TableMap) (place : ℕ) (page : Page) (parent : List Bool) (cell : Cell)
    → IsOf base draft file → IsLegalPlaced file tables → IsOfPrefix (parent ++ false ∷ []) page → slice_get file.pages place ≡ Some page → slice_get file.cells place ≡ Some cell → draft.header.settings.ward_bits ≤ length parent
    → IsMergeable file place parent (records_of page) cell
mergeable law base draft file tables place page parent cell is legal own there cell_is inner =
    let live = of_prefix (parent ++ false ∷ []) page own in
    law file tables place parent live.0 (records_of page) cell is.is.valid legal (record { page_is = there ∙ ap (λ (page : Page). Some page) live.1; cell_is = cell_is })
    (omega (arith, inner, ap (λ (header : StampedHeader). header.settings.ward_bits) is.header))

pub merged_is : (base : List ℕ) (draft : Draft) (file : PlacedFile) (place right_place number len : ℕ) (parent : List Bool) (link : Option ℕ) (cell : Cell) (page right : Page)
    → right ≡ Live (parent ++ true ∷ []) link (records_of right) → number ≡ cell.number → len ≡ length parent
    → IsOf base draft (with_page right_place (sent_to number right) (with_page place (union parent page right) (with_cell place (with_change len right_place cell) file)))
    → IsOf base draft (merged place right_place parent link (records_of page) (records_of right) cell file)
merged_is base draft file place right_place number len parent link cell page right right_is number_is len_is is =
    let sent : sent_to number right ≡ Forward (low_of (parent ++ true ∷ [])) cell.number = ap (sent_to number) right_is ∙ ap (λ (number : ℕ). Forward (low_of (parent ++ true ∷ [])) number) number_is in
    let united : union parent page right ≡ Live parent link (records_of page ++ records_of right) = ap (union parent page) right_is in
    subst (IsOf base draft) (λ i. with_page right_place (sent i) (with_page place (united i) (with_cell place (with_change (len_is i) right_place cell) file))) is
