-- The pairs of wards, in the order of their pages.
use Rattle.std.specs.Prelude.{◌≢◌, ⊤, ℕ, List, [], ◌∷◌, map, flat_map}
use Rattle.std.specs.List.{AllByRecursion}
use Rattle.exh_page.specs.KeyMap.{pair_of}
use Rattle.exh_page.specs.Page.{records_of}
use Rattle.exh_page.specs.declared.page.Page.{Page}
use Rattle.exh_ward.specs.WardState.{WardState}

-- those of pages, page by page
abbrev pub pairs_of : List Page → List (List ℕ × List ℕ)
pairs_of pages = map pair_of (flat_map records_of pages)

-- those of wards, ward by ward
abbrev pub pairs_in : {K : Type 0} → List (WardState K) → List (List ℕ × List ℕ)
pairs_in wards = flat_map (λ ward. pairs_of ward.pages) wards

-- no key stands twice
abbrev pub AreOnce : List (List ℕ × List ℕ) → Type 0
AreOnce [] = ⊤
AreOnce (pair ∷ pairs) = AllByRecursion (λ other. other.0 ≢ pair.0) pairs × AreOnce pairs
