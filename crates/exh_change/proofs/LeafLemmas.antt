-- Leaves of files whose pages change.
use Rattle.std.proofs.Common.{◌≡◌, ℕ, zero, suc, Bool, List, [], ◌∷◌, map, slice_get, slice_set, Option, Some, refl, ap, ◌∙◌, subst}
use Rattle.exh_prefix.specs.Prefix.{Begins}
use Rattle.exh_prefix.specs.PrefixListLemmas.{set_same}
use Rattle.exh_page.specs.declared.page.Page.{Page}
use Rattle.exh_page.specs.declared.page.Page.TheVariants.{Forward, Live}
use Rattle.exh_page.specs.declared.record.Record.{Record}
use Rattle.exh_page.specs.Page.{with_records}
use Rattle.exh_legal.specs.Pages.{IsHome}
use Rattle.exh_cells.specs.PlacedFile.{PlacedFile}
use Rattle.exh_edits.specs.declared.home.Home.{Home}
use Rattle.exh_change.specs.PlacedHome.{IsHomeIn}
use Rattle.exh_change.specs.Changes.{IsOfPrefix, prefix_in}
use Rattle.exh_change.specs.Leaves.{IsLeaf, leaf_of, leaves_in}

-- ---- of pages

pub same_leaf : (records : List Record) (page : Page) → leaf_of (with_records records page) ≡ leaf_of page
same_leaf records (Live prefix link old) = refl
same_leaf records (Forward low target) = refl

pub home_leaf : (page : Page) (pseudokey : ℕ) → IsHome page pseudokey → leaf_of page ≡ Some (prefix_in page)
home_leaf (Live prefix link records) pseudokey home = refl
home_leaf (Forward low target) pseudokey home = absurd home

pub leaf_home : (page other : Page) (pseudokey : ℕ) → leaf_of page ≡ leaf_of other → IsHome other pseudokey → IsHome page pseudokey
leaf_home (Live prefix link records) (Live own more_link more) pseudokey same home = let own_is : own ≡ prefix = cc in subst (λ (prefix : List Bool). Begins prefix pseudokey) own_is home
leaf_home (Forward low target) (Live own more_link more) pseudokey same home = absurd cc
leaf_home page (Forward low target) pseudokey same home = absurd home

pub leaf_prefix : (page : Page) (prefix : List Bool) → leaf_of page ≡ Some prefix → IsOfPrefix prefix page
leaf_prefix (Live own link records) prefix is = cc
leaf_prefix (Forward low target) prefix is = absurd cc

-- ---- of lists of pages

pub leaf_there : (pages : List Page) (place : ℕ) (page : Page) → slice_get pages place ≡ Some page → slice_get (map leaf_of pages) place ≡ Some (leaf_of page)
leaf_there [] place page is = cc
leaf_there (one ∷ pages) zero page is = let same : one ≡ page = cc in ap (λ (page : Page). Some (leaf_of page)) same
leaf_there (one ∷ pages) (suc place) page is = leaf_there pages place page is

pub page_of_leaf : (pages : List Page) (place : ℕ) (leaf : Option (List Bool)) → slice_get (map leaf_of pages) place ≡ Some leaf → (page : Page) × (slice_get pages place ≡ Some page) × (leaf_of page ≡ leaf)
page_of_leaf [] place leaf is = absurd cc
page_of_leaf (one ∷ pages) zero leaf is = (one, refl, cc)
page_of_leaf (one ∷ pages) (suc place) leaf is = page_of_leaf pages place leaf is

pub leaves_set : (pages : List Page) (place : ℕ) (page : Page) → map leaf_of (slice_set pages place page) ≡ slice_set (map leaf_of pages) place (leaf_of page)
leaves_set [] place page = refl
leaves_set (one ∷ pages) zero page = refl
leaves_set (one ∷ pages) (suc place) page = ap (λ (leaves : List (Option (List Bool))). leaf_of one ∷ leaves) (leaves_set pages place page)

pub leaves_kept : (pages : List Page) (place : ℕ) (old page : Page) → slice_get pages place ≡ Some old → leaf_of page ≡ leaf_of old → map leaf_of (slice_set pages place page) ≡ map leaf_of pages
leaves_kept pages place old page there same =
    leaves_set pages place page ∙ ap (slice_set (map leaf_of pages) place) same ∙ set_same (map leaf_of pages) place (leaf_of old) (leaf_there pages place old there)

-- ---- of files

pub leaf_in : (file : PlacedFile) (pseudokey : ℕ) (home : Home) → IsHomeIn file pseudokey home → slice_get (leaves_in file) home.place ≡ Some (Some (prefix_in home.page))
leaf_in file pseudokey home is = leaf_there file.pages home.place home.page is.there ∙ ap (λ (leaf : Option (List Bool)). Some leaf) (home_leaf home.page pseudokey is.is)

pub begins_in : (page : Page) (pseudokey : ℕ) → IsHome page pseudokey → Begins (prefix_in page) pseudokey
begins_in (Live prefix link records) pseudokey home = home
begins_in (Forward low target) pseudokey home = absurd home

pub home_is_leaf : (file : PlacedFile) (pseudokey : ℕ) (home : Home) → IsHomeIn file pseudokey home → IsLeaf file pseudokey (prefix_in home.page)
home_is_leaf file pseudokey home is = record { place = home.place; there = leaf_in file pseudokey home is; begins = begins_in home.page pseudokey is.is }
