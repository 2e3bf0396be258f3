-- Which pages the pairs of a ward need.
use Rattle.std.specs.Prelude.{◌≡◌, ◌⊎◌, ℕ, ◌-◌, ◌<◌, Bool, List, length, take, slice_get, Some}
use Rattle.std.specs.FinMap.{len, retain_keys}
use Rattle.exh_keyer.specs.Pseudokey.{any_pseudokey}
use Rattle.exh_keyer.specs.declared.any_keyer.AnyKeyer.{AnyKeyer}
use Rattle.exh_legal.specs.Pages.{IsAt, map_of}
use Rattle.exh_page.specs.KeyMap.{KeyMap}
use Rattle.exh_page.specs.declared.page.Page.{Page}
use Rattle.exh_page.specs.declared.page.Page.TheVariants.{Live, Forward}
use Rattle.exh_prefix.specs.Prefix.{begins}
use Rattle.exh_ward.specs.WardState.{WardState, own_prefix}

-- the prefix without its last bit
abbrev pub parent_of : List Bool → List Bool
parent_of prefix = take (length prefix - 1) prefix

-- how many keys of a map have pseudokeys that a prefix begins
abbrev pub begun_in : (List ℕ → ℕ) → KeyMap → List Bool → ℕ
begun_in pseudo m prefix = len (retain_keys m (λ key. begins prefix (pseudo key)))

-- a live page of all keys of its ward, or one whose prefix's parent begins more keys than a page holds
abbrev pub IsNeeded : ℕ → (List ℕ → ℕ) → List Bool → KeyMap → Page → Type 0
IsNeeded cap pseudo own m (Live prefix right records) = (prefix ≡ own) ⊎ (cap < begun_in pseudo m (parent_of prefix))
IsNeeded cap pseudo own m (Forward low target) = ⊥

-- each page of a ward is one that its pairs need, and so none is a forwarding page
abbrev pub AreNeeded : WardState AnyKeyer → Type 0
AreNeeded ward = (number : ℕ) (page : Page) → IsAt ward.pages number page → IsNeeded ward.cap (any_pseudokey ward.keyer) (own_prefix ward) (map_of ward.pages) page

-- the same of the wards of a file
abbrev pub AreAllNeeded : List (WardState AnyKeyer) → Type 0
AreAllNeeded wards = (number : ℕ) (ward : WardState AnyKeyer) → slice_get wards number ≡ Some ward → AreNeeded ward
