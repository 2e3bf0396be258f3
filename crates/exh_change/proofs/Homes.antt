-- The home of a pseudokey among the halves of a page, and the file that has them.
use Rattle.std.proofs.Common.{◌≡◌, ◌⊎◌, ℕ, zero, suc, ◌<◌, Bool, true, false, List, [], ◌∷◌, ◌++◌, length, slice_get, slice_set, Option, Some, Result, Ok, Err, inl, inr, refl, sym, ap, ◌∙◌, subst, arith}
use Rattle.std.specs.Prelude.{MatchResult}
use Rattle.std.proofs.lemmas.Option.{slice_get_within}
use Rattle.exh_prefix.specs.Prefix.{Begins}
use Rattle.exh_prefix.specs.PrefixLemmas.{child_of_begun}
use Rattle.exh_prefix.specs.PrefixListLemmas.{set_else, set_here}
use Rattle.exh_page.specs.declared.page.Page.{Page}
use Rattle.exh_page.specs.declared.page.Page.TheVariants.{Forward, Live}
use Rattle.exh_page.specs.declared.record.Record.{Record}
use Rattle.exh_page.specs.Halves.{left_half, right_half}
use Rattle.exh_page.specs.Page.{IsWellFormed}
use Rattle.exh_legal.specs.Pages.{IsHome}
use Rattle.exh_cells.specs.declared.cell.Cell.{Cell}
use Rattle.exh_cells.specs.PlacedFile.{PlacedFile}
use Rattle.exh_edits.specs.PlacedEdits.{with_cell, with_more, with_page}
use Rattle.exh_change.specs.PlacedSteps.{count_in, left_half as left_at, new_cell, right_half as right_at, split_fresh, split_revived, ward_in, with_change}
use Rattle.exh_edits.specs.declared.home.Home.{Home}
use Rattle.exh_change.specs.PlacedHome.{IsHomeIn}
use Rattle.exh_change.specs.WalkBlocks.{pages_in}
use Rattle.exh_direct.specs.declared.direct_fault.DirectFault.{DirectFault}
use Rattle.exh_direct.specs.DirectLaws.{IsOtherFault}
use Rattle.exh_change.specs.declared.draft.Draft.{Draft}
use Rattle.exh_change.specs.Changes.{IsHomeOf}
use Rattle.exh_change.specs.Drafts.{IsOf, pseudo_in}

-- ---- the chosen half

pub record IsChosen (pseudokey place right_place : ℕ) (left right : Page) (home : Home) : Type 0 where
  pub own : IsHome home.page pseudokey
  pub which : ((home.place ≡ place) × (home.page ≡ left)) ⊎ ((home.place ≡ right_place) × (home.page ≡ right))

abbrev pub IsPicked : List Bool → ℕ → ℕ → ℕ → Page → Page → Home → Type 0
IsPicked prefix pseudokey place right_place left right home =
    (Begins (prefix ++ true ∷ []) pseudokey × (home ≡ record { place = right_place; page = right })) ⊎ ((Begins (prefix ++ true ∷ []) pseudokey → ⊥) × (home ≡ record { place = place; page = left }))

pub chosen : (prefix : List Bool) (link : Option ℕ) (records : List Record) (pseudokey place right_place number : ℕ) (page left right : Page) (home : Home) → length prefix < 20 → page ≡ Live prefix link records → IsHome page pseudokey
    → left ≡ left_half number page → right ≡ right_half page → IsPicked prefix pseudokey place right_place left right home → IsChosen pseudokey place right_place left right home
chosen prefix link records pseudokey place right_place number page left right home short is own left_is right_is (inl (begins, same)) =
    let half : home.page ≡ right_half (Live prefix link records) = ap (λ (home : Home). home.page) same ∙ right_is ∙ ap right_half is in
    record { own = subst (λ (page : Page). IsHome page pseudokey) (sym half) begins; which = inr (ap (λ (home : Home). home.place) same, ap (λ (home : Home). home.page) same) }
chosen prefix link records pseudokey place right_place number page left right home short is own left_is right_is (inr (not, same)) =
    let half : home.page ≡ left_half number (Live prefix link records) = ap (λ (home : Home). home.page) same ∙ left_is ∙ ap (left_half number) is in
    let begins = by (child_of_begun prefix pseudokey (omega (arith, short)) (subst (λ (page : Page). IsHome page pseudokey) is own)) in
    record { own = subst (λ (page : Page). IsHome page pseudokey) (sym half) begins; which = inl (ap (λ (home : Home). home.place) same, ap (λ (home : Home). home.page) same) }
  where
    by : Begins (prefix ++ false ∷ []) pseudokey ⊎ Begins (prefix ++ true ∷ []) pseudokey → Begins (prefix ++ false ∷ []) pseudokey
    by (inl begins) = begins
    by (inr begins) = absurd (not begins)

pub home_then : (draft : Draft) (pseudokey place right_place : ℕ) (left right : Page) (home : Home) → IsChosen pseudokey place right_place left right home → place < pages_in draft.header → right_place < pages_in draft.header → IsWellFormed (pseudo_in draft) left → IsWellFormed (pseudo_in draft) right
    → IsHomeOf draft pseudokey home
home_then draft pseudokey place right_place left right home is there right_there formed right_formed = by is.which
  where
    by : ((home.place ≡ place) × (home.page ≡ left)) ⊎ ((home.place ≡ right_place) × (home.page ≡ right)) → IsHomeOf draft pseudokey home
    by (inl (same, page)) = record { there = omega (arith, same, there); formed = subst (IsWellFormed (pseudo_in draft)) (sym page) formed; own = is.own }
    by (inr (same, page)) = record { there = omega (arith, same, right_there); formed = subst (IsWellFormed (pseudo_in draft)) (sym page) right_formed; own = is.own }

-- ---- where it stands

home_at : (file : PlacedFile) (pseudokey place right_place : ℕ) (left right : Page) (home : Home) → IsChosen pseudokey place right_place left right home → slice_get file.pages place ≡ Some left → slice_get file.pages right_place ≡ Some right → IsHomeIn file pseudokey home
home_at file pseudokey place right_place left right home is there right_there = record { there = by is.which; is = is.own }
  where
    by : ((home.place ≡ place) × (home.page ≡ left)) ⊎ ((home.place ≡ right_place) × (home.page ≡ right)) → slice_get file.pages home.place ≡ Some home.page
    by (inl (same, page)) = ap (slice_get file.pages) same ∙ there ∙ ap (λ (page : Page). Some page) (sym page)
    by (inr (same, page)) = ap (slice_get file.pages) same ∙ right_there ∙ ap (λ (page : Page). Some page) (sym page)

slice_front : {X : Type 0} (xs ys : List X) (i : ℕ) (x : X) → slice_get xs i ≡ Some x → slice_get (xs ++ ys) i ≡ Some x
slice_front [] ys i x is = cc
slice_front (y ∷ xs) ys zero x is = is
slice_front (y ∷ xs) ys (suc i) x is = slice_front xs ys i x is

slice_last : {X : Type 0} (xs : List X) (x : X) → slice_get (xs ++ x ∷ []) (length xs) ≡ Some x
slice_last [] x = refl
slice_last (y ∷ xs) x = slice_last xs x

pub home_fresh : (file : PlacedFile) (pseudokey place : ℕ) (prefix : List Bool) (link : Option ℕ) (records : List Record) (cell : Cell) (page : Page) (home : Home) → slice_get file.pages place ≡ Some page
    → IsChosen pseudokey place (length file.pages) (left_at prefix (count_in file prefix) records) (right_at prefix link records) home → IsHomeIn (split_fresh place prefix link records cell file) pseudokey home
home_fresh file pseudokey place prefix link records cell page home there is =
    let left = left_at prefix (count_in file prefix) records in
    let right = right_at prefix link records in
    let more = file.pages ++ right ∷ [] in
    let apart : length file.pages ≡ place → ⊥ = λ same. omega (arith, same, slice_get_within file.pages place page there) in
    home_at (split_fresh place prefix link records cell file) pseudokey place (length file.pages) left right home is
    (set_here more place page left (slice_front file.pages (right ∷ []) place page there))
    (set_else more place (length file.pages) left apart ∙ slice_last file.pages right)

pub home_revived : (file : PlacedFile) (pseudokey place right_place number : ℕ) (prefix : List Bool) (link : Option ℕ) (records : List Record) (cell : Cell) (low target : ℕ) (home : Home) → slice_get file.pages place ≡ Some (Live prefix link records) → slice_get file.pages right_place ≡ Some (Forward low target)
    → IsChosen pseudokey place right_place (left_at prefix number records) (right_at prefix link records) home → IsHomeIn (split_revived place prefix link records cell right_place number file) pseudokey home
home_revived file pseudokey place right_place number prefix link records cell low target home there right_there is =
    let left = left_at prefix number records in
    let right = right_at prefix link records in
    let page : Page = Live prefix link records in
    let forward : Page = Forward low target in
    let apart : place ≡ right_place → ⊥ = λ same. differ (sym there ∙ ap (slice_get file.pages) same ∙ right_there) in
    let turned : right_place ≡ place → ⊥ = λ same. apart (sym same) in
    home_at (split_revived place prefix link records cell right_place number file) pseudokey place right_place left right home is
    (set_else (slice_set file.pages place left) right_place place right apart ∙ set_here file.pages place page left there)
    (set_here (slice_set file.pages place left) right_place forward right (set_else file.pages place right_place left turned ∙ right_there))
  where
    differ : Some (Live prefix link records) ≡ Some (Forward low target) → ⊥
    differ same = cc

-- ---- the file

pub fresh_is : (base : List ℕ) (draft : Draft) (file : PlacedFile) (place right_place number ward len : ℕ) (prefix : List Bool) (link : Option ℕ) (records : List Record) (cell : Cell) (page left right : Page)
    → page ≡ Live prefix link records → left ≡ left_half number page → right ≡ right_half page → number ≡ count_in file prefix → ward ≡ ward_in file prefix → len ≡ length prefix → right_place ≡ length file.pages
    → IsOf base draft (with_page place left (with_cell place (with_change len right_place cell) (with_more ward right (new_cell number) file))) → IsOf base draft (split_fresh place prefix link records cell file)
fresh_is base draft file place right_place number ward len prefix link records cell page left right page_is left_is right_is number_is ward_is len_is right_place_is is =
    let left_same : left ≡ left_at prefix (count_in file prefix) records = left_is ∙ ap (left_half number) page_is ∙ ap (λ (n : ℕ). left_at prefix n records) number_is in
    let right_same : right ≡ right_at prefix link records = right_is ∙ ap right_half page_is in
    subst (IsOf base draft) (λ i. with_page place (left_same i) (with_cell place (with_change (len_is i) (right_place_is i) cell) (with_more (ward_is i) (right_same i) (new_cell (number_is i)) file))) is

pub revived_is : (base : List ℕ) (draft : Draft) (file : PlacedFile) (place right_place number other len : ℕ) (prefix : List Bool) (link : Option ℕ) (records : List Record) (cell : Cell) (page left right : Page)
    → page ≡ Live prefix link records → left ≡ left_half number page → right ≡ right_half page → number ≡ other → len ≡ length prefix
    → IsOf base draft (with_page right_place right (with_page place left (with_cell place (with_change len right_place cell) file))) → IsOf base draft (split_revived place prefix link records cell right_place other file)
revived_is base draft file place right_place number other len prefix link records cell page left right page_is left_is right_is number_is len_is is =
    let left_same : left ≡ left_at prefix other records = left_is ∙ ap (left_half number) page_is ∙ ap (λ (n : ℕ). left_at prefix n records) number_is in
    let right_same : right ≡ right_at prefix link records = right_is ∙ ap right_half page_is in
    subst (IsOf base draft) (λ i. with_page right_place (right_same i) (with_page place (left_same i) (with_cell place (with_change (len_is i) right_place cell) file))) is

-- ---- results

pub match_more : {T : Type 0} (result : Result T DirectFault) (P Q : T → Type 0) → ((value : T) → P value → Q value) → MatchResult result P IsOtherFault → MatchResult result Q IsOtherFault
match_more (Ok value) P Q next holds = next value holds
match_more (Err fault) P Q next holds = holds

-- ---- as the laws write it

pub chosen_at : (prefix : List Bool) (link : Option ℕ) (records : List Record) (pseudokey place right_place other_place number other : ℕ) (page left right : Page) (home : Home) → page ≡ Live prefix link records → left ≡ left_half number page → right ≡ right_half page → number ≡ other → right_place ≡ other_place
    → IsChosen pseudokey place right_place left right home → IsChosen pseudokey place other_place (left_at prefix other records) (right_at prefix link records) home
chosen_at prefix link records pseudokey place right_place other_place number other page left right home page_is left_is right_is number_is place_is is =
    let left_same : left ≡ left_at prefix other records = left_is ∙ ap (left_half number) page_is ∙ ap (λ (n : ℕ). left_at prefix n records) number_is in
    let right_same : right ≡ right_at prefix link records = right_is ∙ ap right_half page_is in
    subst (λ (at : ℕ). IsChosen pseudokey place at (left_at prefix other records) (right_at prefix link records) home) place_is
    (subst (λ (left : Page). IsChosen pseudokey place right_place left (right_at prefix link records) home) left_same
    (subst (λ (right : Page). IsChosen pseudokey place right_place left right home) right_same is))
