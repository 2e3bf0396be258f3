-- Splits one after the other.
use Rattle.std.proofs.Common.{◌≡◌, ℕ, zero, suc, ◌<◌, ◌≤◌, false, List, [], ◌∷◌, length, take, Option, Some, refl, sym, ap, ◌∙◌, subst, arith}
use Rattle.std.proofs.lemmas.List.{length-map, length-take, take_all}
use Rattle.exh_page.specs.declared.page.Page.{Page}
use Rattle.exh_page.specs.declared.page.Page.TheVariants.{Forward, Live}
use Rattle.exh_page.specs.KeyMap.{KeyMap}
use Rattle.exh_page.specs.Page.{low_bound, records_of}
use Rattle.exh_calls.specs.declared.call.Call.{Call}
use Rattle.exh_change.specs.PageAnswer.{OverflowsPage}
use Rattle.exh_calls.specs.Effect.{sets_new}
use Rattle.std.proofs.lemmas.Bool.{false≢true}
use Rattle.exh_table.specs.Table.{TableMap}
use Rattle.exh_cells.specs.LegalPlaced.{IsLegalPlaced}
use Rattle.exh_cells.specs.PlacedFile.{PlacedFile, lows_of}
use Rattle.exh_change.specs.PlacedSteps.{IsStep}
use Rattle.exh_edits.specs.declared.home.Home.{Home}
use Rattle.exh_change.specs.PlacedHome.{IsHomeIn}
use Rattle.exh_change.specs.PlacedLaws.{map_in}
use Rattle.exh_change.specs.declared.draft.Draft.{Draft}
use Rattle.exh_change.specs.Changes.{HasGrown, HasRoom, IsHomeOf, IsLater, prefix_in}
use Rattle.exh_change.specs.Drafts.{IsOf, IsSound}

-- ---- steps

pub no_step : (file : PlacedFile) (tables : List TableMap) → IsLegalPlaced file tables → IsStep file (map_in file) file
no_step file tables legal = record { tables = tables; legal = legal; map_is = refl; places = take_all (length file.pages) (lows_of file.pages) (omega (arith, length-map file.pages low_bound)) }

taken : (n m : ℕ) (xs : List ℕ) → n ≤ m → take n (take m xs) ≡ take n xs
taken zero m xs less = refl
taken (suc n) zero xs less = absurd (omega (arith, less))
taken (suc n) (suc m) [] less = refl
taken (suc n) (suc m) (x ∷ xs) less = ap (λ (xs : List ℕ). x ∷ xs) (taken n m xs (omega (arith, less)))

-- with the map of the second step
pub steps : (old : PlacedFile) (map : KeyMap) (between : PlacedFile) (map_between : KeyMap) (new : PlacedFile) → IsStep old map between → IsStep between map_between new → IsStep old map_between new
steps old map between map_between new first second = record {
  tables = second.tables;
  legal = second.legal;
  map_is = second.map_is;
  places = shorter (length old.pages) (length between.pages) (lows_of new.pages) (lows_of between.pages) (lows_of old.pages) second.places first.places (omega (arith, length-map old.pages low_bound)) (omega (arith, length-map between.pages low_bound));
}
  where
    shorter : (n m : ℕ) (xs ys zs : List ℕ) → take m xs ≡ ys → take n ys ≡ zs → length zs ≡ n → length ys ≡ m → take n xs ≡ zs
    shorter n m xs ys zs one other len_zs len_ys =
        let few : n ≤ m = omega (arith, ap length other, length-take n ys, len_zs, len_ys) in
        sym (taken n m xs few) ∙ ap (take n) one ∙ other

-- ---- the loop

pub later_more : (old between new : Draft) → IsLater old between → IsLater between new → IsLater old new
later_more old between new one other = record { first = other.first ∙ one.first; settings = other.settings ∙ one.settings; stamp = other.stamp ∙ one.stamp }

pub overflow_full : (cap pseudokey : ℕ) (page : Page) (call : Call) → OverflowsPage cap pseudokey page call → cap ≤ length (records_of page)
overflow_full cap pseudokey (Live prefix link records) call over = over.0
overflow_full cap pseudokey (Forward low target) call over = absurd over

pub overflow_short : (cap pseudokey : ℕ) (page : Page) (call : Call) → OverflowsPage cap pseudokey page call → length (prefix_in page) < 20
overflow_short cap pseudokey (Live prefix link records) call over = over.1
overflow_short cap pseudokey (Forward low target) call over = absurd over

pub overflow_sets : (cap pseudokey : ℕ) (page : Page) (call : Call) → OverflowsPage cap pseudokey page call → sets_new call ≡ false → ⊥
overflow_sets cap pseudokey (Live prefix link records) call over none = false≢true (sym none ∙ over.3)
overflow_sets cap pseudokey (Forward low target) call over none = over

pub room_more : (base : List ℕ) (file between : PlacedFile) (draft : Draft) (pseudokey : ℕ) (home : Home) → IsStep file (map_in file) between → HasRoom base between draft pseudokey home → HasRoom base file draft pseudokey home
room_more base file between draft pseudokey home first room = record {
  new = room.new;
  at = room.at;
  step = subst (λ (map : KeyMap). IsStep file map room.new) first.map_is (steps file (map_in file) between (map_in between) room.new first room.step);
}

pub record IsOnWay (known_old known : Option (List ℕ)) (old draft : Draft) (first home : Home) (pseudokey : ℕ) (call : Call) : Type 0 where
  pub same : known ≡ known_old
  pub later : IsLater old draft
  pub sound : IsSound draft
  pub home_of : IsHomeOf draft pseudokey home
  pub still : sets_new call ≡ false → (draft ≡ old) × (home ≡ first)
  pub grown : old.edits.items.items ≡ [] → HasGrown first home draft
  pub legal : (base : List ℕ) (file : PlacedFile) → known_old ≡ Some base → IsOf base old file → (tables : List TableMap) → IsLegalPlaced file tables → IsHomeIn file pseudokey first → HasRoom base file draft pseudokey home
