-- The places that a draft's edits are of, and how many they are.
use Rattle.std.proofs.Common.{◌≡◌, ◌⊎◌, ℕ, ◌+◌, ◌<◌, ◌≤◌, false, Bool, List, [], ◌∷◌, ◌++◌, length, Option, inl, inr, refl, sym, ap, subst, arith}
use Rattle.exh_calls.specs.declared.call.Call.{Call}
use Rattle.exh_calls.specs.declared.call.Call.TheVariants.{Del, Get, Put, Swap}
use Rattle.exh_calls.specs.Effect.{sets_new}
use Rattle.exh_cells.specs.Places.{group_in, page_block_of, walk_block_of}
use Rattle.exh_edits.specs.declared.block_edit.BlockEdit.{BlockEdit}
use Rattle.exh_edits.specs.EditLemmas.{all_behind, among_behind, among_here, few_edits}
use Rattle.exh_edits.specs.EditsInTurn.{AreAmong, AreMoreAt, places_of}
use Rattle.exh_legal.specs.Pages.{IsHome}
use Rattle.exh_page.specs.declared.page.Page.{Page}
use Rattle.exh_page.specs.declared.page.Page.TheVariants.{Forward, Live}
use Rattle.exh_page.specs.declared.record.Record.{Record}
use Rattle.exh_edits.specs.declared.home.Home.{Home}
use Rattle.exh_change.specs.declared.draft.Draft.{Draft}
use Rattle.exh_change.specs.Changes.{AreCounted, EditsMore, HasGrown, IsHalved, MayEditTwo, blocks_at, prefix_in}
use Rattle.exh_change.specs.Drafts.{IsSound}
use Rattle.exh_change.specs.Leaves.{IsOneOf, edits_for, most_edits}

-- ---- blocks that are put

pub at_place : (old new : List BlockEdit) (at place : ℕ) → at ≡ place → AreMoreAt (at ∷ []) old new → AreMoreAt (place ∷ []) old new
at_place old new at place same more = subst (λ (place : ℕ). AreMoreAt (place ∷ []) old new) same more

-- three, one after the other
pub three_more : (one two three : ℕ) (old first second third : List BlockEdit) → AreMoreAt (one ∷ []) old first → AreMoreAt (two ∷ []) first second → AreMoreAt (three ∷ []) second third → AreMoreAt (one ∷ three ∷ two ∷ []) old third
three_more one two three old first second third more more_first more_second places own before =
    more_second places (own.1.0, tt) (more_first places (own.1.1.0, tt) (more places (own.0, tt) before))

pub two_more : (one two : ℕ) (old first second : List BlockEdit) → AreMoreAt (one ∷ []) old first → AreMoreAt (two ∷ []) first second → AreMoreAt (one ∷ two ∷ []) old second
two_more one two old first second more more_first places own before = more_first places (own.1.0, tt) (more places (own.0, tt) before)

-- ---- splits

-- a page more, with the cell and the page of the left half
pub fresh_more : (place right : ℕ) (old added celled paged : Draft) → EditsMore (0 ∷ blocks_at right) old added → EditsMore (walk_block_of (group_in place) ∷ []) added celled → EditsMore (page_block_of place ∷ []) celled paged → EditsMore (0 ∷ blocks_at place ++ blocks_at right) old paged
fresh_more place right old added celled paged first second third places own before =
    third places (own.1.0, tt) (second places (own.1.1.0, tt) (first places (own.0, (own.1.1.1.0, (own.1.1.1.1.0, tt))) before))

-- the cell and the page of the left half, and the page of the right one
pub revived_more : (place right : ℕ) (old celled paged both : Draft) → EditsMore (walk_block_of (group_in place) ∷ []) old celled → EditsMore (page_block_of place ∷ []) celled paged → EditsMore (page_block_of right ∷ []) paged both → EditsMore (0 ∷ blocks_at place ++ blocks_at right) old both
revived_more place right old celled paged both first second third places own before =
    third places (own.1.1.1.0, tt) (second places (own.1.0, tt) (first places (own.1.1.0, tt) before))

-- the cell and the page of the left half, and the page of the right one, which are merged
pub united_more : (place right : ℕ) (old celled united : Draft) → EditsMore (walk_block_of (group_in place) ∷ []) old celled → EditsMore (page_block_of place ∷ page_block_of right ∷ []) celled united → EditsMore (page_block_of right ∷ blocks_at place) old united
united_more place right old celled united first second places own before = second places (own.1.0, (own.0, tt)) (first places (own.1.1.0, tt) before)

-- of two halves one is the home
pub one_of : (A B : Type 0) (place right : ℕ) (left_page right_page : Page) (home : Home) → (A × (home ≡ record { place = right; page = right_page })) ⊎ (B × (home ≡ record { place = place; page = left_page })) → IsOneOf home.place place right
one_of A B place right left_page right_page home (inl (is, same)) = inr (ap (λ (home : Home). home.place) same)
one_of A B place right left_page right_page home (inr (is, same)) = inl (ap (λ (home : Home). home.place) same)

-- ---- counts

module _ (old new : Draft) (home next : Home) (digits : ℕ) (halved : IsHalved old new home.place next) where
  abbrev here : List ℕ
  here = blocks_at home.place

  abbrev there : List ℕ
  there = blocks_at halved.right

  counted_with : (places : List ℕ) → length places ≤ edits_for (digits + 1) → AreAmong places (0 ∷ here ++ there) → AreAmong places (places_of old.edits.items.items) → AreCounted new next (digits + 1)
  counted_with places few all before =
      let blocks : AreAmong places (blocks_at next.place) = by halved.which in
      record { places = places; few = few; own = (all.0, (blocks.0, tt)); cell = inr blocks; edits = halved.more places all before }
    where
      by : IsOneOf next.place home.place halved.right → AreAmong places (blocks_at next.place)
      by (inl same) = subst (λ (place : ℕ). AreAmong places (blocks_at place)) (sym same) (all.1.0, (all.1.1.0, tt))
      by (inr same) = subst (λ (place : ℕ). AreAmong places (blocks_at place)) (sym same) (all.1.1.1.0, (all.1.1.1.1.0, tt))

  pub count_more : AreCounted old home digits → AreCounted new next (digits + 1)
  count_more counted = by counted.cell
    where
      by : (digits ≡ 0) ⊎ AreAmong counted.places here → AreCounted new next (digits + 1)
      by (inl none) =
          let places = counted.places in
          let own = walk_block_of (group_in home.place) in
          let page = page_block_of halved.right in
          let cell = walk_block_of (group_in halved.right) in
          let old_own = 0 ∷ page_block_of home.place ∷ [] in
          let was = all_behind old_own own (page ∷ cell ∷ places) (all_behind old_own page (cell ∷ places) (all_behind old_own cell places counted.own)) in
          let edits = places_of old.edits.items.items in
          counted_with (own ∷ page ∷ cell ∷ places) (omega (arith, counted.few, none))
          (was.0, (was.1.0, (among_here own (page ∷ cell ∷ places), (among_behind page own (page ∷ cell ∷ places) (among_here page (cell ∷ places)), (among_behind cell own (page ∷ cell ∷ places) (among_behind cell page (cell ∷ places) (among_here cell places)), tt)))))
          (all_behind edits own (page ∷ cell ∷ places) (all_behind edits page (cell ∷ places) (all_behind edits cell places counted.edits)))
      by (inr blocks) =
          let places = counted.places in
          let page = page_block_of halved.right in
          let cell = walk_block_of (group_in halved.right) in
          let old_own = 0 ∷ page_block_of home.place ∷ [] in
          let was = all_behind old_own page (cell ∷ places) (all_behind old_own cell places counted.own) in
          let was_cell = all_behind here page (cell ∷ places) (all_behind here cell places blocks) in
          let edits = places_of old.edits.items.items in
          counted_with (page ∷ cell ∷ places) (omega (arith, counted.few))
          (was.0, (was.1.0, (was_cell.1.0, (among_here page (cell ∷ places), (among_behind cell page (cell ∷ places) (among_here cell places), tt)))))
          (all_behind edits page (cell ∷ places) (all_behind edits cell places counted.edits))

-- the home's page is put
pub count_page : (old new : Draft) (home : Home) (page : Page) (digits : ℕ) → EditsMore (page_block_of home.place ∷ []) old new → AreCounted old home digits → AreCounted new (record { place = home.place; page = page }) digits
count_page old new home page digits more counted = record { places = counted.places; few = counted.few; own = counted.own; cell = counted.cell; edits = more counted.places (counted.own.1.0, tt) counted.edits }

pub count_same : (draft : Draft) (home : Home) (page : Page) (digits : ℕ) → AreCounted draft home digits → AreCounted draft (record { place = home.place; page = page }) digits
count_same draft home page digits counted = record { places = counted.places; few = counted.few; own = counted.own; cell = counted.cell; edits = counted.edits }

-- ---- a prefix that becomes longer

abbrev IsLonger : Page → Page → Type 0
IsLonger page next = (old new : List Bool) (link more_link : Option ℕ) (records more : List Record) → page ≡ Live old link records → next ≡ Live new more_link more → length new ≡ length old + 1

pub longer_in : (page next : Page) (pseudokey : ℕ) → IsHome page pseudokey → IsHome next pseudokey → IsLonger page next → length (prefix_in next) ≡ length (prefix_in page) + 1
longer_in (Live old link records) (Live new more_link more) pseudokey home home_next longer = longer old new link more_link records more refl refl
longer_in (Live old link records) (Forward low target) pseudokey home home_next longer = absurd home_next
longer_in (Forward low target) next pseudokey home home_next longer = absurd home

pub grown_none : (draft : Draft) (home : Home) → draft.edits.items.items ≡ [] → HasGrown home home draft
grown_none draft home none =
    let page = page_block_of home.place in
    record {
      digits = 0;
      longer = omega arith;
      within = omega arith;
      counted = record {
        places = 0 ∷ page ∷ [];
        few = omega arith;
        own = (among_here 0 (page ∷ []), (among_behind page 0 (page ∷ []) (among_here page []), tt));
        cell = inl refl;
        edits = subst (λ (edits : List BlockEdit). AreAmong (0 ∷ page ∷ []) (places_of edits)) (sym none) tt;
      };
    }

pub grown_more : (first home next : Home) (old new : Draft) → HasGrown first home old → IsHalved old new home.place next → length (prefix_in next.page) ≡ length (prefix_in home.page) + 1 → length (prefix_in home.page) < 20 → HasGrown first next new
grown_more first home next old new grown halved longer short = record {
  digits = grown.digits + 1;
  longer = omega (arith, grown.longer, longer);
  within = omega (arith, grown.longer, short);
  counted = count_more old new home next grown.digits halved grown.counted;
}

-- ---- how many

-- with the header's block, too
pub few_stamped : (draft last : Draft) (home : Home) (digits : ℕ) → AreCounted draft home digits → EditsMore (0 ∷ []) draft last → IsSound last → length last.edits.items.items ≤ edits_for digits
few_stamped draft last home digits counted more sound =
    omega (arith, few_edits last.edits.items.items counted.places sound.edits.once (more counted.places (counted.own.0, tt) counted.edits), counted.few)

-- with the blocks of two pages that are merged
pub few_merged : (draft settled last : Draft) (home : Home) → AreCounted draft home 0 → MayEditTwo draft settled → EditsMore (0 ∷ []) settled last → IsSound last → length last.edits.items.items ≤ 5
few_merged draft settled last home counted (inl same) more sound =
    omega (arith, few_stamped draft last home 0 counted (subst (λ (draft : Draft). EditsMore (0 ∷ []) draft last) same more) sound)
few_merged draft settled last home counted (inr (left, right, two)) more sound =
    let places = counted.places in
    let page = page_block_of right in
    let own = page_block_of left in
    let cell = walk_block_of (group_in left) in
    let edits = places_of draft.edits.items.items in
    let old_own = 0 ∷ page_block_of home.place ∷ [] in
    let was = all_behind old_own page (own ∷ cell ∷ places) (all_behind old_own own (cell ∷ places) (all_behind old_own cell places counted.own)) in
    let all = page ∷ own ∷ cell ∷ places in
    let before = two all
    (among_here page (own ∷ cell ∷ places), (among_behind own page (own ∷ cell ∷ places) (among_here own (cell ∷ places)), (among_behind cell page (own ∷ cell ∷ places) (among_behind cell own (cell ∷ places) (among_here cell places)), tt)))
    (all_behind edits page (own ∷ cell ∷ places) (all_behind edits own (cell ∷ places) (all_behind edits cell places counted.edits))) in
    omega (arith, few_edits last.edits.items.items all sound.edits.once (more all (was.0, tt) before), counted.few)

-- by its call
module _ (first home after : Home) (between answered settled last : Draft) (grown : HasGrown first home between) (counted : (digits : ℕ) → AreCounted between home digits → AreCounted answered after digits) (two : MayEditTwo answered settled) (more : EditsMore (0 ∷ []) settled last) (sound : IsSound last) where
  -- where nothing was merged
  pub few_still : settled ≡ answered → length last.edits.items.items ≤ edits_for grown.digits
  few_still same = few_stamped answered last after grown.digits (counted grown.digits grown.counted) (subst (λ (draft : Draft). EditsMore (0 ∷ []) draft last) same more) sound

  unsplit : home ≡ first → grown.digits ≡ 0
  unsplit same = let equal = ap (λ (home : Home). length (prefix_in home.page)) same in omega (arith, grown.longer, equal)

  pub few_by : (call : Call) → ((key : List ℕ) → call ≡ Get key → ⊥) → (sets_new call ≡ false → home ≡ first) → (((key : List ℕ) → call ≡ Del key → ⊥) → settled ≡ answered) → length last.edits.items.items ≤ most_edits call
  few_by (Get key) got still same = absurd (got key refl)
  few_by (Put key value) got still same = omega (arith, few_still (same (λ other is. cc)), grown.within)
  few_by (Del key) got still same =
      let none = unsplit (still refl) in
      few_merged answered settled last after (subst (AreCounted answered after) none (counted grown.digits grown.counted)) two more sound
  few_by (Swap key old new) got still same = let none = unsplit (still refl) in omega (arith, few_still (same (λ other is. cc)), none)
