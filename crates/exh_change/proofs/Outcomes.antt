-- What a call makes of a draft behind its answer: nothing, or a merge.
use Rattle.std.proofs.Common.{◌≡◌, ◌⊎◌, ℕ, ◌+◌, ◌≤◌, Bool, true, false, List, [], ◌∷◌, ◌++◌, length, slice_get, slice_set, Option, None, Some, inl, inr, refl, sym, ap, ◌∙◌, subst, arith}
use Rattle.std.proofs.lemmas.Bool.{false≢true}
use Rattle.std.proofs.lemmas.List.{length_push, same_from_push}
use Rattle.exh_prefix.specs.Prefix.{Begins}
use Rattle.exh_prefix.specs.PrefixLemmas.{parent_begins}
use Rattle.exh_prefix.specs.PrefixListLemmas.{set_else, set_here}
use Rattle.exh_page.specs.declared.page.Page.TheVariants.{Live}
use Rattle.exh_table.specs.Table.{TableMap}
use Rattle.exh_calls.specs.declared.call.Call.{Call}
use Rattle.exh_calls.specs.declared.call.Call.TheVariants.{Del, Get, Put, Swap}
use Rattle.exh_calls.specs.Effect.{sets_new}
use Rattle.exh_cells.specs.LegalPlaced.{IsLegalPlaced}
use Rattle.exh_cells.specs.PlacedFile.{PlacedFile}
use Rattle.exh_edits.specs.PlacedEdits.{with_header, with_page}
use Rattle.exh_change.specs.PlacedSteps.{IsStep, page_after}
use Rattle.exh_change.specs.StepLaws.{StampsKeepLegal}
use Rattle.exh_edits.specs.declared.home.Home.{Home}
use Rattle.exh_change.specs.PlacedHome.{IsHomeIn}
use Rattle.exh_change.specs.PlacedLaws.{map_in}
use Rattle.exh_change.specs.declared.draft.Draft.{Draft}
use Rattle.exh_change.specs.ChangeLaws.{IsLeft, SettlesHome, key_in, map_then, stamped_anew}
use Rattle.exh_change.specs.Changes.{Becomes, HasGrown, HasRoom, HasSameLeaves, IsLater, IsUnited, IsUnitedAt, Settles, prefix_in}
use Rattle.exh_change.specs.Drafts.{IsOf}
use Rattle.exh_change.specs.Leaves.{IsLeaf, IsOneOf, IsSettled, MayNotMerge, edits_for, leaf_of, leaves_in, most_edits}
use Rattle.exh_change.proofs.LeafLemmas.{begins_in, home_is_leaf, leaf_in, leaf_there, leaves_kept, same_leaf}
use Rattle.exh_change.proofs.Left.{leaf_too, left_stamped}
use Rattle.exh_change.proofs.Rooms.{no_step}
use Rattle.exh_change.proofs.Settling.{IsHalfOf, which_half}

-- ---- where nothing was split

-- the draft is a file with room, the file itself where the call sets no new key
pub record IsRoom (base : List ℕ) (file : PlacedFile) (draft : Draft) (pseudokey : ℕ) (call : Call) (home : Home) : Type 0 where
  pub room : HasRoom base file draft pseudokey home
  pub same : sets_new call ≡ false → room.new ≡ file

pub room_of : (base : List ℕ) (file : PlacedFile) (tables : List TableMap) (old between : Draft) (pseudokey : ℕ) (call : Call) (first home : Home) → IsOf base old file → IsLegalPlaced file tables → IsHomeIn file pseudokey first
    → (sets_new call ≡ false → (between ≡ old) × (home ≡ first)) → HasRoom base file between pseudokey home → IsRoom base file between pseudokey call home
room_of base file tables old between pseudokey call first home is legal found still room = by (sets_new call) refl
  where
    by : (sets : Bool) → sets_new call ≡ sets → IsRoom base file between pseudokey call home
    by true sets = record { room = room; same = λ none. absurd (false≢true (sym none ∙ sets)) }
    by false none = record {
      room = record {
        new = file;
        at = record { is = subst (λ (draft : Draft). IsOf base draft file) (sym (still none).0) is; own = subst (IsHomeIn file pseudokey) (sym (still none).1) found };
        step = no_step file tables legal;
      };
      same = λ _. refl;
    }

-- ---- the file with the answered page

abbrev pub answered_file : Call → Home → PlacedFile → PlacedFile
answered_file call home file = with_page home.place (page_after file call home.page) file

pub leaves_answered : (call : Call) (home : Home) (pseudokey : ℕ) (file : PlacedFile) → IsHomeIn file pseudokey home → leaves_in (answered_file call home file) ≡ leaves_in file
leaves_answered call home pseudokey file at = leaves_kept file.pages home.place home.page (page_after file call home.page) at.there (same_leaf _ home.page)

pub same_leaves : (call : Call) (home : Home) (pseudokey : ℕ) (file other : PlacedFile) → IsHomeIn other pseudokey home → other ≡ file → HasSameLeaves file (answered_file call home other)
same_leaves call home pseudokey file other at same = record {
  header = ap (λ (file : PlacedFile). file.header) (sym same);
  leaves = ap leaves_in (sym same) ∙ sym (leaves_answered call home pseudokey other at);
}

-- its leaf, by the page that answered
pub answered_leaf : (call : Call) (home after : Home) (pseudokey : ℕ) (file : PlacedFile) → IsHomeIn file pseudokey home → after.place ≡ home.place → leaf_of after.page ≡ leaf_of home.page → slice_get (leaves_in (answered_file call home file)) after.place ≡ Some (leaf_of after.page)
answered_leaf call home after pseudokey file at place leaf =
    ap (slice_get (leaves_in (answered_file call home file))) place
    ∙ ap (λ (leaves : List (Option (List Bool))). slice_get leaves home.place) (leaves_answered call home pseudokey file at)
    ∙ leaf_there file.pages home.place home.page at.there ∙ ap (λ (leaf : Option (List Bool)). Some leaf) (sym leaf)

-- ---- what is left

abbrev pub Outcome : List ℕ → PlacedFile → ℕ → Call → Draft → Draft → Type 0
Outcome base file place call answered settled = (IsUnitedAt base file place settled × (key : List ℕ) × (call ≡ Del key)) ⊎ ((settled ≡ answered) × ((key : List ℕ) → call ≡ Del key → MayNotMerge file place))

pub outcome : (base : List ℕ) (file : PlacedFile) (place : ℕ) (call : Call) (answered settled : Draft) → ((key : List ℕ) → call ≡ Del key → Settles base file place answered settled) → (((key : List ℕ) → call ≡ Del key → ⊥) → settled ≡ answered) → Outcome base file place call answered settled
outcome base file place (Get key) answered settled settles still = inr (still (λ other is. cc), λ other is. absurd cc)
outcome base file place (Put key value) answered settled settles still = inr (still (λ other is. cc), λ other is. absurd cc)
outcome base file place (Swap key old new) answered settled settles still = inr (still (λ other is. cc), λ other is. absurd cc)
outcome base file place (Del key) answered settled settles still = by (settles key refl)
  where
    by : Settles base file place answered settled → Outcome base file place (Del key) answered settled
    by (inl united) = inl (united, key, refl)
    by (inr (not, same)) = inr (same, λ other is. not)

united_leaf : (base : List ℕ) (file : PlacedFile) (parent : List Bool) (left right pseudokey : ℕ) (draft : Draft) → (united : IsUnited base file parent left right draft) → Begins parent pseudokey → IsLeaf united.becomes.new pseudokey parent
united_leaf base file parent left right pseudokey draft united begins =
    let own = leaf_there file.pages left (Live (parent ++ false ∷ []) united.may.link united.may.records) united.may.left_is.page_is in
    let other = leaf_there file.pages right (Live (parent ++ true ∷ []) united.may.right_link united.may.right_records) united.may.right_is in
    let apart : left ≡ right → ⊥ = λ same. differ parent (sym own ∙ ap (slice_get (leaves_in file)) same ∙ other) in
    record {
      place = left;
      there = ap (λ (leaves : List (Option (List Bool))). slice_get leaves left) united.leaves
          ∙ set_else (slice_set (leaves_in file) left (Some parent)) right left None apart ∙ set_here (leaves_in file) left (Some (parent ++ false ∷ [])) (Some parent) own;
      begins = begins;
    }
  where
    differ : (parent : List Bool) → Some (Some (parent ++ false ∷ [])) ≡ Some (Some (parent ++ true ∷ [])) → ⊥
    differ parent same = let half : parent ++ false ∷ [] ≡ parent ++ true ∷ [] = cc in false≢true (same_from_push parent parent false true half).1

-- ---- the file that is left

half_bit : (prefix : List Bool) (place : ℕ) (parent : List Bool) (left right : ℕ) → IsHalfOf prefix place parent left right → (bit : Bool) × (prefix ≡ parent ++ bit ∷ [])
half_bit prefix place parent left right (inl (same, is)) = (false, is)
half_bit prefix place parent left right (inr (same, is)) = (true, is)

module _ (law : StampsKeepLegal) (base : List ℕ) (file : PlacedFile) (old between answered settled last : Draft) (call : Call) (stamp pseudokey : ℕ) (first home after : Home)
    (is : IsOf base old file) (found : IsHomeIn file pseudokey first) (key : pseudokey ≡ key_in file call) (its : IsRoom base file between pseudokey call home)
    (step : IsStep file (map_then file call) (answered_file call home its.room.new)) (made : IsOf base answered (answered_file call home its.room.new))
    (later : IsLater old settled) (put : (base : List ℕ) (file : PlacedFile) → IsOf base settled file → IsOf base last (with_header (stamped_anew stamp file.header) file))
    (place : after.place ≡ home.place) (grown : HasGrown first home between) (still : sets_new call ≡ false → home ≡ first)
    (most : length last.edits.items.items ≤ most_edits call) (unmerged : settled ≡ answered → length last.edits.items.items ≤ edits_for grown.digits) where
  abbrev other : PlacedFile
  other = its.room.new

  abbrev then : PlacedFile
  then = answered_file call home other

  own : IsHomeIn other pseudokey home
  own = its.room.at.own

  leaf : slice_get (leaves_in then) after.place ≡ Some (Some (prefix_in home.page))
  leaf =
      ap (slice_get (leaves_in then)) place ∙ ap (λ (leaves : List (Option (List Bool))). slice_get leaves home.place) (leaves_answered call home pseudokey other own)
      ∙ leaf_in other pseudokey home own

  old_is : IsLeaf file (key_in file call) (prefix_in first.page)
  old_is = subst (λ (pseudokey : ℕ). IsLeaf file pseudokey (prefix_in first.page)) key (home_is_leaf file pseudokey first found)

  settles_home : (new : PlacedFile) (other_key : List ℕ) → call ≡ Del other_key → IsSettled then home.place new → SettlesHome file call new
  settles_home new other_key del settled_is =
      let same = its.same (ap sets_new del) in
      let key_too : pseudokey ≡ key_in other call = key ∙ ap (λ (file : PlacedFile). key_in file call) (sym same) in
      subst (λ (file : PlacedFile). SettlesHome file call new) same (home, subst (λ (pseudokey : ℕ). IsHomeIn other pseudokey home) key_too own, settled_is)

  pub left_of : Outcome base then after.place call answered settled → IsLeft base file call stamp last
  left_of (inl (at, other_key, del)) =
      let becomes = at.united.becomes in
      let half = half_bit (prefix_in home.page) after.place at.prefix at.left at.right (which_half then after.place (prefix_in home.page) leaf at.prefix at.left at.right at.one at.united.may) in
      let begins = parent_begins at.prefix pseudokey half.0 (subst (λ (prefix : List Bool). Begins prefix pseudokey) half.1 (begins_in home.page pseudokey own.is)) in
      let longer : length (prefix_in first.page) ≡ length at.prefix + 1 = ap (λ (home : Home). length (prefix_in home.page)) (sym (still (ap sets_new del))) ∙ ap length half.1 ∙ length_push at.prefix half.0 in
      left_stamped law base old settled last file then call stamp later is step becomes put
      (record {
        old_leaf = prefix_in first.page;
        new_leaf = at.prefix;
        old_is = old_is;
        new_is = subst (λ (pseudokey : ℕ). IsLeaf becomes.new pseudokey at.prefix) key (united_leaf base then at.prefix at.left at.right pseudokey settled at.united begins);
        few = omega (arith, most, ap most_edits del, longer);
      })
      (λ key del. settles_home becomes.new key del
      (inl (record { prefix = at.prefix; left = at.left; right = at.right; one = subst (λ (place : ℕ). IsOneOf place at.left at.right) place at.one; may = at.united.may; leaves = at.united.leaves })))
  left_of (inr (same, not)) =
      let becomes : Becomes base then (map_in then) settled = record { new = then; is = subst (λ (draft : Draft). IsOf base draft then) (sym same) made; step = no_step then step.tables step.legal } in
      left_stamped law base old settled last file then call stamp later is step becomes put
      (record {
        old_leaf = prefix_in first.page;
        new_leaf = prefix_in home.page;
        old_is = old_is;
        new_is = leaf_too other then (key_in file call) (prefix_in home.page) (sym (leaves_answered call home pseudokey other own)) (subst (λ (pseudokey : ℕ). IsLeaf other pseudokey (prefix_in home.page)) key (home_is_leaf other pseudokey home own));
        few = omega (arith, unmerged same, grown.longer);
      })
      (λ key del. settles_home then key del (inr (subst (MayNotMerge then) place (not key del), refl)))
