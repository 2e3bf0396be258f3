-- The file that a call leaves, step by step.
use Rattle.std.proofs.Common.{◌≡◌, ℕ, Bool, true, false, List, [], length, slice_get, slice_set, Option, arith, inl, inr, refl, sym, ap, ◌∙◌, subst}
use Rattle.exh_keyer.specs.Pseudokey.{any_pseudokey}
use Rattle.exh_prefix.specs.PrefixListLemmas.{set_same}
use Rattle.exh_page.specs.KeyMap.{KeyMap}
use Rattle.exh_page.specs.declared.page.Page.{Page}
use Rattle.exh_calls.specs.declared.call.Call.{Call}
use Rattle.exh_calls.specs.declared.reply.Reply.{Reply}
use Rattle.exh_calls.specs.MapMachine.{map_after, reply_of}
use Rattle.exh_cells.specs.declared.stamped_header.StampedHeader.{StampedHeader}
use Rattle.exh_cells.specs.PlacedFile.{IsPlacedFile, PlacedFile}
use Rattle.exh_edits.specs.PlacedEdits.{with_header, with_page}
use Rattle.exh_change.specs.PlacedSteps.{IsStep, page_after}
use Rattle.exh_change.specs.StepLaws.{AnswersKeepLegal, IsMachines, StampsKeepLegal}
use Rattle.exh_calls.specs.Call.{key_of}
use Rattle.exh_legal.specs.Pages.{IsHome}
use Rattle.exh_change.specs.PageAnswer.{OverflowsPage}
use Rattle.exh_edits.specs.declared.home.Home.{Home}
use Rattle.exh_change.specs.PlacedHome.{IsHomeIn}
use Rattle.exh_change.specs.PlacedLaws.{map_in}
use Rattle.exh_change.specs.declared.draft.Draft.{Draft}
use Rattle.exh_calls.specs.declared.call.Call.TheVariants.{Del}
use Rattle.exh_change.specs.ChangeLaws.{IsAnswered, IsChange, IsLeft, SettlesHome, key_in, map_then, reply_in, stamped_anew}
use Rattle.exh_change.specs.Leaves.{AreFew, IsLeaf, IsSettled, leaves_in}
use Rattle.exh_change.specs.Changes.{Becomes, HasRoom, IsLater}
use Rattle.exh_change.specs.Drafts.{IsOf}
use Rattle.exh_change.proofs.Rooms.{no_step, steps}
use Rattle.exh_table.specs.Table.{TableMap}
use Rattle.exh_cells.specs.LegalPlaced.{IsLegalPlacedFile}
use Rattle.exh_edits.specs.declared.block_edit.BlockEdit.{BlockEdit}
use Rattle.exh_edits.specs.BlockEdits.{with_edits}
use Rattle.exh_change.specs.declared.changed.Changed.{Changed}

-- what stays, of the files that drafts are
pub settings_kept : (base : List ℕ) (old new : Draft) (file after : PlacedFile) → IsLater old new → IsOf base old file → IsOf base new after → after.header.settings ≡ file.header.settings
settings_kept base old new file after later is is_after = ap (λ (header : StampedHeader). header.settings) (sym is_after.header) ∙ later.settings ∙ ap (λ (header : StampedHeader). header.settings) is.header

pub stamp_kept : (base : List ℕ) (old new : Draft) (file after : PlacedFile) → IsLater old new → IsOf base old file → IsOf base new after → after.header.stamp ≡ file.header.stamp
stamp_kept base old new file after later is is_after = ap (λ (header : StampedHeader). header.stamp) (sym is_after.header) ∙ later.stamp ∙ ap (λ (header : StampedHeader). header.stamp) is.header

pub machines_of : AnswersKeepLegal → (base : List ℕ) (old between : Draft) (file : PlacedFile) (call : Call) (pseudokey : ℕ) (home : Home) (room : HasRoom base file between pseudokey home) → IsLater old between → IsOf base old file → pseudokey ≡ any_pseudokey old.header.settings.keyer (key_of call)
    → (OverflowsPage old.header.settings.cap pseudokey home.page call → ⊥) → IsMachines room.new call home.place home.page
machines_of law base old between file call pseudokey home room later is hashed fits =
    let new = room.new in
    let settings : old.header.settings ≡ new.header.settings = ap (λ (header : StampedHeader). header.settings) is.header ∙ sym (settings_kept base old between file new later is room.at.is) in
    let key : pseudokey ≡ any_pseudokey new.header.settings.keyer (key_of call) = hashed ∙ ap (λ (settings : _). any_pseudokey settings.keyer (key_of call)) settings in
    law new room.step.tables call home.place home.page room.at.is.is.valid room.step.legal
    (record {
      there = room.at.own.there;
      home = subst (IsHome home.page) key room.at.own.is;
      fits = subst (λ (cap : ℕ). OverflowsPage cap (any_pseudokey new.header.settings.keyer (key_of call)) home.page call → ⊥) (ap (λ (settings : _). settings.cap) settings) (subst (λ (pseudokey : ℕ). OverflowsPage old.header.settings.cap pseudokey home.page call → ⊥) key fits);
    })

-- ---- the map machine's, over a file with the same settings and map

pub same_then : (file other : PlacedFile) (call : Call) → other.header.settings ≡ file.header.settings → map_in other ≡ map_in file → map_then other call ≡ map_then file call
same_then file other call settings map = (λ i. map_after (settings i).cap (any_pseudokey (settings i).keyer) (map i) call)

pub same_reply : (file other : PlacedFile) (call : Call) → other.header.settings ≡ file.header.settings → map_in other ≡ map_in file → reply_in other call ≡ reply_in file call
same_reply file other call settings map = (λ i. reply_of (settings i).cap (any_pseudokey (settings i).keyer) (map i) call)

-- ---- steps

-- the answer's, behind the splits
pub answered_step : (file other : PlacedFile) (call : Call) (place : ℕ) (page : Page) → IsStep file (map_in file) other → other.header.settings ≡ file.header.settings → IsMachines other call place page
    → IsStep file (map_then file call) (with_page place (page_after other call page) other)
answered_step file other call place page first settings machines =
    let after = with_page place (page_after other call page) other in
    subst (λ (map : KeyMap). IsStep file map after) (same_then file other call settings first.map_is) (steps file (map_in file) other (map_then other call) after first machines.step)

-- where the page stays, so does the map
pub kept_map : (file other : PlacedFile) (call : Call) (pseudokey : ℕ) (home : Home) → IsStep file (map_in file) other → other.header.settings ≡ file.header.settings → IsHomeIn other pseudokey home → IsMachines other call home.place home.page → page_after other call home.page ≡ home.page → map_then file call ≡ map_in file
kept_map file other call pseudokey home first settings at machines kept =
    let pages : slice_set other.pages home.place (page_after other call home.page) ≡ other.pages = ap (slice_set other.pages home.place) kept ∙ set_same other.pages home.place home.page at.there in
    let same : with_page home.place (page_after other call home.page) other ≡ other = (λ i. let file : PlacedFile = record { header = other.header; pages = pages i; cells = other.cells } in file) in
    sym (same_then file other call settings first.map_is) ∙ sym machines.step.map_is ∙ ap map_in same ∙ first.map_is

-- files of the same leaves

pub leaf_too : (new other : PlacedFile) (pseudokey : ℕ) (prefix : List Bool) → leaves_in new ≡ leaves_in other → IsLeaf new pseudokey prefix → IsLeaf other pseudokey prefix
leaf_too new other pseudokey prefix same leaf = record { place = leaf.place; there = ap (λ (leaves : List (Option (List Bool))). slice_get leaves leaf.place) (sym same) ∙ leaf.there; begins = leaf.begins }

few_too : (file new other : PlacedFile) (pseudokey : ℕ) (edits : List BlockEdit) → leaves_in new ≡ leaves_in other → AreFew file new pseudokey edits → AreFew file other pseudokey edits
few_too file new other pseudokey edits same are = record { old_leaf = are.old_leaf; new_leaf = are.new_leaf; old_is = are.old_is; new_is = leaf_too new other pseudokey are.new_leaf same are.new_is; few = are.few }

settled_too : (file new other : PlacedFile) (place : ℕ) → leaves_in new ≡ leaves_in other → IsSettled file place new → IsSettled file place other
settled_too file new other place same (inl is) = inl (record { prefix = is.prefix; left = is.left; right = is.right; one = is.one; may = is.may; leaves = sym same ∙ is.leaves })
settled_too file new other place same (inr (not, leaves)) = inr (not, sym same ∙ leaves)

settles_too : (file new other : PlacedFile) (call : Call) → leaves_in new ≡ leaves_in other → SettlesHome file call new → SettlesHome file call other
settles_too file new other call same (home, at, settled) = (home, at, settled_too (with_page home.place (page_after file call home.page) file) new other home.place same settled)

-- the stamp's, behind all others
pub left_stamped : StampsKeepLegal → (base : List ℕ) (old settled last : Draft) (file answered : PlacedFile) (call : Call) (stamp : ℕ) → IsLater old settled → IsOf base old file → IsStep file (map_then file call) answered → (becomes : Becomes base answered (map_in answered) settled)
    → ((base : List ℕ) (file : PlacedFile) → IsOf base settled file → IsOf base last (with_header (stamped_anew stamp file.header) file)) → AreFew file becomes.new (key_in file call) last.edits.items.items → ((key : List ℕ) → call ≡ Del key → SettlesHome file call becomes.new) → IsLeft base file call stamp last
left_stamped law base old settled last file answered call stamp later is step becomes put few settles =
    let new = becomes.new in
    let header = stamped_anew stamp new.header in
    let stamped = law new becomes.step.tables header becomes.step.legal refl refl in
    let merged : IsStep file (map_then file call) new = subst (λ (map : KeyMap). IsStep file map new) step.map_is (steps file (map_then file call) answered (map_in answered) new step becomes.step) in
    record {
      new = with_header header new;
      is = put base new becomes.is;
      step = subst (λ (map : KeyMap). IsStep file map (with_header header new)) merged.map_is (steps file (map_then file call) new (map_in new) (with_header header new) merged stamped);
      settings = settings_kept base old settled file new later is becomes.is;
      stamp_is = refl;
      before_is = stamp_kept base old settled file new later is becomes.is;
      few = few_too file new (with_header header new) (key_in file call) last.edits.items.items refl few;
      settled = λ key del. settles_too file new (with_header header new) call refl (settles key del);
    }

-- ---- the answer

pub is_change : (file : PlacedFile) (tables : List TableMap) (bytes : List ℕ) (call : Call) (stamp : ℕ) (draft : Draft) (reply : Reply) (changes : Bool) (changed : Changed) → IsLegalPlacedFile file tables bytes → IsAnswered bytes file call stamp draft reply changes
    → changed.reply ≡ reply → (changes ≡ true → changed.edits.items ≡ draft.edits.items.items) → (changes ≡ false → changed.edits.items ≡ []) → IsChange file bytes call stamp changed
is_change file tables bytes call stamp draft reply true changed legal answered same edits none =
    let left = answered.left refl in
    record {
      reply = same ∙ answered.reply_is;
      new = left.new;
      tables = left.step.tables;
      legal = record { is = subst (λ (items : List BlockEdit). IsPlacedFile left.new (with_edits items bytes)) (sym (edits refl)) left.is.is; legal = left.step.legal };
      map_is = left.step.map_is;
      settings = left.settings;
      places = left.step.places;
      stamped = inr (left.stamp_is, left.before_is);
      few = subst (AreFew file left.new (key_in file call)) (sym (edits refl)) left.few;
      settled = λ key del some. left.settled key del;
    }
is_change file tables bytes call stamp draft reply false changed legal answered same edits none = record {
  reply = same ∙ answered.reply_is;
  new = file;
  tables = tables;
  legal = record { is = subst (λ (items : List BlockEdit). IsPlacedFile file (with_edits items bytes)) (sym (none refl)) legal.is; legal = legal.legal };
  map_is = sym (answered.kept refl);
  settings = refl;
  places = (no_step file tables legal.legal).places;
  stamped = inl (none refl, answered.kept refl);
  few = record { old_leaf = answered.leaf.0; new_leaf = answered.leaf.0; old_is = answered.leaf.1; new_is = answered.leaf.1; few = omega (arith, ap length (none refl)) };
  settled = λ key del some. absurd (some (none refl));
}
