-- Calls one after the other over the map machine, and the bytes after edits.
use Rattle.std.proofs.Common.{◌≡◌, ℕ, ◌+◌, ◌*◌, ◌≤◌, ◌<◌, List, [], ◌∷◌, ◌++◌, length, take, drop, get_or, Option, Some, refl, sym, ap, ◌∙◌, subst, arith}
use Rattle.std.specs.List.{AllByRecursion}
use Rattle.std.specs.Option.{option_map}
use Rattle.std.proofs.lemmas.List.{length-map, length-take, take-append-drop, take-take, take_all, take_more}
use Rattle.exh_keyer.specs.Pseudokey.{any_pseudokey}
use Rattle.exh_prefix.specs.PrefixListLemmas.{AllByRecursion-append, AllByRecursion-append_left, AllByRecursion-append_right}
use Rattle.exh_table.specs.Table.{TableMap}
use Rattle.exh_page.specs.KeyMap.{KeyMap}
use Rattle.exh_page.specs.Page.{low_bound}
use Rattle.exh_calls.specs.declared.call.Call.{Call}
use Rattle.exh_calls.specs.declared.reply.Reply.{Reply}
use Rattle.exh_calls.specs.MapMachine.{map_after, reply_of}
use Rattle.exh_format.specs.Reading.{AreBytes, IsBlock}
use Rattle.exh_cells.specs.LegalPlaced.{IsLegalPlacedFile}
use Rattle.exh_cells.specs.PlacedFile.{PlacedFile, lows_of}
use Rattle.exh_edits.specs.declared.block_edit.BlockEdit.{BlockEdit}
use Rattle.exh_edits.specs.BlockEdits.{with_block, with_edits}
use Rattle.exh_change.specs.PlacedLaws.{map_in}
use Rattle.exh_change.specs.declared.changed.Changed.{Changed}
use Rattle.exh_change.specs.ChangeLaws.{IsChange, map_then, reply_in}
use Rattle.exh_change.specs.Batch.{map_after_all, map_then_all, replies_in, replies_of}
use Rattle.exh_change.specs.Steps.{IsReached}

-- ---- the machine

maps_push : (cap : ℕ) (pseudo : List ℕ → ℕ) (m : KeyMap) (calls : List Call) (call : Call) → map_after_all cap pseudo m (calls ++ call ∷ []) ≡ map_after cap pseudo (map_after_all cap pseudo m calls) call
maps_push cap pseudo m [] call = refl
maps_push cap pseudo m (first ∷ calls) call = maps_push cap pseudo (map_after cap pseudo m first) calls call

replies_push : (cap : ℕ) (pseudo : List ℕ → ℕ) (m : KeyMap) (calls : List Call) (call : Call) → replies_of cap pseudo m (calls ++ call ∷ []) ≡ replies_of cap pseudo m calls ++ reply_of cap pseudo (map_after_all cap pseudo m calls) call ∷ []
replies_push cap pseudo m [] call = refl
replies_push cap pseudo m (first ∷ calls) call = ap (λ (replies : List Reply). reply_of cap pseudo m first ∷ replies) (replies_push cap pseudo (map_after cap pseudo m first) calls call)

-- a call more is taken
pub one_taken : (calls : List Call) (index : ℕ) (call : Call) → index < length calls → call ≡ get_or calls index call → take (index + 1) calls ≡ take index calls ++ call ∷ []
one_taken calls index call less is = take_more calls index call less ∙ ap (λ (call : Call). take index calls ++ call ∷ []) (sym is)

-- ---- bytes

block_bytes : (place : ℕ) (block bytes : List ℕ) → AreBytes block → AreBytes bytes → AreBytes (with_block place block bytes)
block_bytes place block bytes block_small small =
    let Small : ℕ → Type 0 = λ (byte : ℕ). byte < 256 in
    let front : AreBytes (take (4096 * place) bytes) = AllByRecursion-append_left Small (take (4096 * place) bytes) (drop (4096 * place) bytes) (subst AreBytes (sym (take-append-drop (4096 * place) bytes)) small) in
    let behind : AreBytes (drop (4096 * (place + 1)) bytes) = AllByRecursion-append_right Small (take (4096 * (place + 1)) bytes) (drop (4096 * (place + 1)) bytes) (subst AreBytes (sym (take-append-drop (4096 * (place + 1)) bytes)) small) in
    AllByRecursion-append Small (take (4096 * place) bytes) (block ++ drop (4096 * (place + 1)) bytes) front (AllByRecursion-append Small block (drop (4096 * (place + 1)) bytes) block_small behind)

pub bytes_edited : (edits : List BlockEdit) (bytes : List ℕ) → AllByRecursion (λ edit. IsBlock edit.block) edits → AreBytes bytes → AreBytes (with_edits edits bytes)
bytes_edited [] bytes blocks small = small
bytes_edited (edit ∷ edits) bytes blocks small = bytes_edited edits (with_block edit.place edit.block bytes) blocks.1 (block_bytes edit.place edit.block bytes blocks.0.1 small)

-- ---- pages

-- each page keeps its place, and again
pub places_more : (file mid new : PlacedFile) → take (length file.pages) (lows_of mid.pages) ≡ lows_of file.pages → take (length mid.pages) (lows_of new.pages) ≡ lows_of mid.pages → take (length file.pages) (lows_of new.pages) ≡ lows_of file.pages
places_more file mid new first second =
    let count : length (take (length file.pages) (lows_of mid.pages)) ≡ length (lows_of file.pages) = ap length first in
    let few : length file.pages ≤ length mid.pages = omega (arith, count, length-take (length file.pages) (lows_of mid.pages), length-map file.pages low_bound, length-map mid.pages low_bound) in
    sym (take-take (length file.pages) (length mid.pages) (lows_of new.pages) few) ∙ ap (take (length file.pages)) second ∙ first

-- ---- one call more

-- a file came of itself
pub reached_first : (file : PlacedFile) (tables : List TableMap) (bytes : List ℕ) (known : Option (List ℕ)) → known ≡ Some bytes → AreBytes bytes → IsLegalPlacedFile file tables bytes → IsReached file (map_in file) known
reached_first file tables bytes known knows small legal = record {
  bytes = bytes;
  is = knows;
  are_bytes = small;
  new = file;
  tables = tables;
  legal = legal;
  map_is = refl;
  settings = refl;
  places = take_all (length file.pages) (lows_of file.pages) (omega (arith, length-map file.pages low_bound));
}

-- the file that a change makes
pub reached_by : (file : PlacedFile) (bytes : List ℕ) (call : Call) (stamp : ℕ) (changed : Changed) (edits : List BlockEdit) (old new : Option (List ℕ)) → IsChange file bytes call stamp changed → edits ≡ changed.edits.items → old ≡ Some bytes
    → new ≡ option_map (with_edits edits) old → AllByRecursion (λ edit. IsBlock edit.block) edits → AreBytes bytes → IsReached file (map_then file call) new
reached_by file bytes call stamp changed edits old new is same knows made blocks small = record {
  bytes = with_edits edits bytes;
  is = made ∙ ap (option_map (with_edits edits)) knows;
  are_bytes = bytes_edited edits bytes blocks small;
  new = is.new;
  tables = is.tables;
  legal = subst (λ (edits : List BlockEdit). IsLegalPlacedFile is.new is.tables (with_edits edits bytes)) (sym same) is.legal;
  map_is = is.map_is;
  settings = is.settings;
  places = is.places;
}

module _ (file : PlacedFile) (calls : List Call) (call : Call) (known : Option (List ℕ)) (reached : IsReached file (map_then_all file calls) known) where
  abbrev mid : PlacedFile
  mid = reached.new

  abbrev pseudo : List ℕ → ℕ
  pseudo = any_pseudokey file.header.settings.keyer

  next_map : map_then mid call ≡ map_then_all file (calls ++ call ∷ [])
  next_map =
      ap (λ (settings : _). map_after settings.cap (any_pseudokey settings.keyer) (map_in mid) call) reached.settings
      ∙ ap (λ (m : KeyMap). map_after file.header.settings.cap pseudo m call) reached.map_is
      ∙ sym (maps_push file.header.settings.cap pseudo (map_in file) calls call)

  next_reply : reply_in mid call ≡ reply_of file.header.settings.cap pseudo (map_then_all file calls) call
  next_reply =
      ap (λ (settings : _). reply_of settings.cap (any_pseudokey settings.keyer) (map_in mid) call) reached.settings
      ∙ ap (λ (m : KeyMap). reply_of file.header.settings.cap pseudo m call) reached.map_is

  -- the replies with the next one
  pub replies_more : (replies : List Reply) (reply : Reply) → replies ≡ replies_in file calls → reply ≡ reply_in mid call → replies ++ reply ∷ [] ≡ replies_in file (calls ++ call ∷ [])
  replies_more replies reply are is =
      ap (λ (replies : List Reply). replies ++ reply ∷ []) are
      ∙ ap (λ (reply : Reply). replies_in file calls ++ reply ∷ []) (is ∙ next_reply)
      ∙ sym (replies_push file.header.settings.cap pseudo (map_in file) calls call)

  -- the file after it
  pub reached_more : (next : Option (List ℕ)) → IsReached mid (map_then mid call) next → IsReached file (map_then_all file (calls ++ call ∷ [])) next
  reached_more next after = record {
    bytes = after.bytes;
    is = after.is;
    are_bytes = after.are_bytes;
    new = after.new;
    tables = after.tables;
    legal = after.legal;
    map_is = after.map_is ∙ next_map;
    settings = after.settings ∙ reached.settings;
    places = places_more file mid after.new reached.places after.places;
  }
