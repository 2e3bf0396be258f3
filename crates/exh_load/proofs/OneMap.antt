-- What lines leave in the wards of a file, and the one map that these are together.
use Rattle.std.proofs.Common.{◌≡◌, ℕ, zero, suc, ◌≤◌, ◌^◌, List, [], ◌∷◌, ◌++◌, length, slice_get, Some, None, Result, Ok, Err, codes, refl, ap, ◌∙◌, nat_cmp}
use Rattle.std.specs.Prelude.{replicate}
use Rattle.std.specs.FinMap as fin
use Rattle.std.specs.Cmp.Lexicographic.{slice_cmp}
use Rattle.exh_prefix.specs.declared.prefix.TheConstants.{WARD_BITS_LIMIT}
use Rattle.exh_keyer.specs.declared.any_keyer.AnyKeyer.{AnyKeyer}
use Rattle.exh_keyer.specs.Pseudokey.{any_pseudokey}
use Rattle.exh_page.specs.KeyMap.{KeyMap}
use Rattle.exh_text.specs.LineFault.{line_fault_number}
use Rattle.exh_text.specs.Printing.{refused_text}
use Rattle.exh_text.specs.declared.line_fault.LineFault.{LineFault}
use Rattle.exh_calls.specs.MapMachine.{map_after}
use Rattle.exh_calls.specs.declared.call.Call.TheVariants.{Put}
use Rattle.exh_file.specs.FileChange.{AreParts}
use Rattle.exh_file.specs.OneMapLemmas.{one_reply, parts_left}
use Rattle.exh_load.specs.Loading.{Loading, after_pair_line, after_read_pair, line_text, load_text_from, loaded_from, pair_told, parsed_text, put_text}
use Rattle.exh_load.specs.OneMap.{LoadsAreOneMaps, NewMapsAreNone, pair_in, pairs_of, puts_left, text_by_one, told_by_one}

module _ (cap ward_bits : ℕ) (keyer : AnyKeyer) (few : ward_bits ≤ WARD_BITS_LIMIT) where
  abbrev pseudo : List ℕ → ℕ
  pseudo = any_pseudokey keyer

  -- ---- lines

  abbrev with_maps : List KeyMap → Loading
  with_maps maps = record { cap = cap; ward_bits = ward_bits; keyer = keyer; maps = maps }

  -- what is left of lines are the parts of what the one map is left of them, and the text is what it answers
  record GoOn (lines : List (List ℕ)) (maps : List KeyMap) (whole : KeyMap) : Type 0 where
    maps_left : AreParts ward_bits pseudo (puts_left cap pseudo whole (pairs_of lines)) (loaded_from (with_maps maps) lines).maps
    text : load_text_from (with_maps maps) lines ≡ text_by_one cap pseudo whole lines

  -- a line, as it is read, and then others
  record GoOnAfter (read : Result (List ℕ × List ℕ) LineFault) (lines : List (List ℕ)) (maps : List KeyMap) (whole : KeyMap) : Type 0 where
    maps_left : AreParts ward_bits pseudo (puts_left cap pseudo whole (pair_in read ++ pairs_of lines)) (loaded_from (after_read_pair (with_maps maps) read) lines).maps
    text : parsed_text (with_maps maps) read ++ load_text_from (after_read_pair (with_maps maps) read) lines
        ≡ told_by_one cap pseudo whole read ++ text_by_one cap pseudo (puts_left cap pseudo whole (pair_in read)) lines

  after_read : (read : Result (List ℕ × List ℕ) LineFault) (lines : List (List ℕ)) (maps : List KeyMap) (whole : KeyMap) → ((maps : List KeyMap) (whole : KeyMap) → AreParts ward_bits pseudo whole maps → GoOn lines maps whole)
      → AreParts ward_bits pseudo whole maps → GoOnAfter read lines maps whole
  after_read (Ok pair) lines maps whole next parts =
      let rest = next (after_read_pair (with_maps maps) (Ok pair)).maps (map_after cap pseudo whole (Put pair.0 pair.1)) (parts_left cap ward_bits keyer few maps whole parts (Put pair.0 pair.1)) in
      record {
        maps_left = rest.maps_left;
        text = ap (λ (text : List ℕ). text ++ load_text_from (after_read_pair (with_maps maps) (Ok pair)) lines) (ap (put_text pair.0) (one_reply cap ward_bits keyer few maps whole parts (Put pair.0 pair.1)))
            ∙ ap (λ (text : List ℕ). told_by_one cap pseudo whole (Ok pair) ++ text) rest.text;
      }
  after_read (Err fault) lines maps whole next parts =
      let rest = next maps whole parts in
      record { maps_left = rest.maps_left; text = ap (λ (text : List ℕ). (refused_text (line_fault_number fault) ++ codes "\n") ++ text) rest.text }

  go_on : (lines : List (List ℕ)) (maps : List KeyMap) (whole : KeyMap) → AreParts ward_bits pseudo whole maps → GoOn lines maps whole
  unfolding after_pair_line line_text
  go_on [] maps whole parts = record { maps_left = parts; text = refl }
  go_on (line ∷ lines) maps whole parts =
      let after = after_read (pair_told line) lines maps whole (go_on lines) parts in
      record { maps_left = after.maps_left; text = after.text }

pub one_maps : LoadsAreOneMaps
one_maps first whole lines few parts =
    let all = go_on first.cap first.ward_bits first.keyer few lines first.maps whole parts in
    record { maps = all.maps_left; text = all.text }

-- ---- a new file

length_of_copies : {A : Type 0} (count : ℕ) (x : A) → length (replicate count x) ≡ count
length_of_copies zero x = refl
length_of_copies (suc count) x = ap suc (length_of_copies count x)

one_of_copies : {A : Type 0} (count number : ℕ) (x y : A) → slice_get (replicate count x) number ≡ Some y → y ≡ x
one_of_copies zero number x y is = cc
one_of_copies (suc count) zero x y is = cc
one_of_copies (suc count) (suc number) x y is = one_of_copies count number x y is

none_left : (own : KeyMap) (key : List ℕ) → own ≡ fin.empty → fin.get own key ≡ None
none_left own key is = ap (λ (m : KeyMap). fin.get m key) is ∙ fin.get-empty (slice_cmp nat_cmp) key

pub no_parts : NewMapsAreNone
no_parts cap ward_bits keyer = record {
  count = length_of_copies (2 ^ ward_bits) fin.empty;
  each = λ number own there.
      let is : own ≡ fin.empty = one_of_copies (2 ^ ward_bits) number fin.empty own there in
      record { own_keys = λ key here. ap (λ (m : KeyMap). fin.get m key) is; no_others = λ key else. none_left own key is };
}
