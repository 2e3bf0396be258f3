-- What lines leave of the wards' journals: each has the entries of its own calls more.
use Rattle.std.proofs.Common.{◌≡◌, ℕ, List, [], ◌∷◌, ◌++◌, slice_get, Some, Result, Ok, Err, sym, ap, ◌∙◌, append_assoc}
use Rattle.std.specs.Prelude.{filter}
use Rattle.std.proofs.lemmas.List.{append-nil}
use Rattle.std.proofs.lemmas.List.Elements.{filter-append}
use Rattle.exh_keyer.specs.declared.any_keyer.AnyKeyer.{AnyKeyer}
use Rattle.exh_text.specs.declared.line_fault.LineFault.{LineFault}
use Rattle.exh_ward.specs.WardState.{WardState}
use Rattle.exh_calls.specs.declared.journal_entry.JournalEntry.{JournalEntry}
use Rattle.exh_line.specs.Grammar.{line_of}
use Rattle.exh_script.specs.Replies.{world_left}
use Rattle.exh_script.specs.Text.{ScriptWorld, after_parsed, after_line}
use Rattle.exh_line.specs.declared.line.Line.{Line}
use Rattle.exh_line.specs.declared.line.Line.TheVariants.{Step, View}
use Rattle.exh_script.proofs.KeptWorlds.{WorldLaws, IsServedWorld, step_left, line_kept}
use Rattle.exh_script.proofs.LineMoments.{parsed_entries, entries_from}
use Rattle.exh_script.proofs.WardSteps.{is_in_ward}

module _ (laws : WorldLaws) (ward_bits : ℕ) (keyer : AnyKeyer) (number : ℕ) where
  abbrev own : List JournalEntry → List JournalEntry
  own entries = filter (is_in_ward ward_bits keyer number) entries

  -- the ward of the number, with what its journal had before the entries
  pub record HasMore (world : ScriptWorld) (entries : List JournalEntry) (ward : WardState AnyKeyer) : Type 0 where
    pub before : WardState AnyKeyer
    pub there : slice_get world.wards number ≡ Some before
    pub journal : ward.journal ≡ before.journal ++ own entries

  has_none : (world : ScriptWorld) (ward : WardState AnyKeyer) → slice_get world.wards number ≡ Some ward → HasMore world [] ward
  has_none world ward there = record { before = ward; there = there; journal = sym (append-nil ward.journal) }

  parsed_more : (world : ScriptWorld) → IsServedWorld ward_bits keyer world → (parsed : Result Line LineFault) (ward : WardState AnyKeyer) → slice_get (after_parsed world parsed).wards number ≡ Some ward → HasMore world (parsed_entries world parsed) ward
  parsed_more world is (Ok (Step event)) ward there =
      let left = (step_left laws ward_bits keyer world is event).wards number ward there in
      let entries = parsed_entries world (Ok (Step event)) in
      record {
        before = left.before;
        there = left.there;
        journal = left.journal ∙ ap (λ bits. left.before.journal ++ filter (is_in_ward bits world.keyer number) entries) is.bits_are
            ∙ ap (λ k. left.before.journal ++ filter (is_in_ward ward_bits k number) entries) is.keyer_is;
      }
  parsed_more world is (Ok (View view)) ward there = has_none world ward there
  parsed_more world is (Err fault) ward there = has_none world ward there

  line_more : (world : ScriptWorld) → IsServedWorld ward_bits keyer world → (line : List ℕ) (ward : WardState AnyKeyer) → slice_get (after_line world line).wards number ≡ Some ward → HasMore world (parsed_entries world (line_of line)) ward
  unfolding after_line
  line_more world is line = parsed_more world is (line_of line)

  pub lines_more : (world : ScriptWorld) → IsServedWorld ward_bits keyer world → (lines : List (List ℕ)) (ward : WardState AnyKeyer) → slice_get (world_left world lines).wards number ≡ Some ward → HasMore world (entries_from world lines) ward
  lines_more world is [] ward there = has_none world ward there
  lines_more world is (line ∷ lines) ward there =
      let later = lines_more (after_line world line) (line_kept laws ward_bits keyer world is line) lines ward there in
      let here = line_more world is line later.before later.there in
      let entries = parsed_entries world (line_of line) in
      let rest = entries_from (after_line world line) lines in
      record {
        before = here.before;
        there = here.there;
        journal = later.journal ∙ ap (λ journal. journal ++ own rest) here.journal ∙ append_assoc here.before.journal (own entries) (own rest)
            ∙ ap (λ more. here.before.journal ++ more) (sym (filter-append (is_in_ward ward_bits keyer number) entries rest));
      }
