-- Words that are parted one by one.
use Rattle.std.proofs.Common.{◌≡◌, ◌∙◌, ℕ, ◌+◌, ◌-◌, List, [], ◌∷◌, ◌++◌, length, take, drop, Some, None, refl, ap, ap₂, sym, append_assoc, append-nil}
use Rattle.std.specs.Prelude.{◌==◌, position}
use Rattle.std.proofs.lemmas.List.{take_rest}
use Rattle.exh_request.specs.declared.everyday_command.EverydayCommand.{EverydayCommand}
use Rattle.exh_request.specs.declared.line.Reading.{Reading}
use Rattle.exh_request.specs.declared.line.Reading.TheVariants.{Between}
use Rattle.exh_request.specs.Line.{LineText, MetWord, Nothing, Parted, Place, Uses, after_word, line_asked, line_by, parted, split_at_equals, split_by, with_last, with_met}

-- words that were parted, and those behind them
abbrev pub joined : LineText → Parted → Parted
joined line behind = record { places = line.places ++ behind.places; uses = line.uses ++ behind.uses; reading = behind.reading }

pub joined-with_last : (met : MetWord) (line : LineText) (behind : Parted) → joined (with_last met line) behind ≡ joined line (with_met met behind)
joined-with_last Nothing line behind = refl
joined-with_last (Place one) line behind = ap (λ places. record { places = places; uses = line.uses ++ behind.uses; reading = behind.reading }) (append_assoc line.places (one ∷ []) behind.places)
joined-with_last (Uses one) line behind = ap (λ uses. record { places = line.places ++ behind.places; uses = uses; reading = behind.reading }) (append_assoc line.uses (one ∷ []) behind.uses)

-- the words are read so far, and the rest goes on from there
pub record IsReadTo (command : EverydayCommand) (words rest : List (List ℕ)) (reading from : Reading) (line : LineText) : Type 0 where
  pub same : parted command from words ≡ joined line (parted command reading rest)

-- what a word is before its first `=`, and behind it
pub split_some : (word : List ℕ) (at : ℕ) → position (λ byte. byte == 61) word ≡ Some at → (take at word, Some (take (length word - (at + 1)) (drop (at + 1) word))) ≡ split_at_equals word
split_some word at found = rw (take_rest word (at + 1)) (sym (ap (split_by word) found))

pub split_none : (word : List ℕ) → position (λ byte. byte == 61) word ≡ None → (word, None) ≡ split_at_equals word
split_none word found = sym (ap (split_by word) found)

-- one word more
pub read_step : (command : EverydayCommand) (words rest more : List (List ℕ)) (word : List ℕ) (reading next from : Reading) (met : MetWord) (line new : LineText)
    → IsReadTo command words rest reading from line → rest ≡ word ∷ more → (next, met) ≡ after_word command reading word → new ≡ with_last met line → IsReadTo command words more next from new
read_step command words rest more word reading next from met line new is split after added = record {
  same = is.same ∙ ap (λ rest. joined line (parted command reading rest)) split
      ∙ ap (λ (a : Reading × MetWord). joined line (with_met a.1 (parted command a.0 more))) (sym after)
      ∙ sym (joined-with_last met line (parted command next more)) ∙ ap (λ line. joined line (parted command next more)) (sym added);
}

-- all words
pub read_whole : (command : EverydayCommand) (words : List (List ℕ)) (reading : Reading) (line : LineText) → IsReadTo command words [] reading Between line
    → line_asked command words ≡ line_by (record { places = line.places; uses = line.uses; reading = reading }) reading
read_whole command words reading line is =
    let whole : parted command Between words ≡ record { places = line.places; uses = line.uses; reading = reading } =
    is.same ∙ ap₂ (λ places uses. record { places = places; uses = uses; reading = reading }) (append-nil line.places) (append-nil line.uses) in
    ap (λ (parts : Parted). line_by parts parts.reading) whole
