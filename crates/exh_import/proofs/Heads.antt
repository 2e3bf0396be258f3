-- What stands before the pairs of a text of comma-separated fields.
use Rattle.std.proofs.Common.{◌≡◌, ◌≢◌, ℕ, true, false, List, [], ◌∷◌, ◌++◌, length, Option, Some, None, IfSome, Result, Ok, Err, IfErr, inl, inr, refl, sym, ap, ◌∙◌, subst, append_assoc, append-nil, length-append, arith}
use Rattle.std.specs.Io.KnownBytes.{Consumes, IsAtEnd, Keeps}
use Rattle.std.proofs.KnownBytes.{Consumes-kept, Consumes-nil, Consumes-trans}
use Rattle.exh_text.specs.TextLines.{newline}
use Rattle.exh_pair_text.specs.Records.{IsEnded, IsOneLine}
use Rattle.exh_pair_text.specs.declared.pair_format.PairFormat.TheVariants.{Csv}
use Rattle.exh_import.specs.declared.heading.Heading.{Heading}
use Rattle.exh_import.specs.declared.import_fault.ImportFault.{ImportFault}
use Rattle.exh_import.specs.declared.import_fault.ImportFault.TheVariants.{Endless, Header, LongLine, Memory, OtherFormat, Read, Refused}
use Rattle.exh_import.specs.declared.line_reader.LineReader.{LineReader}
use Rattle.exh_import.specs.Causes.{IsLineCause, IsReadCause}
use Rattle.exh_import.specs.Header.{IsBehind, IsBehindCause, IsHeadCause, IsHeaded, IsHeadingCause, IsLineRead, IsLongCause, IsOpeningCause, StandBefore, opens}
use Rattle.exh_import.specs.Imports.{IsTextOf}
use Rattle.exh_import.specs.LineReader.{EndsRight, IsOver, TakesNext, text_left}
use Rattle.exh_import.proofs.Texts.{over_end}

pub if_err_map : {T E : Type 0} (result : Result T E) (P Q : E → Type 0) → IfErr result P → ((fault : E) → P fault → Q fault) → IfErr result Q
if_err_map (Ok made) P Q holds more = tt
if_err_map (Err fault) P Q holds more = more fault holds

-- ---- lines before others

no_bytes : (line rest : List ℕ) → [] ≡ line ++ newline ∷ rest → ⊥
no_bytes line rest is = omega (arith, ap length is, length-append line (newline ∷ rest))

no_lines : (lines : List (List ℕ)) → IsTextOf Csv lines [] → lines ≡ []
no_lines [] is = refl
no_lines (line ∷ lines) (one, inl (rest, ended, is, more)) = absurd (no_bytes line rest is)
no_lines (line ∷ lines) (one, inr (is, some, none)) = absurd (some (sym is))

whole_stands : (known left : Option (List ℕ)) (line : List ℕ) → IsOneLine Csv line → IsEnded Csv line → Consumes known left (line ++ newline ∷ []) → StandBefore (line ∷ []) known left
whole_stands None left line one ended given lines text_is = tt
whole_stands (Some text) None line one ended given lines text_is = absurd given
whole_stands (Some text) (Some rest) line one ended given lines text_is = (one, inl (rest, ended, given ∙ append_assoc line (newline ∷ []) rest, text_is))

last_stands : (known left : Option (List ℕ)) (line : List ℕ) → IsOneLine Csv line → line ≢ [] → IsAtEnd left → Consumes known left line → StandBefore (line ∷ []) known left
last_stands None left line one some end given lines text_is = tt
last_stands (Some text) None line one some end given lines text_is = absurd given
last_stands (Some text) (Some rest) line one some end given lines text_is =
    (one, inr (given ∙ ap (λ (more : List ℕ). line ++ more) end ∙ append-nil line, some, no_lines lines (subst (IsTextOf Csv lines) end text_is)))

none_stands : (known left : Option (List ℕ)) → Consumes known left [] → StandBefore [] known left
none_stands None left given lines text_is = tt
none_stands (Some text) None given lines text_is = absurd given
none_stands (Some text) (Some rest) given lines text_is = subst (IsTextOf Csv lines) (sym given) text_is

pub stand_then : (front more : List (List ℕ)) (known middle left : Option (List ℕ)) → StandBefore front known middle → StandBefore more middle left → StandBefore (front ++ more) known left
stand_then front more known middle left first second lines text_is =
    subst (λ (all : List (List ℕ)). IfSome known (IsTextOf Csv all)) (sym (append_assoc front more lines)) (first (more ++ lines) (second lines text_is))

kept : (known left : Option (List ℕ)) → Keeps known left → Consumes known left []
kept known left same = Consumes-kept known known left [] (Consumes-nil known) same

-- ---- one line

module _ {R : Type 0} (remaining : R → Option (List ℕ)) where
  -- none is left
  pub none_read : (old new : LineReader R) → Keeps (text_left remaining old) (text_left remaining new) → EndsRight remaining new → IsOver new → (line : List ℕ) → IsLineRead line (text_left remaining old) (text_left remaining new) false
  none_read old new same ends over line = (over_end remaining new ends over, none_stands (text_left remaining old) (text_left remaining new) (kept (text_left remaining old) (text_left remaining new) same))

  next_stands : (old new : LineReader R) → TakesNext Csv remaining old new → EndsRight remaining new → StandBefore (new.line.items ∷ []) (text_left remaining old) (text_left remaining new)
  next_stands old new (one, inl (ended, given)) ends = whole_stands (text_left remaining old) (text_left remaining new) new.line.items one ended given
  next_stands old new (one, inr (given, some, over)) ends = last_stands (text_left remaining old) (text_left remaining new) new.line.items one some (over_end remaining new ends over) given

  pub one_read : (old middle new : LineReader R) → Keeps (text_left remaining old) (text_left remaining middle) → TakesNext Csv remaining middle new → EndsRight remaining new
      → IsLineRead new.line.items (text_left remaining old) (text_left remaining new) true
  one_read old middle new same next ends =
      stand_then [] (new.line.items ∷ []) (text_left remaining old) (text_left remaining middle) (text_left remaining new)
      (none_stands (text_left remaining old) (text_left remaining middle) (kept (text_left remaining old) (text_left remaining middle) same)) (next_stands middle new next ends)

  pub read_cause : (number : ℕ) (known left : Option (List ℕ)) (lines : LineReader R) (fault : ImportFault) → IsReadCause lines fault → IsLongCause number known left lines fault
  read_cause number known left lines Memory cause = tt
  read_cause number known left lines Read cause = cause
  read_cause number known left lines Refused cause = absurd cause
  read_cause number known left lines (LongLine told) cause = absurd cause
  read_cause number known left lines (OtherFormat found) cause = absurd cause
  read_cause number known left lines (Header wrong) cause = absurd cause
  read_cause number known left lines Endless cause = absurd cause

  pub line_cause : (number : ℕ) (old middle new : LineReader R) (fault : ImportFault) → Keeps (text_left remaining old) (text_left remaining middle) → IsLineCause Csv remaining number middle new fault
      → IsLongCause number (text_left remaining old) (text_left remaining new) new fault
  line_cause number old middle new Memory same cause = tt
  line_cause number old middle new Read same cause = cause
  line_cause number old middle new Refused same cause = absurd cause
  line_cause number old middle new (LongLine told) same (is, (long, given)) =
      (is, (new.line.items, (long, Consumes-trans (text_left remaining old) (text_left remaining middle) (text_left remaining new) [] new.line.items (kept (text_left remaining old) (text_left remaining middle) same) given)))
  line_cause number old middle new (OtherFormat found) same cause = absurd cause
  line_cause number old middle new (Header wrong) same cause = absurd cause
  line_cause number old middle new Endless same cause = absurd cause

-- ---- the header behind an opening

module _ {R : Type 0} (names : Option (List ℕ × List ℕ)) (known left : Option (List ℕ)) (lines : LineReader R) where
  pub long_behind : (fault : ImportFault) → IsLongCause 2 known left lines fault → IsBehindCause names known left lines fault
  long_behind Memory cause = tt
  long_behind Read cause = cause
  long_behind Refused cause = absurd cause
  long_behind (LongLine told) cause = cause
  long_behind (OtherFormat found) cause = absurd cause
  long_behind (Header wrong) cause = absurd cause
  long_behind Endless cause = absurd cause

  pub wrong_behind : (line : List ℕ) (fault : ImportFault) → StandBefore (line ∷ []) known left → IsHeadCause names line fault → IsBehindCause names known left lines fault
  wrong_behind line Memory stands cause = tt
  wrong_behind line Read stands cause = absurd cause
  wrong_behind line Refused stands cause = absurd cause
  wrong_behind line (LongLine told) stands cause = absurd cause
  wrong_behind line (OtherFormat found) stands cause = absurd cause
  wrong_behind line (Header wrong) stands cause = (line, (cause, stands))
  wrong_behind line Endless stands cause = absurd cause

  -- ---- a heading

  pub long_first : (fault : ImportFault) → IsLongCause 1 known left lines fault → IsHeadingCause names known left lines fault
  long_first Memory cause = tt
  long_first Read cause = cause
  long_first Refused cause = absurd cause
  long_first (LongLine told) (is, (long, (is_long, given))) = record {
    front = [];
    number_is = is;
    middle = known;
    stands = λ lines text_is. text_is;
    long = long;
    is_long = is_long;
    given = given;
  }
  long_first (OtherFormat found) cause = absurd cause
  long_first (Header wrong) cause = absurd cause
  long_first Endless cause = absurd cause

  pub other_first : (line : List ℕ) (fault : ImportFault) → StandBefore (line ∷ []) known left → IsOpeningCause line fault → IsHeadingCause names known left lines fault
  other_first line Memory stands cause = tt
  other_first line Read stands cause = absurd cause
  other_first line Refused stands cause = absurd cause
  other_first line (LongLine told) stands cause = absurd cause
  other_first line (OtherFormat found) stands (other, opening) = (other, record { line = line; opening = opening; stands = stands })
  other_first line (Header wrong) stands cause = absurd cause
  other_first line Endless stands cause = absurd cause

  pub wrong_first : (line : List ℕ) (fault : ImportFault) → StandBefore (line ∷ []) known left → opens line ≡ None → IsHeadCause names line fault → IsHeadingCause names known left lines fault
  wrong_first line Memory stands none cause = tt
  wrong_first line Read stands none cause = absurd cause
  wrong_first line Refused stands none cause = absurd cause
  wrong_first line (LongLine told) stands none cause = absurd cause
  wrong_first line (OtherFormat found) stands none cause = absurd cause
  wrong_first line (Header wrong) stands none cause = record { front = []; header = line; before = none; columns_are = cause; stands = stands }
  wrong_first line Endless stands none cause = absurd cause

  -- behind an opening
  pub wrong_then : (line : List ℕ) (middle : Option (List ℕ)) (fault : ImportFault) → StandBefore (line ∷ []) known middle → opens line ≡ Some Csv → IsBehindCause names middle left lines fault → IsHeadingCause names known left lines fault
  wrong_then line middle Memory stands opening cause = tt
  wrong_then line middle Read stands opening cause = cause
  wrong_then line middle Refused stands opening cause = absurd cause
  wrong_then line middle (LongLine told) stands opening (is, (long, (is_long, given))) = record {
    front = line ∷ [];
    number_is = is;
    middle = middle;
    stands = stands;
    long = long;
    is_long = is_long;
    given = given;
  }
  wrong_then line middle (OtherFormat found) stands opening cause = absurd cause
  wrong_then line middle (Header wrong) stands opening (header, (is, more)) = record {
    front = line ∷ [];
    header = header;
    before = opening;
    columns_are = is;
    stands = stand_then (line ∷ []) (header ∷ []) known middle left stands more;
  }
  wrong_then line middle Endless stands opening cause = absurd cause

  -- what was taken behind an opening, and the opening
  pub headed_then : (line : List ℕ) (front : List (List ℕ)) (heading : Heading) → opens line ≡ Some Csv → IsBehind names left front heading → IsHeaded names left (line ∷ front) heading
  headed_then line [] heading opening behind = inr (opening, behind)
  headed_then line (header ∷ []) heading opening behind = (opening, behind)
  headed_then line (header ∷ next ∷ more) heading opening behind = absurd behind
