-- Why an import ends before its text's end.
use Rattle.std.proofs.Common.{◌≡◌, ◌⊎◌, ◌≤◌, ◌+◌, ◌-◌, ◌^◌, ℕ, Bool, true, false, List, [], ◌∷◌, ◌++◌, length, min, Option, Some, None, IfSome, Result, Ok, Err, IfErr, inl, inr, refl, sym, ap, ◌∙◌, subst, arith}
use Rattle.std.specs.Prelude.{IsErrAnd}
use Rattle.std.specs.Io.KnownBytes.{Consumes, IsAtEnd}
use Rattle.std.proofs.KnownBytes.{Consumes-trans, Consumes-whole}
use Rattle.exh_pair_text.specs.Records.{IsOneLine}
use Rattle.exh_pair_text.specs.declared.pair_format.PairFormat.{PairFormat}
use Rattle.exh_import.specs.declared.import_fault.ImportFault.{ImportFault}
use Rattle.exh_import.specs.declared.import_fault.ImportFault.TheVariants.{Endless, Header, LongLine, Memory, OtherFormat, Read, Refused}
use Rattle.exh_import.specs.declared.imported_store.Added.{Added}
use Rattle.exh_import.specs.declared.line_reader.LineReader.{LineReader}
use Rattle.exh_import.specs.declared.options.ImportOptions.{ImportOptions}
use Rattle.exh_import.specs.declared.rejection.Rejection.{Rejection}
use Rattle.exh_import.specs.Causes.{HasLines, HasLongLine, IsCause, IsLineCause, IsLong, IsNextCause, IsReadCause, IsStoreCause, OpensWith, whole_line, whole_lines}
use Rattle.exh_import.specs.Counting.{first_opening, lines_begun, more, starts}
use Rattle.exh_import.specs.Imports.{Point}
use Rattle.exh_import.specs.LineReader.{AreTaken, IsLineTaken, text_left}
use Rattle.exh_import.specs.Pairs.{read_of}
use Rattle.exh_import.proofs.Puts.{Counts, lines_count}
use Rattle.exh_import.proofs.Texts.{IsAmid}

-- a fault that is handed on
pub err_as : {T : Type 0} (result : Result T ImportFault) (fault : ImportFault) (P : ImportFault → Type 0) → IsErrAnd result (λ e. e ≡ fault) → P fault → IfErr result P
err_as (Ok made) fault P is holds = tt
err_as (Err e) fault P is holds = subst P (sym is) holds

-- known bytes begin with what was taken of them
begins_with : (known left : Option (List ℕ)) (bytes : List ℕ) (P : List ℕ → Type 0) → Consumes known left bytes → ((rest text : List ℕ) → text ≡ bytes ++ rest → P text) → IfSome known P
begins_with None left bytes P taken more = tt
begins_with (Some text) None bytes P taken more = absurd taken
begins_with (Some text) (Some rest) bytes P taken more = more rest text taken

few_begun : (opened header : Bool) → lines_begun (record { is_opened = opened; has_header = header }) ≤ 2 ^ 64 - 1
few_begun true true = omega arith
few_begun true false = omega arith
few_begun false true = omega arith
few_begun false false = omega arith

none_before : (begun count lines : ℕ) → lines ≡ min (begun + count) (2 ^ 64 - 1) → lines ≡ 0 → count ≡ 0
none_before begun count lines is none = omega (arith, is, none)

next_number : (begun count lines : ℕ) → lines ≡ min (begun + count) (2 ^ 64 - 1) → more lines ≡ min (begun + count + 1) (2 ^ 64 - 1)
next_number begun count lines is = omega (arith, is)

empty_of : (lines : List (List ℕ)) → length lines ≡ 0 → lines ≡ []
empty_of [] none = refl
empty_of (line ∷ lines) none = absurd (omega (arith, none))

-- what was read first cites no store and no line
pub read_cause : {R S : Type 0} (refused : S → S → Type 0) (options : ImportOptions) (known : Option (List ℕ)) (lines : LineReader R) (store : S) (fault : ImportFault) → IsReadCause lines fault → IsCause refused options known lines store fault
read_cause refused options known lines store Memory cause = tt
read_cause refused options known lines store Read cause = cause
read_cause refused options known lines store Refused cause = absurd cause
read_cause refused options known lines store (LongLine number) cause = absurd cause
read_cause refused options known lines store (OtherFormat found) cause = absurd cause
read_cause refused options known lines store (Header wrong) cause = absurd cause
read_cause refused options known lines store Endless cause = absurd cause

-- so of a line
pub line_cause : {R : Type 0} (format : PairFormat) (remaining : R → Option (List ℕ)) (number : ℕ) (old new : LineReader R) (fault : ImportFault) → IsReadCause new fault → IsLineCause format remaining number old new fault
line_cause format remaining number old new Memory cause = tt
line_cause format remaining number old new Read cause = cause
line_cause format remaining number old new Refused cause = absurd cause
line_cause format remaining number old new (LongLine told) cause = absurd cause
line_cause format remaining number old new (OtherFormat found) cause = absurd cause
line_cause format remaining number old new (Header wrong) cause = absurd cause
line_cause format remaining number old new Endless cause = absurd cause

pub store_cause : {R S : Type 0} (refused : S → S → Type 0) (options : ImportOptions) (known : Option (List ℕ)) (lines : LineReader R) (store : S) (fault : ImportFault) → IsStoreCause refused store fault → IsCause refused options known lines store fault
store_cause refused options known lines store Memory cause = tt
store_cause refused options known lines store Read cause = absurd cause
store_cause refused options known lines store Refused cause = cause
store_cause refused options known lines store (LongLine number) cause = absurd cause
store_cause refused options known lines store (OtherFormat found) cause = absurd cause
store_cause refused options known lines store (Header wrong) cause = absurd cause
store_cause refused options known lines store Endless cause = absurd cause

module _ {S L : Type 0} (gives : S → List ℕ → List ℕ → Added → S → Type 0) (saves rests refused : S → S → Type 0) (told : L → ℕ → Rejection → List ℕ → L → Type 0) where
  module _ {R : Type 0} (remaining : R → Option (List ℕ)) (known : Option (List ℕ)) (options : ImportOptions) (store : S) (listener : L) where
    abbrev start : Point S L
    start = record { taking = starts options; store = store; listener = listener }

    abbrev Amid : LineReader R → Point S L → Type 0
    Amid lines now = IsAmid gives saves rests told options.format remaining known start lines now

    counts : (lines : LineReader R) (now : Point S L) (amid : Amid lines now) → Counts gives saves rests told (starts options) now.taking (length amid.front)
    counts lines now amid = lines_count gives saves rests told amid.front start now (few_begun options.begun.is_opened options.begun.has_header) amid.takes

    -- a line that is too long
    long_line : (old new : LineReader R) (now : Point S L) (number : ℕ) (long : List ℕ) → Amid old now → number ≡ more now.taking.imported.lines → IsLong options.format long → AreTaken remaining old new long → IfSome known (HasLongLine options.format (lines_begun options.begun) number)
    long_line old new now number long amid is is_long given =
        begins_with known (text_left remaining new) (whole_lines amid.front ++ long) (HasLongLine options.format (lines_begun options.begun) number)
        (Consumes-trans known (text_left remaining old) (text_left remaining new) (whole_lines amid.front) long amid.given given) (λ rest text text_is. record {
          front = amid.front;
          lines = amid.one;
          number_is = is ∙ next_number (lines_begun options.begun) (length amid.front) now.taking.imported.lines (counts old now amid).lines;
          long = long;
          rest = rest;
          is_long = is_long;
          text_is = text_is;
        })

    -- an opening of another format
    opens : (old new : LineReader R) (now : Point S L) (found : PairFormat) (line : List ℕ) → Amid old now → IsOneLine options.format line → IsLineTaken options.format remaining old new line ⊎ (AreTaken remaining old new line × IsAtEnd (text_left remaining new))
        → now.taking.imported.lines ≡ 0 → first_opening true (read_of now.taking.options line) ≡ Some found → IfSome known (OpensWith options found)
    opens old new now found line amid one given none opening =
        let count = counts old now amid in
        let front : amid.front ≡ [] = empty_of amid.front (none_before (lines_begun options.begun) (length amid.front) now.taking.imported.lines count.lines none) in
        let before = subst (λ (lines : List (List ℕ)). Consumes known (text_left remaining old) (whole_lines lines)) front amid.given in
        let is = subst (λ (o : ImportOptions). first_opening true (read_of o line) ≡ Some found) count.options opening in
        elim given [
          | inl whole ↦
              begins_with known (text_left remaining new) (whole_line line) (OpensWith options found) (Consumes-trans known (text_left remaining old) (text_left remaining new) [] (whole_line line) before whole.1)
              (λ rest text text_is. record { line = line; one = one; opening = is; rest = rest; text_is = inl (whole.0, text_is) })
          | inr last ↦
              Consumes-whole known (text_left remaining new) line (OpensWith options found) (Consumes-trans known (text_left remaining old) (text_left remaining new) [] line before last.0) last.1
              (record { line = line; one = one; opening = is; rest = []; text_is = inr refl })
        ]

    -- of the next line
    pub next_cause : (old new : LineReader R) (now : Point S L) (store' : S) (fault : ImportFault) → Amid old now → IsNextCause options.format remaining refused old new now.taking store' fault → IsCause refused options known new store' fault
    next_cause old new now store' Memory amid cause = tt
    next_cause old new now store' Read amid (inl failed) = failed
    next_cause old new now store' Read amid (inr taken) = absurd taken.cause
    next_cause old new now store' Refused amid (inl none) = absurd none
    next_cause old new now store' Refused amid (inr taken) = taken.cause
    next_cause old new now store' (LongLine number) amid (inl (is, (is_long, given))) = long_line old new now number new.line.items amid is is_long given
    next_cause old new now store' (LongLine number) amid (inr taken) = absurd taken.cause
    next_cause old new now store' (OtherFormat found) amid (inl none) = absurd none
    next_cause old new now store' (OtherFormat found) amid (inr taken) =
        let count = counts old now amid in (
          λ same. taken.cause.0 (same ∙ ap (λ (o : ImportOptions). o.format) (sym count.options)),
          opens old new now found taken.line amid taken.one taken.given taken.cause.1.0 taken.cause.1.1,
        )
    next_cause old new now store' (Header wrong) amid (inl none) = absurd none
    next_cause old new now store' (Header wrong) amid (inr taken) = absurd taken.cause
    next_cause old new now store' Endless amid (inl none) = absurd none
    next_cause old new now store' Endless amid (inr taken) = absurd taken.cause

    -- so many lines are taken
    pub has_lines : (lines : LineReader R) (now : Point S L) (amid : Amid lines now) (count : ℕ) → length amid.front ≡ count → IfSome known (HasLines options.format count)
    has_lines lines now amid count is =
        begins_with known (text_left remaining lines) (whole_lines amid.front) (HasLines options.format count) amid.given (λ rest text text_is. record { front = amid.front; lines = amid.one; count_is = is; rest = rest; text_is = text_is })
