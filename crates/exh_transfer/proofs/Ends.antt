-- What an export begins and ends with: a line each, which reads as that.
use Rattle.std.proofs.Common.{◌≡◌, ◌≢◌, ◌⊎◌, ℕ, ◌-◌, ◌^◌, ◌<◌, ◌≤◌, List, [], ◌∷◌, ◌++◌, length, get_or, Bool, true, false, not, ◌&&◌, cond, eqb, Option, Some, None, inl, inr, refl, sym, ap, ◌∙◌, decimal, append_assoc, length-append, arith}
use Rattle.std.specs.List.{AllByRecursion, list_all}
use Rattle.std.specs.Char.{is_ascii_digit}
use Rattle.std.specs.Str.{all_ascii_digits}
use Rattle.std.specs.Str.Parse.{digits_value}
use Rattle.std.proofs.lemmas.Bool.{and_parts, ne_eqb}
use Rattle.std.proofs.lemmas.Bool.Decides.{nat_tests}
use Rattle.std.proofs.lemmas.Fmt.{digits_decimal}
use Rattle.std.proofs.lemmas.List.Elements.{All-from_recursion}
use Rattle.std.proofs.lemmas.Str.Parse.{IsNumeralModel, numerals_by_value, tells_all_ascii_digits}
use Rattle.exh_pair_text.specs.declared.place.Place.{Place}
use Rattle.exh_pair_text.specs.declared.place.Place.TheVariants.{Start, Plain, Quoted, Closed}
use Rattle.exh_pair_text.specs.Places.{AreQuoted, comma, newline, place_after, place_behind, quote}
use Rattle.exh_text.specs.TextLemmas.{number_again}
use Rattle.exh_pair_text.specs.declared.line.Line.TheVariants.{Opening, End}
use Rattle.exh_pair_text.specs.declared.pair_format.PairFormat.{PairFormat}
use Rattle.exh_pair_text.specs.declared.pair_format.PairFormat.TheVariants.{Words, Tsv, Jsonl, Csv}
use Rattle.exh_pair_text.specs.Bytes.{return}
use Rattle.exh_pair_text.specs.Lines.{end_line, end_words, json_end_words, opening_text}
use Rattle.exh_pair_text.specs.Parts.{usual}
use Rattle.exh_pair_text.specs.Reading.{cut_at, end_in, json_end_in, line_read, opening_in, text_read, without_return}
use Rattle.exh_pair_text.proofs.Cuts.{cut_behind}
use Rattle.exh_import.specs.Causes.{IsWholeLine, whole_line}

-- ---- bytes that aren't this one

abbrev AreOther : ℕ → List ℕ → Type 0
AreOther mark text = AllByRecursion (λ byte. byte ≢ mark) text

other_by : (mark : ℕ) (text : List ℕ) → list_all (λ byte. not (eqb byte mark)) text ≡ true → AreOther mark text
other_by mark [] all = tt
other_by mark (byte ∷ text) all =
    let parts = and_parts (not (eqb byte mark)) (list_all (λ byte. not (eqb byte mark)) text) all in
    (λ is. grind (arith, nat_tests), other_by mark text parts.1)

other_behind : (mark : ℕ) (front text : List ℕ) → AreOther mark front → AreOther mark text → AreOther mark (front ++ text)
other_behind mark [] text before all = all
other_behind mark (byte ∷ front) text before all = (before.0, other_behind mark front text before.1 all)

digits_other : (mark : ℕ) (text : List ℕ) → is_ascii_digit mark ≡ false → all_ascii_digits text ≡ true → AreOther mark text
digits_other mark [] none all = tt
digits_other mark (byte ∷ text) none all =
    let parts = and_parts (is_ascii_digit byte) (all_ascii_digits text) all in
    (λ is. grind (arith, nat_tests), digits_other mark text none parts.1)

own : IsNumeralModel (λ digits. all_ascii_digits digits ≡ true) (digits_value 10)
own = numerals_by_value _ tells_all_ascii_digits

decimal_other : (mark count : ℕ) → is_ascii_digit mark ≡ false → count < 2 ^ 64 → AreOther mark (decimal count)
decimal_other mark count none small = digits_other mark (decimal count) none (digits_decimal own count small)

-- ---- one line

one_line : (line : List ℕ) → AreOther newline line → AreQuoted (λ place byte. Start) Start line
one_line [] all = tt
one_line (byte ∷ line) all = (λ is. absurd (all.0 is), one_line line all.1)

always_start : (line : List ℕ) → place_behind (λ place byte. Start) Start line ≡ Start
always_start [] = refl
always_start (byte ∷ line) = always_start line

start_open : Start ≢ Quoted
start_open is = cc

by_comma : (b : Bool) → cond b Start Plain ≢ Quoted
by_comma true is = cc
by_comma false is = cc

stays_open : (place : Place) (byte : ℕ) → place ≢ Quoted → byte ≢ quote → place_after place byte ≢ Quoted
stays_open Start byte out other = rw (ne_eqb byte quote other) (by_comma (eqb byte comma))
stays_open Plain byte out other = by_comma (eqb byte comma)
stays_open Quoted byte out other = absurd (out refl)
stays_open Closed byte out other = rw (ne_eqb byte quote other) (by_comma (eqb byte comma))

bare_line : (place : Place) (line : List ℕ) → place ≢ Quoted → AreOther newline line → AreOther quote line → AreQuoted place_after place line × (place_behind place_after place line ≢ Quoted)
bare_line place [] out all others = (tt, out)
bare_line place (byte ∷ line) out all others =
    let next = bare_line (place_after place byte) line (stays_open place byte out others.0) all.1 others.1 in
    ((λ is. absurd (all.0 is), next.0), next.1)

plain_line : (line : List ℕ) → AreOther newline line → AreQuoted (λ place byte. Start) Start line × (place_behind (λ place byte. Start) Start line ≢ Quoted)
plain_line line all = (one_line line all, λ is. start_open (sym (always_start line) ∙ is))

pub opening_whole : (format : PairFormat) → IsWholeLine format (opening_text format)
opening_whole Words = plain_line (opening_text Words) (other_by newline (opening_text Words) refl)
opening_whole Tsv = plain_line (opening_text Tsv) (other_by newline (opening_text Tsv) refl)
opening_whole Jsonl = plain_line (opening_text Jsonl) (other_by newline (opening_text Jsonl) refl)
opening_whole Csv = bare_line Start (opening_text Csv) start_open (other_by newline (opening_text Csv) refl) (other_by quote (opening_text Csv) refl)

-- the last line, without its newline
abbrev pub end_text : PairFormat → ℕ → List ℕ
end_text Words count = end_words ++ decimal count
end_text Tsv count = end_words ++ decimal count
end_text Jsonl count = json_end_words ++ (decimal count ++ 125 ∷ [])
end_text Csv count = end_words ++ decimal count

pub end_is : (format : PairFormat) (count : ℕ) → end_line format count ≡ whole_line (end_text format count)
end_is Words count = sym (append_assoc end_words (decimal count) (newline ∷ []))
end_is Tsv count = sym (append_assoc end_words (decimal count) (newline ∷ []))
end_is Jsonl count = sym (append_assoc json_end_words (decimal count ++ 125 ∷ []) (newline ∷ []) ∙ ap (λ (end : List ℕ). json_end_words ++ end) (append_assoc (decimal count) (125 ∷ []) (newline ∷ [])))
end_is Csv count = sym (append_assoc end_words (decimal count) (newline ∷ []))

words_other : (mark count : ℕ) → is_ascii_digit mark ≡ false → list_all (λ byte. not (eqb byte mark)) end_words ≡ true → count < 2 ^ 64 → AreOther mark (end_words ++ decimal count)
words_other mark count none before small = other_behind mark end_words (decimal count) (other_by mark end_words before) (decimal_other mark count none small)

json_other : (count : ℕ) → count < 2 ^ 64 → AreOther newline (json_end_words ++ (decimal count ++ 125 ∷ []))
json_other count small =
    other_behind newline json_end_words (decimal count ++ 125 ∷ []) (other_by newline json_end_words refl)
    (other_behind newline (decimal count) (125 ∷ []) (decimal_other newline count refl small) (other_by newline (125 ∷ []) refl))

pub end_whole : (format : PairFormat) (count : ℕ) → count < 2 ^ 64 → IsWholeLine format (end_text format count)
end_whole Words count small = plain_line (end_text Words count) (words_other newline count refl refl small)
end_whole Tsv count small = plain_line (end_text Tsv count) (words_other newline count refl refl small)
end_whole Jsonl count small = plain_line (end_text Jsonl count) (json_other count small)
end_whole Csv count small = bare_line Start (end_text Csv count) start_open (words_other newline count refl refl small) (words_other quote count refl refl small)

-- ---- what it reads as

pub opening_read : (format : PairFormat) (hex : Bool) → line_read format hex usual (opening_text format) ≡ Opening format
unfolding text_read opening_in without_return
opening_read Words hex = refl
opening_read Tsv hex = refl
opening_read Jsonl hex = refl
opening_read Csv hex = refl

ended_by : (format : PairFormat) (hex : Bool) (byte : ℕ) (line : List ℕ) (count : ℕ) → opening_in (byte ∷ line) ≡ None → end_in (byte ∷ line) ≡ Some count → text_read format hex usual (byte ∷ line) ≡ End count
unfolding text_read
ended_by format hex byte line count none some = rw (none, some) refl

no_opening : (word : List ℕ) → opening_in (end_words ++ word) ≡ None
unfolding opening_in
no_opening word = refl

no_json_opening : (word : List ℕ) → opening_in (json_end_words ++ word) ≡ None
unfolding opening_in
no_json_opening word = refl

count_read : (count : ℕ) → count < 2 ^ 64 → end_in (end_words ++ decimal count) ≡ Some count
unfolding end_in
count_read count small = rw (number_again (2 ^ 64 - 1) count (omega arith) (omega arith)) refl

json_count_read : (count : ℕ) → count < 2 ^ 64 → end_in (json_end_words ++ (decimal count ++ 125 ∷ [])) ≡ Some count
unfolding end_in json_end_in
json_count_read count small = rw (cut_behind 125 (decimal count) [] (decimal_other 125 count refl small), number_again (2 ^ 64 - 1) count (omega arith) (omega arith)) refl

kept : (line : List ℕ) → 1 ≤ length line → AreOther return line → without_return line ≡ line
unfolding without_return
kept line some all =
    let last = All-from_recursion (λ byte. byte ≢ return) line all (length line - 1) 0 (omega arith) in
    rw (ne_eqb (get_or line (length line - 1) 0) return last) refl

words_read : (format : PairFormat) (hex : Bool) (count : ℕ) → count < 2 ^ 64 → text_read format hex usual (end_words ++ decimal count) ≡ End count
words_read format hex count small = ended_by format hex 35 _ count (no_opening (decimal count)) (count_read count small)

pub end_read : (format : PairFormat) (hex : Bool) (count : ℕ) → count < 2 ^ 64 → line_read format hex usual (end_text format count) ≡ End count
end_read Words hex count small = words_read Words hex count small
end_read Tsv hex count small = words_read Tsv hex count small
end_read Jsonl hex count small = ended_by Jsonl hex 123 _ count (no_json_opening (decimal count ++ 125 ∷ [])) (json_count_read count small)
end_read Csv hex count small =
    ap (text_read Csv hex usual) (kept (end_words ++ decimal count) (omega (arith, length-append end_words (decimal count))) (words_other return count refl refl small)) ∙ words_read Csv hex count small
