-- The lines of an export, and which pairs an import puts of them.
use Rattle.std.proofs.Common.{◌≡◌, ℕ, ◌^◌, ◌<◌, List, [], ◌∷◌, ◌++◌, length, map, Bool, true, false, cond, eqb, Option, None, refl, sym, ap, ◌∙◌, flat_map, subst, append_assoc, append-nil, arith}
use Rattle.std.specs.Prelude.{is_some}
use Rattle.std.specs.List.{AllByRecursion}
use Rattle.std.proofs.lemmas.Grind.{flat_map-append}
use Rattle.std.proofs.lemmas.List.{length-map}
use Rattle.std.proofs.lemmas.List.Elements.{recursion_from_All}
use Rattle.exh_pair_text.specs.declared.line.Line.{Line}
use Rattle.exh_pair_text.specs.declared.line.Line.TheVariants.{Pair, Opening, End}
use Rattle.exh_pair_text.specs.declared.pair_format.PairFormat.{PairFormat}
use Rattle.exh_pair_text.specs.Laws.{IsPair, PairsAreOneLine, PairsAreRead}
use Rattle.exh_pair_text.specs.Lines.{end_line, opening_line, opening_text, pair_words}
use Rattle.exh_pair_text.specs.Parts.{Parts, usual}
use Rattle.exh_pair_text.specs.Reading.{line_read}
use Rattle.exh_import.specs.declared.begun.Begun.{Begun}
use Rattle.exh_import.specs.declared.options.ImportOptions.{ImportOptions}
use Rattle.exh_import.specs.Causes.{AreWholeLines, IsWholeLine, whole_line, whole_lines}
use Rattle.exh_import.specs.Counting.{first_opening, lines_begun}
use Rattle.exh_import.specs.Imports.{EndsSo, IsTextOf}
use Rattle.exh_import.specs.Pairs.{all_but_last, pair_of, pairs_of, pairs_of_text, pairs_of_whole, pairs_put, read_of}
use Rattle.exh_import.proofs.Texts.{lines_end}
use Rattle.exh_transfer.specs.Exports.{export_text, line_of_pair}
use Rattle.exh_transfer.specs.Laws.{AreExported, ArePairs, AreUsual, ExportsAreImported, ExportsHaveLines, printed_for}
use Rattle.exh_transfer.proofs.Ends.{end_is, end_read, end_text, end_whole, opening_read, opening_whole}
use Rattle.exh_transfer.proofs.TextLines.{lines_are}

-- ---- the lines

abbrev pub AreEach : List (List ℕ × List ℕ) → Type 0
AreEach pairs = AllByRecursion (λ pair. IsPair pair.0 pair.1) pairs

abbrev pub pair_lines : PairFormat → Bool → List (List ℕ × List ℕ) → List (List ℕ)
pair_lines format hex pairs = map (λ pair. pair_words format hex pair.0 pair.1) pairs

abbrev pub export_lines : PairFormat → Bool → Bool → List (List ℕ × List ℕ) → List (List ℕ)
export_lines format hex true pairs = pair_lines format hex pairs
export_lines format hex false pairs = opening_text format ∷ (pair_lines format hex pairs ++ end_text format (length pairs) ∷ [])

pairs_text : (format : PairFormat) (hex : Bool) (pairs : List (List ℕ × List ℕ)) → flat_map (line_of_pair format hex) pairs ≡ whole_lines (pair_lines format hex pairs)
pairs_text format hex [] = refl
pairs_text format hex (pair ∷ pairs) = ap (λ (rest : List ℕ). line_of_pair format hex pair ++ rest) (pairs_text format hex pairs)

text_is : (format : PairFormat) (hex bare : Bool) (pairs : List (List ℕ × List ℕ)) → export_text format hex bare pairs ≡ whole_lines (export_lines format hex bare pairs)
text_is format hex true pairs = pairs_text format hex pairs
text_is format hex false pairs =
    let end = end_text format (length pairs) in
    let last : end_line format (length pairs) ≡ whole_lines (end ∷ []) = end_is format (length pairs) ∙ sym (append-nil (whole_line end)) in
    ap (λ (rest : List ℕ). opening_line format ++ (rest ++ end_line format (length pairs))) (pairs_text format hex pairs)
    ∙ ap (λ (rest : List ℕ). opening_line format ++ (whole_lines (pair_lines format hex pairs) ++ rest)) last
    ∙ ap (λ (rest : List ℕ). opening_line format ++ rest) (sym (flat_map-append whole_line (pair_lines format hex pairs) (end ∷ [])))

pairs_whole : PairsAreOneLine → (format : PairFormat) (hex : Bool) (pairs : List (List ℕ × List ℕ)) (more : List (List ℕ)) → AreEach pairs → AreWholeLines format more → AreWholeLines format (pair_lines format hex pairs ++ more)
pairs_whole law format hex [] more all rest = rest
pairs_whole law format hex (pair ∷ pairs) more all rest = (law format hex pair.0 pair.1 all.0, pairs_whole law format hex pairs more all.1 rest)

lines_whole : PairsAreOneLine → (format : PairFormat) (hex bare : Bool) (pairs : List (List ℕ × List ℕ)) → AreEach pairs → length pairs < 2 ^ 64 → AreWholeLines format (export_lines format hex bare pairs)
lines_whole law format hex true pairs all few = subst (AreWholeLines format) (append-nil (pair_lines format hex pairs)) (pairs_whole law format hex pairs [] all tt)
lines_whole law format hex false pairs all few =
    (opening_whole format, pairs_whole law format hex pairs (end_text format (length pairs) ∷ []) all (end_whole format (length pairs) few, tt))

pub each_of : (pairs : List (List ℕ × List ℕ)) → ArePairs pairs → AreEach pairs
each_of pairs are = recursion_from_All (λ pair. IsPair pair.0 pair.1) pairs are.each

pub exports_have_lines : PairsAreOneLine → ExportsHaveLines
exports_have_lines law options bare pairs are_pairs =
    let lines = export_lines options.format options.is_hex bare pairs in (
      lines,
      subst (IsTextOf options.format lines) (sym (text_is options.format options.is_hex bare pairs))
          (lines_end options.format lines (lines_whole law options.format options.is_hex bare pairs (each_of pairs are_pairs) are_pairs.few)),
    )

-- whichever lines the text of an export has, they are these
pub exported_lines : PairsAreOneLine → (options : ImportOptions) (bare : Bool) (pairs : List (List ℕ × List ℕ)) (lines : List (List ℕ)) → AreExported options bare pairs lines → lines ≡ export_lines options.format options.is_hex bare pairs
exported_lines law options bare pairs lines exported =
    lines_are options.format (export_lines options.format options.is_hex bare pairs) lines
    (lines_whole law options.format options.is_hex bare pairs (each_of pairs exported.pairs_are) exported.pairs_are.few)
    (subst (IsTextOf options.format lines) (text_is options.format options.is_hex bare pairs) exported.text)

-- each of them has its newline
pub is_whole : PairsAreOneLine → (options : ImportOptions) (bare : Bool) (pairs : List (List ℕ × List ℕ)) (lines : List (List ℕ)) (whole : Bool) → AreExported options bare pairs lines → EndsSo whole lines (printed_for options bare pairs) → whole ≡ true
is_whole law options bare pairs lines true exported ends = refl
is_whole law options bare pairs lines false exported ends = absurd (ends (text_is options.format options.is_hex bare pairs ∙ ap whole_lines (sym (exported_lines law options bare pairs lines exported))))

pub count_lines : (format : PairFormat) (hex : Bool) (pairs : List (List ℕ × List ℕ)) → length (pair_lines format hex pairs) ≡ length pairs
count_lines format hex pairs = length-map pairs (λ (pair : List ℕ × List ℕ). pair_words format hex pair.0 pair.1)

-- ---- what they read as

pub all_but : (front : List (List ℕ)) (last : List ℕ) → all_but_last (front ++ last ∷ []) ≡ front
all_but [] last = refl
all_but (line ∷ []) last = refl
all_but (line ∷ next ∷ front) last = ap (λ (lines : List (List ℕ)). line ∷ lines) (all_but (next ∷ front) last)

module _ (read_law : PairsAreRead) (options : ImportOptions) (are_usual : AreUsual options) where
  pub read_usual : (line : List ℕ) → read_of options line ≡ line_read options.format options.is_hex usual line
  read_usual line = ap (λ (parts : Parts). line_read options.format options.is_hex parts line) are_usual.layout

  pub pair_read : (pair : List ℕ × List ℕ) → IsPair pair.0 pair.1 → read_of options (pair_words options.format options.is_hex pair.0 pair.1) ≡ Pair pair.0 pair.1
  pair_read pair is = read_usual (pair_words options.format options.is_hex pair.0 pair.1) ∙ read_law options.format options.is_hex pair.0 pair.1 is

  pub opening_as : read_of options (opening_text options.format) ≡ Opening options.format
  opening_as = read_usual (opening_text options.format) ∙ opening_read options.format options.is_hex

  pub end_as : (count : ℕ) → count < 2 ^ 64 → read_of options (end_text options.format count) ≡ End count
  end_as count few = read_usual (end_text options.format count) ∙ end_read options.format options.is_hex count few

  pub pairs_again : (pairs : List (List ℕ × List ℕ)) → AreEach pairs → pairs_of options (pair_lines options.format options.is_hex pairs) ≡ pairs
  pairs_again [] all = refl
  pairs_again (pair ∷ pairs) all =
      ap (λ (read : Line). pair_of read ++ pairs_of options (pair_lines options.format options.is_hex pairs)) (pair_read pair all.0)
      ∙ ap (λ (more : List (List ℕ × List ℕ)). pair ∷ more) (pairs_again pairs all.1)

  abbrev by_first : Line → List ℕ → List (List ℕ) → List (List ℕ × List ℕ)
  by_first read line lines = cond (is_some (first_opening true read)) (pairs_of options (all_but_last lines)) (pairs_of options (line ∷ lines))

  whole_again : (bare : Bool) (pairs : List (List ℕ × List ℕ)) → AreEach pairs → pairs_of_whole options (export_lines options.format options.is_hex bare pairs) ≡ pairs
  whole_again true [] all = refl
  whole_again true (pair ∷ pairs) all =
      ap (λ (read : Line). by_first read (pair_words options.format options.is_hex pair.0 pair.1) (pair_lines options.format options.is_hex pairs)) (pair_read pair all.0)
      ∙ pairs_again (pair ∷ pairs) all
  whole_again false pairs all =
      let front = pair_lines options.format options.is_hex pairs in
      let last = end_text options.format (length pairs) in
      ap (λ (read : Line). by_first read (opening_text options.format) (front ++ last ∷ [])) (read_usual (opening_text options.format) ∙ opening_read options.format options.is_hex)
      ∙ ap (pairs_of options) (all_but front last) ∙ pairs_again pairs all

  put_whole : (lines : List (List ℕ)) → pairs_put options lines ≡ pairs_of_whole options lines
  put_whole lines = ap (λ (begun : Begun). cond (eqb (lines_begun begun) 0) (pairs_of_whole options lines) (pairs_of_text options begun.is_opened lines)) are_usual.begun

  pub put_again : PairsAreOneLine → (bare : Bool) (pairs : List (List ℕ × List ℕ)) (lines : List (List ℕ)) → AreExported options bare pairs lines → pairs_put options lines ≡ pairs
  put_again line_law bare pairs lines exported =
      ap (pairs_put options) (exported_lines line_law options bare pairs lines exported)
      ∙ put_whole (export_lines options.format options.is_hex bare pairs) ∙ whole_again bare pairs (each_of pairs exported.pairs_are)

pub exports_are_imported : PairsAreRead → PairsAreOneLine → ExportsAreImported
exports_are_imported read_law line_law options bare pairs lines exported = put_again read_law options exported.usual_are line_law bare pairs lines exported
