-- The counts of an import of an export.
use Rattle.std.proofs.Common.{◌≡◌, ℕ, suc, ◌+◌, ◌-◌, ◌^◌, ◌<◌, ◌≤◌, min, List, [], ◌∷◌, ◌++◌, length, map, Bool, true, false, not, ◌&&◌, eqb, Option, Some, None, inl, inr, refl, sym, ap, ◌∙◌, subst, append-nil, length-append, arith}
use Rattle.std.specs.List.{AllByRecursion}
use Rattle.std.proofs.lemmas.Bool.Decides.{nat_tests}
use Rattle.std.proofs.lemmas.List.{append_cancel_left, length-map, length_push}
use Rattle.exh_pair_text.specs.declared.line.Line.{Line}
use Rattle.exh_pair_text.specs.declared.line.Line.TheVariants.{Pair, Opening, End}
use Rattle.exh_pair_text.specs.declared.pair_format.PairFormat.{PairFormat}
use Rattle.exh_pair_text.specs.Laws.{IsPair, PairsAreOneLine, PairsAreRead}
use Rattle.exh_pair_text.specs.Lines.{opening_text, pair_words}
use Rattle.exh_import.specs.declared.begun.Begun.{Begun}
use Rattle.exh_import.specs.declared.imported.Imported.{Imported}
use Rattle.exh_import.specs.declared.imported_store.Added.{Added}
use Rattle.exh_import.specs.declared.imported_store.Added.TheVariants.{Put, Full}
use Rattle.exh_import.specs.declared.options.ImportOptions.{ImportOptions}
use Rattle.exh_import.specs.declared.rejection.Rejection.{Rejection}
use Rattle.exh_import.specs.Counting.{closed, ended, first_opening, full_counted, is_due, is_right_end, line_counted, lines_begun, opened, pair_counted, rested, starts, told_lines}
use Rattle.exh_import.specs.Imports.{Answered, Finishes, FinishesWhere, Imports, Marks, Point, Puts, SavesWhere, TakesAmid, TakesLine, TakesLines, TakesRead, TakesText}
use Rattle.exh_import.specs.Pairs.{all_but_last, read_of}
use Rattle.exh_transfer.specs.Laws.{AreExported, ArePairs, AreUsual, ExportsAreWhole, IsWhole}
use Rattle.exh_transfer.proofs.Ends.{end_read, end_text, opening_read}
use Rattle.exh_transfer.proofs.Exported.{AreEach, all_but, count_lines, end_as, opening_as, each_of, export_lines, exported_lines, is_whole, pair_lines, pair_read, read_usual}
use Rattle.exh_transfer.proofs.Amid.{ArePairLines, Stands, are_pair_lines, end_marks, export_parts, front_lines, opened_stands, opening_marks, pair_line, same_stands, several, start_stands, starting}

right_end : (imported : Imported) (count : ℕ) → imported.rejected ≡ 0 → imported.pairs + imported.full ≡ count → count < 2 ^ 64 → not (is_right_end (told_lines imported) (End count)) ≡ false
right_end imported count none told few =
    let same : count ≡ told_lines imported = omega (arith, none, told) in
    let right : eqb count (told_lines imported) ≡ true = grind (arith, nat_tests, same) in
    ap not right

whole_of : (options : ImportOptions) (o : Bool) (count : ℕ) (taking : _) → Stands options o count taking → IsWhole count (rested taking).imported
whole_of options o count taking stands = record { rejected = stands.rejected; cut_off = stands.cut_off; told = stands.told_is }

module _ {S L : Type 0} (gives : S → List ℕ → List ℕ → Added → S → Type 0) (saves rests : S → S → Type 0) (told : L → ℕ → Rejection → List ℕ → L → Type 0) where
  module _ (options : ImportOptions) where
    bare_whole : (lines : List (List ℕ)) (old new : Point S L) → length lines < 2 ^ 64 → ArePairLines options lines → Stands options false 0 old.taking → TakesText gives saves rests told lines old new → IsWhole (length lines) new.taking.imported
    bare_whole lines old new few all stands (inl (none, same)) =
        subst (λ (ls : List (List ℕ)). IsWhole (length ls) new.taking.imported) (sym none)
        (whole_of options false 0 new.taking (same_stands options false 0 old.taking new.taking (ap (λ (p : Point S L). p.taking) same) stands))
    bare_whole lines old new few all stands (inr (front, (last, (mid, (is, (takes, end)))))) =
        let count : length lines ≡ suc (length front) = ap length is ∙ length_push front last ∙ omega arith in
        let parts = front_lines options front last (subst (ArePairLines options) is all) in
        let before = several gives saves rests told options false 0 front old mid (omega (arith, count)) parts.0 stands takes in
        let after = pair_line gives saves rests told options false true (0 + length front) last mid new (omega (arith, count)) refl parts.1 before end in
        subst (λ (n : ℕ). IsWhole n new.taking.imported) (omega (arith, count)) (whole_of options false (suc (0 + length front)) new.taking after)

    export_whole : (opening end : List ℕ) (format : PairFormat) (lines : List (List ℕ)) (store : S) (listener : L) (new : Point S L) → length lines < 2 ^ 64 → AreUsual options
        → read_of options opening ≡ Opening format → read_of options end ≡ End (length lines) → ArePairLines options lines
        → TakesText gives saves rests told (opening ∷ (lines ++ end ∷ [])) (starting gives saves rests told options store listener) new → IsWhole (length lines) new.taking.imported
    export_whole opening end format lines store listener new few are_usual opens ends all takes =
        let parts = export_parts gives saves rests told options opening end lines (starting gives saves rests told options store listener) new takes in
        let begun = opened_stands gives saves rests told options store listener parts.begun (opening_marks gives saves rests told options opening format store listener parts.begun are_usual opens parts.opens) in
        let amid = several gives saves rests told options true 0 lines parts.begun parts.ended (omega (arith, few)) all begun parts.amid in
        let marks = end_marks gives saves rests told options (length lines) (0 + length lines) end parts.ended new ends amid parts.closes in
        let right : not (is_right_end (told_lines parts.ended.taking.imported) (End (length lines))) ≡ false = right_end parts.ended.taking.imported (length lines) amid.rejected (amid.told_is ∙ omega arith) few in
        subst (IsWhole (length lines)) (sym (ap (λ t. (rested t).imported) marks.taking_is)) (record { rejected = amid.rejected; cut_off = right; told = amid.told_is ∙ omega arith })

    finished : (b : Bool) (count : ℕ) (taking : _) (old new : S) (imported : Imported) → FinishesWhere saves b taking old imported new → IsWhole count (rested taking).imported → IsWhole count imported
    finished true count taking old new imported (is, same) whole = subst (IsWhole count) (sym is) whole
    finished false count taking old new imported (is, saved) whole = subst (IsWhole count) (sym is) (record { rejected = whole.rejected; cut_off = whole.cut_off; told = whole.told })

    lines_whole : PairsAreRead → (bare : Bool) (pairs : List (List ℕ × List ℕ)) (store : S) (listener : L) (new : Point S L) → AreUsual options → ArePairs pairs
        → TakesText gives saves rests told (export_lines options.format options.is_hex bare pairs) (starting gives saves rests told options store listener) new → IsWhole (length pairs) new.taking.imported
    lines_whole law true pairs store listener new are_usual are_pairs takes =
        let lines = pair_lines options.format options.is_hex pairs in
        let count = count_lines options.format options.is_hex pairs in
        subst (λ (n : ℕ). IsWhole n new.taking.imported) count
        (bare_whole lines (starting gives saves rests told options store listener) new (omega (arith, count, are_pairs.few)) (are_pair_lines law options are_usual pairs (each_of pairs are_pairs))
        (start_stands gives saves rests told options store listener are_usual) takes)
    lines_whole law false pairs store listener new are_usual are_pairs takes =
        let lines = pair_lines options.format options.is_hex pairs in
        let count = count_lines options.format options.is_hex pairs in
        subst (λ (n : ℕ). IsWhole n new.taking.imported) count
        (export_whole (opening_text options.format) (end_text options.format (length pairs)) options.format lines store listener new (omega (arith, count, are_pairs.few)) are_usual
        (opening_as law options are_usual) (end_as law options are_usual (length pairs) are_pairs.few ∙ ap (λ (n : ℕ). End n) (sym count)) (are_pair_lines law options are_usual pairs (each_of pairs are_pairs)) takes)

  pub exports_are_whole : PairsAreRead → PairsAreOneLine → ExportsAreWhole gives saves rests told
  exports_are_whole read_law line_law options bare pairs lines whole store store' listener listener' imported exported ends imports =
      let finishes = subst (λ (b : Bool). Finishes saves (ended b imports.next.taking) imports.next.store imported store') (is_whole line_law options bare pairs lines whole exported ends) imports.finishes in
      let takes = subst (λ (ls : List (List ℕ)). TakesText gives saves rests told ls (starting gives saves rests told options store listener) imports.next)
      (exported_lines line_law options bare pairs lines exported) imports.takes in
      finished options _ (length pairs) imports.next.taking imports.next.store store' imported finishes
      (lines_whole options read_law bare pairs store listener imports.next exported.usual_are exported.pairs_are takes)
