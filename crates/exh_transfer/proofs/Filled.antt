-- The map that an import of an export leaves, in a store that had no pairs.
use Rattle.std.proofs.Common.{◌≡◌, ◌≢◌, ◌⊎◌, ℕ, suc, ◌+◌, ◌^◌, ◌<◌, ◌-◌, min, List, [], ◌∷◌, ◌++◌, length, nat_cmp, Bool, true, false, cond, ◌&&◌, None, Some, inl, inr, refl, sym, ap, ◌∙◌, subst, append_assoc, append-nil, arith}
use Rattle.std.specs.FinMap as fin
use Rattle.std.specs.List.{AllByRecursion}
use Rattle.std.specs.Ordering.{eq_by_cmp}
use Rattle.std.specs.Cmp.Lexicographic.{slice_cmp}
use Rattle.std.proofs.lemmas.Bool.{false_from_ne_true}
use Rattle.std.proofs.lemmas.Cmp.{nat_list_cmp_total}
use Rattle.std.proofs.lemmas.Grind.{flat_map-append}
use Rattle.std.proofs.lemmas.Map.Lookups.{exact_bytes}
use Rattle.std.proofs.lemmas.List.{length_push}
use Rattle.exh_prefix.specs.PrefixListLemmas.{AllByRecursion-append_right, is_equal}
use Rattle.exh_page.specs.KeyMap.{KeyMap}
use Rattle.exh_pair_text.specs.declared.line.Line.{Line}
use Rattle.exh_pair_text.specs.declared.line.Line.TheVariants.{Pair, Opening, End}
use Rattle.exh_pair_text.specs.declared.pair_format.PairFormat.{PairFormat}
use Rattle.exh_pair_text.specs.Laws.{PairsAreOneLine, PairsAreRead}
use Rattle.exh_pair_text.specs.Lines.{opening_text}
use Rattle.exh_import.specs.declared.imported.Imported.{Imported}
use Rattle.exh_import.specs.declared.imported_store.Added.{Added}
use Rattle.exh_import.specs.declared.imported_store.Added.TheVariants.{Put, Full}
use Rattle.exh_import.specs.declared.options.ImportOptions.{ImportOptions}
use Rattle.exh_import.specs.declared.rejection.Rejection.{Rejection}
use Rattle.exh_import.specs.Counting.{ended, full_counted, is_due, line_counted, pair_counted, rested}
use Rattle.exh_import.specs.Imports.{Answered, EndsSo, Finishes, FinishesWhere, Imports, Point, Puts, RestsWhere, SavesWhere, TakesLine, TakesLines, TakesText}
use Rattle.exh_import.specs.Pairs.{pair_of, pairs_of, read_of}
use Rattle.exh_map.specs.Pairs.{AreOnce}
use Rattle.exh_transfer.specs.Laws.{AreExported, ArePairs, AreUsual, printed_for}
use Rattle.exh_transfer.proofs.Amid.{ArePairLines, IsPairLine, Stands, are_pair_lines, closes_not, end_marks, export_parts, front_lines, line_puts, opened_stands, opening_marks, pair_line, several, start_stands, starting}
use Rattle.exh_transfer.proofs.Ends.{end_text}
use Rattle.exh_transfer.proofs.Exported.{count_lines, each_of, end_as, export_lines, exported_lines, is_whole, opening_as, pair_lines, pairs_again}

abbrev KeyValue : Type 0
KeyValue = List ℕ × List ℕ

-- ---- pairs of which each key stands once

once_before : (front rest : List KeyValue) (pair : KeyValue) → AreOnce (front ++ pair ∷ rest) → AllByRecursion (λ other. other.0 ≢ pair.0) front
once_before [] rest pair once = tt
once_before (first ∷ front) rest pair once =
    let apart = (AllByRecursion-append_right (λ (other : KeyValue). other.0 ≢ first.0) front (pair ∷ rest) once.0).0 in
    (λ same. apart (sym same), once_before front rest pair once.1)

none_found : (key : List ℕ) (pairs : List KeyValue) → AllByRecursion (λ other. other.0 ≢ key) pairs → fin.find (slice_cmp nat_cmp) key pairs ≡ None
none_found key [] else = refl
none_found key (pair ∷ pairs) else =
    let misses : eq_by_cmp (slice_cmp nat_cmp) key pair.0 ≡ false = false_from_ne_true _ (λ tied. else.0 (sym (exact_bytes key pair.0 (is_equal (slice_cmp nat_cmp key pair.0) tied)))) in
    ap (λ b. cond b (Some pair.1) (fin.find (slice_cmp nat_cmp) key pairs)) misses ∙ none_found key pairs else.1

abbrev all_of : List KeyValue → KeyMap
all_of pairs = fin.from_entries pairs

all_push : (front rest : List KeyValue) (pair : KeyValue) → AreOnce (front ++ pair ∷ rest) → all_of (front ++ pair ∷ []) ≡ fin.insert (all_of front) pair.0 pair.1
all_push front rest pair once =
    fin.from_entries_push nat_list_cmp_total (fin.slice_cmp-IsAntisymmetric fin.nat_cmp-IsAntisymmetric) front pair.0 pair.1 (none_found pair.0 front (once_before front rest pair once))

full_some : (count : ℕ) → min (count + 1) (2 ^ 64 - 1) ≢ 0
full_some count none = omega (arith, none)

-- ---- a store with a map, which puts change as a map, and commits keep

module _ {S L : Type 0} (gives : S → List ℕ → List ℕ → Added → S → Type 0) (saves rests : S → S → Type 0) (told : L → ℕ → Rejection → List ℕ → L → Type 0) (has : S → KeyMap → Type 0)
    (put_in : (whole : KeyMap) (old new : S) (key value : List ℕ) → has old whole → gives old key value Put new → has new (fin.insert whole key value))
    (kept : (whole : KeyMap) (old new : S) → has old whole → saves old new → has new whole)
  where
    -- so far it has these pairs, if none found no room
    abbrev Fills : List KeyValue → Point S L → Type 0
    Fills front point = point.taking.imported.full ≡ 0 → has point.store (all_of front)

    saved_has : (due : Bool) (taking taking' : _) (old new : S) (whole : KeyMap) → SavesWhere saves due taking old taking' new → has old whole → (has new whole) × ((rested taking').imported.full ≡ (rested taking).imported.full)
    saved_has true taking taking' old new whole (is, saved) holds = (kept whole old new holds saved, ap (λ t. (rested t).imported.full) is)
    saved_has false taking taking' old new whole (is, same) holds = (subst (λ (s : S). has s whole) (sym same) holds, ap (λ t. (rested t).imported.full) is)

    saved_full : (due : Bool) (taking taking' : _) (old new : S) → SavesWhere saves due taking old taking' new → (rested taking').imported.full ≡ (rested taking).imported.full
    saved_full true taking taking' old new (is, saved) = ap (λ t. (rested t).imported.full) is
    saved_full false taking taking' old new (is, same) = ap (λ t. (rested t).imported.full) is

    answered_fills : (answer : Added) (front : List KeyValue) (pair : KeyValue) (rest : List KeyValue) (before stored : S) (line : List ℕ) (mid new : Point S L) → AreOnce (front ++ pair ∷ rest)
        → (mid.taking.imported.full ≡ 0 → has before (all_of front)) → gives before pair.0 pair.1 answer stored → Answered gives saves rests told answer stored line mid new → Fills (front ++ pair ∷ []) new
    answered_fills Full front pair rest before stored line mid new once holds given (is, store, listener) none =
        absurd (full_some mid.taking.imported.full (sym (ap (λ t. (rested t).imported.full) is) ∙ none))
    answered_fills Put front pair rest before stored line mid new once holds given (saved, listener) none =
        let due = is_due (pair_counted mid.taking) in
        let same = saved_full due (pair_counted mid.taking) new.taking stored new.store saved in
        let put = put_in (all_of front) before stored pair.0 pair.1 (holds (sym same ∙ none)) given in
        subst (has new.store) (sym (all_push front rest pair once)) (saved_has due (pair_counted mid.taking) new.taking stored new.store (fin.insert (all_of front) pair.0 pair.1) saved put).0

    -- all is one commit, or rests keep the map too
    module _ (options : ImportOptions) (kept_behind : (options.is_atomic ≡ true) ⊎ ((whole : KeyMap) (old new : S) → has old whole → rests old new → has new whole)) where
      unrested : (old new : S) (whole : KeyMap) → RestsWhere rests false old new → has old whole → has new whole
      unrested old new whole same holds = subst (λ (s : S). has s whole) (sym same) holds

      rested_by : ((whole : KeyMap) (old new : S) → has old whole → rests old new → has new whole) → (due : Bool) (old new : S) (whole : KeyMap) → RestsWhere rests due old new → has old whole → has new whole
      rested_by keeps true old new whole rest holds = keeps whole old new holds rest
      rested_by keeps false old new whole same holds = unrested old new whole same holds

      rested_has : (o : Bool) (count : ℕ) (taking : _) (old new : S) (whole : KeyMap) → Stands options o count taking → RestsWhere rests (line_counted taking).is_saved old new → has old whole → has new whole
      rested_has o count taking old new whole stands rest holds = elim kept_behind [
        | inl atomic ↦ unrested old new whole (subst (λ (due : Bool). RestsWhere rests due old new) (stands.at_once atomic) rest) holds
        | inr keeps ↦ rested_by keeps (line_counted taking).is_saved old new whole rest holds
      ]

      pair_fills : (o last : Bool) (count : ℕ) (front : List KeyValue) (line : List ℕ) (rest : List KeyValue) (old new : Point S L) → (o && last) ≡ false → IsPairLine options line → AreOnce (front ++ (pair_of (read_of options line) ++ rest))
          → Stands options o count old.taking → TakesLine gives saves rests told last line old new → Fills front old → Fills (front ++ pair_of (read_of options line)) new
      pair_fills o last count front line rest old new amid_yet (key, (value, is)) once stands takes fills =
          let puts = line_puts gives saves rests told options o last count line key value old new amid_yet is stands takes in
          let once_so = subst (λ (read : Line). AreOnce (front ++ (pair_of read ++ rest))) is once in
          subst (λ (read : Line). Fills (front ++ pair_of read) new) (sym is)
          (answered_fills puts.answer front (key, value) rest puts.before puts.stored line (record old { taking = rested (line_counted old.taking) }) new once_so
          (λ none. rested_has o count old.taking old.store puts.before (all_of front) stands puts.rest (fills none)) puts.put puts.answered)

      lines_fill : (o : Bool) (count : ℕ) (front : List KeyValue) (lines : List (List ℕ)) (rest : List KeyValue) (old new : Point S L) → count + length lines < 2 ^ 64 → ArePairLines options lines → AreOnce (front ++ (pairs_of options lines ++ rest))
          → Stands options o count old.taking → TakesLines gives saves rests told lines old new → Fills front old → Fills (front ++ pairs_of options lines) new
      lines_fill o count front [] rest old new few all once stands same fills =
          subst (λ (pairs : List KeyValue). Fills pairs new) (sym (append-nil front)) (subst (Fills front) (sym same) fills)
      lines_fill o count front (line ∷ lines) rest old new few all once stands (next, (one, more)) fills =
          let pair = pair_of (read_of options line) in
          let others = pairs_of options lines in
          let ahead : front ++ ((pair ++ others) ++ rest) ≡ front ++ (pair ++ (others ++ rest)) = ap (λ (pairs : List KeyValue). front ++ pairs) (append_assoc pair others rest) in
          let once_so : AreOnce (front ++ (pair ++ (others ++ rest))) = subst AreOnce ahead once in
          let amid_yet : (o && false) ≡ false = closes_not o in
          let first = pair_fills o false count front line (others ++ rest) old next amid_yet all.0 once_so stands one fills in
          let stands_next = pair_line gives saves rests told options o false count line old next (omega arith) amid_yet all.0 stands one in
          subst (λ (pairs : List KeyValue). Fills pairs new) (append_assoc front pair others)
          (lines_fill o (suc count) (front ++ pair) lines rest next new (omega arith) all.1 (subst AreOnce (sym (append_assoc front pair (others ++ rest))) once_so) stands_next more first)

      bare_fills : (lines : List (List ℕ)) (old new : Point S L) → length lines < 2 ^ 64 → ArePairLines options lines → AreOnce (pairs_of options lines) → Stands options false 0 old.taking → TakesText gives saves rests told lines old new → Fills [] old
          → Fills (pairs_of options lines) new
      bare_fills lines old new few all once stands (inl (none, same)) fills =
          subst (λ (ls : List (List ℕ)). Fills (pairs_of options ls) new) (sym none) (subst (Fills []) (sym same) fills)
      bare_fills lines old new few all once stands (inr (front, (last, (mid, (is, (takes, end)))))) fills =
          let count : length lines ≡ suc (length front) = ap length is ∙ length_push front last ∙ omega arith in
          let own = pair_of (read_of options last) in
          let whole : pairs_of options lines ≡ pairs_of options front ++ (own ++ []) = ap (pairs_of options) is ∙ flat_map-append (λ line. pair_of (read_of options line)) front (last ∷ []) in
          let once_so : AreOnce (pairs_of options front ++ (own ++ [])) = subst AreOnce whole once in
          let parts = front_lines options front last (subst (ArePairLines options) is all) in
          let before = lines_fill false 0 [] front (own ++ []) old mid (omega (arith, count)) parts.0 once_so stands takes fills in
          let stands_then = several gives saves rests told options false 0 front old mid (omega (arith, count)) parts.0 stands takes in
          let after = pair_fills false true (0 + length front) (pairs_of options front) last [] mid new refl parts.1 once_so stands_then end before in
          subst (λ (pairs : List KeyValue). Fills pairs new) (ap (λ (end : List KeyValue). pairs_of options front ++ end) (sym (append-nil own)) ∙ sym whole) after

      export_fills : (opening end : List ℕ) (format : PairFormat) (count : ℕ) (lines : List (List ℕ)) (store : S) (listener : L) (new : Point S L) → length lines < 2 ^ 64 → AreUsual options
          → read_of options opening ≡ Opening format → read_of options end ≡ End count → ArePairLines options lines → AreOnce (pairs_of options lines) → has store fin.empty
          → TakesText gives saves rests told (opening ∷ (lines ++ end ∷ [])) (starting gives saves rests told options store listener) new → Fills (pairs_of options lines) new
      export_fills opening end format count lines store listener new few are_usual opens ends all once holds takes none =
          let parts = export_parts gives saves rests told options opening end lines (starting gives saves rests told options store listener) new takes in
          let marks = opening_marks gives saves rests told options opening format store listener parts.begun are_usual opens parts.opens in
          let begun = opened_stands gives saves rests told options store listener parts.begun marks in
          let begins : Fills [] parts.begun = λ _. subst (λ (s : S). has s fin.empty) (sym marks.store) holds in
          let amid = several gives saves rests told options true 0 lines parts.begun parts.ended (omega (arith, few)) all begun parts.amid in
          let last = end_marks gives saves rests told options count (0 + length lines) end parts.ended new ends amid parts.closes in
          let once_so : AreOnce (pairs_of options lines ++ []) = subst AreOnce (sym (append-nil (pairs_of options lines))) once in
          let fills = lines_fill true 0 [] lines [] parts.begun parts.ended (omega (arith, few)) all once_so begun parts.amid begins in
          subst (λ (s : S). has s (all_of (pairs_of options lines))) (sym last.store) (fills (sym (ap (λ t. (rested t).imported.full) last.taking_is) ∙ none))

      finished : (b : Bool) (whole : KeyMap) (taking : _) (old new : S) (imported : Imported) → FinishesWhere saves b taking old imported new → ((rested taking).imported.full ≡ 0 → has old whole) → imported.full ≡ 0 → has new whole
      finished true whole taking old new imported (is, same) holds none = subst (λ (s : S). has s whole) (sym same) (holds (sym (ap (λ (i : Imported). i.full) is) ∙ none))
      finished false whole taking old new imported (is, saved) holds none = kept whole old new (holds (sym (ap (λ (i : Imported). i.full) is) ∙ none)) saved

      lines_filled : PairsAreRead → (bare : Bool) (pairs : List KeyValue) (store : S) (listener : L) (new : Point S L) → AreUsual options → ArePairs pairs → AreOnce pairs → has store fin.empty
          → TakesText gives saves rests told (export_lines options.format options.is_hex bare pairs) (starting gives saves rests told options store listener) new → Fills pairs new
      lines_filled law true pairs store listener new are_usual are_pairs once holds takes =
          let lines = pair_lines options.format options.is_hex pairs in
          let again = pairs_again law options are_usual pairs (each_of pairs are_pairs) in
          subst (λ (ps : List KeyValue). Fills ps new) again
          (bare_fills lines (starting gives saves rests told options store listener) new (omega (arith, count_lines options.format options.is_hex pairs, are_pairs.few))
          (are_pair_lines law options are_usual pairs (each_of pairs are_pairs)) (subst AreOnce (sym again) once) (start_stands gives saves rests told options store listener are_usual) takes (λ _. holds))
      lines_filled law false pairs store listener new are_usual are_pairs once holds takes =
          let lines = pair_lines options.format options.is_hex pairs in
          let again = pairs_again law options are_usual pairs (each_of pairs are_pairs) in
          subst (λ (ps : List KeyValue). Fills ps new) again
          (export_fills (opening_text options.format) (end_text options.format (length pairs)) options.format (length pairs) lines store listener new (omega (arith, count_lines options.format options.is_hex pairs, are_pairs.few)) are_usual
          (opening_as law options are_usual) (end_as law options are_usual (length pairs) are_pairs.few) (are_pair_lines law options are_usual pairs (each_of pairs are_pairs)) (subst AreOnce (sym again) once) holds takes)

    pub filled : PairsAreRead → PairsAreOneLine → (options : ImportOptions) (bare : Bool) (pairs : List KeyValue) (lines : List (List ℕ)) (whole : Bool) (store store' : S) (listener listener' : L) (imported : Imported)
        → (options.is_atomic ≡ true) ⊎ ((whole : KeyMap) (old new : S) → has old whole → rests old new → has new whole) → AreExported options bare pairs lines → AreOnce pairs → has store fin.empty
        → EndsSo whole lines (printed_for options bare pairs) → Imports gives saves rests told options whole lines store listener imported store' listener' → imported.full ≡ 0 → has store' (fin.from_entries pairs)
    filled read_law line_law options bare pairs lines whole store store' listener listener' imported kept_behind exported once holds ends imports none =
        let finishes = subst (λ (b : Bool). Finishes saves (ended b imports.next.taking) imports.next.store imported store') (is_whole line_law options bare pairs lines whole exported ends) imports.finishes in
        let takes = subst (λ (ls : List (List ℕ)). TakesText gives saves rests told ls (starting gives saves rests told options store listener) imports.next)
        (exported_lines line_law options bare pairs lines exported) imports.takes in
        finished options kept_behind _ (all_of pairs) imports.next.taking imports.next.store store' imported finishes
        (lines_filled options kept_behind read_law bare pairs store listener imports.next exported.usual_are exported.pairs_are once holds takes) none
