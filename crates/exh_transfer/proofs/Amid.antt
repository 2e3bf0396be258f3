-- The lines of an export, as an import takes them.
use Rattle.std.proofs.Common.{◌≡◌, ℕ, suc, ◌+◌, ◌-◌, ◌^◌, ◌<◌, ◌≤◌, min, List, [], ◌∷◌, ◌++◌, length, map, Bool, true, false, not, ◌&&◌, eqb, Option, Some, None, inl, inr, refl, sym, ap, ◌∙◌, subst, append-nil, length-append, arith}
use Rattle.std.specs.Prelude.{nat_le}
use Rattle.std.specs.List.{AllByRecursion}
use Rattle.std.proofs.lemmas.Bool.Decides.{nat_tests}
use Rattle.std.proofs.lemmas.List.{append_cancel_left, length-map, length_push}
use Rattle.exh_pair_text.specs.declared.line.Line.{Line}
use Rattle.exh_pair_text.specs.declared.line.Line.TheVariants.{Pair, Opening, End}
use Rattle.exh_pair_text.specs.declared.pair_format.PairFormat.{PairFormat}
use Rattle.exh_pair_text.specs.Laws.{IsPair, PairsAreOneLine, PairsAreRead}
use Rattle.exh_pair_text.specs.Lines.{opening_text, pair_words}
use Rattle.exh_import.specs.declared.begun.Begun.{Begun}
use Rattle.exh_import.specs.declared.imported.Imported.{Imported}
use Rattle.exh_import.specs.declared.imported_store.Added.{Added}
use Rattle.exh_import.specs.declared.imported_store.Added.TheVariants.{Put, Full}
use Rattle.exh_import.specs.declared.options.ImportOptions.{ImportOptions}
use Rattle.exh_import.specs.declared.rejection.Rejection.{Rejection}
use Rattle.exh_import.specs.Counting.{closed, first_opening, full_counted, is_due, is_right_end, line_counted, lines_begun, opened, pair_counted, rested, starts, told_lines}
use Rattle.exh_import.specs.Imports.{Answered, FinishesWhere, Imports, Marks, Point, Puts, SavesWhere, TakesAmid, TakesLine, TakesLines, TakesRead, TakesText}
use Rattle.exh_import.specs.Pairs.{all_but_last, read_of}
use Rattle.exh_transfer.specs.Laws.{AreExported, ArePairs, AreUsual, ExportsAreWhole, IsWhole}
use Rattle.exh_transfer.proofs.Ends.{end_read, end_text, opening_read}
use Rattle.exh_transfer.proofs.Exported.{AreEach, all_but, each_of, export_lines, exported_lines, pair_lines, pair_read, read_usual}

-- ---- lines

abbrev first_line_of : List (List ℕ) → List ℕ
first_line_of [] = []
first_line_of (line ∷ lines) = line

abbrev lines_behind : List (List ℕ) → List (List ℕ)
lines_behind [] = []
lines_behind (line ∷ lines) = lines

-- ---- lines that are pairs

abbrev pub IsPairLine : ImportOptions → List ℕ → Type 0
IsPairLine options line = (key : List ℕ) × ((value : List ℕ) × (read_of options line ≡ Pair key value))

abbrev pub ArePairLines : ImportOptions → List (List ℕ) → Type 0
ArePairLines options lines = AllByRecursion (IsPairLine options) lines

pub front_lines : (options : ImportOptions) (front : List (List ℕ)) (last : List ℕ) → ArePairLines options (front ++ last ∷ []) → ArePairLines options front × IsPairLine options last
front_lines options [] last all = (tt, all.0)
front_lines options (line ∷ front) last all = let rest = front_lines options front last all.1 in ((all.0, rest.0), rest.1)

pub are_pair_lines : PairsAreRead → (options : ImportOptions) → AreUsual options → (pairs : List (List ℕ × List ℕ)) → AreEach pairs → ArePairLines options (pair_lines options.format options.is_hex pairs)
are_pair_lines law options are_usual [] all = tt
are_pair_lines law options are_usual (pair ∷ pairs) all = ((pair.0, (pair.1, pair_read law options are_usual pair all.0)), are_pair_lines law options are_usual pairs all.1)

-- ---- how far an import is, of which nothing is amiss

pub record Stands (options : ImportOptions) (is_export : Bool) (count : ℕ) (taking : _) : Type 0 where
  pub options_are : (rested taking).options ≡ options
  pub opened_is : (rested taking).is_opened ≡ is_export
  pub rejected : (rested taking).imported.rejected ≡ 0
  pub cut_off : (rested taking).imported.is_cut_off ≡ false
  pub told_is : (rested taking).imported.pairs + (rested taking).imported.full ≡ count
  pub at_once : options.is_atomic ≡ true → (line_counted taking).is_saved ≡ false

pub same_stands : (options : ImportOptions) (o : Bool) (count : ℕ) (old new : _) → new ≡ old → Stands options o count old → Stands options o count new
same_stands options o count old new is stands = subst (Stands options o count) (sym is) stands

one_more : (count other : ℕ) → count + other < 2 ^ 64 - 1 → min (count + 1) (2 ^ 64 - 1) + other ≡ suc (count + other)
one_more count other few = omega arith

other_more : (count other : ℕ) → count + other < 2 ^ 64 - 1 → count + min (other + 1) (2 ^ 64 - 1) ≡ suc (count + other)
other_more count other few = omega arith

pair_stands : (options : ImportOptions) (o : Bool) (count : ℕ) (taking : _) → count < 2 ^ 64 - 1 → Stands options o count taking → Stands options o (suc count) (pair_counted taking)
pair_stands options o count taking few stands = record {
  options_are = stands.options_are;
  opened_is = stands.opened_is;
  rejected = stands.rejected;
  cut_off = stands.cut_off;
  told_is = one_more taking.imported.pairs taking.imported.full (omega (arith, stands.told_is)) ∙ ap suc stands.told_is;
  at_once = stands.at_once;
}

full_stands : (options : ImportOptions) (o : Bool) (count : ℕ) (taking : _) → count < 2 ^ 64 - 1 → Stands options o count taking → Stands options o (suc count) (full_counted taking)
full_stands options o count taking few stands = record {
  options_are = stands.options_are;
  opened_is = stands.opened_is;
  rejected = stands.rejected;
  cut_off = stands.cut_off;
  told_is = other_more taking.imported.pairs taking.imported.full (omega (arith, stands.told_is)) ∙ ap suc stands.told_is;
  at_once = stands.at_once;
}

counted_stands : (options : ImportOptions) (o : Bool) (count : ℕ) (taking : _) → Stands options o count taking → Stands options o count (rested (line_counted taking))
counted_stands options o count taking stands = record {
  options_are = stands.options_are;
  opened_is = stands.opened_is;
  rejected = stands.rejected;
  cut_off = stands.cut_off;
  told_is = stands.told_is;
  at_once = λ _. refl;
}

pub saved_stands : {S : Type 0} (saves : S → S → Type 0) (due : Bool) (options : ImportOptions) (o : Bool) (count : ℕ) (taking taking' : _) (store store' : S) → (options.is_atomic ≡ true → due ≡ false) → SavesWhere saves due taking store taking' store'
    → Stands options o count taking → Stands options o count taking'
saved_stands saves true options o count taking taking' store store' never (is, save) stands =
    same_stands options o count (record taking { unsaved = 0; is_saved = true }) taking' is
    (record {
      options_are = stands.options_are;
      opened_is = stands.opened_is;
      rejected = stands.rejected;
      cut_off = stands.cut_off;
      told_is = stands.told_is;
      at_once = never;
    })
saved_stands saves false options o count taking taking' store store' never (is, same) stands = same_stands options o count taking taking' is stands

-- no batch is committed where all is one commit
never_due : (options : ImportOptions) (o : Bool) (count : ℕ) (taking : _) → Stands options o count taking → options.is_atomic ≡ true → is_due taking ≡ false
never_due options o count taking stands atomic =
    ap (λ (b : Bool). not b && (nat_le taking.options.batch taking.unsaved && nat_le (taking.imported.pairs - taking.unsaved) taking.unsaved)) (ap (λ (os : ImportOptions). os.is_atomic) stands.options_are ∙ atomic)

no_opening : (first : Bool) (key value : List ℕ) → first_opening first (Pair key value) ≡ None
no_opening true key value = refl
no_opening false key value = refl

no_end_opening : (first : Bool) (count : ℕ) → first_opening first (End count) ≡ None
no_end_opening true count = refl
no_end_opening false count = refl

pub closes_not : (b : Bool) → (b && false) ≡ false
closes_not true = refl
closes_not false = refl

module _ {S L : Type 0} (gives : S → List ℕ → List ℕ → Added → S → Type 0) (saves rests : S → S → Type 0) (told : L → ℕ → Rejection → List ℕ → L → Type 0) (options : ImportOptions) where
  answered : (o : Bool) (count : ℕ) (answer : Added) (stored : S) (line : List ℕ) (old new : Point S L) → count < 2 ^ 64 - 1 → Stands options o count old.taking → Answered gives saves rests told answer stored line old new → Stands options o (suc count) new.taking
  answered o count Full stored line old new few stands (taking, store, listener) = same_stands options o (suc count) (full_counted old.taking) new.taking taking (full_stands options o count old.taking few stands)
  answered o count Put stored line old new few stands (saved, listener) =
      let counted = pair_stands options o count old.taking few stands in
      saved_stands saves (is_due (pair_counted old.taking)) options o (suc count) (pair_counted old.taking) new.taking stored new.store (never_due options o (suc count) (pair_counted old.taking) counted) saved counted

  abbrev pub counted_point : Point S L → Point S L
  counted_point old = record old { taking = line_counted old.taking }

  abbrev taken_by : Point S L → Point S L → Bool → List ℕ → Line → Type 0
  taken_by old new last line read = TakesRead gives saves rests told (first_opening (eqb old.taking.imported.lines 0) read) (old.taking.is_opened && last) last read line (counted_point old) new

  -- how a line of these options is read
  read_as : (last : Bool) (line : List ℕ) (read : Line) (old new : Point S L) → old.taking.options ≡ options → read_of options line ≡ read → TakesLine gives saves rests told last line old new → taken_by old new last line read
  read_as last line read old new same is takes = subst (taken_by old new last line) (ap (λ (o : ImportOptions). read_of o line) same ∙ is) takes

  -- it is put
  pub line_puts : (o last : Bool) (count : ℕ) (line key value : List ℕ) (old new : Point S L) → (o && last) ≡ false → read_of options line ≡ Pair key value → Stands options o count old.taking → TakesLine gives saves rests told last line old new
      → Puts gives saves rests told key value line (counted_point old) new
  line_puts o last count line key value old new amid_yet is stands takes =
      let read = read_as last line (Pair key value) old new stands.options_are is takes in
      let amid = subst (λ (first : Option PairFormat). TakesRead gives saves rests told first (old.taking.is_opened && last) last (Pair key value) line (counted_point old) new) (no_opening (eqb old.taking.imported.lines 0) key value) read in
      subst (λ (b : Bool). TakesRead gives saves rests told None b last (Pair key value) line (counted_point old) new) (ap (λ (b : Bool). b && last) stands.opened_is ∙ amid_yet) amid

  pub pair_line : (o last : Bool) (count : ℕ) (line : List ℕ) (old new : Point S L) → count < 2 ^ 64 - 1 → (o && last) ≡ false → IsPairLine options line → Stands options o count old.taking → TakesLine gives saves rests told last line old new → Stands options o (suc count) new.taking
  pair_line o last count line old new few amid_yet (key, (value, is)) stands takes =
      let puts = line_puts o last count line key value old new amid_yet is stands takes in
      answered o count puts.answer puts.stored line (record old { taking = rested (line_counted old.taking) }) new few (counted_stands options o count old.taking stands) puts.answered

  pub several : (o : Bool) (count : ℕ) (lines : List (List ℕ)) (old new : Point S L) → count + length lines < 2 ^ 64 → ArePairLines options lines → Stands options o count old.taking → TakesLines gives saves rests told lines old new → Stands options o (count + length lines) new.taking
  several o count [] old new few all stands same =
      subst (λ (n : ℕ). Stands options o n new.taking) (omega arith) (same_stands options o count old.taking new.taking (ap (λ (p : Point S L). p.taking) same) stands)
  several o count (line ∷ lines) old new few all stands (next, (one, rest)) =
      let first = pair_line o false count line old next (omega arith) (closes_not o) all.0 stands one in
      let others = several o (suc count) lines next new (omega arith) all.1 first rest in
      subst (λ (n : ℕ). Stands options o n new.taking) (omega arith) others

  -- ---- the first line of an export, and the last

  abbrev pub starting : S → L → Point S L
  starting store listener = record { taking = starts options; store = store; listener = listener }

  pub start_stands : (store : S) (listener : L) → AreUsual options → Stands options false 0 (starts options)
  start_stands store listener are_usual = record {
    options_are = refl;
    opened_is = ap (λ (b : Begun). b.is_opened) are_usual.begun;
    rejected = refl;
    cut_off = ap (λ (b : Begun). b.is_opened) are_usual.begun;
    told_is = refl;
    at_once = λ _. refl;
  }

  pub opening_marks : (line : List ℕ) (format : PairFormat) (store : S) (listener : L) (new : Point S L) → AreUsual options → read_of options line ≡ Opening format
      → TakesLine gives saves rests told false line (starting store listener) new → Marks gives saves rests told (opened false (line_counted (starts options))) (counted_point (starting store listener)) new
  opening_marks line format store listener new are_usual is takes =
      let old = starting store listener in
      let read = read_as false line (Opening format) old new refl is takes in
      let first : (format ≡ options.format) × Marks gives saves rests told (opened false (line_counted old.taking)) (counted_point old) new =
      subst (λ (b : Bool). TakesRead gives saves rests told (first_opening b (Opening format)) (old.taking.is_opened && false) false (Opening format) line (counted_point old) new)
      (ap (λ (b : Begun). eqb (lines_begun b) 0) are_usual.begun) read in
      first.1

  pub opened_stands : (store : S) (listener : L) (new : Point S L) → Marks gives saves rests told (opened false (line_counted (starts options))) (counted_point (starting store listener)) new → Stands options true 0 new.taking
  opened_stands store listener new marks =
      same_stands options true 0 (opened false (line_counted (starts options))) new.taking marks.taking_is
      (record { options_are = refl; opened_is = refl; rejected = refl; cut_off = refl; told_is = refl; at_once = λ _. refl })

  pub end_marks : (count told_count : ℕ) (line : List ℕ) (old new : Point S L) → read_of options line ≡ End count → Stands options true told_count old.taking → TakesLine gives saves rests told true line old new
      → Marks gives saves rests told (closed (End count) (line_counted old.taking)) (counted_point old) new
  end_marks count told_count line old new is stands takes =
      let read = read_as true line (End count) old new stands.options_are is takes in
      let ends = subst (λ (first : Option PairFormat). TakesRead gives saves rests told first (old.taking.is_opened && true) true (End count) line (counted_point old) new) (no_end_opening (eqb old.taking.imported.lines 0) count) read in
      subst (λ (b : Bool). TakesRead gives saves rests told None b true (End count) line (counted_point old) new) (ap (λ (b : Bool). b && true) stands.opened_is) ends

  -- ---- all lines of an export

  last_parts : (front lines : List (List ℕ)) (last end : List ℕ) → front ++ last ∷ [] ≡ lines ++ end ∷ [] → (front ≡ lines) × (last ≡ end)
  last_parts front lines last end is =
      let same : front ≡ lines = sym (all_but front last) ∙ ap all_but_last is ∙ all_but lines end in
      (same, ap first_line_of (append_cancel_left front (last ∷ []) (end ∷ []) (is ∙ ap (λ (ls : List (List ℕ)). ls ++ end ∷ []) (sym same))))

  pub record TakesExport (opening end : List ℕ) (lines : List (List ℕ)) (old new : Point S L) : Type 0 where
    pub begun : Point S L
    pub ended : Point S L
    pub opens : TakesLine gives saves rests told false opening old begun
    pub amid : TakesLines gives saves rests told lines begun ended
    pub closes : TakesLine gives saves rests told true end ended new

  pub export_parts : (opening end : List ℕ) (lines : List (List ℕ)) (old new : Point S L) → TakesText gives saves rests told (opening ∷ (lines ++ end ∷ [])) old new → TakesExport opening end lines old new
  export_parts opening end lines old new (inl (none, same)) = absurd (omega (arith, ap length none))
  export_parts opening end lines old new (inr ([], (last, (mid, (is, (takes, taken)))))) = absurd (omega (arith, ap length is, length-append lines (end ∷ [])))
  export_parts opening end lines old new (inr (first ∷ front, (last, (mid, (is, ((next, (one, more)), taken)))))) =
      let parts = last_parts front lines last end (sym (ap lines_behind is)) in
      record {
        begun = next;
        ended = mid;
        opens = subst (λ (line : List ℕ). TakesLine gives saves rests told false line old next) (sym (ap first_line_of is)) one;
        amid = subst (λ (ls : List (List ℕ)). TakesLines gives saves rests told ls next mid) parts.0 more;
        closes = subst (λ (line : List ℕ). TakesLine gives saves rests told true line mid new) parts.1 taken;
      }
