-- The pairs of a text are put, in order.
use Rattle.std.proofs.Common.{◌≡◌, ◌≢◌, ◌≤◌, ◌+◌, ◌-◌, ◌^◌, ℕ, zero, suc, min, length, Bool, true, false, ◌&&◌, cond, eqb, List, [], ◌∷◌, ◌++◌, Option, Some, None, inl, inr, refl, sym, ap, ◌∙◌, subst, append-nil, arith}
use Rattle.std.specs.Prelude.{is_some}
use Rattle.std.proofs.lemmas.Bool.{false≢true, ne_eqb}
use Rattle.std.proofs.lemmas.Grind.{flat_map-append}
use Rattle.exh_pair_text.specs.declared.line.Line.{Line}
use Rattle.exh_pair_text.specs.declared.line.Line.TheVariants.{Pair, Opening, End, Empty, Wrong}
use Rattle.exh_pair_text.specs.declared.pair_format.PairFormat.{PairFormat}
use Rattle.exh_import.specs.declared.imported.Imported.{Imported}
use Rattle.exh_import.specs.declared.imported_store.Added.{Added}
use Rattle.exh_import.specs.declared.imported_store.Added.TheVariants.{Put, Full}
use Rattle.exh_import.specs.declared.options.ImportOptions.{ImportOptions}
use Rattle.exh_import.specs.declared.rejection.Rejection.{Rejection}
use Rattle.exh_import.specs.declared.taking.Taking.{Taking}
use Rattle.exh_import.specs.Counting.{ended, first_opening, full_counted, is_due, line_counted, lines_begun, more, pair_counted, rejected_counted, rested}
use Rattle.exh_import.specs.Imports.{Answered, FinishesWhere, Imports, Point, RestsWhere, SavesWhere, TakesAmid, TakesLine, TakesLines, TakesRead, TakesText}
use Rattle.exh_import.specs.Pairs.{ArePut, AreSaved, all_but_last, pair_of, pairs_of, pairs_of_text, pairs_of_whole, pairs_put, read_of}

module _ {S L : Type 0} (gives : S → List ℕ → List ℕ → Added → S → Type 0) (saves rests : S → S → Type 0) (told : L → ℕ → Rejection → List ℕ → L → Type 0) where
  saved_then : (count more : ℕ) (old mid new : S) → AreSaved gives saves rests count old mid → AreSaved gives saves rests more mid new → (all : ℕ) × AreSaved gives saves rests all old new
  saved_then zero more old mid new same rest = (more, subst (λ (s : S). AreSaved gives saves rests more s new) same rest)
  saved_then (suc count) more old mid new (next, (one, first)) rest =
      let all = saved_then count more next mid new first rest in
      (suc all.0, (next, (one, all.1)))

  saved_put : (count : ℕ) (pairs : List (List ℕ × List ℕ)) (old mid new : S) → AreSaved gives saves rests count old mid → ArePut gives saves rests pairs mid new → ArePut gives saves rests pairs old new
  saved_put count [] old mid new first (more, rest) = saved_then count more old mid new first rest
  saved_put count (pair ∷ pairs) old mid new first (more, (before, (answer, (next, (saved, (given, rest)))))) =
      let all = saved_then count more old mid before first saved in
      (all.0, (before, (answer, (next, (all.1, (given, rest))))))

  put_then : (pairs others : List (List ℕ × List ℕ)) (old mid new : S) → ArePut gives saves rests pairs old mid → ArePut gives saves rests others mid new → ArePut gives saves rests (pairs ++ others) old new
  put_then [] others old mid new (count, saved) rest = saved_put count others old mid new saved rest
  put_then (pair ∷ pairs) others old mid new (count, (before, (answer, (next, (saved, (given, first)))))) rest =
      (count, (before, (answer, (next, (saved, (given, put_then pairs others next mid new first rest))))))

  -- what a line doesn't change of how far an import is
  pub record Goes (old new : Taking) : Type 0 where
    pub options : new.options ≡ old.options
    pub lines : new.imported.lines ≡ old.imported.lines
    pub opened : new.is_opened ≡ old.is_opened

  goes_same : (old new middle : Taking) → new ≡ middle → middle.options ≡ old.options → middle.imported.lines ≡ old.imported.lines → middle.is_opened ≡ old.is_opened → Goes old new
  goes_same old new middle is options lines opened = record {
    options = ap (λ (t : Taking). t.options) is ∙ options;
    lines = ap (λ (t : Taking). t.imported.lines) is ∙ lines;
    opened = ap (λ (t : Taking). t.is_opened) is ∙ opened;
  }

  batch : (due : Bool) (old taking taking' : Taking) (store store' : S) → taking.options ≡ old.options → taking.imported.lines ≡ old.imported.lines → taking.is_opened ≡ old.is_opened → SavesWhere saves due taking store taking' store' → ArePut gives saves rests [] store store' × Goes old taking'
  batch true old taking taking' store store' options lines opened (is, saved) = ((1, (store', (inl saved, refl))), goes_same old taking' (record taking { unsaved = 0; is_saved = true }) is options lines opened)
  batch false old taking taking' store store' options lines opened (is, same) = ((0, same), goes_same old taking' taking is options lines opened)

  answered : (answer : Added) (key value : List ℕ) (before stored : S) (line : List ℕ) (old new : Point S L) → gives before key value answer stored → Answered gives saves rests told answer stored line old new
      → ArePut gives saves rests ((key, value) ∷ []) before new.store × Goes old.taking new.taking
  answered Full key value before stored line old new given (taking, store, listener) =
      ((0, (before, (Full, (stored, (refl, (given, (0, store))))))), goes_same old.taking new.taking (full_counted old.taking) taking refl refl refl)
  answered Put key value before stored line old new given (saved, listener) =
      let done = batch (is_due (pair_counted old.taking)) old.taking (pair_counted old.taking) new.taking stored new.store refl refl refl saved in
      ((0, (before, (Put, (stored, (refl, (given, done.0)))))), done.1)

  rested_put : (b : Bool) (pairs : List (List ℕ × List ℕ)) (old mid new : S) → RestsWhere rests b old mid → ArePut gives saves rests pairs mid new → ArePut gives saves rests pairs old new
  rested_put true pairs old mid new rest put = saved_put 1 pairs old mid new (mid, (inr rest, refl)) put
  rested_put false pairs old mid new same put = subst (λ (s : S). ArePut gives saves rests pairs s new) same put

  pub amid : (read : Line) (line : List ℕ) (old new : Point S L) → TakesAmid gives saves rests told read line old new → ArePut gives saves rests (pair_of read) old.store new.store × Goes old.taking new.taking
  amid (Pair key value) line old new puts =
      let done = answered puts.answer key value puts.before puts.stored line (record old { taking = rested old.taking }) new puts.put puts.answered in
      (rested_put old.taking.is_saved ((key, value) ∷ []) old.store puts.before new.store puts.rest done.0, record { options = done.1.options; lines = done.1.lines; opened = done.1.opened })
  amid Empty line old new same = ((0, ap (λ (p : Point S L). p.store) same), goes_same old.taking new.taking old.taking (ap (λ (p : Point S L). p.taking) same) refl refl refl)
  amid (Wrong wrong) line old new rejected = ((0, rejected.store), goes_same old.taking new.taking (rejected_counted old.taking) rejected.taking refl refl refl)
  amid (Opening format) line old new rejected = ((0, rejected.store), goes_same old.taking new.taking (rejected_counted old.taking) rejected.taking refl refl refl)
  amid (End count) line old new rejected = ((0, rejected.store), goes_same old.taking new.taking (rejected_counted old.taking) rejected.taking refl refl refl)

  -- ---- what is counted

  -- so many lines are counted
  pub record Counts (old new : Taking) (count : ℕ) : Type 0 where
    pub options : new.options ≡ old.options
    pub lines : new.imported.lines ≡ min (old.imported.lines + count) (2 ^ 64 - 1)

  read_goes : (o : Option PairFormat) (closes last : Bool) (read : Line) (line : List ℕ) (old new : Point S L) → TakesRead gives saves rests told o closes last read line old new
      → (new.taking.options ≡ old.taking.options) × (new.taking.imported.lines ≡ old.taking.imported.lines)
  read_goes (Some format) closes last read line old new (same, marks) = (ap (λ (t : Taking). t.options) marks.taking_is, ap (λ (t : Taking). t.imported.lines) marks.taking_is)
  read_goes None true last read line old new marks = (ap (λ (t : Taking). t.options) marks.taking_is, ap (λ (t : Taking). t.imported.lines) marks.taking_is)
  read_goes None false last read line old new taken = let done = amid read line old new taken in (done.1.options, done.1.lines)

  pub line_counts : (last : Bool) (line : List ℕ) (old new : Point S L) → TakesLine gives saves rests told last line old new → Counts old.taking new.taking 1
  line_counts last line old new takes =
      let read = read_of old.taking.options line in
      let done = read_goes (first_opening (eqb old.taking.imported.lines 0) read) (old.taking.is_opened && last) last read line (record { taking = line_counted old.taking; store = old.store; listener = old.listener }) new takes in
      record { options = done.0; lines = done.1 }

  no_more : (count : ℕ) → count ≤ 2 ^ 64 - 1 → count ≡ min (count + 0) (2 ^ 64 - 1)
  no_more count few = omega (arith, few)

  one_more : (old next new count : ℕ) → next ≡ min (old + 1) (2 ^ 64 - 1) → new ≡ min (next + count) (2 ^ 64 - 1) → new ≡ min (old + suc count) (2 ^ 64 - 1)
  one_more old next new count first rest = omega (arith, first, rest)

  few_then : (old next : ℕ) → next ≡ min (old + 1) (2 ^ 64 - 1) → next ≤ 2 ^ 64 - 1
  few_then old next first = omega (arith, first)

  pub lines_count : (lines : List (List ℕ)) (old new : Point S L) → old.taking.imported.lines ≤ 2 ^ 64 - 1 → TakesLines gives saves rests told lines old new → Counts old.taking new.taking (length lines)
  lines_count [] old new few same = record {
    options = ap (λ (p : Point S L). p.taking.options) same;
    lines = ap (λ (p : Point S L). p.taking.imported.lines) same ∙ no_more old.taking.imported.lines few;
  }
  lines_count (line ∷ lines) old new few (next, (one, more)) =
      let first = line_counts false line old next one in
      let others = lines_count lines next new (few_then old.taking.imported.lines next.taking.imported.lines first.lines) more in
      record {
        options = others.options ∙ first.options;
        lines = one_more old.taking.imported.lines next.taking.imported.lines new.taking.imported.lines (length lines) first.lines others.lines;
      }

  -- ---- lines behind the first

  -- an import of these options has taken a line, and the text opens so or not
  record IsBehind (options : ImportOptions) (is_export : Bool) (taking : Taking) : Type 0 where
    pub options_are : taking.options ≡ options
    pub some : taking.imported.lines ≢ 0
    pub opened_is : taking.is_opened ≡ is_export

  more_some : (count : ℕ) → more count ≢ 0
  more_some count none = omega arith

  no_first : (first : Bool) (read : Line) → first ≡ false → first_opening first read ≡ None
  no_first false read is = refl
  no_first true read is = absurd (false≢true (sym is))

  closes_not : (b : Bool) → (b && false) ≡ false
  closes_not true = refl
  closes_not false = refl

  closes_last : (b : Bool) → (b && true) ≡ b
  closes_last true = refl
  closes_last false = refl

  last_by : (closes : Bool) (read : Line) (line : List ℕ) (old new : Point S L) → TakesRead gives saves rests told None closes true read line old new → ArePut gives saves rests (cond closes [] (pair_of read)) old.store new.store
  last_by true read line old new marks = (0, marks.store)
  last_by false read line old new taken = (amid read line old new taken).0

  module _ (options : ImportOptions) (is_export : Bool) where
    abbrev counted_point : Point S L → Point S L
    counted_point old = record old { taking = line_counted old.taking }

    behind_goes : (old new : Taking) → IsBehind options is_export old → Goes (line_counted old) new → IsBehind options is_export new
    behind_goes old new behind goes = record {
      options_are = goes.options ∙ behind.options_are;
      some = λ none. more_some old.imported.lines (sym goes.lines ∙ none);
      opened_is = goes.opened ∙ behind.opened_is;
    }

    read_is : (old : Point S L) (line : List ℕ) → IsBehind options is_export old.taking → read_of old.taking.options line ≡ read_of options line
    read_is old line behind = ap (λ (o : ImportOptions). read_of o line) behind.options_are

    -- a line that isn't the last
    one_line : (line : List ℕ) (old new : Point S L) → IsBehind options is_export old.taking → TakesLine gives saves rests told false line old new
        → ArePut gives saves rests (pair_of (read_of options line)) old.store new.store × IsBehind options is_export new.taking
    one_line line old new behind takes =
        let read = read_of old.taking.options line in
        let opening = no_first (eqb old.taking.imported.lines 0) read (ne_eqb old.taking.imported.lines 0 behind.some) in
        let first = subst (λ (o : Option PairFormat). TakesRead gives saves rests told o (old.taking.is_opened && false) false read line (counted_point old) new) opening takes in
        let taken = subst (λ (b : Bool). TakesRead gives saves rests told None b false read line (counted_point old) new) (closes_not old.taking.is_opened) first in
        let done = amid read line (counted_point old) new taken in
        (subst (λ (r : Line). ArePut gives saves rests (pair_of r) old.store new.store) (read_is old line behind) done.0, behind_goes old.taking new.taking behind done.1)

    -- several
    several : (lines : List (List ℕ)) (old new : Point S L) → IsBehind options is_export old.taking → TakesLines gives saves rests told lines old new
        → ArePut gives saves rests (pairs_of options lines) old.store new.store × IsBehind options is_export new.taking
    several [] old new behind same = ((0, ap (λ (p : Point S L). p.store) same), subst (λ (p : Point S L). IsBehind options is_export p.taking) (sym same) behind)
    several (line ∷ lines) old new behind (next, (one, rest)) =
        let first = one_line line old next behind one in
        let others = several lines next new first.1 rest in
        (put_then (pair_of (read_of options line)) (pairs_of options lines) old.store next.store new.store first.0 others.0, others.1)

    -- the last one, whose pair is put but in an export
    last_line : (line : List ℕ) (old new : Point S L) → IsBehind options is_export old.taking → TakesLine gives saves rests told true line old new
        → ArePut gives saves rests (cond is_export [] (pair_of (read_of options line))) old.store new.store
    last_line line old new behind takes =
        let read = read_of old.taking.options line in
        let opening = no_first (eqb old.taking.imported.lines 0) read (ne_eqb old.taking.imported.lines 0 behind.some) in
        let first = subst (λ (o : Option PairFormat). TakesRead gives saves rests told o (old.taking.is_opened && true) true read line (counted_point old) new) opening takes in
        let taken = subst (λ (b : Bool). TakesRead gives saves rests told None b true read line (counted_point old) new) (closes_last old.taking.is_opened ∙ behind.opened_is) first in
        subst (λ (r : Line). ArePut gives saves rests (cond is_export [] (pair_of r)) old.store new.store) (read_is old line behind) (last_by is_export read line (counted_point old) new taken)

  -- ---- all lines

  all_but : (front : List (List ℕ)) (last : List ℕ) → all_but_last (front ++ last ∷ []) ≡ front
  all_but [] last = refl
  all_but (line ∷ []) last = refl
  all_but (line ∷ next ∷ front) last = ap (λ (lines : List (List ℕ)). line ∷ lines) (all_but (next ∷ front) last)

  parts_of : (options : ImportOptions) (e : Bool) (first : List ℕ) (rest : List (List ℕ)) (last : List ℕ)
      → cond e [] (pair_of (read_of options first)) ++ (pairs_of options rest ++ cond e [] (pair_of (read_of options last)))
      ≡ cond e (pairs_of options (all_but_last (rest ++ last ∷ []))) (pairs_of options (first ∷ (rest ++ last ∷ [])))
  parts_of options true first rest last = append-nil (pairs_of options rest) ∙ ap (pairs_of options) (sym (all_but rest last))
  parts_of options false first rest last =
      ap (λ (more : List (List ℕ × List ℕ)). pair_of (read_of options first) ++ more)
      (ap (λ (end : List (List ℕ × List ℕ)). pairs_of options rest ++ end) (sym (append-nil (pair_of (read_of options last)))) ∙ sym (flat_map-append (λ line. pair_of (read_of options line)) rest (last ∷ [])))

  -- the first line
  start_by : (options : ImportOptions) (o : Option PairFormat) (last : Bool) (read : Line) (line : List ℕ) (old new : Point S L) → IsBehind options false old.taking → TakesRead gives saves rests told o false last read line old new
      → ArePut gives saves rests (cond (is_some o) [] (pair_of read)) old.store new.store × IsBehind options (is_some o) new.taking
  start_by options (Some format) last read line old new behind (same, marks) = (
    (0, marks.store),
    record {
      options_are = ap (λ (t : Taking). t.options) marks.taking_is ∙ behind.options_are;
      some = λ none. behind.some (sym (ap (λ (t : Taking). t.imported.lines) marks.taking_is) ∙ none);
      opened_is = ap (λ (t : Taking). t.is_opened) marks.taking_is;
    },
  )
  start_by options None last read line old new behind taken =
      let done = amid read line old new taken in (
        done.0,
        record {
          options_are = done.1.options ∙ behind.options_are;
          some = λ none. behind.some (sym done.1.lines ∙ none);
          opened_is = done.1.opened ∙ behind.opened_is;
        },
      )

  ends_of : (options : ImportOptions) (e : Bool) (front : List (List ℕ)) (last : List ℕ) → pairs_of options front ++ cond e [] (pair_of (read_of options last)) ≡ pairs_of_text options e (front ++ last ∷ [])
  ends_of options true front last = append-nil (pairs_of options front) ∙ ap (pairs_of options) (sym (all_but front last))
  ends_of options false front last =
      ap (λ (end : List (List ℕ × List ℕ)). pairs_of options front ++ end) (sym (append-nil (pair_of (read_of options last)))) ∙ sym (flat_map-append (λ line. pair_of (read_of options line)) front (last ∷ []))

  none_of : (options : ImportOptions) (e : Bool) → [] ≡ pairs_of_text options e []
  none_of options true = refl
  none_of options false = refl

  module _ (options : ImportOptions) (store : S) (listener : L) where
    -- an import that was begun so
    abbrev begins : Bool → Bool → Taking
    begins opened header = record {
      options = options;
      imported = record { lines = lines_begun (record { is_opened = opened; has_header = header }); pairs = 0; rejected = 0; full = 0; is_cut_off = opened; is_committed = false };
      is_opened = opened;
      unsaved = 0;
      is_saved = false;
    }

    abbrev start : Bool → Bool → Point S L
    start opened header = record { taking = begins opened header; store = store; listener = listener }

    -- ---- with the first line

    abbrev counted : Point S L
    counted = record { taking = line_counted (begins false false); store = store; listener = listener }

    counted_behind : IsBehind options false counted.taking
    counted_behind = record { options_are = refl; some = more_some 0; opened_is = refl }

    one_part : (e : Bool) (last : List ℕ) → cond e [] (pair_of (read_of options last)) ≡ cond e (pairs_of options []) (pairs_of options (last ∷ []))
    one_part true last = refl
    one_part false last = sym (append-nil (pair_of (read_of options last)))

    put_parts : (front : List (List ℕ)) (last : List ℕ) (mid next : Point S L) → TakesLines gives saves rests told front (start false false) mid → TakesLine gives saves rests told true last mid next
        → ArePut gives saves rests (pairs_of_whole options (front ++ last ∷ [])) store next.store
    put_parts [] last mid next same takes =
        let taken = subst (λ (p : Point S L). TakesLine gives saves rests told true last p next) same takes in
        let o = first_opening true (read_of options last) in
        let done = start_by options o true (read_of options last) last counted next counted_behind taken in
        subst (λ (pairs : List (List ℕ × List ℕ)). ArePut gives saves rests pairs store next.store) (one_part (is_some o) last) done.0
    put_parts (first ∷ rest) last mid next (one, (takes, more)) end =
        let o = first_opening true (read_of options first) in
        let begun = start_by options o false (read_of options first) first counted one counted_behind takes in
        let amid_text = several options (is_some o) rest one mid begun.1 more in
        let ended = last_line options (is_some o) last mid next amid_text.1 end in
        subst (λ (pairs : List (List ℕ × List ℕ)). ArePut gives saves rests pairs store next.store) (parts_of options (is_some o) first rest last)
        (put_then (cond (is_some o) [] (pair_of (read_of options first))) (pairs_of options rest ++ cond (is_some o) [] (pair_of (read_of options last))) store one.store next.store begun.0
        (put_then (pairs_of options rest) (cond (is_some o) [] (pair_of (read_of options last))) one.store mid.store next.store amid_text.0 ended))

    put_whole : (lines : List (List ℕ)) (next : Point S L) → TakesText gives saves rests told lines (start false false) next → ArePut gives saves rests (pairs_of_whole options lines) store next.store
    put_whole lines next (inl (none, same)) = subst (λ (ls : List (List ℕ)). ArePut gives saves rests (pairs_of_whole options ls) store next.store) (sym none) (0, ap (λ (p : Point S L). p.store) same)
    put_whole lines next (inr (front, (last, (mid, (is, (takes, end)))))) = subst (λ (ls : List (List ℕ)). ArePut gives saves rests (pairs_of_whole options ls) store next.store) (sym is) (put_parts front last mid next takes end)

    -- ---- behind a heading

    put_behind : (e : Bool) (lines : List (List ℕ)) (old next : Point S L) → IsBehind options e old.taking → TakesText gives saves rests told lines old next → ArePut gives saves rests (pairs_of_text options e lines) old.store next.store
    put_behind e lines old next behind (inl (none, same)) =
        subst (λ (pairs : List (List ℕ × List ℕ)). ArePut gives saves rests pairs old.store next.store) (none_of options e ∙ ap (pairs_of_text options e) (sym none)) (0, ap (λ (p : Point S L). p.store) same)
    put_behind e lines old next behind (inr (front, (last, (mid, (is, (takes, end)))))) =
        let amid_text = several options e front old mid behind takes in
        let ended = last_line options e last mid next amid_text.1 end in
        subst (λ (pairs : List (List ℕ × List ℕ)). ArePut gives saves rests pairs old.store next.store) (ends_of options e front last ∙ ap (pairs_of_text options e) (sym is))
        (put_then (pairs_of options front) (cond e [] (pair_of (read_of options last))) old.store mid.store next.store amid_text.0 ended)

    -- ---- all lines

    put_text : (opened header : Bool) (lines : List (List ℕ)) (next : Point S L) → TakesText gives saves rests told lines (start opened header) next
        → ArePut gives saves rests (cond (eqb (lines_begun (record { is_opened = opened; has_header = header })) 0) (pairs_of_whole options lines) (pairs_of_text options opened lines)) store next.store
    put_text false false lines next takes = put_whole lines next takes
    put_text false true lines next takes = put_behind false lines (start false true) next (record { options_are = refl; some = λ none. omega (arith, none); opened_is = refl }) takes
    put_text true false lines next takes = put_behind true lines (start true false) next (record { options_are = refl; some = λ none. omega (arith, none); opened_is = refl }) takes
    put_text true true lines next takes = put_behind true lines (start true true) next (record { options_are = refl; some = λ none. omega (arith, none); opened_is = refl }) takes

    finished : (b : Bool) (taking : Taking) (old new : S) (imported : Imported) → FinishesWhere saves b taking old imported new → ArePut gives saves rests [] old new
    finished true taking old new imported (is, same) = (0, same)
    finished false taking old new imported (is, saved) = (1, (new, (inl saved, refl)))

    pub imports_put : (whole : Bool) (lines : List (List ℕ)) (imported : Imported) (store' : S) (listener' : L) → Imports gives saves rests told options whole lines store listener imported store' listener' → ArePut gives saves rests (pairs_put options lines) store store'
    imports_put whole lines imported store' listener' imports =
        subst (λ (pairs : List (List ℕ × List ℕ)). ArePut gives saves rests pairs store store') (append-nil (pairs_put options lines))
        (put_then (pairs_put options lines) [] store imports.next.store store' (put_text options.begun.is_opened options.begun.has_header lines imports.next imports.takes)
        (finished _ (ended whole imports.next.taking) imports.next.store store' imported imports.finishes))
