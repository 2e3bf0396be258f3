-- The lines of a text, of which a beginning is taken.
use Rattle.std.proofs.Common.{◌≡◌, ◌≢◌, ℕ, zero, suc, ◌+◌, ◌≤◌, ◌<◌, Bool, true, false, cond, List, [], ◌∷◌, ◌++◌, length, take, drop, map, Option, Some, None, IfSome, All, inl, inr, refl, sym, ap, ap₂, ◌∙◌, subst, append_assoc, append-nil, arith, length-append, IsTrue}
use Rattle.std.specs.Prelude.{◌⊎◌, ◌==◌, IfNone, not, codes, option_to_list}
use Rattle.std.specs.List.{slice_split}
use Rattle.std.specs.Io.KnownBytes.{Consumes, IsAtEnd, prepend_known}
use Rattle.std.proofs.KnownBytes.{Consumes-nil, Consumes-trans, Consumes-whole, Keeps-refl, prepend_known-end}
use Rattle.std.proofs.lemmas.Bool.{cases_lt}
use Rattle.std.proofs.lemmas.Bool.Decides.{nat_tests}
use Rattle.std.proofs.lemmas.List.{length-drop, length-take, length-take-le, map-append, take-append-le, take-take, take_all}
use Rattle.std.proofs.lemmas.List.Elements.{All-append, All-cons, All-nil}
use Rattle.std.proofs.lemmas.List.Splits.{slice_split_at, slice_split_none}
use Rattle.exh_stream.specs.Source.{unread}
use Rattle.exh_text.specs.TextLines.{is_empty, lines_of, newline, parts_at, without_empty}
use Rattle.exh_load.specs.Load.{AreWholeLines}
use Rattle.exh_load.specs.LongLoad.{short_lines}
use Rattle.exh_load.specs.LineSource.{AreAllLines, AreFirstLines, AreSomeLines, AreTaken, EndsRight, GoesOn, HasPassed, IsAdded, IsOver, Passes, text_left, waiting}
use Rattle.exh_load.specs.declared.line_source.LineSource.{LineSource}
use Rattle.exh_load.specs.declared.line_source.TheConstants.{LINE_LEN}
use Rattle.exh_load.proofs.Lines.{lines_then}

-- ---- lines of bytes

pub lines_nil : lines_of [] ≡ []
unfolding lines_of parts_at
lines_nil = refl

lines_newline : (bytes : List ℕ) → lines_of (newline ∷ bytes) ≡ lines_of bytes
unfolding lines_of parts_at
lines_newline bytes = refl

-- bytes without a newline
abbrev pub IsPlain : List ℕ → Type 0
IsPlain bytes = All (λ b. (b == newline) ≡ false) bytes

kept : (line : List ℕ) (lines : List (List ℕ)) → is_empty line ≡ false → without_empty (line ∷ lines) ≡ line ∷ without_empty lines
kept line lines some = ap (λ b. cond (not b) (line ∷ without_empty lines) (without_empty lines)) some

line_ended : (line more : List ℕ) → IsPlain line → is_empty line ≡ false → lines_of (line ++ newline ∷ more) ≡ line ∷ lines_of more
unfolding lines_of parts_at
line_ended line more plain some = ap without_empty (slice_split_at (λ b. b == newline) line newline more plain refl) ∙ kept line (slice_split (λ b. b == newline) more) some

line_last : (line : List ℕ) → IsPlain line → is_empty line ≡ false → lines_of line ≡ line ∷ []
unfolding lines_of parts_at
line_last line plain some = ap without_empty (slice_split_none (λ b. b == newline) line plain) ∙ kept line [] some

-- ---- small facts

plain_none : IsPlain []
plain_none = All-nil (λ b. (b == newline) ≡ false)

plain_more : (line : List ℕ) (byte : ℕ) → IsPlain line → (byte == newline) ≡ false → IsPlain (line ++ byte ∷ [])
plain_more line byte plain other = All-append (λ b. (b == newline) ≡ false) line (byte ∷ []) plain (All-cons (λ b. (b == newline) ≡ false) byte [] other plain_none)

more_than_none : (line : List ℕ) (byte : ℕ) → line ++ byte ∷ [] ≡ [] → ⊥
more_than_none [] byte none = cc
more_than_none (first ∷ line) byte none = cc

left_none : (known : Option (List ℕ)) (waiting : List ℕ) → waiting ≡ [] → IsAtEnd known → IsAtEnd (prepend_known waiting known)
left_none None waiting none end = tt
left_none (Some bytes) waiting none end = ap₂ (λ (a b : List ℕ). a ++ b) none end

is_front : (known left : Option (List ℕ)) (given : List ℕ) → Consumes known left given → IfSome known (λ bytes. (rest : List ℕ) × (bytes ≡ given ++ rest))
is_front None left given consumed = tt
is_front (Some bytes) None given consumed = absurd consumed
is_front (Some bytes) (Some rest) given consumed = (rest, consumed)

none_is_front : (known : Option (List ℕ)) → IfSome known (λ bytes. (rest : List ℕ) × (bytes ≡ [] ++ rest))
none_is_front None = tt
none_is_front (Some bytes) = (bytes, refl)

-- nothing is taken
pub first_none : (known : Option (List ℕ)) (number : ℕ) → ((number ≡ 41) × AreWholeLines []) ⊎ (number ≡ 62) → AreFirstLines known [] number
first_none known number fault = record { front = []; read = none_is_front known; fault = fault; lines = ap (map (take LINE_LEN)) lines_nil }

-- ---- bytes that are taken

module _ {R : Type 0} (remaining : R → Option (List ℕ)) where
  pub taken_none : (lines : LineSource R) → AreTaken remaining lines lines []
  taken_none lines = record { consumed = Consumes-nil (text_left remaining lines); none = λ over. refl; still = λ over. over }

  pub taken_then : (old mid new : LineSource R) (first more : List ℕ) → AreTaken remaining old mid first → AreTaken remaining mid new more → AreTaken remaining old new (first ++ more)
  taken_then old mid new first more one other = record {
    consumed = Consumes-trans _ _ _ first more one.consumed other.consumed;
    none = λ over. ap₂ (λ (a b : List ℕ). a ++ b) (one.none over) (other.none (one.still over));
    still = λ over. other.still (one.still over);
  }

-- ---- a line that is begun

-- the bytes that were taken have no line before this one, whose bytes these are
pub record IsAmid (given line : List ℕ) : Type 0 where
  pub front : (more : List ℕ) → lines_of (given ++ more) ≡ lines_of (line ++ more)
  pub plain : IsPlain line
  pub closed : line ≡ [] → AreWholeLines given

pub amid_start : IsAmid [] []
amid_start = record { front = λ more. refl; plain = plain_none; closed = λ none. inl refl }

module _ (given line : List ℕ) (amid : IsAmid given line) where
  -- a byte of the line
  pub amid_more : (byte : ℕ) → (byte == newline) ≡ false → IsAmid (given ++ byte ∷ []) (line ++ byte ∷ [])
  amid_more byte other = record {
    front = λ more. ap lines_of (append_assoc given (byte ∷ []) more) ∙ amid.front (byte ∷ more) ∙ sym (ap lines_of (append_assoc line (byte ∷ []) more));
    plain = plain_more line byte amid.plain other;
    closed = λ none. absurd (more_than_none line byte none);
  }

  -- a newline before any
  pub amid_newline : line ≡ [] → IsAmid (given ++ newline ∷ []) []
  amid_newline none = record {
    front = λ more. ap lines_of (append_assoc given (newline ∷ []) more) ∙ amid.front (newline ∷ more) ∙ ap (λ (l : List ℕ). lines_of (l ++ newline ∷ more)) none ∙ lines_newline more;
    plain = plain_none;
    closed = λ _. inr (given, refl);
  }

  -- the newline behind it
  pub amid_ended : is_empty line ≡ false → (more : List ℕ) → lines_of ((given ++ newline ∷ []) ++ more) ≡ line ∷ lines_of more
  amid_ended some more = ap lines_of (append_assoc given (newline ∷ []) more) ∙ amid.front (newline ∷ more) ∙ line_ended line more amid.plain some

  -- or the end of the text
  pub amid_last : is_empty line ≡ false → (more : List ℕ) → more ≡ [] → lines_of (given ++ more) ≡ line ∷ lines_of more
  amid_last some more none =
      ap (λ (l : List ℕ). lines_of (given ++ l)) none ∙ amid.front [] ∙ ap lines_of (append-nil line) ∙ line_last line amid.plain some ∙ ap (λ (lines : List (List ℕ)). line ∷ lines) (sym (ap lines_of none ∙ lines_nil))

  pub amid_none : line ≡ [] → (more : List ℕ) → lines_of (given ++ more) ≡ lines_of more
  amid_none none more = amid.front more ∙ ap (λ (l : List ℕ). lines_of (l ++ more)) none

-- ---- lines that are passed

module _ {R : Type 0} (remaining : R → Option (List ℕ)) where
  pub passes : (old new : LineSource R) (given : List ℕ) (whole more_answered : List (List ℕ)) → AreTaken remaining old new given → more_answered ≡ map (take LINE_LEN) whole
      → ((more : List ℕ) → (IsOver new → more ≡ []) → lines_of (given ++ more) ≡ whole ++ lines_of more) → IsOver new ⊎ AreWholeLines given → Passes remaining old new more_answered
  passes old new given whole more_answered taken short on closed known answered before = record {
    given = before.given ++ given;
    consumed = Consumes-trans known (text_left remaining old) (text_left remaining new) before.given given before.consumed taken.consumed;
    whole = before.whole ++ whole;
    short = ap₂ (λ (a b : List (List ℕ)). a ++ b) before.short short ∙ sym (map-append (take LINE_LEN) before.whole whole);
    goes_on = λ more end.
        ap lines_of (append_assoc before.given given more)
        ∙ before.goes_on (given ++ more) (λ over. ap₂ (λ (a b : List ℕ). a ++ b) (taken.none over) (end (taken.still over)))
        ∙ ap (λ (l : List (List ℕ)). before.whole ++ l) (on more end) ∙ sym (append_assoc before.whole whole (lines_of more));
    closed = elim closed [
      | inl over ↦ inl over
      | inr here ↦ elim before.closed [ inl over ↦ inl (taken.still over) | inr there ↦ inr (lines_then before.given given there here) ]
    ];
  }

  pub passes_none : (lines : LineSource R) → Passes remaining lines lines []
  passes_none lines known answered before = subst (HasPassed remaining known lines) (sym (append-nil answered)) before

  pub passes_then : (old mid new : LineSource R) (first more : List (List ℕ)) → Passes remaining old mid first → Passes remaining mid new more → Passes remaining old new (first ++ more)
  passes_then old mid new first more one other known answered before = subst (HasPassed remaining known new) (append_assoc answered first more) (other known (answered ++ first) (one known answered before))

  -- nothing is taken yet
  pub passed_start : (lines : LineSource R) → HasPassed remaining (text_left remaining lines) lines []
  passed_start lines = record { given = []; consumed = Consumes-nil (text_left remaining lines); whole = []; short = refl; goes_on = λ more end. refl; closed = inr (inl refl) }

  module _ (known : Option (List ℕ)) (lines : LineSource R) (answered : List (List ℕ)) (passed : HasPassed remaining known lines answered) where
    lines_taken : short_lines passed.given ≡ answered
    lines_taken =
        ap (map (take LINE_LEN)) (ap lines_of (sym (append-nil passed.given)) ∙ passed.goes_on [] (λ over. refl) ∙ ap (λ (l : List (List ℕ)). passed.whole ++ l) lines_nil ∙ append-nil passed.whole) ∙ sym passed.short

    pub all_taken : EndsRight remaining lines → IsOver lines → AreAllLines known answered
    all_taken ends over = record {
      text = passed.given;
      read = Consumes-whole known (text_left remaining lines) passed.given (λ bytes. passed.given ≡ bytes) passed.consumed (left_none (unread remaining lines.source) (waiting lines) over.taken (ends over.ended)) refl;
      lines = lines_taken;
    }

    pub first_taken : (number : ℕ) → ((number ≡ 41) × AreWholeLines passed.given) ⊎ (number ≡ 62) → AreFirstLines known answered number
    first_taken number fault = record { front = passed.given; read = is_front known (text_left remaining lines) passed.given passed.consumed; fault = fault; lines = lines_taken }

    pub some_taken : EndsRight remaining lines → AreSomeLines known answered
    some_taken ends = elim passed.closed [ inl over ↦ inl (all_taken ends over) | inr whole ↦ inr (first_taken 41 (inl (refl, whole))) ]

    -- where reading on failed
    pub stopped_at : (IsOver lines → ⊥) → AreFirstLines known answered 41
    stopped_at more = elim passed.closed [ inl over ↦ absurd (more over) | inr whole ↦ first_taken 41 (inl (refl, whole)) ]

-- ---- the next line

-- of the first bytes of a line
pub short_few : (most : ℕ) (line : List ℕ) → length (take most line) ≤ most
short_few most line = omega (arith, length-take most line)

pub short_more : (most : ℕ) (line : List ℕ) (byte : ℕ) → take most (take most line ++ byte ∷ []) ≡ take most (line ++ byte ∷ [])
short_more most line byte = elim (cases_lt (length line) most) [
  | inl few ↦ ap (λ (l : List ℕ). take most (l ++ byte ∷ [])) (take_all most line (omega (arith, few)))
  | inr many ↦
      take-append-le most (take most line) (byte ∷ []) (omega (arith, length-take-le most line many)) ∙ take-take most most line (omega arith)
      ∙ sym (take-append-le most line (byte ∷ []) many)
]

some_there : (first : ℕ) (line : List ℕ) → is_empty (first ∷ line) ≡ false
some_there first line = grind (arith, nat_tests)

short_empty : (line : List ℕ) → is_empty (take LINE_LEN line) ≡ is_empty line
short_empty [] = refl
short_empty (first ∷ line) = some_there first (take 387 line) ∙ sym (some_there first line)

none_there : (line : List ℕ) → is_empty line ≡ true → line ≡ []
none_there [] empty = refl
none_there (first ∷ line) empty = let never : true ≡ false = sym empty ∙ some_there first line in cc

pub drop_some : (at : ℕ) (items : List ℕ) → at < length items → drop at items ≢ []
drop_some at items within none = absurd (omega (arith, length-drop at items, ap length none, within))

module _ {R : Type 0} (remaining : R → Option (List ℕ)) where
  -- the last byte of a block was taken
  pub end_over : (old new : LineSource R) (byte : Option ℕ) → new ≡ record old { at = new.at } → waiting old ≡ option_to_list byte ++ waiting new → IfNone byte (waiting new ≡ []) → IsTrue old.ended ⊎ (waiting old ≢ [])
      → IfNone byte (IsOver new)
  end_over old new (Some byte) same taken none more = tt
  end_over old new None same taken none more = elim more [
    | inl ended ↦ record { ended = ap (λ (s : LineSource R). s.ended) same ∙ ended; taken = none }
    | inr some ↦ absurd (some (taken ∙ none))
  ]

  pub items_kept : (now old : LineSource R) → now.line ≡ old.line → now.line.items ≡ old.line.items
  items_kept now old kept = cc

  -- only the line, or its number, is another
  over_else : (now new : LineSource R) → new ≡ record now { line = new.line; number = new.number } → IsOver now → IsOver new
  over_else now new same over = subst IsOver (sym same) (record { ended = over.ended; taken = over.taken })

  pub taken_else : (old now new : LineSource R) (given : List ℕ) → new ≡ record now { line = new.line; number = new.number } → AreTaken remaining old now given → AreTaken remaining old new given
  taken_else old now new given same taken =
      subst (λ (s : LineSource R). AreTaken remaining old s given) (sym same)
      (record { consumed = taken.consumed; none = taken.none; still = λ over. let after = taken.still over in record { ended = after.ended; taken = after.taken } })

  module _ (old now new : LineSource R) (given line : List ℕ) (amid : IsAmid given line) (short : now.line.items ≡ take LINE_LEN line) (same : new ≡ record now { line = new.line; number = new.number }) where
    kept_empty : (b : Bool) → is_empty now.line.items ≡ b → is_empty line ≡ b
    kept_empty b is = sym (short_empty line) ∙ ap is_empty (sym short) ∙ is

    -- a newline ended it
    pub line_passed : AreTaken remaining old now (given ++ newline ∷ []) → is_empty now.line.items ≡ false → new.line.items ≡ now.line.items → Passes remaining old new (new.line.items ∷ [])
    line_passed taken some kept =
        passes remaining old new (given ++ newline ∷ []) (line ∷ []) (new.line.items ∷ []) (taken_else old now new (given ++ newline ∷ []) same taken) (ap (λ (l : List ℕ). l ∷ []) (kept ∙ short))
        (λ more end. amid_ended given line amid (kept_empty false some) more) (inr (inr (given, refl)))

    -- the text is over
    last_passed : (b : Bool) → is_empty now.line.items ≡ b → AreTaken remaining old now given → IsOver now → new.line.items ≡ now.line.items → GoesOn remaining old new (not b)
    last_passed true none taken over kept =
        (passes remaining old new given [] [] (taken_else old now new given same taken) refl (λ more end. amid_none given line amid (none_there line (kept_empty true none)) more) (inl (over_else now new same over)), over_else now new same over)
    last_passed false some taken over kept =
        passes remaining old new given (line ∷ []) (new.line.items ∷ []) (taken_else old now new given same taken) (ap (λ (l : List ℕ). l ∷ []) (kept ∙ short))
        (λ more end. amid_last given line amid (kept_empty false some) more (end (over_else now new same over))) (inl (over_else now new same over))

    pub end_passed : (some : Bool) → some ≡ not (is_empty now.line.items) → AreTaken remaining old now given → IsOver now → new.line.items ≡ now.line.items → GoesOn remaining old new some
    end_passed some is taken over kept = subst (GoesOn remaining old new) (sym is) (last_passed (is_empty now.line.items) refl taken over kept)

  pub text_ended : (old now new : LineSource R) (given line : List ℕ) → IsAmid given line → now.line.items ≡ take LINE_LEN line → new ≡ record now { number = new.number } → (some : Bool) → some ≡ not (is_empty now.line.items)
      → AreTaken remaining old now given → IsOver now → GoesOn remaining old new some
  text_ended old now new given line amid short same some is taken over =
      let same_line = same ∙ ap (λ (s : LineSource R). let other : LineSource R = record now { line = s.line; number = new.number } in other) (sym same) in
      end_passed old now new given line amid short same_line some is taken over (items_kept new now (ap (λ (s : LineSource R). s.line) same))

-- a byte more that doesn't end it
pub begun_more : (given line : List ℕ) (byte : ℕ) (old new : List ℕ) → IsAmid given line → old ≡ take LINE_LEN line → IsAdded old byte new false → (l : List ℕ) × IsAmid (given ++ byte ∷ []) l × (new ≡ take LINE_LEN l)
begun_more given line byte old new amid short added = elim added [
  | inl skipped ↦
      let none : line ≡ [] = none_there line (sym (short_empty line) ∙ ap is_empty (sym short) ∙ skipped.1) in
      ([], subst (λ b. IsAmid (given ++ b ∷ []) []) (sym skipped.0) (amid_newline given line amid none), skipped.2 ∙ short ∙ ap (take LINE_LEN) none)
  | inr more ↦ (line ++ byte ∷ [], amid_more given line amid byte more.0, more.1 ∙ ap (λ (l : List ℕ). take LINE_LEN (l ++ byte ∷ [])) short ∙ short_more LINE_LEN line byte)
]
