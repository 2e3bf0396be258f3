-- The lines of a text, of which a beginning is taken, and what is done of them.
use Rattle.std.proofs.Common.{◌≡◌, ◌≢◌, ℕ, ◌+◌, ◌<◌, Bool, true, false, List, [], ◌∷◌, ◌++◌, length, drop, Option, Some, None, IfSome, Result, Ok, Err, IfOk, inl, inr, refl, sym, ap, ap₂, ◌∙◌, subst, append_assoc, append-nil, length-append, arith}
use Rattle.std.specs.Io.KnownBytes.{Consumes, IsAtEnd, Keeps, prepend_known}
use Rattle.std.proofs.KnownBytes.{Consumes-kept, Consumes-nil, Consumes-trans, Consumes-whole}
use Rattle.std.proofs.lemmas.List.{length-drop, length_push}
use Rattle.exh_stream.specs.Source.{unread}
use Rattle.exh_text.specs.TextLines.{newline}
use Rattle.exh_pair_text.specs.declared.place.Place.{Place}
use Rattle.exh_pair_text.specs.declared.place.Place.TheVariants.{Start, Quoted}
use Rattle.exh_pair_text.specs.Places.{AreQuoted, place_behind}
use Rattle.exh_pair_text.specs.Records.{IsOneLine, place_by}
use Rattle.exh_pair_text.specs.declared.pair_format.PairFormat.{PairFormat}
use Rattle.exh_import.specs.declared.imported_store.Added.{Added}
use Rattle.exh_import.specs.declared.line_reader.LineReader.{LineReader}
use Rattle.exh_import.specs.declared.rejection.Rejection.{Rejection}
use Rattle.exh_import.specs.Causes.{AreWholeLines, IsWholeLine, whole_line, whole_lines}
use Rattle.exh_import.specs.Imports.{EndsSo, IsTextOf, Point, TakesLine, TakesLines, TakesText}
use Rattle.exh_import.specs.LineReader.{AreTaken, EndsRight, IsOver, TakesNext, TellsWhole, text_left, waiting}

pub if_ok_map : {T E : Type 0} (result : Result T E) (P Q : T → Type 0) → IfOk result P → ((made : T) → P made → Q made) → IfOk result Q
if_ok_map (Ok made) P Q holds more = more made holds
if_ok_map (Err fault) P Q holds more = tt

-- ---- lines that end with a newline

-- lines behind others
pub lines_behind : (format : PairFormat) (front lines : List (List ℕ)) (rest : List ℕ) → AreWholeLines format front → IsTextOf format lines rest → IsTextOf format (front ++ lines) (whole_lines front ++ rest)
lines_behind format [] lines rest all text = text
lines_behind format (line ∷ front) lines rest all text =
    (all.0.0, inl (whole_lines front ++ rest, all.0.1, append_assoc (whole_line line) (whole_lines front) rest ∙ append_assoc line (newline ∷ []) (whole_lines front ++ rest), lines_behind format front lines rest all.1 text))

pub lines_end : (format : PairFormat) (front : List (List ℕ)) → AreWholeLines format front → IsTextOf format front (whole_lines front)
lines_end format [] all = refl
lines_end format (line ∷ front) all = (all.0.0, inl (whole_lines front, all.0.1, append_assoc line (newline ∷ []) (whole_lines front), lines_end format front all.1))

pub lines_more : (format : PairFormat) (front : List (List ℕ)) (line : List ℕ) → AreWholeLines format front → IsWholeLine format line → AreWholeLines format (front ++ line ∷ [])
lines_more format [] line all one = (one, tt)
lines_more format (first ∷ front) line all one = (all.0, lines_more format front line all.1 one)

pub whole_more : (front : List (List ℕ)) (line : List ℕ) → whole_lines (front ++ line ∷ []) ≡ whole_lines front ++ whole_line line
whole_more [] line = append-nil (whole_line line)
whole_more (first ∷ front) line = ap (λ (rest : List ℕ). whole_line first ++ rest) (whole_more front line) ∙ sym (append_assoc (whole_line first) (whole_lines front) (whole_line line))

-- a last line without a newline isn't one with it
pub unended : (front line : List ℕ) → front ++ line ≡ front ++ whole_line line → ⊥
unended front line same = omega (arith, ap length same, length-append front line, length-append front (whole_line line), length-append line (newline ∷ []))

-- a last line that has no newline
pub last_line : (format : PairFormat) (line : List ℕ) → IsOneLine format line → line ≢ [] → IsTextOf format (line ∷ []) line
last_line format line one some = (one, inr (refl, some, refl))

-- one byte more
module _ (after : Place → ℕ → Place) where
  pub place_more : (place : Place) (line : List ℕ) (byte : ℕ) → place_behind after place (line ++ byte ∷ []) ≡ after (place_behind after place line) byte
  place_more place [] byte = refl
  place_more place (first ∷ line) byte = place_more (after place first) line byte

  pub quoted_more : (place : Place) (line : List ℕ) (byte : ℕ) → AreQuoted after place line → (byte ≡ newline → place_behind after place line ≡ Quoted) → AreQuoted after place (line ++ byte ∷ [])
  quoted_more place [] byte all other = (other, tt)
  quoted_more place (first ∷ line) byte all other = (all.0, quoted_more (after place first) line byte all.1 other)

pub more_in_line : (format : PairFormat) (line : List ℕ) (byte : ℕ) → IsOneLine format line → (byte ≡ newline → place_behind (place_by format) Start line ≡ Quoted) → IsOneLine format (line ++ byte ∷ [])
more_in_line format line byte one other = quoted_more (place_by format) Start line byte one other

pub place_of_more : (format : PairFormat) (line : List ℕ) (byte : ℕ) → place_behind (place_by format) Start (line ++ byte ∷ []) ≡ place_by format (place_behind (place_by format) Start line) byte
place_of_more format line byte = place_more (place_by format) Start line byte

-- ---- what is left of a text

left_none : (known : Option (List ℕ)) (waits : List ℕ) → waits ≡ [] → IsAtEnd known → IsAtEnd (prepend_known waits known)
left_none None waits none end = tt
left_none (Some bytes) waits none end = ap₂ (λ (a b : List ℕ). a ++ b) none end

pub over_end : {R : Type 0} (remaining : R → Option (List ℕ)) (lines : LineReader R) → EndsRight remaining lines → IsOver lines → IsAtEnd (text_left remaining lines)
over_end remaining lines ends over = left_none (unread remaining lines.source) (waiting lines) over.taken (ends over.ended)

pub drop_some : (at : ℕ) (items : List ℕ) → at < length items → drop at items ≢ []
drop_some at items within none = absurd (omega (arith, length-drop at items, ap length none, within))

-- ---- lines of which none is the last

module _ {S L : Type 0} (gives : S → List ℕ → List ℕ → Added → S → Type 0) (saves rests : S → S → Type 0) (told : L → ℕ → Rejection → List ℕ → L → Type 0) where
  pub takes_more : (lines : List (List ℕ)) (line : List ℕ) (old mid new : Point S L) → TakesLines gives saves rests told lines old mid → TakesLine gives saves rests told false line mid new → TakesLines gives saves rests told (lines ++ line ∷ []) old new
  takes_more [] line old mid new is takes = (new, (subst (λ (p : Point S L). TakesLine gives saves rests told false line p new) is takes, refl))
  takes_more (first ∷ lines) line old mid new (next, (one, rest)) takes = (next, (one, takes_more lines line next mid new rest takes))

  -- ---- how far a text is imported

  module _ (format : PairFormat) {R : Type 0} (remaining : R → Option (List ℕ)) (known : Option (List ℕ)) (start : Point S L) where
    -- lines of it are taken, and more is left
    pub record IsAmid (lines : LineReader R) (now : Point S L) : Type 0 where
      pub front : List (List ℕ)
      pub one : AreWholeLines format front
      pub given : Consumes known (text_left remaining lines) (whole_lines front)
      pub takes : TakesLines gives saves rests told front start now

    -- all are, and each has its newline or not
    pub record IsWhole (whole : Bool) (now : Point S L) : Type 0 where
      pub lines : List (List ℕ)
      pub text : IfSome known (IsTextOf format lines)
      pub ends : IfSome known (EndsSo whole lines)
      pub takes : TakesText gives saves rests told lines start now

    pub amid_start : (lines : LineReader R) → Keeps known (text_left remaining lines) → IsAmid lines start
    amid_start lines kept = record { front = []; one = tt; given = Consumes-kept known known (text_left remaining lines) [] (Consumes-nil known) kept; takes = refl }

    pub amid_none : (lines : LineReader R) → Keeps known (text_left remaining lines) → (amid : IsAmid lines start) × (length amid.front ≡ 0)
    unfolding amid_start
    amid_none lines kept = (amid_start lines kept, refl)

    pub whole_start : (lines : LineReader R) → Keeps known (text_left remaining lines) → EndsRight remaining lines → IsOver lines → IsWhole true start
    whole_start lines kept ends over = record {
      lines = [];
      text = Consumes-whole known (text_left remaining lines) [] (IsTextOf format []) (Consumes-kept known known (text_left remaining lines) [] (Consumes-nil known) kept) (over_end remaining lines ends over) refl;
      ends = Consumes-whole known (text_left remaining lines) [] (EndsSo true []) (Consumes-kept known known (text_left remaining lines) [] (Consumes-nil known) kept) (over_end remaining lines ends over) refl;
      takes = inl (refl, refl);
    }

    pub amid_step : (old new : LineReader R) (now next : Point S L) → IsAmid old now → TakesNext format remaining old new → (IsOver new → ⊥) → TakesLine gives saves rests told false new.line.items now next → IsAmid new next
    amid_step old new now next amid (one, taken) more takes = elim taken [
      | inl given ↦ record {
        front = amid.front ++ new.line.items ∷ [];
        one = lines_more format amid.front new.line.items amid.one (one, given.0);
        given = subst (Consumes known (text_left remaining new)) (sym (whole_more amid.front new.line.items)) (Consumes-trans known (text_left remaining old) (text_left remaining new) (whole_lines amid.front) (whole_line new.line.items) amid.given given.1);
        takes = takes_more amid.front new.line.items start now next amid.takes takes;
      }
      | inr last ↦ absurd (more last.2)
    ]

    -- one line more
    pub amid_more : (old new : LineReader R) (now next : Point S L) (amid : IsAmid old now) (count : ℕ) → length amid.front ≡ count → TakesNext format remaining old new → (IsOver new → ⊥) → TakesLine gives saves rests told false new.line.items now next
        → (after : IsAmid new next) × (length after.front ≡ count + 1)
    unfolding amid_step
    amid_more old new now next amid count is (one, taken) more takes = elim taken [
      | inl given ↦ (amid_step old new now next amid (one, inl given) more takes, length_push amid.front new.line.items ∙ ap (λ (n : ℕ). n + 1) is)
      | inr last ↦ absurd (more last.2)
    ]

    -- the last line
    whole_text : (old new : LineReader R) (now : Point S L) (amid : IsAmid old now) → TakesNext format remaining old new → EndsRight remaining new → IsOver new → IfSome known (IsTextOf format (amid.front ++ new.line.items ∷ []))
    whole_text old new now amid (one, taken) ends over = elim taken [
      | inl given ↦
          Consumes-whole known (text_left remaining new) (whole_lines amid.front ++ whole_line new.line.items) (IsTextOf format (amid.front ++ new.line.items ∷ []))
          (Consumes-trans known (text_left remaining old) (text_left remaining new) (whole_lines amid.front) (whole_line new.line.items) amid.given given.1) (over_end remaining new ends over)
          (subst (IsTextOf format (amid.front ++ new.line.items ∷ [])) (whole_more amid.front new.line.items) (lines_end format (amid.front ++ new.line.items ∷ []) (lines_more format amid.front new.line.items amid.one (one, given.0))))
      | inr last ↦
          Consumes-whole known (text_left remaining new) (whole_lines amid.front ++ new.line.items) (IsTextOf format (amid.front ++ new.line.items ∷ []))
          (Consumes-trans known (text_left remaining old) (text_left remaining new) (whole_lines amid.front) new.line.items amid.given last.0) (over_end remaining new ends over)
          (lines_behind format amid.front (new.line.items ∷ []) new.line.items amid.one (last_line format new.line.items one last.1))
    ]

    with_newline : (old new : LineReader R) (now : Point S L) (amid : IsAmid old now) → AreTaken remaining old new (whole_line new.line.items) → EndsRight remaining new → IsOver new → IfSome known (EndsSo true (amid.front ++ new.line.items ∷ []))
    with_newline old new now amid given ends over =
        Consumes-whole known (text_left remaining new) (whole_lines amid.front ++ whole_line new.line.items) (EndsSo true (amid.front ++ new.line.items ∷ []))
        (Consumes-trans known (text_left remaining old) (text_left remaining new) (whole_lines amid.front) (whole_line new.line.items) amid.given given) (over_end remaining new ends over)
        (sym (whole_more amid.front new.line.items))

    without_newline : (old new : LineReader R) (now : Point S L) (amid : IsAmid old now) → AreTaken remaining old new new.line.items → EndsRight remaining new → IsOver new → IfSome known (EndsSo false (amid.front ++ new.line.items ∷ []))
    without_newline old new now amid given ends over =
        Consumes-whole known (text_left remaining new) (whole_lines amid.front ++ new.line.items) (EndsSo false (amid.front ++ new.line.items ∷ []))
        (Consumes-trans known (text_left remaining old) (text_left remaining new) (whole_lines amid.front) new.line.items amid.given given) (over_end remaining new ends over)
        (λ same. unended (whole_lines amid.front) new.line.items (same ∙ whole_more amid.front new.line.items))

    whole_ends : (whole : Bool) (old new : LineReader R) (now : Point S L) (amid : IsAmid old now) → TellsWhole whole format remaining old new → EndsRight remaining new → IsOver new → IfSome known (EndsSo whole (amid.front ++ new.line.items ∷ []))
    whole_ends whole old new now amid tells ends over = elim tells [
      | inl told ↦ subst (λ (b : Bool). IfSome known (EndsSo b (amid.front ++ new.line.items ∷ []))) (sym told.0) (with_newline old new now amid told.1.1 ends over)
      | inr told ↦ subst (λ (b : Bool). IfSome known (EndsSo b (amid.front ++ new.line.items ∷ []))) (sym told.0) (without_newline old new now amid told.1.0 ends over)
    ]

    pub whole_step : (whole : Bool) (old new : LineReader R) (now next : Point S L) → IsAmid old now → TakesNext format remaining old new → TellsWhole whole format remaining old new → EndsRight remaining new → IsOver new → TakesLine gives saves rests told true new.line.items now next → IsWhole whole next
    whole_step whole old new now next amid taken tells ends over takes = record {
      lines = amid.front ++ new.line.items ∷ [];
      text = whole_text old new now amid taken ends over;
      ends = whole_ends whole old new now amid tells ends over;
      takes = inr (amid.front, (new.line.items, (now, (refl, (amid.takes, takes)))));
    }
