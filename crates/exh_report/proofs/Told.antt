-- Lines that go to an output, part by part.
use Rattle.std.proofs.Common.{◌≡◌, ◌∙◌, ◌<◌, ◌+◌, ℕ, suc, List, ◌∷◌, ◌++◌, [], append-nil, Option, Result, Ok, Err, refl, sym, ap, subst, drop, drop-cons, length, map, slice_index_or, Vec, Global, append_assoc, arith}
use Rattle.std.specs.Prelude.{Bool, true, false, IsErr, IsErrAnd, IsErrOf, IsFalse, IsTrue, flat_map}
use Rattle.std.specs.List.{enumerate_from}
use Rattle.std.proofs.lemmas.List.Concat.{flat_map-append}
use Rattle.exh_stream.specs.Output.{Takes, TakesBeginning}
use Rattle.exh_stream.specs.OutputLemmas.{Takes-none, Takes-then, TakesBeginning-of_more, TakesBeginning-then}
use Rattle.exh_stream.specs.declared.output.Output.{Output}
use Rattle.exh_text.specs.Contents.{on_line}
use Rattle.exh_page.specs.declared.page.Page.{Page}
use Rattle.exh_report.specs.Dump.{ward_lines}
use Rattle.exh_report.specs.ReportLines.{Lines, TakesLines, lines_text}
use Rattle.exh_report.specs.PairsText.{records_lines}
use Rattle.exh_report.specs.declared.report_fault.ReportFault.{ReportFault}
use Rattle.exh_report.specs.declared.report_fault.ReportFault.TheVariants.{Write, Memory}

pub text-append : (a b : Lines) → lines_text (a ++ b) ≡ lines_text a ++ lines_text b
text-append a b = flat_map-append on_line a b

module _ {W : Type 0} (contents : W → Option (List ℕ)) where
  -- some lines, and then others
  pub takes_both : (old mid new : Output W) (a b : Lines) → Takes contents old mid (lines_text a) → Takes contents mid new (lines_text b) → Takes contents old new (lines_text (a ++ b))
  takes_both old mid new a b first second = subst (Takes contents old new) (sym (text-append a b)) (Takes-then first second)

  pub then_told : {T : Type 0} (old mid new : Output W) (a b : Lines) (result : Result T ReportFault) → Takes contents old mid (lines_text a) → TakesLines contents mid new b result → TakesLines contents old new (a ++ b) result
  then_told old mid new a b (Ok done) first second = takes_both old mid new a b first second
  then_told old mid new a b (Err Memory) first second = record {
    front = a ++ second.front;
    rest = second.rest;
    split = ap (λ l. a ++ l) second.split ∙ sym (append_assoc a second.front second.rest);
    text = takes_both old mid new a second.front first second.text;
  }
  then_told old mid new a b (Err Write) first second = subst (TakesBeginning contents old new) (sym (text-append a b)) (TakesBeginning-then first second)

  -- where some lines fail, none come after them
  pub stays_told : (T : Type 0) (old new : Output W) (a b : Lines) (fault : ReportFault) → TakesLines contents old new a {T = T} (Err fault) → TakesLines contents old new (a ++ b) {T = T} (Err fault)
  stays_told T old new a b Memory told = record {
    front = told.front;
    rest = told.rest ++ b;
    split = ap (λ l. l ++ b) told.split ∙ append_assoc told.front told.rest b;
    text = told.text;
  }
  stays_told T old new a b Write told = subst (TakesBeginning contents old new) (sym (text-append a b)) (TakesBeginning-of_more (lines_text b) told)

  -- the same fault of another result
  pub as_told : (S : Type 0) {T : Type 0} (old new : Output W) (lines : Lines) (fault : ReportFault) (result : Result T ReportFault) → IsErr result × IsErrAnd result (λ f. f ≡ fault) → TakesLines contents old new lines {T = S} (Err fault)
      → TakesLines contents old new lines result
  as_told S {T} old new lines fault (Ok done) is told = absurd (let never : IsErr {T = T} {E = ReportFault} (Ok done) = is.0 in cc)
  as_told S {T} old new lines fault (Err other) is told = same other fault (sym is.1) told
    where
      same : (other fault : ReportFault) → fault ≡ other → TakesLines contents old new lines {T = S} (Err fault) → TakesLines contents old new lines {T = T} (Err other)
      same Memory Memory e told = told
      same Write Write e told = told
      same Memory Write e told = cc
      same Write Memory e told = cc

-- an output that took some lines hasn't failed
pub still_open : {T : Type 0} (value : T) (failed : Bool) → (IsTrue failed → IsErrOf {T = T} (Ok value) Write) → IsFalse failed
still_open value true told = let is : Ok value ≡ Err Write = told refl in cc
still_open value false told = refl

-- a fault that a `?` hands on is the writer's where it was that
pub failed_so : {T U : Type 0} (result : Result T ReportFault) (fault : ReportFault) (failed : Bool) → IsErrAnd result (λ f. f ≡ fault)
    → (IsErrOf {T = U} (Err fault) Write → IsTrue failed) × (IsTrue failed → IsErrOf {T = U} (Err fault) Write) → (IsErrOf result Write → IsTrue failed) × (IsTrue failed → IsErrOf result Write)
failed_so (Ok done) fault failed is told = absurd is
failed_so {T = T} {U = U} (Err other) fault failed is told = (
  λ fails. let here : ◌≡◌ {A = Result T ReportFault} (Err other) (Err Write) = fails in let same : fault ≡ Write = cc in told.0 (ap Err same),
  λ fails. let there : ◌≡◌ {A = Result U ReportFault} (Err fault) (Err Write) = told.1 fails in let same : other ≡ Write = cc in ap Err same,
)

-- the text of a line is that line and no other
pub one_line : (words : List ℕ) → on_line words ≡ lines_text (words ∷ [])
one_line words = sym (append-nil (on_line words))

module _ {W : Type 0} (contents : W → Option (List ℕ)) where
  -- the text of some lines that goes out at once: all of it, a beginning, or none
  pub told_whole : (old new : Output W) (lines : Lines) (text : List ℕ) → text ≡ lines_text lines → Takes contents old new text → Takes contents old new (lines_text lines)
  told_whole old new lines text is taken = subst (Takes contents old new) is taken

  pub told_begun : {T : Type 0} (old new : Output W) (lines : Lines) (text : List ℕ) (result : Result T ReportFault) → text ≡ lines_text lines → IsErr result × IsErrAnd result (λ f. f ≡ Write) → TakesBeginning contents old new text
      → TakesLines contents old new lines result
  told_begun old new lines text result is fault taken = as_told contents (Unit {0}) old new lines Write result fault (subst (TakesBeginning contents old new) is taken)

  pub told_none : {T : Type 0} (output : Output W) (lines : Lines) (result : Result T ReportFault) → IsErr result × IsErrAnd result (λ f. f ≡ Memory) → TakesLines contents output output lines result
  told_none output lines result fault =
      as_told contents (Unit {0}) output output lines Memory result fault (record { front = []; rest = lines; split = refl; text = Takes-none contents output })

module _ {W : Type 0} (contents : W → Option (List ℕ)) where
  -- where no lines are left, all were taken
  pub told_all : (old new : Output W) (lines front : Lines) {left : Lines} → left ≡ [] → lines ≡ front ++ left → Takes contents old new (lines_text front) → Takes contents old new (lines_text lines)
  told_all old new lines front none split taken = subst (λ l. Takes contents old new (lines_text l)) (sym (split ∙ ap (λ l. front ++ l) none ∙ append-nil front)) taken

-- what is left from a place on: its element, and what is left behind it
pub drop_next : {A : Type 0} (xs : List A) (i : ℕ) (x : A) → i < length xs → x ≡ slice_index_or xs i x → drop i xs ≡ x ∷ drop (i + 1) xs
drop_next xs i x lt is =
    let next : suc i ≡ i + 1 = omega arith in
    drop-cons xs i x lt ∙ ap (λ z. z ∷ drop (suc i) xs) (sym is) ∙ ap (λ k. x ∷ drop k xs) next

-- the lines that are left are some and the rest
pub next_split : {lines left : Lines} (front some rest : Lines) → lines ≡ front ++ left → left ≡ some ++ rest → lines ≡ (front ++ some) ++ rest
next_split front some rest split left = split ∙ ap (λ l. front ++ l) left ∙ sym (append_assoc front some rest)

module _ {W : Type 0} (contents : W → Option (List ℕ)) where
  -- where some lines were taken and the next fail, the fault is that of all
  pub stops_told : (S : Type 0) {T : Type 0} (old mid new : Output W) (lines front some rest : Lines) (fault : ReportFault) (result : Result T ReportFault) → lines ≡ (front ++ some) ++ rest
      → Takes contents old mid (lines_text front) → IsErr result × IsErrAnd result (λ f. f ≡ fault) → TakesLines contents mid new some {T = S} (Err fault) → TakesLines contents old new lines result
  stops_told S {T} old mid new lines front some rest fault result split taken is told =
      as_told contents S old new lines fault result is
      (subst (λ l. TakesLines contents old new l {T = S} (Err fault)) (sym split) (stays_told contents S old new (front ++ some) rest fault (then_told contents {T = S} old mid new front some (Err fault) taken told)))

-- the lines of the wards that are left are those of the next and of the rest
pub ward_left : (wards : List (Vec Page Global)) (number : ℕ) (ward : Vec Page Global) (pages : List Page) → number < length wards → ward ≡ slice_index_or wards number ward → pages ≡ ward.items
    → flat_map ward_lines (enumerate_from number (map (λ ward. ward.items) (drop number wards)))
    ≡ ward_lines (number, pages) ++ flat_map ward_lines (enumerate_from (number + 1) (map (λ ward. ward.items) (drop (number + 1) wards)))
ward_left wards number ward pages lt is own =
    ap (λ left. flat_map ward_lines (enumerate_from number (map (λ ward. ward.items) left))) (drop_next wards number ward lt is)
    ∙ ap (λ pages. ward_lines (number, pages) ++ flat_map ward_lines (enumerate_from (number + 1) (map (λ ward. ward.items) (drop (number + 1) wards)))) (sym own)

-- the same of the records of wards
pub records_left : (wards : List (Vec Page Global)) (number : ℕ) (ward : Vec Page Global) (pages : List Page) → number < length wards → ward ≡ slice_index_or wards number ward → pages ≡ ward.items
    → flat_map (flat_map records_lines) (map (λ ward. ward.items) (drop number wards)) ≡ flat_map records_lines pages ++ flat_map (flat_map records_lines) (map (λ ward. ward.items) (drop (number + 1) wards))
records_left wards number ward pages lt is own =
    ap (λ left. flat_map (flat_map records_lines) (map (λ ward. ward.items) left)) (drop_next wards number ward lt is)
    ∙ ap (λ pages. flat_map records_lines pages ++ flat_map (flat_map records_lines) (map (λ ward. ward.items) (drop (number + 1) wards))) (sym own)
