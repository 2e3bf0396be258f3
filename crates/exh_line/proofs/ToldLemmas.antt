-- The answer that a printed line tells.
use Rattle.std.proofs.Common.{◌≡◌, ℕ, ◌-◌, ◌^◌, ◌<◌, List, [], ◌∷◌, ◌++◌, true, cond, eqb, Option, Some, None, decimal, refl, sym, ap, ◌∙◌, append-nil, arith}
use Rattle.std.specs.Prelude.{codes}
use Rattle.std.specs.Str.{bytes_eq}
use Rattle.std.specs.List.{list_all}
use Rattle.std.specs.Char.{is_ascii_graphic}
use Rattle.std.proofs.lemmas.List.{append_cancel_right}
use Rattle.std.proofs.lemmas.List.Elements.{recursion_from_All}
use Rattle.exh_prefix.specs.Prefix.{prefix_text}
use Rattle.exh_notice.specs.declared.entry.Kind.{Kind}
use Rattle.exh_notice.specs.declared.entry.Kind.TheVariants as kinds
use Rattle.exh_notice.specs.declared.notice.Notice.{Notice}
use Rattle.exh_text.specs.ByteWord.{bytes_of_word}
use Rattle.exh_text.specs.Contents.{kind_text}
use Rattle.exh_text.specs.TextLines.{parts_at, space}
use Rattle.exh_text.specs.Numbers.{◌>>=◌, index_spelled, number_spelled, number_up_to, number_after}
use Rattle.exh_text.specs.Printing.{printed, place_text}
use Rattle.exh_text.specs.TextLemmas.{number_again, printed_again, prefix_again, decimal_graphic, prefix_graphic, printed_graphic, place_graphic, prefix_of_text, parts_at-word, parts_at-place, one_part}
use Rattle.exh_text.specs.declared.line_fault.LineFault.TheVariants.{Syntax, Range}
use Rattle.exh_ward.specs.WardFault.{ward_fault_number}
use Rattle.exh_calls.specs.declared.reply.Reply.{Reply}
use Rattle.exh_calls.specs.declared.reply.Reply.TheVariants.{Is, None as Absent, New, Was, Full, Swapped, Differs}
use Rattle.exh_ward.specs.declared.ward_fault.WardFault.{WardFault}
use Rattle.exh_ward.specs.declared.ward_fault.WardFault.TheVariants.{NoPage, NotLive, NotFull, AtLimit, NoBuddy, BuddySplit, TooMany, Worn, Memory, Page}
use Rattle.exh_walk.specs.StepFault.{step_fault_number}
use Rattle.exh_walk.specs.declared.step_fault.StepFault.{StepFault}
use Rattle.exh_walk.specs.declared.step_fault.StepFault.TheVariants.{NoCopy, NoRequest, NoNotice, NoTable, NoWard, NameTaken, Ward}
use Rattle.exh_line.specs.LineAnswer.{answer_words, answer_text, request_text, told_answer, HasKindWidth, HasNoticeWidths, HasWidths, HasReplyWidths, HasByteValues}
use Rattle.exh_line.specs.LineRefusal.{numbered_refusal, refusal_number}
use Rattle.exh_line.specs.declared.answer.Answer.{Answer}
use Rattle.exh_line.specs.declared.answer.Answer.TheVariants.{Begun, Replied, Moved, MustSplit, Stray, Changed, Taken, Sent, Joined, Restarted, Refused}
use Rattle.exh_line.specs.declared.moves.Moves.{Moves}
use Rattle.exh_line.specs.declared.refusal.Refusal.{Refusal}
use Rattle.exh_line.specs.declared.refusal.Refusal.TheVariants.{Line, Step, Read, TooLong, OtherFile}

-- ---- reading the words of an answer

-- the first of the pairs whose number it is
abbrev numbered_in : List (ℕ × Refusal) → ℕ → Option Refusal
numbered_in [] number = None
numbered_in ((first, refusal) ∷ refusals) number = cond (eqb number first) (Some refusal) (numbered_in refusals number)

abbrev refusals : List (ℕ × Refusal)
refusals =
    (1, Step (Ward NoPage)) ∷ (3, Step (Ward NotLive)) ∷ (4, Step (Ward NotFull)) ∷ (5, Step (Ward AtLimit)) ∷ (6, Step (Ward NoBuddy))
    ∷ (7, Step (Ward BuddySplit)) ∷ (8, Step (Ward (TooMany 0))) ∷ (9, Step (Ward Worn)) ∷ (10, Step (Ward Memory)) ∷ (11, Step (Ward Page))
    ∷ (20, Step NoCopy) ∷ (21, Step NoRequest) ∷ (22, Step NoNotice) ∷ (23, Step NoTable) ∷ (24, Step NoWard) ∷ (25, Step NameTaken)
    ∷ (41, Read) ∷ (60, Line Syntax) ∷ (61, Line Range) ∷ (62, TooLong) ∷ (63, OtherFile) ∷ []

-- the two numbers of a place
abbrev numbers_told : List (List ℕ) → Option (ℕ × ℕ)
numbers_told (ward ∷ number ∷ []) = number_spelled ward >>= λ w. index_spelled number >>= λ n. Some (w, n)
numbers_told words = None

abbrev place_of : List ℕ → Option (ℕ × ℕ)
place_of word = numbers_told (parts_at 47 word)

-- a reply of one word, and one with a value behind it
abbrev reply_of : List ℕ → Option Reply
reply_of verb =
    cond (bytes_eq verb (codes "none")) (Some Absent)
    (cond (bytes_eq verb (codes "new")) (Some New)
    (cond (bytes_eq verb (codes "full")) (Some Full)
    (cond (bytes_eq verb (codes "swapped")) (Some Swapped) None)))

abbrev reply_with : List ℕ → List ℕ → Option Reply
reply_with verb word =
    cond (bytes_eq verb (codes "is")) (bytes_of_word word >>= λ value. Some (Is value))
    (cond (bytes_eq verb (codes "was")) (bytes_of_word word >>= λ value. Some (Was value))
    (cond (bytes_eq verb (codes "differs")) (bytes_of_word word >>= λ value. Some (Differs value)) None))

-- the moves of a request, by the words of the two numbers
abbrev moves_of : List ℕ → List ℕ → Option Moves
moves_of made bound = index_spelled made >>= λ m. index_spelled bound >>= λ b. Some (record { made = m; bound = b })

-- the words behind a request
abbrev told_of_request : ℕ → List (List ℕ) → Option Answer
told_of_request name (verb ∷ []) =
    cond (bytes_eq verb (codes "split")) (Some (MustSplit name))
    (cond (bytes_eq verb (codes "stray")) (Some (Stray name)) (reply_of verb >>= λ reply. Some (Replied name reply None)))
told_of_request name (verb ∷ word ∷ []) =
    cond (bytes_eq verb (codes "at")) (place_of word >>= λ place. Some (Begun name place.0 place.1))
    (cond (bytes_eq verb (codes "moved")) (place_of word >>= λ place. Some (Moved name place.0 place.1))
    (reply_with verb word >>= λ reply. Some (Replied name reply None)))
told_of_request name (verb ∷ moves ∷ made ∷ of ∷ bound ∷ []) = reply_of verb >>= λ reply. moves_of made bound >>= λ moves. Some (Replied name reply (Some moves))
told_of_request name (verb ∷ word ∷ moves ∷ made ∷ of ∷ bound ∷ []) = reply_with verb word >>= λ reply. moves_of made bound >>= λ moves. Some (Replied name reply (Some moves))
told_of_request name words = None

abbrev kind_of : List (List ℕ) → Option Kind
kind_of (merge ∷ []) = Some kinds.Merge
kind_of (split ∷ behind ∷ right ∷ []) = number_spelled right >>= λ r. Some (kinds.Split r)
kind_of words = None

-- those behind `notice`
abbrev told_notice : List (List ℕ) → Option Answer
told_notice (place ∷ at ∷ prefix ∷ counted ∷ number ∷ kind) =
    place_of place >>= λ p. number_spelled number >>= λ n. kind_of kind >>= λ k.
    Some (Changed (record { ward = p.0; index = p.1; prefix = prefix_of_text prefix; number = n; kind = k }))
told_notice words = None

-- those behind `copy` and its number
abbrev told_of_copy : ℕ → List (List ℕ) → Option Answer
told_of_copy copy (verb ∷ []) = Some (Restarted copy)
told_of_copy copy (verb ∷ word ∷ []) =
    cond (bytes_eq verb (codes "took")) (place_of word >>= λ place. Some (Taken copy place.0 place.1)) (number_spelled word >>= λ table. Some (Joined copy table))
told_of_copy copy words = None

abbrev told_copy : List (List ℕ) → Option Answer
told_copy (copy ∷ words) = number_spelled copy >>= λ c. told_of_copy c words
told_copy words = None

abbrev told_table : List (List ℕ) → Option Answer
told_table (table ∷ []) = number_spelled table >>= λ t. Some (Sent t)
told_table words = None

abbrev told_refusal : List (List ℕ) → Option Answer
told_refusal (number ∷ []) = number_spelled number >>= λ n. numbered_in refusals n >>= λ refusal. Some (Refused refusal)
told_refusal words = None

abbrev told_behind : Option ℕ → List ℕ → List (List ℕ) → Option Answer
told_behind (Some name) first words = told_of_request name words
told_behind None first words =
    cond (bytes_eq first (codes "notice")) (told_notice words)
    (cond (bytes_eq first (codes "copy")) (told_copy words)
    (cond (bytes_eq first (codes "table")) (told_table words) (told_refusal words)))

abbrev told : List (List ℕ) → Option Answer
told [] = None
told (first ∷ words) = told_behind (number_after (codes "r") first) first words

-- the words of an answer tell it
Tells : Answer → Type 0
Tells answer = told (parts_at space (answer_words answer)) ≡ Some (told_answer answer)

-- ---- words

-- a word, and those behind it
behind : (word rest : List ℕ) {words : List (List ℕ)} → list_all is_ascii_graphic word ≡ true → parts_at space rest ≡ words → parts_at space (word ++ space ∷ rest) ≡ word ∷ words
behind word rest graphic same = parts_at-word word rest graphic ∙ ap (λ (words : List (List ℕ)). word ∷ words) same

number_told : (number : ℕ) → number < 2 ^ 32 → number_spelled (decimal number) ≡ Some number
number_told number small = number_again (2 ^ 32 - 1) number (omega arith) (omega arith)

request_told : (name : ℕ) → name < 2 ^ 32 → number_after (codes "r") (request_text name) ≡ Some name
unfolding number_after
request_told name small = number_told name small

request_graphic : (name : ℕ) → name < 2 ^ 32 → list_all is_ascii_graphic (request_text name) ≡ true
request_graphic name small = decimal_graphic name (omega arith)

place_told : (ward number : ℕ) → ward < 2 ^ 8 → number < 2 ^ 64 → place_of (place_text ward number) ≡ Some (ward, number)
place_told ward number small other =
    rw (parts_at-place ward number (omega arith) other, number_told ward (omega arith), number_again (2 ^ 64 - 1) number (omega arith) (omega arith)) refl

value_told : (value : List ℕ) → HasByteValues value → bytes_of_word (printed value) ≡ Some value
value_told value bytes = printed_again value (recursion_from_All _ value bytes)

-- no first word of another answer is the name of a request
of_notice : number_after (codes "r") (codes "notice") ≡ None
unfolding number_after
of_notice = refl

of_copy : number_after (codes "r") (codes "copy") ≡ None
unfolding number_after
of_copy = refl

of_table : number_after (codes "r") (codes "table") ≡ None
unfolding number_after
of_table = refl

of_refusal : number_after (codes "r") (codes "refused") ≡ None
unfolding number_after number_up_to
of_refusal = refl

-- ---- of requests

told_request : (name : ℕ) (words : List (List ℕ)) → name < 2 ^ 32 → told (request_text name ∷ words) ≡ told_of_request name words
told_request name words small = rw (request_told name small) refl

-- a request and another word
by_two : (name : ℕ) (verb : List ℕ) → name < 2 ^ 32 → list_all is_ascii_graphic verb ≡ true → told (parts_at space (request_text name ++ space ∷ verb)) ≡ told_of_request name (verb ∷ [])
by_two name verb small graphic = ap told (behind (request_text name) verb (request_graphic name small) (one_part verb graphic)) ∙ told_request name (verb ∷ []) small

-- a request and two words
by_three : (name : ℕ) (verb word : List ℕ) → name < 2 ^ 32 → list_all is_ascii_graphic verb ≡ true → list_all is_ascii_graphic word ≡ true
    → told (parts_at space (request_text name ++ space ∷ (verb ++ space ∷ word))) ≡ told_of_request name (verb ∷ word ∷ [])
by_three name verb word small graphic last =
    ap told (behind (request_text name) (verb ++ space ∷ word) (request_graphic name small) (behind verb word graphic (one_part word last))) ∙ told_request name (verb ∷ word ∷ []) small

begun_told : (name ward page : ℕ) → HasWidths (Begun name ward page) → Tells (Begun name ward page)
unfolding Tells
begun_told name ward page (n, w, p) = by_three name (codes "at") (place_text ward page) n refl (place_graphic ward page (omega arith) (omega arith)) ∙ rw (place_told ward page w (omega arith)) refl

moved_told : (name ward page : ℕ) → HasWidths (Moved name ward page) → Tells (Moved name ward page)
unfolding Tells
moved_told name ward page (n, w, p) = by_three name (codes "moved") (place_text ward page) n refl (place_graphic ward page (omega arith) (omega arith)) ∙ rw (place_told ward page w (omega arith)) refl

-- a reply alone
value_alone : (name : ℕ) (verb value : List ℕ) → name < 2 ^ 32 → list_all is_ascii_graphic verb ≡ true → HasByteValues value
    → told (parts_at space (request_text name ++ space ∷ (verb ++ space ∷ (printed value ++ [])))) ≡ told_of_request name (verb ∷ printed value ∷ [])
value_alone name verb value n graphic b =
    ap (λ word. told (parts_at space (request_text name ++ space ∷ (verb ++ space ∷ word)))) (append-nil (printed value))
    ∙ by_three name verb (printed value) n graphic (printed_graphic value (recursion_from_All _ value b))

reply_told : (name : ℕ) (reply : Reply) → HasWidths (Replied name reply None) → Tells (Replied name reply None)
unfolding Tells
reply_told name (Is value) (n, b, m) = value_alone name (codes "is") value n refl b ∙ rw (value_told value b) refl
reply_told name (Was value) (n, b, m) = value_alone name (codes "was") value n refl b ∙ rw (value_told value b) refl
reply_told name Absent (n, b, m) = by_two name (codes "none") n refl
reply_told name New (n, b, m) = by_two name (codes "new") n refl
reply_told name Full (n, b, m) = by_two name (codes "full") n refl
reply_told name Swapped (n, b, m) = by_two name (codes "swapped") n refl
reply_told name (Differs value) (n, b, m) = value_alone name (codes "differs") value n refl b ∙ rw (value_told value b) refl

-- a reply with its moves
module _ (name : ℕ) (moves : Moves) (n : name < 2 ^ 32) (m : moves.made < 2 ^ 64) (bound : moves.bound < 2 ^ 64) where
  moves_told : moves_of (decimal moves.made) (decimal moves.bound) ≡ Some moves
  moves_told = rw (number_again (2 ^ 64 - 1) moves.made (omega arith) (omega arith), number_again (2 ^ 64 - 1) moves.bound (omega arith) (omega arith)) refl

  -- the text of the moves, but for the space before it, and its words
  abbrev tail : List ℕ
  tail = codes "moves" ++ space ∷ (decimal moves.made ++ space ∷ (codes "of" ++ space ∷ decimal moves.bound))

  abbrev tail_words : List (List ℕ)
  tail_words = codes "moves" ∷ decimal moves.made ∷ codes "of" ∷ decimal moves.bound ∷ []

  tail_parts : parts_at space tail ≡ tail_words
  tail_parts =
      behind (codes "moves") _ refl (behind (decimal moves.made) _ (decimal_graphic moves.made (omega arith))
      (behind (codes "of") (decimal moves.bound) refl (one_part (decimal moves.bound) (decimal_graphic moves.bound (omega arith)))))

  word_moves : (verb : List ℕ) → list_all is_ascii_graphic verb ≡ true → told (parts_at space (request_text name ++ space ∷ (verb ++ space ∷ tail))) ≡ told_of_request name (verb ∷ tail_words)
  word_moves verb graphic = ap told (behind (request_text name) _ (request_graphic name n) (behind verb tail graphic tail_parts)) ∙ told_request name (verb ∷ tail_words) n

  value_moves : (verb value : List ℕ) → list_all is_ascii_graphic verb ≡ true → HasByteValues value
      → told (parts_at space (request_text name ++ space ∷ (verb ++ space ∷ (printed value ++ space ∷ tail)))) ≡ told_of_request name (verb ∷ printed value ∷ tail_words)
  value_moves verb value graphic b =
      ap told (behind (request_text name) _ (request_graphic name n) (behind verb _ graphic (behind (printed value) tail (printed_graphic value (recursion_from_All _ value b)) tail_parts)))
      ∙ told_request name (verb ∷ printed value ∷ tail_words) n

  reply_moves_told : (reply : Reply) → HasReplyWidths reply → Tells (Replied name reply (Some moves))
  unfolding Tells
  reply_moves_told (Is value) b = value_moves (codes "is") value refl b ∙ rw (value_told value b, moves_told) refl
  reply_moves_told (Was value) b = value_moves (codes "was") value refl b ∙ rw (value_told value b, moves_told) refl
  reply_moves_told Absent b = word_moves (codes "none") refl ∙ rw moves_told refl
  reply_moves_told New b = word_moves (codes "new") refl ∙ rw moves_told refl
  reply_moves_told Full b = word_moves (codes "full") refl ∙ rw moves_told refl
  reply_moves_told Swapped b = word_moves (codes "swapped") refl ∙ rw moves_told refl
  reply_moves_told (Differs value) b = value_moves (codes "differs") value refl b ∙ rw (value_told value b, moves_told) refl

-- ---- of notices

kind_words : Kind → List (List ℕ)
kind_words (kinds.Split right) = codes "split" ∷ codes "right" ∷ decimal right ∷ []
kind_words kinds.Merge = codes "merge" ∷ []

number_kind : (version : ℕ) (kind : Kind) → version < 2 ^ 32 → HasKindWidth kind → parts_at space (decimal version ++ kind_text kind) ≡ decimal version ∷ kind_words kind
unfolding kind_words
number_kind number (kinds.Split right) small width =
    behind (decimal number) (codes "split right " ++ decimal right) (decimal_graphic number (omega arith))
    (behind (codes "split") (codes "right " ++ decimal right) refl (behind (codes "right") (decimal right) refl (one_part (decimal right) (decimal_graphic right (omega arith)))))
number_kind number kinds.Merge small width = behind (decimal number) (codes "merge") (decimal_graphic number (omega arith)) (one_part (codes "merge") refl)

kind_told : (kind : Kind) → HasKindWidth kind → kind_of (kind_words kind) ≡ Some kind
unfolding kind_words
kind_told (kinds.Split right) width = rw (number_told right width) refl
kind_told kinds.Merge width = refl

notice_words : (notice : Notice) → HasNoticeWidths notice
    → parts_at space (answer_words (Changed notice))
    ≡ codes "notice" ∷ place_text notice.ward notice.index ∷ codes "prefix" ∷ prefix_text notice.prefix ∷ codes "number" ∷ decimal notice.number ∷ kind_words notice.kind
notice_words notice (w, i, n, k) =
    behind (codes "notice") _ refl
    (behind (place_text notice.ward notice.index) _ (place_graphic notice.ward notice.index (omega arith) i)
    (behind (codes "prefix") _ refl
    (behind (prefix_text notice.prefix) _ (prefix_graphic notice.prefix)
    (behind (codes "number") _ refl (number_kind notice.number notice.kind n k)))))

notice_told : (notice : Notice) → HasNoticeWidths notice → Tells (Changed notice)
unfolding Tells
notice_told notice (w, i, n, k) =
    ap told (notice_words notice (w, i, n, k))
    ∙ rw (of_notice, place_told notice.ward notice.index w i, number_told notice.number n, kind_told notice.kind k, prefix_again notice.prefix) refl

-- ---- of copies and tables

taken_told : (copy ward index : ℕ) → HasWidths (Taken copy ward index) → Tells (Taken copy ward index)
unfolding Tells
taken_told copy ward index (c, w, i) =
    ap told (behind (codes "copy") (decimal copy ++ space ∷ (codes "took" ++ space ∷ place_text ward index)) refl
    (behind (decimal copy) (codes "took" ++ space ∷ place_text ward index) (decimal_graphic copy (omega arith))
    (behind (codes "took") (place_text ward index) refl (one_part (place_text ward index) (place_graphic ward index (omega arith) i)))))
    ∙ rw (of_copy, number_told copy c, place_told ward index w i) refl

joined_told : (copy table : ℕ) → HasWidths (Joined copy table) → Tells (Joined copy table)
unfolding Tells
joined_told copy table (c, t) =
    ap told (behind (codes "copy") (decimal copy ++ space ∷ (codes "joined" ++ space ∷ decimal table)) refl
    (behind (decimal copy) (codes "joined" ++ space ∷ decimal table) (decimal_graphic copy (omega arith))
    (behind (codes "joined") (decimal table) refl (one_part (decimal table) (decimal_graphic table (omega arith))))))
    ∙ rw (of_copy, number_told copy c, number_told table t) refl

restarted_told : (copy : ℕ) → HasWidths (Restarted copy) → Tells (Restarted copy)
unfolding Tells
restarted_told copy c =
    ap told (behind (codes "copy") (decimal copy ++ space ∷ codes "restarted") refl
    (behind (decimal copy) (codes "restarted") (decimal_graphic copy (omega arith)) (one_part (codes "restarted") refl)))
    ∙ rw (of_copy, number_told copy c) refl

sent_told : (table : ℕ) → HasWidths (Sent table) → Tells (Sent table)
unfolding Tells
sent_told table t =
    ap told (behind (codes "table") (decimal table) refl (one_part (decimal table) (decimal_graphic table (omega arith))))
    ∙ rw (of_table, number_told table t) refl

-- ---- of refusals

ward_numbered : (fault : WardFault) → numbered_in refusals (ward_fault_number fault) ≡ Some (numbered_refusal (Step (Ward fault)))
ward_numbered NoPage = refl
ward_numbered NotLive = refl
ward_numbered NotFull = refl
ward_numbered AtLimit = refl
ward_numbered NoBuddy = refl
ward_numbered BuddySplit = refl
ward_numbered (TooMany sum) = refl
ward_numbered Worn = refl
ward_numbered Memory = refl
ward_numbered Page = refl

step_numbered : (fault : StepFault) → numbered_in refusals (step_fault_number fault) ≡ Some (numbered_refusal (Step fault))
step_numbered NoCopy = refl
step_numbered NoRequest = refl
step_numbered NoNotice = refl
step_numbered NoTable = refl
step_numbered NoWard = refl
step_numbered NameTaken = refl
step_numbered (Ward fault) = ward_numbered fault

refusal_numbered : (refusal : Refusal) → numbered_in refusals (refusal_number refusal) ≡ Some (numbered_refusal refusal)
refusal_numbered (Line Syntax) = refl
refusal_numbered (Line Range) = refl
refusal_numbered (Step fault) = step_numbered fault
refusal_numbered Read = refl
refusal_numbered TooLong = refl
refusal_numbered OtherFile = refl

ward_small : (fault : WardFault) → ward_fault_number fault < 100
ward_small NoPage = omega arith
ward_small NotLive = omega arith
ward_small NotFull = omega arith
ward_small AtLimit = omega arith
ward_small NoBuddy = omega arith
ward_small BuddySplit = omega arith
ward_small (TooMany sum) = omega arith
ward_small Worn = omega arith
ward_small Memory = omega arith
ward_small Page = omega arith

step_small : (fault : StepFault) → step_fault_number fault < 100
step_small NoCopy = omega arith
step_small NoRequest = omega arith
step_small NoNotice = omega arith
step_small NoTable = omega arith
step_small NoWard = omega arith
step_small NameTaken = omega arith
step_small (Ward fault) = ward_small fault

refusal_small : (refusal : Refusal) → refusal_number refusal < 100
refusal_small (Line Syntax) = omega arith
refusal_small (Line Range) = omega arith
refusal_small (Step fault) = step_small fault
refusal_small Read = omega arith
refusal_small TooLong = omega arith
refusal_small OtherFile = omega arith

refused_told : (refusal : Refusal) → Tells (Refused refusal)
unfolding Tells
refused_told refusal =
    let number = refusal_number refusal in
    let below : number < 100 = refusal_small refusal in
    ap told (behind (codes "refused") (decimal number) refl (one_part (decimal number) (decimal_graphic number (omega arith))))
    ∙ rw (of_refusal, number_told number (omega arith), refusal_numbered refusal) refl

-- ---- of all

tells : (answer : Answer) → HasWidths answer → Tells answer
unfolding Tells
tells (Begun name ward page) widths = begun_told name ward page widths
tells (Moved name ward page) widths = moved_told name ward page widths
tells (Replied name reply None) widths = reply_told name reply widths
tells (Replied name reply (Some moves)) (n, b, (made, bound)) = reply_moves_told name moves n made bound reply b
tells (MustSplit name) small = by_two name (codes "split") small refl
tells (Stray name) small = by_two name (codes "stray") small refl
tells (Changed notice) widths = notice_told notice widths
tells (Taken copy ward index) widths = taken_told copy ward index widths
tells (Sent table) small = sent_told table small
tells (Joined copy table) widths = joined_told copy table widths
tells (Restarted copy) small = restarted_told copy small
tells (Refused refusal) widths = refused_told refusal

some_same : {one other : Answer} → Some one ≡ Some other → one ≡ other
some_same same = cc same

pub told_by_text : (one other : Answer) → HasWidths one → HasWidths other → answer_text one ≡ answer_text other → told_answer one ≡ told_answer other
unfolding Tells
told_by_text one other widths others same =
    let words : answer_words one ≡ answer_words other = append_cancel_right (answer_words one) (answer_words other) _ same in
    some_same (sym (tells one widths) ∙ ap (λ text. told (parts_at space text)) words ∙ tells other others)
