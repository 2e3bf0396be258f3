use Rattle.std.proofs.Common.{◌≡◌, ℕ, ◌+◌, ◌≤◌, List, [], ◌∷◌, ◌++◌, append-nil, append_assoc, map, length, sym, ap, ap₂, ◌∙◌, subst}
use Rattle.std.specs.Vec.Iter.{into_iter_items}
use Rattle.std.proofs.lemmas.List.{length-map, length_push, map-append, nil_from_length}
use Rattle.std.proofs.lemmas.List.Sums.{sum_by_push}
use Rattle.exh_calls.specs.Diary.{DiaryState}
use Rattle.exh_calls.specs.declared.diary_entry.DiaryEntry.{DiaryEntry}
use Rattle.exh_live.specs.Closing.{answers_given, seat_of}
use Rattle.exh_live.specs.LiveFile.{SeatState}
use Rattle.exh_live.proofs.Counts.{nothing_more, one_back, one_fewer, room_after, room_at_first, room_for_next, sum_back}
use Rattle.exh_live.proofs.close.stand_up.Goals as goal

abbrev seat_with : ℕ → List DiaryEntry → SeatState
seat_with client entries = record { client = client; entries = entries }

one_more : (diaries new : List DiaryState) (diary : DiaryState) (seat : SeatState) (left fewer all : List SeatState) → new ≡ diaries ++ diary ∷ [] → seat_of diary ≡ seat → left ≡ seat ∷ fewer → map seat_of diaries ++ left ≡ all → map seat_of new ++ fewer ≡ all
one_more diaries new diary seat left fewer all pushed is short was =
    ap (λ ds. map seat_of ds ++ fewer) pushed
    ∙ ap (λ seats. seats ++ fewer) (map-append seat_of diaries (diary ∷ []))
    ∙ append_assoc (map seat_of diaries) (seat_of diary ∷ []) fewer
    ∙ ap (λ one. map seat_of diaries ++ one ∷ fewer) is
    ∙ ap (λ rest. map seat_of diaries ++ rest) (sym short)
    ∙ was

all_stood : (diaries : List DiaryState) (left all : List SeatState) (len : ℕ) → map seat_of diaries ++ left ≡ all → len ≡ length left → len ≡ 0 → map seat_of diaries ≡ all
all_stood diaries left all len was is none = sym (append-nil (map seat_of diaries)) ∙ ap (λ rest. map seat_of diaries ++ rest) (sym (nil_from_length left (sym is ∙ none))) ∙ was

pub loop-seat-init : goal.loop-seat-init
loop-seat-init g c =
    let gives = c.into_iter-seat-iterator.ensures.into_iter_gives in
    let items = ap length gives.0 in
    let whole = c.args.seats.ok.0 in
    let none = ap length c.requires.empty in
    record {
      len = gives.1 ∙ whole ∙ sym items;
      diaries = ap (λ (diaries : List DiaryState). map seat_of diaries ++ into_iter_items c.into_iter-seat-iterator.result) c.requires.empty ∙ gives.0;
      room = room_at_first none items whole c.requires.room;
      parts = sym (nothing_more c.args.answers.now.parts none);
      amount = sym (nothing_more c.args.answers.now.amount (ap answers_given c.requires.empty));
    }

pub push_reserved-requires : goal.push_reserved-requires
push_reserved-requires g c = room_for_next c.loop-seat.diaries.ok.0 c.loop-seat.invariant.room (ap length c.in-Some.ensures.steps.0)

pub loop-seat-preserved : goal.loop-seat-preserved
loop-seat-preserved g c =
    let steps = c.in-Some.ensures.steps in
    let was = c.loop-seat.invariant in
    let diaries = c.loop-seat.diaries.items in
    let diary = c.into_parts-diary.result.0 in
    let pushed = c.push_reserved.ensures.items in
    let is = c.into_parts-diary.ensures.diary in
    let short = ap length steps.0 in
    let longer = ap length pushed ∙ length_push diaries diary in
    let given = ap answers_given pushed ∙ sum_by_push (λ (one : DiaryState). length one.entries) diaries diary in
    record {
      len = one_fewer was.len steps.1 short;
      diaries = one_more diaries c.push_reserved.new.self.items diary c.in-Some.seat _ _ _ pushed (ap₂ seat_with is.0 is.1) steps.0 was.diaries;
      room = subst (λ room. length c.push_reserved.new.self.items + length (into_iter_items c.next.new.self) ≤ room) (sym c.push_reserved.ensures.capacity) (room_after (length diaries) was.room short longer);
      parts = one_back c.args.answers.now.parts (length diaries) was.parts c.merge.ensures.parts c.into_parts-diary.ensures.part longer;
      amount = sum_back c.args.answers.now.amount (answers_given diaries) was.amount c.merge.ensures.amount c.into_parts-diary.ensures.counted given;
    }

pub returns-clause-diaries : goal.returns-clause-diaries
returns-clause-diaries g c = all_stood c.loop-seat.diaries.items _ _ _ c.loop-seat.invariant.diaries c.loop-seat.invariant.len c.in-None.ensures.steps.0

pub returns-clause-parts : goal.returns-clause-parts
returns-clause-parts g c =
    let whole = all_stood c.loop-seat.diaries.items _ _ _ c.loop-seat.invariant.diaries c.loop-seat.invariant.len c.in-None.ensures.steps.0 in
    let count = sym (length-map c.loop-seat.diaries.items seat_of) ∙ ap length whole ∙ sym c.args.seats.ok.0 in
    c.loop-seat.invariant.parts ∙ ap (λ count. c.args.answers.now.parts + count) count

pub returns-clause-amount : goal.returns-clause-amount
returns-clause-amount g c = c.loop-seat.invariant.amount
