-- The parts of both ledgers that wards are given, and have together at the end.
use Rattle.std.proofs.Common.{◌≡◌, ℕ, suc, ◌+◌, ◌-◌, ◌*◌, ◌<◌, ◌≤◌, refl, ap, ◌∙◌, arith}
use Rattle.exh_live.specs.declared.ledgers.TheConstants.{ANSWER_PARTS, ENTRY_PARTS}
use Rattle.exh_live.specs.WardParts.{parts_of_first, parts_of_number, ward_parts}
use Rattle.exh_live.proofs.Order.{first_more, first_rises, rest_within}

all_entry_parts : parts_of_first 16 ≡ ENTRY_PARTS
all_entry_parts = refl

-- ---- a file's first parts

pub room_for_wards : (wards : ℕ) → wards ≤ 16 → wards * ward_parts + 65536 ≤ ANSWER_PARTS + parts_of_first wards
room_for_wards wards few =
    let left = 16 - wards in
    let whole : left + wards ≡ 16 = omega (arith, few) in
    let rest = rest_within left wards (omega (arith, whole)) in
    let all : parts_of_first (left + wards) ≡ ENTRY_PARTS = ap parts_of_first whole ∙ all_entry_parts in
    omega (arith, whole, rest, all)

pub entries_for_wards : (wards : ℕ) → wards ≤ 16 → parts_of_first wards ≤ ENTRY_PARTS
entries_for_wards wards few =
    let left = 16 - wards in
    let whole : left + wards ≡ 16 = omega (arith, few) in
    let all : parts_of_first (left + wards) ≡ ENTRY_PARTS = ap parts_of_first whole ∙ all_entry_parts in
    omega (arith, first_rises left wards, all)

pub room_for_seat : (wards : ℕ) {parts seats : ℕ} → wards ≤ 16 → seats < 65535 → parts + seats + wards * ward_parts ≡ ANSWER_PARTS + parts_of_first wards → 1 < parts
room_for_seat wards few some is = omega (arith, room_for_wards wards few, some, is)

-- ---- a ward more

pub none_entered : (had : ℕ) {now : ℕ} → now ≡ 0 → had + now * ward_parts ≡ had + parts_of_first now
none_entered had none = omega (arith, none, ap parts_of_first none)

pub no_entries : (had : ℕ) {now : ℕ} → now ≡ 0 → had + parts_of_first now ≡ had
no_entries had none = omega (arith, none, ap parts_of_first none)

pub room_for_ward : (locks fewer left wards had now number : ℕ) → locks + left ≡ wards → left ≡ suc fewer → wards ≤ 16 → wards * ward_parts ≤ had + parts_of_first wards → now + locks * ward_parts ≡ had + parts_of_first locks → number ≡ locks
    → ward_parts ≤ now + parts_of_number number
room_for_ward locks fewer left wards had now number count short few room so_far is =
    let whole : fewer + suc locks ≡ wards = omega (arith, count, short) in
    let rest = rest_within fewer (suc locks) (omega (arith, whole, few)) in
    omega (arith, whole, rest, ap parts_of_first whole, room, so_far, ap parts_of_number is)

pub entries_for_ward : (locks fewer left wards had now number : ℕ) → locks + left ≡ wards → left ≡ suc fewer → parts_of_first wards ≤ had → now + parts_of_first locks ≡ had → number ≡ locks → parts_of_number number ≤ now
entries_for_ward locks fewer left wards had now number count short room so_far is =
    let whole : fewer + suc locks ≡ wards = omega (arith, count, short) in
    omega (arith, first_rises fewer (suc locks), ap parts_of_first whole, room, so_far, ap parts_of_number is)

pub one_entered : (locks more had before now number : ℕ) → before + locks * ward_parts ≡ had + parts_of_first locks → now + ward_parts ≡ before + parts_of_number number → number ≡ locks → more ≡ locks + 1 → now + more * ward_parts ≡ had + parts_of_first more
one_entered locks more had before now number was given is longer = omega (arith, was, given, ap parts_of_number is, longer, ap parts_of_first longer, first_more locks)

pub one_entry : (locks more had before now number : ℕ) → before + parts_of_first locks ≡ had → now + parts_of_number number ≡ before → number ≡ locks → more ≡ locks + 1 → now + parts_of_first more ≡ had
one_entry locks more had before now number was given is longer = omega (arith, was, given, ap parts_of_number is, ap parts_of_first longer, first_more locks)

-- ---- wards that are back

pub none_back_yet : (had : ℕ) {parts done : ℕ} → parts ≡ 0 → done ≡ 0 → had + parts ≡ had + done * ward_parts
none_back_yet had none empty = omega (arith, none, empty)

pub one_ward_back : (had done parts more before now spare one all : ℕ) → before + parts ≡ had + done * ward_parts → now ≡ before + spare → spare + one ≡ ward_parts → all ≡ parts + one → more ≡ done + 1 → now + all ≡ had + more * ward_parts
one_ward_back had done parts more before now spare one all was merged rest made longer = omega (arith, was, merged, rest, made, longer)

pub all_back : (stood between had spare seats counted wards parts : ℕ) → stood ≡ between + seats → between + parts ≡ had + wards * ward_parts → had ≡ spare → seats ≡ counted → stood + parts ≡ spare + wards * ward_parts + counted
all_back stood between had spare seats counted wards parts all unlocked same is = omega (arith, all, unlocked, same, is)

pub entries_back : (entries had spare parts : ℕ) → entries ≡ had + parts → had ≡ spare → entries ≡ spare + parts
entries_back entries had spare parts unlocked same = omega (arith, unlocked, same)

-- neither ledger has more parts than it was cut into, so the wards that are back have just those that they were given
module _ (first wards answers own_answers own_seats entries own_entries parts : ℕ) (back : answers + parts ≡ own_answers + wards * ward_parts + own_seats) (given : own_answers + own_seats + wards * ward_parts ≡ ANSWER_PARTS + first)
    (most : answers ≤ ANSWER_PARTS) (made : entries ≡ own_entries + parts) (own : own_entries + first ≡ ENTRY_PARTS) (most_entries : entries ≤ ENTRY_PARTS) where
  pub parts_are : parts ≡ first
  parts_are = omega (arith, back, given, most, made, own, most_entries)

  pub answers_are : answers ≡ ANSWER_PARTS
  answers_are = omega (arith, back, given, most, made, own, most_entries)

  pub entries_are : entries ≡ ENTRY_PARTS
  entries_are = omega (arith, back, given, most, made, own, most_entries)
