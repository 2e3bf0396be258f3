use Rattle.std.proofs.Common.{◌≡◌, ℕ, ◌+◌, ◌-◌, ◌^◌, ◌<◌, ◌≤◌, Option, None, Some, sym, ap, ◌∙◌, arith}
use Rattle.exh_notice.specs.declared.entry.Entry.{Entry}
use Rattle.exh_legal.specs.Table.{entry_number}
use Rattle.exh_ward.proofs.ward.change.take.Goals as goal

number_here : {found stood : Option Entry} {entry : Entry} → stood ≡ found → stood ≡ Some entry → entry_number found ≡ entry.number
number_here same is = ap entry_number (sym same ∙ is)

none_fits : {found stood : Option Entry} → stood ≡ found → stood ≡ None → entry_number found ≡ 2 ^ 32 - 1 → ⊥
none_fits same is most = let no : 0 ≡ 2 ^ 32 - 1 = sym (ap entry_number (sym same ∙ is)) ∙ most in omega (arith, no)

room_for_one : {count room : ℕ} → count + 1 ≤ room → count < room
room_for_one fits = omega (arith, fits)

pub returns-in-Some-clause-items : goal.returns-in-Some-clause-items
returns-in-Some-clause-items c = c.in_ok-reserve.ensures.items

pub returns-in-Some-clause-err : goal.returns-in-Some-clause-err
returns-in-Some-clause-err c = c.in_ok-stood.ensures.worn (number_here c.in_ok-stood.ensures.stood c.in-Some.is ∙ c.if-entry.true)

pub returns-in-Some-clause-fault : goal.returns-in-Some-clause-fault
returns-in-Some-clause-fault c = number_here c.in_ok-stood.ensures.stood c.in-Some.is ∙ c.if-entry.true

pub returns-in_default-clause-items : goal.returns-in_default-clause-items
returns-in_default-clause-items c = c.in_ok-reserve.ensures.items

pub returns-in_default-clause-stood : goal.returns-in_default-clause-stood
returns-in_default-clause-stood c = sym c.in-Some.is ∙ c.in_ok-stood.ensures.stood

pub returns-in_default-clause-more : goal.returns-in_default-clause-more
returns-in_default-clause-more c = λ most. c.if-entry.false (sym (number_here c.in_ok-stood.ensures.stood c.in-Some.is) ∙ most)

pub returns-in_default-clause-ok : goal.returns-in_default-clause-ok
returns-in_default-clause-ok c = c.in_ok-stood.ensures.ok (λ most. c.if-entry.false (sym (number_here c.in_ok-stood.ensures.stood c.in-Some.is) ∙ most))

pub returns-in_default-2-clause-items : goal.returns-in_default-2-clause-items
returns-in_default-2-clause-items c = c.in_ok-reserve.ensures.items

pub returns-in_default-2-clause-stood : goal.returns-in_default-2-clause-stood
returns-in_default-2-clause-stood c = c.in_ok-stood.ensures.stood

pub returns-in_default-2-clause-more : goal.returns-in_default-2-clause-more
returns-in_default-2-clause-more c = none_fits c.in_ok-stood.ensures.stood c.in_default.is

pub returns-in_default-2-clause-ok : goal.returns-in_default-2-clause-ok
returns-in_default-2-clause-ok c = c.in_ok-stood.ensures.ok (none_fits c.in_ok-stood.ensures.stood c.in_default.is)

pub returns-in_default-clause-room : goal.returns-in_default-clause-room
returns-in_default-clause-room c = room_for_one c.in_ok-reserve.ensures.ok

pub returns-in_default-2-clause-room : goal.returns-in_default-2-clause-room
returns-in_default-2-clause-room c = room_for_one c.in_ok-reserve.ensures.ok

pub returns-in-Some-clause-ok : goal.returns-in-Some-clause-ok
returns-in-Some-clause-ok c = tt

pub returns-in-Some-clause-more : goal.returns-in-Some-clause-more
returns-in-Some-clause-more c = tt

pub returns-in-Some-clause-room : goal.returns-in-Some-clause-room
returns-in-Some-clause-room c = tt

pub returns-in-Some-clause-stood : goal.returns-in-Some-clause-stood
returns-in-Some-clause-stood c = tt

pub returns-in_default-clause-err : goal.returns-in_default-clause-err
returns-in_default-clause-err c = tt

pub returns-in_default-clause-fault : goal.returns-in_default-clause-fault
returns-in_default-clause-fault c = tt

pub returns-in_default-2-clause-err : goal.returns-in_default-2-clause-err
returns-in_default-2-clause-err c = tt

pub returns-in_default-2-clause-fault : goal.returns-in_default-2-clause-fault
returns-in_default-2-clause-fault c = tt
