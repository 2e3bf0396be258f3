use Rattle.std.proofs.Common.{◌≡◌, ◌^◌, List, length, inl, inr, ap, sym, ◌∙◌, arith, refl}
use Rattle.std.proofs.lemmas.List.{length-map}
use Rattle.std.proofs.lemmas.Result.{IfErr-weaker}
use Rattle.exh_live.specs.Refusals.{IsUnsettled}
use Rattle.exh_live.specs.Closing.{IsCloseFault, close_fault_number, seat_of}
use Rattle.exh_live.specs.LiveFile.{LiveState, SeatState}
use Rattle.exh_live.specs.declared.close.CloseFault.{CloseFault}
use Rattle.exh_live.specs.declared.close.CloseFault.TheVariants.{Seats as Missing, Memory as NoRoom}
use Rattle.exh_live.specs.StormFault.{storm_fault_number}
use Rattle.exh_live.specs.declared.fault.StormFault.{StormFault}
use Rattle.exh_live.specs.declared.fault.StormFault.TheVariants.{Memory, Page, Held, Mismatch, Seats}
use Rattle.exh_live.proofs.Sums.{answered, served}
use Rattle.exh_live.proofs.run.close.Goals as goal

-- where no seat is missing, a file isn't closed for want of memory alone
for_memory : {K : Type 0} (file : LiveState K) (seats : List SeatState) (fault : CloseFault) (told : StormFault) → length seats ≡ file.seats → IsCloseFault file seats fault → storm_fault_number told ≡ close_fault_number fault → told ≡ Memory
for_memory file seats Missing told all why is = absurd (why all)
for_memory file seats NoRoom Memory all why is = refl
for_memory file seats NoRoom Page all why is = absurd (omega (arith, is))
for_memory file seats NoRoom Held all why is = absurd (omega (arith, is))
for_memory file seats NoRoom Mismatch all why is = absurd (omega (arith, is))
for_memory file seats NoRoom Seats all why is = absurd (omega (arith, is))

pub left-requires-clause-all : goal.left-requires-clause-all
left-requires-clause-all g c =
    let config = c.args.config.now in
    let closed = c.in-Ok.ensures.closed in
    answered config.callers config.calls c.in-Ok.closed.diaries.items c.args.seats.items closed.diaries_are c.requires.served c.requires.all

pub left-requires-clause-served : goal.left-requires-clause-served
left-requires-clause-served g c = served c.args.config.now.calls c.in-Ok.closed.diaries.items c.args.seats.items c.in-Ok.ensures.closed.diaries_are c.requires.served

pub left-requires-clause-wards : goal.left-requires-clause-wards
left-requires-clause-wards g c = (c.in-Ok.ensures.closed.count ∙ ap (λ bits. 2 ^ bits) c.requires.bits, c.in-Ok.ensures.closed.order)

pub left-requires-clause-callers : goal.left-requires-clause-callers
left-requires-clause-callers g c = sym (length-map c.in-Ok.closed.diaries.items seat_of) ∙ ap length c.in-Ok.ensures.closed.diaries_are ∙ c.requires.all

pub left-requires-clause-equally_many : goal.left-requires-clause-equally_many
left-requires-clause-equally_many g c = c.in-Ok.ensures.closed.equally_many

pub returns-in-Err-clause-fault : goal.returns-in-Err-clause-fault
returns-in-Err-clause-fault g c = inl (for_memory c.args.file c.args.seats.items c.in-Err.back.fault c.into.result (c.requires.all ∙ sym c.requires.seats) c.in-Err.ensures.fault c.into.ensures)

pub returns-in-Ok-clause-fault : goal.returns-in-Ok-clause-fault
returns-in-Ok-clause-fault g c = IfErr-weaker c.left.result (λ fault. (fault ≡ Mismatch) × IsUnsettled c.args.config.now) _ (λ fault unsettled. inr unsettled) c.left.ensures.fault
