use Rattle.std.proofs.Common.{◌≡◌, ℕ, ◌+◌, ◌^◌, ◌≤◌, List, length, Result, Ok, Err, IfErr, sym, ap, ◌∙◌, subst, arith}
use Rattle.std.specs.Prelude.{IsErrAnd}
use Rattle.exh_live.specs.Closing.{IsCloseFault}
use Rattle.exh_live.specs.LiveFile.{LiveState, SeatState}
use Rattle.exh_live.specs.declared.close.CloseFault.{CloseFault}
use Rattle.exh_live.specs.declared.close.CloseFault.TheVariants.{Memory}
use Rattle.exh_live.proofs.live_file.LiveFile.room_to_close.Goals as goal

room_for : (len more all capacity : ℕ) → len + more ≤ capacity → more ≡ all → all ≤ capacity
room_for len more all capacity room is = omega (arith, room, is)

of_memory : {T K : Type 0} (file : LiveState K) (seats : List SeatState) (result : Result T CloseFault) → IsErrAnd result (λ fault. fault ≡ Memory) → length seats ≡ file.seats → IfErr result (IsCloseFault file seats)
of_memory file seats (Ok room) gives all = tt
of_memory file seats (Err fault) gives all = subst (IsCloseFault file seats) (sym gives) all

pub returns-clause-wards : goal.returns-clause-wards
returns-clause-wards g c = room_for _ _ _ _ c.in_ok-reserve.ensures.ok (c.len-2.ensures ∙ c.self.invariant.1 ∙ ap (λ (file : LiveState g.row.K.Denot). 2 ^ file.ward_bits) c.self.view_is)

pub returns-clause-diaries : goal.returns-clause-diaries
returns-clause-diaries g c = room_for _ _ _ _ c.in_ok-reserve-2.ensures.ok c.len-3.ensures

pub returns-clause-empty : goal.returns-clause-empty
returns-clause-empty g c = (c.reserve.ensures.items ∙ c.new-wards.ensures.items, c.reserve-2.ensures.items ∙ c.new-diaries.ensures.items)

pub returns-clause-all : goal.returns-clause-all
returns-clause-all g c = sym (c.len.ensures ∙ c.args.seats.now.ok.0) ∙ c.if-len-self.false ∙ ap (λ (file : LiveState g.row.K.Denot). file.seats) c.self.view_is

pub returns-in_err-reserve-clause-fault : goal.returns-in_err-reserve-clause-fault
returns-in_err-reserve-clause-fault g c =
    of_memory c.args.self.now c.args.seats.now.items c.from_residual.result c.from_residual.ensures.1
    (sym (c.len.ensures ∙ c.args.seats.now.ok.0) ∙ c.if-len-self.false ∙ ap (λ (file : LiveState g.row.K.Denot). file.seats) c.self.view_is)

pub returns-in_err-reserve-2-clause-fault : goal.returns-in_err-reserve-2-clause-fault
returns-in_err-reserve-2-clause-fault g c =
    of_memory c.args.self.now c.args.seats.now.items c.from_residual-in_err-reserve-2.result c.from_residual-in_err-reserve-2.ensures.1
    (sym (c.len.ensures ∙ c.args.seats.now.ok.0) ∙ c.if-len-self.false ∙ ap (λ (file : LiveState g.row.K.Denot). file.seats) c.self.view_is)
