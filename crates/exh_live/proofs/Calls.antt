-- A caller is answered one call more.
use Rattle.std.proofs.Common.{◌≡◌, ℕ, ◌+◌, [], ◌∷◌, ◌++◌, refl, sym, subst}
use Rattle.exh_calls.specs.declared.call.Call.{Call}
use Rattle.exh_calls.specs.declared.reply.Reply.{Reply}
use Rattle.exh_calls.specs.declared.diary_entry.DiaryEntry.{DiaryEntry}
use Rattle.exh_live.specs.LiveFile.{SeatState}
use Rattle.exh_live.specs.StormCalls.{AreStormCalls, storm_call}
use Rattle.exh_live.specs.CursorPlaceLemmas.{one_more}

-- the seat is this caller's, which was answered so many calls
abbrev pub IsServedSo : ℕ → ℕ → SeatState → Type 0
IsServedSo client count seat = (client ≡ seat.client) × AreStormCalls client count seat.entries

pub one_call_more : (client count : ℕ) (old new : SeatState) (call : Call) (reply : Reply) → IsServedSo client count old → call ≡ storm_call client (count + 1) → new ≡ record old { entries = old.entries ++ record { call = call; reply = reply } ∷ [] } → IsServedSo client (count + 1) new
one_call_more client count old new call reply served is grown =
    let last : DiaryEntry = record { call = call; reply = reply } in
    subst (IsServedSo client (count + 1)) (sym grown) (
      served.0,
      one_more (λ place (entry : DiaryEntry). entry.call ≡ storm_call client (place + 1)) count old.entries last (old.entries ++ last ∷ []) served.1 is refl,
    )
