use Rattle.std.proofs.Common.{◌≡◌, ℕ, ◌+◌, List, [], ◌∷◌, ◌++◌, length, append-nil, Option, Some, None, Result, Ok, Err, IfErr, IfSome, IfNone, unwrap_or, inl, inr, refl, sym, ap, ap₂, ◌∙◌, subst, false, arith}
use Rattle.std.specs.Prelude.{OnErr, OnOk, is_err}
use Rattle.std.proofs.lemmas.List.{length_push}
use Rattle.std.proofs.lemmas.Result.{IfOk-from_err}
use Rattle.exh_calls.specs.Call.{key_of}
use Rattle.exh_calls.specs.declared.reply.Reply.{Reply}
use Rattle.exh_copy.specs.Additions.{BeginsWith, Held, table_after}
use Rattle.exh_table.specs.Table.{TableMap}
use Rattle.exh_table.specs.TableWalk.{walk_of}
use Rattle.exh_calls.specs.declared.diary_entry.DiaryEntry.{DiaryEntry}
use Rattle.exh_walk.specs.declared.ask_fault.AskFault.{AskFault}
use Rattle.exh_live.specs.LiveFile.{LiveState, SeatState}
use Rattle.exh_live.specs.Refused.{IsSomeWardsFault}
use Rattle.exh_walk.specs.declared.ask_fault.AskFault.TheVariants.{Page}
use Rattle.exh_ward.specs.declared.ward_fault.WardFault.TheVariants.{Page as OutOfReach}
use Rattle.exh_live.specs.Units.{units_of}
use Rattle.exh_live.specs.Locked.{IsFirstPage, IsLockedWalk}
use Rattle.std.specs.declared.sync.ledger.Share.{Share}
use Rattle.exh_live.specs.declared.ledgers.Answers.{Answers}
use Rattle.exh_live.proofs.live_file.LiveFile.ask.Given.{Over}
use Rattle.exh_live.proofs.Walks.{of_fault}
use Rattle.exh_live.proofs.live_file.LiveFile.ask.Goals as goal

-- a call begins at the page that a look gave, or at page 0
first_page : (start : TableMap) (ward_bits pseudokey : ℕ) (old new : Held) (looked : Option ℕ) (at : ℕ)
    → IfSome looked (λ page. page ≡ (walk_of (table_after start new.additions) ward_bits pseudokey).page) → IfNone looked (new ≡ old) → at ≡ unwrap_or looked 0 → IsFirstPage start ward_bits old new pseudokey at
first_page start ward_bits pseudokey old new (Some page) at named none is = inl (is ∙ named)
first_page start ward_bits pseudokey old new None at named none is = inr (is, none)

abbrev seat_with : ℕ → List DiaryEntry → SeatState
seat_with client entries = record { client = client; entries = entries }

on_err : {T E : Type 0} (result : Result T E) (P : Type 0) → P → OnErr result P
on_err (Ok value) P has = tt
on_err (Err fault) P has = has

on_ok : {T E : Type 0} (result : Result T E) (P : Type 0) → OnOk result P → is_err result ≡ false → P
on_ok (Ok value) P has none = has
on_ok (Err fault) P has none = cc

begins_with : (looked : Option ℕ) (old new : Held) → IfSome looked (λ page. BeginsWith new.additions old.additions) → IfNone looked (new ≡ old) → BeginsWith new.additions old.additions
begins_with (Some page) old new holds none = holds
begins_with None old new holds none = ([], ap (λ (held : Held). held.additions) none ∙ sym (append-nil old.additions))

-- a share that was set aside whole is put to one of none
put_back : (put rest back : ℕ) → put ≡ rest + back → rest ≡ 0 → put ≡ back
put_back put rest back is none = omega (arith, is, none)

add_none : (had : ℕ) → had + 0 ≡ had
add_none had = omega arith

abbrev ShareOf : Over → Type 0
ShareOf g = Share (Answers g.row.F.Denot)

pub invariant_of-seat : goal.invariant_of-seat
invariant_of-seat g c = (c.seat.invariant.0, c.seat.invariant.1 ∙ ap length (sym c.reserve.ensures.entries))

pub returns-then-is_err-clause-ok : goal.returns-then-is_err-clause-ok
returns-then-is_err-clause-ok g c = tt

pub returns-then-is_err-clause-err : goal.returns-then-is_err-clause-err
returns-then-is_err-clause-err g c = ap₂ seat_with c.reserve.ensures.client c.reserve.ensures.entries ∙ c.seat.view_is

pub returns-then-is_err-clause-walk : goal.returns-then-is_err-clause-walk
returns-then-is_err-clause-walk g c = inl refl

pub returns-then-is_err-clause-copy : goal.returns-then-is_err-clause-copy
returns-then-is_err-clause-copy g c = (refl, ([], sym (append-nil c.args.copy.now.additions)))

pub walk-answers-requires-clause-hashed : goal.walk-answers-requires-clause-hashed
walk-answers-requires-clause-hashed g c =
    c.pseudo-pseudokey.ensures
    ∙ ap (g.K.Keyer.pseudokey_of c.self.inside.settings.keyer) (c.as_bytes.ensures.bytes ∙ c.key.ensures)
    ∙ ap (λ (file : LiveState g.row.K.Denot). g.K.Keyer.pseudokey_of file.keyer (key_of c.args.call.now)) c.self.view_is

pub returns-in_err-reply-clause-ok : goal.returns-in_err-reply-clause-ok
returns-in_err-reply-clause-ok g c = IfOk-from_err c.from_residual.result _ c.from_residual.ensures.0

pub returns-in_err-reply-clause-err : goal.returns-in_err-reply-clause-err
returns-in_err-reply-clause-err g c = on_err c.from_residual.result _ (ap₂ seat_with c.reserve.ensures.client c.reserve.ensures.entries ∙ c.seat.view_is)

pub returns-in_err-reply-clause-walk : goal.returns-in_err-reply-clause-walk
returns-in_err-reply-clause-walk g c =
    let Walked : ℕ → ℕ → Result Reply AskFault → Type 0 = λ pseudokey client result. IsLockedWalk g.K.Keyer.pseudokey_of (g.G.Gate.may c.args.gate.now client) c.unwrap_or-at.result client c.args.call.now pseudokey result in
    let keyed = c.pseudo-pseudokey.ensures ∙ ap (g.K.Keyer.pseudokey_of c.self.inside.settings.keyer) (c.as_bytes.ensures.bytes ∙ c.key.ensures) in
    let hashed = keyed ∙ ap (λ (hash : List ℕ → ℕ). hash (key_of c.args.call.now)) c.self.invariant.2 in
    let client = c.client-client.ensures.client ∙ c.reserve.ensures.client ∙ ap (λ (seat : SeatState). seat.client) c.seat.view_is in
    let of_client = subst (λ number. Walked c.pseudo-pseudokey.result number c.walk-answers.result.1) client c.walk-answers.ensures.walk in
    let of_key = subst (λ pseudokey. Walked pseudokey c.args.seat.now.client c.walk-answers.result.1) hashed of_client in
    let own = g.F.Identity.hashing (key_of c.args.call.now) in
    let first = first_page g.S.Start.table g.S.Start.ward_bits c.pseudo-pseudokey.result c.args.copy.now c.look.new.self c.look.result c.unwrap_or-at.result c.look.ensures.page c.look.ensures.none c.unwrap_or-at.ensures in
    let begins = subst (λ pseudokey. IsFirstPage g.S.Start.table g.S.Start.ward_bits c.args.copy.now c.look.new.self pseudokey c.unwrap_or-at.result) hashed first in
    inr (c.unwrap_or-at.result, begins, of_fault (Walked own c.args.seat.now.client) c.from_residual.result c.in_err-reply.field-0.0 c.from_residual.ensures (subst (Walked own c.args.seat.now.client) c.in_err-reply.was of_key))

pub returns-clause-walk : goal.returns-clause-walk
returns-clause-walk g c =
    let Walked : ℕ → ℕ → Result Reply AskFault → Type 0 = λ pseudokey client result. IsLockedWalk g.K.Keyer.pseudokey_of (g.G.Gate.may c.args.gate.now client) c.unwrap_or-at.result client c.args.call.now pseudokey result in
    let keyed = c.pseudo-pseudokey.ensures ∙ ap (g.K.Keyer.pseudokey_of c.self.inside.settings.keyer) (c.as_bytes.ensures.bytes ∙ c.key.ensures) in
    let hashed = keyed ∙ ap (λ (hash : List ℕ → ℕ). hash (key_of c.args.call.now)) c.self.invariant.2 in
    let client = c.client-client.ensures.client ∙ c.reserve.ensures.client ∙ ap (λ (seat : SeatState). seat.client) c.seat.view_is in
    let of_client = subst (λ number. Walked c.pseudo-pseudokey.result number c.walk-answers.result.1) client c.walk-answers.ensures.walk in
    let of_key = subst (λ pseudokey. Walked pseudokey c.args.seat.now.client c.walk-answers.result.1) hashed of_client in
    let first = first_page g.S.Start.table g.S.Start.ward_bits c.pseudo-pseudokey.result c.args.copy.now c.look.new.self c.look.result c.unwrap_or-at.result c.look.ensures.page c.look.ensures.none c.unwrap_or-at.ensures in
    let begins = subst (λ pseudokey. IsFirstPage g.S.Start.table g.S.Start.ward_bits c.args.copy.now c.look.new.self pseudokey c.unwrap_or-at.result) hashed first in
    inr (c.unwrap_or-at.result, begins, subst (Walked (g.F.Identity.hashing (key_of c.args.call.now)) c.args.seat.now.client) c.in_ok-reply.was of_key)

pub returns-in_err-reply-clause-counted : goal.returns-in_err-reply-clause-counted
returns-in_err-reply-clause-counted g c =
    let Told : Result Reply AskFault → Type 0 = λ result. IfErr result (λ fault. fault ≡ Page → IsSomeWardsFault g.P.Pages.failures g.K.Keyer.pseudokey_of OutOfReach) in
    of_fault Told c.from_residual.result c.in_err-reply.field-0.0 c.from_residual.ensures (subst Told c.in_err-reply.was c.walk-answers.ensures.counted)

pub returns-clause-counted : goal.returns-clause-counted
returns-clause-counted g c = tt

pub returns-clause-err : goal.returns-clause-err
returns-clause-err g c = tt

pub push_reserved-requires : goal.push_reserved-requires
push_reserved-requires g c = on_ok c.reserve.result _ c.reserve.ensures.ok (sym c.is_err.ensures.value ∙ c.if-is_err.false)

pub returns-clause-copy : goal.returns-clause-copy
returns-clause-copy g c = (c.look.ensures.name, begins_with c.look.result c.args.copy.now c.look.new.self c.look.ensures.holds c.look.ensures.none)

pub returns-in_err-reply-clause-copy : goal.returns-in_err-reply-clause-copy
returns-in_err-reply-clause-copy g c = (c.look.ensures.name, begins_with c.look.result c.args.copy.now c.look.new.self c.look.ensures.holds c.look.ensures.none)

pub returns-clause-ok : goal.returns-clause-ok
returns-clause-ok g c =
    ap₂ seat_with (c.push_reserved.ensures.client ∙ c.reserve.ensures.client) (c.push_reserved.ensures.entries ∙ ap (λ entries. entries ++ record { call = c.args.call.now; reply = c.in_ok-reply.reply } ∷ []) c.reserve.ensures.entries)
    ∙ ap (λ (seat : SeatState). seat_with seat.client (seat.entries ++ record { call = c.args.call.now; reply = c.in_ok-reply.reply } ∷ [])) c.seat.view_is

pub invariant_of-seat-2 : goal.invariant_of-seat-2
invariant_of-seat-2 g c =
    let rest = c.replace-answers.ensures.after in (
      put_back _ _ _ c.merge.ensures.parts (ap (λ (share : ShareOf g). share.parts) rest ∙ c.empty-none.ensures.parts) ∙ c.walk-answers.ensures.part,
      put_back _ _ _ c.merge.ensures.amount (ap (λ (share : ShareOf g). share.amount) rest ∙ c.empty-none.ensures.amount) ∙ c.walk-answers.ensures.units
          ∙ ap₂ (λ had more. had + more) (ap (λ (share : ShareOf g). share.amount) (c.replace-answers.ensures.value ∙ c.empty-none.ensures.same) ∙ c.seat.invariant.1 ∙ ap length (sym c.reserve.ensures.entries)) (ap units_of c.in_ok-reply.was)
          ∙ sym (ap length c.push_reserved.ensures.entries ∙ length_push c.reserve.new.self.entries _),
    )

pub invariant_of-seat-in_err-reply : goal.invariant_of-seat-in_err-reply
invariant_of-seat-in_err-reply g c =
    let rest = c.replace-answers.ensures.after in (
      put_back _ _ _ c.merge.ensures.parts (ap (λ (share : ShareOf g). share.parts) rest ∙ c.empty-none.ensures.parts) ∙ c.walk-answers.ensures.part,
      put_back _ _ _ c.merge.ensures.amount (ap (λ (share : ShareOf g). share.amount) rest ∙ c.empty-none.ensures.amount) ∙ c.walk-answers.ensures.units
          ∙ ap₂ (λ had more. had + more) (ap (λ (share : ShareOf g). share.amount) (c.replace-answers.ensures.value ∙ c.empty-none.ensures.same) ∙ c.seat.invariant.1 ∙ ap length (sym c.reserve.ensures.entries)) (ap units_of c.in_err-reply.was)
          ∙ add_none (length c.reserve.new.self.entries),
    )
