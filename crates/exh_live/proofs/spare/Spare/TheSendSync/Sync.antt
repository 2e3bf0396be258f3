-- A `&` to a share names no thread's key, as the share does not.
use denote.RattleType.{RattleType}
use denote.Param.Send.{IsSync, whole-keyless, struct_send, view_sync}
use denote.Struct.Owning.{shape, to}
use Rattle.std.specs.declared.sync.ledger.Ledger.{Ghosts}
use Rattle.std.proofs.sync.ledger.Share.TheSendSync.{the_send}
use Rattle.exh_live.specs.contracts.spare.Spare.{the_row}
use Rattle.exh_live.specs.contracts.spare.Spare.TheInside as inside

pub sync : (L : RattleType) (g : Ghosts L.Denot) → IsSync (the_row L g)
sync L g = view_sync _ _ _ _ _ fields_sync
  where
    fields_sync : IsSync (inside.the_row L g)
    fields_sync = let O = inside.the_type L g in
        record { shared = λ d b o κ q. whole-keyless _ _ (λ z vs. ((struct_send (shape O) (the_send L g, tt)).owned (to O z) vs, tt)) q d b o }
