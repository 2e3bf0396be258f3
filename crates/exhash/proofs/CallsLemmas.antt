-- What calls leave of a page file.
use Rattle.std.proofs.Common.{◌≡◌, ℕ, Bool, List, inl, inr, ap, ◌∙◌, subst}
use Rattle.exh_keyer.specs.declared.any_keyer.AnyKeyer.{AnyKeyer}
use Rattle.exh_keyer.specs.Pseudokey.{any_pseudokey}
use Rattle.exh_page.specs.KeyMap.{KeyMap}
use Rattle.exh_page.specs.declared.file_settings.FileSettings.{FileSettings}
use Rattle.exh_map.specs.declared.Stamps.{Stamps}
use Rattle.exh_calls.specs.declared.call.Call.{Call}
use Rattle.exhash.specs.Batch.{map_after_all, map_then_all}
use Rattle.exh_map.specs.FilePages.{Leaves, LeavesAlone}
use Rattle.sqlite_disk.specs.declared.Disk.{Ghosts}
use Rattle.exhash.specs.CallChange.{HasPairs, HasStamps, HasState, IsStampedOver, OfLegal}
use Rattle.exhash.specs.CallsChange.{AreOldOrCalled, AreReplied}
use Rattle.exhash.specs.PlacedLaws.{map_in}
use Rattle.exh_map.specs.declared.Answered.{Answered}
use Rattle.exhash.specs.Commit.{AreStamps, IsCommittedAs, IsFileOf, IsOldOrCommitted, stamps_behind}

module _ (settings : FileSettings AnyKeyer) (was : KeyMap) (own : ℕ) (old : List ℕ) (of : IsFileOf settings was own old) (calls : List Call) where
  abbrev left : KeyMap
  left = map_after_all settings.cap (any_pseudokey settings.keyer) was calls

  same_left : map_then_all of.file calls ≡ left
  same_left =
      ap (λ (own : FileSettings AnyKeyer). map_after_all own.cap (any_pseudokey own.keyer) (map_in of.file) calls) of.settings_are
      ∙ ap (λ (pairs : KeyMap). map_after_all settings.cap (any_pseudokey settings.keyer) pairs calls) of.is

  module _ (truthful : Bool) (stamp : ℕ) where
    abbrev stamps : Stamps
    stamps = stamps_behind own stamp

    stamped : (new : List ℕ) → IsStampedOver of.file stamp old new → AreStamps stamps old new
    stamped new (inl same) = inl same
    stamped new (inr has) = inr (subst (λ (before : ℕ). HasStamps new stamp before) of.stamp_is has)

    old_or_committed : (new : List ℕ) → AreOldOrCalled truthful of.file calls stamp old new → IsOldOrCommitted truthful left stamps old new
    old_or_committed new (inl same) = inl same
    old_or_committed new (inr called) = inr (λ truth. (subst (HasPairs new) same_left (called.pairs truth), stamped new (called.stamped truth)))

    committed_as : (answered : Answered) (new : List ℕ) → AreReplied truthful of.file calls stamp answered old new → IsCommittedAs truthful left stamps answered.stamp old new
    committed_as answered new replied truth = (subst (λ (pairs : KeyMap). HasState new pairs answered.stamp) same_left (replied.state truth), stamped new (replied.called.stamped truth))

    module _ {D : Type 0} (g : Ghosts D) (files : D × D) where
      pub calls_leave : OfLegal old (λ file. Leaves g files (AreOldOrCalled truthful file calls stamp old)) → Leaves g files (IsOldOrCommitted truthful left stamps old)
      calls_leave all leaving clean may =
          let (bytes, stands, holds) = all of.file of.tables of.are_bytes of.legal leaving clean may in
          (bytes, stands, old_or_committed bytes holds)

      pub calls_leave_alone : (answered : Answered) → OfLegal old (λ file. LeavesAlone g files (AreReplied truthful file calls stamp answered old)) → LeavesAlone g files (IsCommittedAs truthful left stamps answered.stamp old)
      calls_leave_alone answered all leaving clean may =
          let (bytes, stands, holds) = all of.file of.tables of.are_bytes of.legal leaving clean may in
          (bytes, stands, committed_as answered bytes holds)
