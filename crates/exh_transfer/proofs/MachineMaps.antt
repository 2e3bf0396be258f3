-- The map that pairs leave which are put in order.
use Rattle.std.proofs.Common.{ℕ, zero, suc, List, [], ◌∷◌, Option, Some, None, inl, inr, sym, ◌∙◌, subst}
use Rattle.exh_keyer.specs.Pseudokey.{any_pseudokey}
use Rattle.exh_keyer.specs.declared.any_keyer.AnyKeyer.{AnyKeyer}
use Rattle.exh_page.specs.KeyMap.{KeyMap}
use Rattle.exh_page.specs.declared.file_settings.FileSettings.{FileSettings}
use Rattle.exh_calls.specs.MapMachine.{map_after}
use Rattle.exh_calls.specs.declared.call.Call.TheVariants.{Put}
use Rattle.exh_import.specs.declared.imported_store.Added.{Added}
use Rattle.exh_import.specs.Pairs.{ArePut, AreSaved}
use Rattle.exh_compact.specs.FileChange.{HasMap}
use Rattle.exh_run.specs.declared.Store.{Store}
use Rattle.exh_transfer.specs.Imports.{IsAddedTo, KeepsPairs}
use Rattle.exh_transfer.specs.Laws.{HoldsOneMap, IsLeftAlone, IsOfMap, PutsLeaveTheMachinesMap, map_with}

kept_of : (settings : FileSettings AnyKeyer) (whole : KeyMap) (old new : Option Store) → KeepsPairs old new → IsOfMap settings whole old → IsOfMap settings whole new
kept_of settings whole None new keeps of = absurd of
kept_of settings whole (Some old) None keeps of = absurd keeps
kept_of settings whole (Some old) (Some new) (keeps, same) (are, has) = (same ∙ are, keeps whole has)

put_of : (settings : FileSettings AnyKeyer) (whole : KeyMap) (old new : Option Store) (key value : List ℕ) (added : Added) → IsAddedTo old key value added new → IsOfMap settings whole old
    → IsOfMap settings (map_after settings.cap (any_pseudokey settings.keyer) whole (Put key value)) new
put_of settings whole None new key value added put of = absurd of
put_of settings whole (Some old) None key value added put of = absurd put
put_of settings whole (Some old) (Some new) key value added (put, (is, (said, same))) (are, has) =
    (same ∙ are, subst (λ (s : FileSettings AnyKeyer). HasMap new.map (map_after s.cap (any_pseudokey s.keyer) whole (Put key value))) are (is whole has).map)

module _ {S : Type 0} (gives : S → List ℕ → List ℕ → Added → S → Type 0) (saves rests : S → S → Type 0) (held : S → Option Store) (one : HoldsOneMap gives saves held) (alone : IsLeftAlone rests held) where
  saved_of : (count : ℕ) (settings : FileSettings AnyKeyer) (whole : KeyMap) (old new : S) → AreSaved gives saves rests count old new → IsOfMap settings whole (held old) → IsOfMap settings whole (held new)
  saved_of zero settings whole old new same of = subst (λ (s : S). IsOfMap settings whole (held s)) (sym same) of
  saved_of (suc count) settings whole old new (next, (inl saved, more)) of = saved_of count settings whole next new more (kept_of settings whole (held old) (held next) (one.commits old next saved) of)
  saved_of (suc count) settings whole old new (next, (inr rested, more)) of = saved_of count settings whole next new more (kept_of settings whole (held old) (held next) (alone old next rested) of)

  puts_of : (settings : FileSettings AnyKeyer) (whole : KeyMap) (pairs : List (List ℕ × List ℕ)) (old new : S) → ArePut gives saves rests pairs old new → IsOfMap settings whole (held old) → IsOfMap settings (map_with settings whole pairs) (held new)
  puts_of settings whole [] old new (count, saved) of = saved_of count settings whole old new saved of
  puts_of settings whole (pair ∷ pairs) old new (count, (before, (answer, (next, (saved, (put, more)))))) of =
      let at = saved_of count settings whole old before saved of in
      puts_of settings (map_after settings.cap (any_pseudokey settings.keyer) whole (Put pair.0 pair.1)) pairs next new more
      (put_of settings whole (held before) (held next) pair.0 pair.1 answer (one.puts before next pair.0 pair.1 answer put) at)

pub puts_leave : {S : Type 0} (gives : S → List ℕ → List ℕ → Added → S → Type 0) (saves rests : S → S → Type 0) → PutsLeaveTheMachinesMap gives saves rests
puts_leave {S} gives saves rests held settings whole pairs store store' one alone put of = puts_of gives saves rests held one alone settings whole pairs store store' put of
