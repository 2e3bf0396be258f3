-- The map of a store into which an export is imported.
use Rattle.std.proofs.Common.{◌≡◌, ◌⊎◌, inl, inr, ℕ, List, Bool, true, false, Option, Some, None, refl, subst}
use Rattle.std.specs.FinMap as fin
use Rattle.exh_keyer.specs.Pseudokey.{any_pseudokey}
use Rattle.exh_page.specs.KeyMap.{KeyMap}
use Rattle.exh_calls.specs.Effect.{effect_of}
use Rattle.exh_calls.specs.MapMachine.{changed, is_full}
use Rattle.exh_calls.specs.declared.call.Call.TheVariants.{Put}
use Rattle.exh_pair_text.specs.Laws.{PairsAreOneLine, PairsAreRead}
use Rattle.exh_import.specs.declared.imported_store.Added.{Added}
use Rattle.exh_import.specs.declared.imported_store.Added.TheVariants as added
use Rattle.exh_import.specs.declared.options.ImportOptions.{ImportOptions}
use Rattle.exh_import.specs.declared.rejection.Rejection.{Rejection}
use Rattle.exh_compact.specs.FileChange.{HasMap}
use Rattle.exh_map.specs.Answers.{put_said}
use Rattle.exh_map.specs.declared.put.Put.{Put as PutAnswer}
use Rattle.exh_run.specs.declared.Store.{Store}
use Rattle.exh_transfer.specs.Imports.{IsAddedTo, KeepsPairs, added_of}
use Rattle.exh_transfer.specs.Laws.{ExportsGiveTheirMap, HasMapHeld, IsAlone}
use Rattle.exh_transfer.proofs.Filled.{filled}

-- a put for which there is room sets its key
put_sets : (full : Bool) (stood : Option (List ℕ)) (key value : List ℕ) (whole : KeyMap) (put : PutAnswer) → put ≡ put_said (effect_of (Put key value) full stood).reply → added.Put ≡ added_of put
    → changed (effect_of (Put key value) full stood).change key whole ≡ fin.insert whole key value
put_sets full (Some stood) key value whole put is said = refl
put_sets false None key value whole put is said = refl
put_sets true None key value whole put is said = let none = subst (λ (p : PutAnswer). added.Put ≡ added_of p) is said in cc

put_in : (whole : KeyMap) (old new : Option Store) (key value : List ℕ) → HasMapHeld old whole → IsAddedTo old key value added.Put new → HasMapHeld new (fin.insert whole key value)
put_in whole None new key value holds is = absurd holds
put_in whole (Some old) None key value holds is = absurd is
put_in whole (Some old) (Some new) key value holds (put, (is, (said, same))) =
    let of = is whole holds in
    subst (HasMap new.map) (put_sets (is_full old.map.cap (any_pseudokey old.map.keyer) whole key) (fin.get whole key) key value whole put of.answer_is said) of.map

kept : (whole : KeyMap) (old new : Option Store) → HasMapHeld old whole → KeepsPairs old new → HasMapHeld new whole
kept whole None new holds keeps = absurd holds
kept whole (Some old) None holds keeps = absurd keeps
kept whole (Some old) (Some new) holds keeps = keeps.0 whole holds

module _ {S L : Type 0} (gives : S → List ℕ → List ℕ → Added → S → Type 0) (saves rests : S → S → Type 0) (told : L → ℕ → Rejection → List ℕ → L → Type 0) where
  kept_behind : (options : ImportOptions) (held : S → Option Store) → IsAlone gives saves rests told options held → (options.is_atomic ≡ true) ⊎ ((whole : KeyMap) (old new : S) → HasMapHeld (held old) whole → rests old new → HasMapHeld (held new) whole)
  kept_behind options held (inl atomic) = inl atomic
  kept_behind options held (inr keeps) = inr (λ whole old new holds rest. kept whole (held old) (held new) holds (keeps old new rest))

  pub exports_give_their_map : PairsAreRead → PairsAreOneLine → ExportsGiveTheirMap gives saves rests told
  exports_give_their_map read_law line_law held options bare pairs lines whole store store' listener listener' imported one alone exported once holds ends imports none =
      filled gives saves rests told (λ s whole. HasMapHeld (held s) whole) (λ whole old new key value has given. put_in whole (held old) (held new) key value has (one.puts old new key value added.Put given))
      (λ whole old new has saved. kept whole (held old) (held new) has (one.commits old new saved)) read_law line_law options bare pairs lines whole store store' listener listener' imported (kept_behind options held alone) exported once holds ends imports none
