-- Counts of failures that rise, and those that never fall.
use Rattle.std.proofs.Common.{◌≡◌, ℕ, ◌<◌, ◌≤◌, List, slice_get, Option, None, Some, Result, Ok, Err, IfErr, inl, inr, refl, sym, ap, ◌∙◌, subst, arith}
use Rattle.std.specs.Prelude.{slice_set, IsErr, IsErrAnd}
use Rattle.exh_prefix.specs.PrefixListLemmas.{set_is}
use Rattle.exh_keyer.specs.declared.any_keyer.AnyKeyer.{AnyKeyer}
use Rattle.exh_ward.specs.WardFault.{CountsFailures}
use Rattle.exh_ward.specs.WardState.{WardState}
use Rattle.exh_ward.specs.declared.ward_fault.WardFault.{WardFault}
use Rattle.exh_ward.specs.declared.ward_fault.WardFault.TheVariants.{NoPage, NotLive, NotFull, AtLimit, NoBuddy, BuddySplit, TooMany, Worn, Memory as NoMemory, Page as OutOfReach}
use Rattle.exh_page.specs.declared.file_settings.FileSettings.{FileSettings}
use Rattle.exh_ward.specs.NewWardLemmas.{new_ward_at}
use Rattle.exh_ward.specs.NewWards.{new_wards}
use Rattle.exh_file.specs.Opened.{OpenedState, in_file}
use Rattle.exh_load.specs.LoadFault.{BeginsFrom, FallsNowhere, HasCounted, HasCountedFrom, HasCountedIn, load_fault_of}
use Rattle.exh_load.specs.declared.load_fault.LoadFault.{LoadFault}
use Rattle.exh_load.specs.declared.load_fault.LoadFault.TheVariants.{Page}

-- ---- of one call

pub page_counts : {T P : Type 0} (failures : P → ℕ) (result : Result T WardFault) (old new : ℕ) → CountsFailures result old new → (store : P) × (failures store ≡ new) → IfErr result (λ fault. fault ≡ OutOfReach → (old < new) × ((store : P) × (failures store ≡ new)))
page_counts failures (Ok value) old new counts store = tt
page_counts {T} failures (Err fault) old new counts store = λ page. (subst (λ f. CountsFailures {T = T} (Err f) old new) page counts, store)

-- the one refusal of a ward that a load tells as a page out of reach
pub out_of_reach : (fault : WardFault) → load_fault_of fault ≡ Page → fault ≡ OutOfReach
out_of_reach NoPage is = cc
out_of_reach NotLive is = cc
out_of_reach NotFull is = cc
out_of_reach AtLimit is = cc
out_of_reach NoBuddy is = cc
out_of_reach BuddySplit is = cc
out_of_reach (TooMany sum) is = cc
out_of_reach Worn is = cc
out_of_reach NoMemory is = cc
out_of_reach OutOfReach is = refl

pub one_counted : {P : Type 0} (failures : P → ℕ) (old new : OpenedState) (key : List ℕ) → HasCountedIn failures old key new → HasCounted failures old
one_counted failures old new key counted = (counted.store, _, counted.ward, counted.there, omega (arith, counted.more, counted.counted))

-- ---- of calls one after the other

pub falls_none : (file : OpenedState) → FallsNowhere file file
falls_none file number after there = (after, there, omega arith)

pub falls_then : (old mid new : OpenedState) → FallsNowhere old mid → FallsNowhere mid new → FallsNowhere old new
falls_then old mid new first second number after there =
    let later = second number after there in
    let before = first number later.0 later.1 in
    (before.0, before.1, omega (arith, before.2, later.2))

-- what was counted since is more than before
pub counted_before : {P : Type 0} (failures : P → ℕ) (old new : OpenedState) → FallsNowhere old new → HasCounted failures new → HasCounted failures old
counted_before failures old new falls counted =
    let before = falls counted.1 counted.2 counted.3 in
    (counted.0, counted.1, before.0, before.1, omega (arith, before.2, counted.4))

pub from_begun : {P : Type 0} (failures : P → ℕ) (from : Option OpenedState) (file : OpenedState) → BeginsFrom from file → HasCounted failures file → HasCountedFrom failures from
from_begun failures None file none counted = (counted.0, omega (arith, none counted.1 counted.2 counted.3, counted.4))
from_begun failures (Some opened) file same counted = subst (HasCounted failures) same counted

-- a new file's wards have counted none
pub new_none : (settings : FileSettings AnyKeyer) (file : OpenedState) → file ≡ in_file settings (new_wards settings) → BeginsFrom None file
new_none settings file is number ward there =
    let at : slice_get (new_wards settings) number ≡ Some ward = subst (λ (f : OpenedState). slice_get f.wards number ≡ Some ward) is there in
    ap (λ (w : WardState AnyKeyer). w.failures) (new_ward_at settings number ward at).1

-- one ward is another, whose count isn't less
pub falls_at : (old new : OpenedState) (at : ℕ) (ward after : WardState AnyKeyer) → slice_get old.wards at ≡ Some ward → new.wards ≡ slice_set old.wards at after → ward.failures ≤ after.failures → FallsNowhere old new
falls_at old new at ward after there is more number now is_there =
    elim (set_is old.wards at number ward after now there (subst (λ (wards : List (WardState AnyKeyer)). slice_get wards number ≡ Some now) is is_there)) [
      | inl here ↦ (ward, ap (slice_get old.wards) here.0 ∙ there, omega (arith, more, ap (λ (w : WardState AnyKeyer). w.failures) here.1))
      | inr else ↦ (now, else.1, omega arith)
    ]

-- ---- handed on

pub handed : {T : Type 0} (own : LoadFault) (Q : Type 0) (result : Result T LoadFault) → (own ≡ Page → Q) → IsErr result × IsErrAnd result (λ fault. fault ≡ own) → IfErr result (λ fault. fault ≡ Page → Q)
handed own Q (Ok value) so is = absurd is.1
handed own Q (Err fault) so is = λ page. so (sym is.1 ∙ page)

pub fault_as : {T : Type 0} (own : WardFault) (Q : Type 0) (result : Result T WardFault) → (own ≡ OutOfReach → Q) → IsErr result × IsErrAnd result (λ fault. fault ≡ own) → IfErr result (λ fault. fault ≡ OutOfReach → Q)
fault_as own Q (Ok value) so is = absurd is.1
fault_as own Q (Err fault) so is = λ page. so (sym is.1 ∙ page)

pub at_least : {old new : ℕ} → new ≡ old → old ≤ new
at_least same = omega (arith, same)
