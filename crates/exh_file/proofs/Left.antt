-- What a fault leaves of wards.
use Rattle.std.proofs.Common.{◌≡◌, ℕ, ◌<◌, List, ◌++◌, take, ap, length, set, get_or, slice_get, Some, Result, Ok, Err, IsErrAnd, inl, inr, refl, sym, ◌∙◌, subst, arith}
use Rattle.std.proofs.lemmas.Bool.{cases_eq}
use Rattle.std.proofs.lemmas.List.{length-set}
use Rattle.std.proofs.lemmas.Option.{slice_get-get_or, slice_get_within}
use Rattle.std.proofs.Math.Seq.{take-append_seam}
use Rattle.exh_prefix.specs.PrefixListLemmas.{one_there, set_here, set_else}
use Rattle.exh_keyer.specs.declared.any_keyer.AnyKeyer.{AnyKeyer}
use Rattle.exh_ward.specs.WardState.{IsUnchanged, WardState}
use Rattle.exh_page.specs.declared.file_settings.FileSettings.{FileSettings}
use Rattle.exh_file.specs.Opened.{AreWardsOf, IsWardOf, OpenedState, in_file, settings_in}
use Rattle.exh_file.specs.SaveFault.{CountsSaveFailures}
use Rattle.exh_file.specs.Saved.{AreUnchanged, failures_in}
use Rattle.exh_file.specs.declared.save_fault.SaveFault.{SaveFault}
use Rattle.exh_file.specs.declared.save_fault.SaveFault.TheVariants.{Write, Page, Memory}
use Rattle.exh_file.proofs.Lists.{sum_of-set}

-- ---- wards of which one was touched

module _ (wards : List (WardState AnyKeyer)) (at : ℕ) (ward left : WardState AnyKeyer) (is : slice_get wards at ≡ Some ward) where
  pub one_touched : IsUnchanged ward left → AreUnchanged wards (set wards at left)
  one_touched unchanged = record {
    count = length-set wards at left;
    each = λ number old new was there. elim (cases_eq number at) [
      | inl here ↦
          let old_is : old ≡ ward = one_there wards at old ward (subst (λ (n : ℕ). slice_get wards n ≡ Some old) here was) is in
          let new_is : new ≡ left = one_there (set wards at left) at new left (subst (λ (n : ℕ). slice_get (set wards at left) n ≡ Some new) here there) (set_here wards at ward left is) in
          subst (λ (w : WardState AnyKeyer). IsUnchanged w new) (sym old_is) (subst (λ (w : WardState AnyKeyer). IsUnchanged ward w) (sym new_is) unchanged)
      | inr else ↦
          let same : new ≡ old = one_there wards number new old (sym (set_else wards at number left else) ∙ there) was in
          subst (λ (w : WardState AnyKeyer). IsUnchanged old w) (sym same) refl
    ];
  }

  pub one_counted : {T : Type 0} (result : Result T SaveFault) → CountsSaveFailures result ward.failures left.failures → CountsSaveFailures result (failures_in wards) (failures_in (set wards at left))
  one_counted (Ok value) same = omega (arith, sum_of-set (λ (w : WardState AnyKeyer). w.failures) wards at ward left is, same)
  one_counted (Err Write) same = omega (arith, sum_of-set (λ (w : WardState AnyKeyer). w.failures) wards at ward left is, same)
  one_counted (Err Memory) same = omega (arith, sum_of-set (λ (w : WardState AnyKeyer). w.failures) wards at ward left is, same)
  one_counted (Err Page) more = omega (arith, sum_of-set (λ (w : WardState AnyKeyer). w.failures) wards at ward left is, more)

-- a count that a `?` hands on with its fault
pub counted_as : {T : Type 0} (result : Result T SaveFault) (fault : SaveFault) (old new : ℕ) → IsErrAnd result (λ other. other ≡ fault) → CountsSaveFailures {T = T} (Err fault) old new → CountsSaveFailures result old new
counted_as (Ok value) fault old new is counts = absurd is
counted_as {T = T} (Err other) fault old new is counts = subst (λ (fault : SaveFault). CountsSaveFailures {T = T} (Err fault) old new) (sym is) counts

-- wards of a file that are unchanged are wards of it
module _ (opened : OpenedState) (wards : List (WardState AnyKeyer)) (are : AreWardsOf opened) (same : AreUnchanged opened.wards wards) where
  its_ward : (number : ℕ) (old new : WardState AnyKeyer) → IsWardOf opened number old → IsUnchanged old new → IsWardOf (record opened { wards = wards }) number new
  its_ward number old new is unchanged = subst (IsWardOf (record opened { wards = wards }) number) (sym unchanged) (record { cap = is.cap; bits = is.bits; number_is = is.number_is; keyer = is.keyer })

  pub still_wards : AreWardsOf (record opened { wards = wards })
  still_wards = record {
    some = are.some;
    most = are.most;
    bits = are.bits;
    count = same.count ∙ are.count;
    each = λ number new there.
        let old = get_or opened.wards number new in
        let less : number < length opened.wards = omega (arith, slice_get_within wards number new there, same.count) in
        let was : slice_get opened.wards number ≡ Some old = slice_get-get_or opened.wards number new less in
        its_ward number old new (are.each number old was) (same.each number old new was there);
  }

-- settings and wards that are a file's are the file
pub same_file : (opened : OpenedState) (settings : FileSettings AnyKeyer) (wards : List (WardState AnyKeyer)) → settings ≡ settings_in opened → wards ≡ opened.wards → in_file settings wards ≡ opened
same_file opened settings wards p q = ap (λ (s : FileSettings AnyKeyer). in_file s wards) p ∙ ap (in_file (settings_in opened)) q

-- what was lent and is put back whole
pub put_back : (len : ℕ) (left rest : List (WardState AnyKeyer)) → len ≡ length left → take len (left ++ rest) ≡ left
put_back len left rest is = subst (λ (n : ℕ). take n (left ++ rest) ≡ left) (sym is) (take-append_seam left rest)
