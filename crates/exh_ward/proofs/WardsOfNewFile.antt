-- The wards of a new file, number by number.
use Rattle.std.proofs.Common.{◌≡◌, ℕ, ◌+◌, List, [], ◌∷◌, ◌++◌, map, slice_get, None, Some, inl, inr, sym, ap, ◌∙◌, subst, arith}
use Rattle.std.specs.List.{range_with_len}
use Rattle.std.proofs.lemmas.List.FromFn.{map-range_with_len_more}
use Rattle.exh_prefix.specs.PrefixListLemmas.{push_is}
use Rattle.exh_page.specs.declared.file_settings.FileSettings.{FileSettings}
use Rattle.exh_ward.specs.NewWards.{new_ward}
use Rattle.exh_ward.specs.WardState.{IsSoundWard, WardState}

module _ {K : Type 0} (pseudokey_of : K → List ℕ → ℕ) (settings : FileSettings K) where
  -- the wards of the numbers below one, each of them sound
  pub record AreNewWards (number : ℕ) (wards : List (WardState K)) : Type 0 where
    pub made : wards ≡ map (new_ward settings) (range_with_len 0 number)
    pub sound : (at : ℕ) (ward : WardState K) → slice_get wards at ≡ Some ward → IsSoundWard pseudokey_of ward

  pub no_ward_yet : (wards : List (WardState K)) → wards ≡ [] → AreNewWards 0 wards
  no_ward_yet wards none = record { made = none; sound = λ at ward here. let never : None ≡ Some ward = sym (ap (λ ws. slice_get ws at) none) ∙ here in cc }

  pub one_ward_more : (number failures : ℕ) (wards after : List (WardState K)) (more : WardState K) → AreNewWards number wards
      → more ≡ record (new_ward settings number) { failures = failures } → failures ≡ 0 → IsSoundWard pseudokey_of more → after ≡ wards ++ more ∷ [] → AreNewWards (number + 1) after
  one_ward_more number failures wards after more are is none sound pushed =
      let new : more ≡ new_ward settings number = is ∙ ap (λ (n : ℕ). let ward : WardState K = record (new_ward settings number) { failures = n } in ward) none in
      record {
        made = pushed ∙ ap (λ ws. ws ++ more ∷ []) are.made ∙ ap (λ w. map (new_ward settings) (range_with_len 0 number) ++ w ∷ []) new
            ∙ sym (map-range_with_len_more (new_ward settings) 0 number number (omega arith));
        sound = λ at ward here. elim (push_is wards more ward at (sym (ap (λ ws. slice_get ws at) pushed) ∙ here)) [
          | inl before ↦ are.sound at ward before
          | inr same ↦ subst (IsSoundWard pseudokey_of) (sym same) sound
        ];
      }
