-- What holds of worlds that are equal but for their wards' counts of page faults.
use Rattle.std.proofs.Common.{◌≡◌, ℕ, suc, List, map, slice_get, Some, refl, sym, ap, ◌∙◌, subst, arith}
use Rattle.std.specs.Prelude.{slice_set}
use Rattle.std.proofs.lemmas.List.{map-set}
use Rattle.exh_prefix.specs.PrefixListLemmas.{set_same}
use Rattle.exh_ward.specs.WardState.{WardState}
use Rattle.exh_world.specs.Alike.{AreAlike, uncounted}
use Rattle.exh_world.specs.WorldListLemmas.{map_from, map_there}
use Rattle.exh_world.specs.Step.{CountsFailure}
use Rattle.exh_world.specs.World.{WorldState}

module _ {K : Type 0} where
  -- the ward, with this count of page faults
  abbrev pub counting : ℕ → WardState K → WardState K
  counting failures ward = record ward { failures = failures }

  pub ward_there : (wards others : List (WardState K)) → map (counting 0) wards ≡ map (counting 0) others → (at : ℕ) (ward : WardState K) → slice_get wards at ≡ Some ward
      → (failures : ℕ) × (slice_get others at ≡ Some (counting failures ward))
  ward_there wards others same at ward found =
      let there : slice_get (map (counting 0) others) at ≡ Some (counting 0 ward) = subst (λ ws. slice_get ws at ≡ Some (counting 0 ward)) same (map_there (counting 0) wards at ward found) in
      let from = map_from (counting 0) others at (counting 0 ward) there in
      (from.0.failures, from.1 ∙ ap (λ (w : WardState K). Some (counting from.0.failures w)) (sym from.2))

  -- a ward that counts more failures is the same but for that
  set_counted : (wards : List (WardState K)) (at : ℕ) (before : WardState K) (failures : ℕ) → slice_get wards at ≡ Some before → map (counting 0) (slice_set wards at (counting failures before)) ≡ map (counting 0) wards
  set_counted wards at before failures found = map-set (counting 0) wards at (counting failures before) ∙ set_same (map (counting 0) wards) at (counting 0 before) (map_there (counting 0) wards at before found)

  -- a page fault leaves a world that is alike
  pub fault_alike : (old new : WorldState K) (number : ℕ) → CountsFailure old number new → AreAlike new old
  fault_alike old new number is = ap uncounted is.after ∙ ap (λ wards. record old { wards = wards }) (set_counted old.wards number is.before is.failures is.found)

  -- and may stand at each world that is alike
  pub fault_too : (old new : WorldState K) (number : ℕ) → CountsFailure old number new → (twin : WorldState K) → AreAlike old twin → (left : WorldState K) × CountsFailure twin number left × AreAlike new left
  fault_too old new number is twin alike =
      let found = ward_there old.wards twin.wards (ap (λ (w : WorldState K). w.wards) alike) number is.before is.found in
      let left : WorldState K = record twin { wards = slice_set twin.wards number (counting (suc found.0) is.before) } in
      let too : CountsFailure twin number left = record { before = counting found.0 is.before; found = found.1; failures = suc found.0; more = omega arith; after = refl } in
      (left, too, fault_alike old new number is ∙ alike ∙ sym (fault_alike twin left number too))
