-- The world of a new file is sound.
use Rattle.std.proofs.Common.{◌≡◌, ℕ, ◌-◌, ◌^◌, ◌<◌, ◌≤◌, Bool, List, [], ◌++◌, take, replicate, slice_get, Some, None, refl, sym, ap, ◌∙◌, subst, arith, lit<}
use Rattle.std.specs.FinMap as fin
use Rattle.std.proofs.lemmas.List.{length-replicate, get_or-replicate}
use Rattle.std.proofs.Math.Seq.{take-nil}
use Rattle.std.proofs.lemmas.List.FromFn.{length-map-range_with_len}
use Rattle.std.proofs.lemmas.Option.{slice_get-get_or}
use Rattle.exh_prefix.specs.Prefix.{prefix_cmp}
use Rattle.exh_table.specs.SetLemmas.{since_nothing}
use Rattle.exh_table.specs.Table.{TableMap}
use Rattle.exh_table.specs.TableWalk.{right_of}
use Rattle.exh_prefix.specs.Leading.{ward_prefix}
use Rattle.exh_ward.specs.WardState.{WardState, IsSoundWard}
use Rattle.exh_prefix.specs.declared.prefix.TheConstants.{WARD_BITS_LIMIT}
use Rattle.exh_world.specs.WorldKept.{IsKeptWorld}
use Rattle.exh_ward.specs.NewWards.{new_ward}
use Rattle.exh_world.specs.NewWorld.{new_world}
use Rattle.exh_world.specs.Sound.{LeadsRight, LeadsRightIn, IsWardOf, IsSoundWorld}
use Rattle.exh_world.specs.World.{WorldState}
use Rattle.exh_world.specs.InFlight.{Requests}
use Rattle.exh_page.specs.Config.{file_settings}
use Rattle.exh_page.specs.declared.config.Config.{Config}
use Rattle.exh_world.specs.WorldListLemmas.{mapped_is, numbered_is, numbered_none}
use Rattle.exh_world.proofs.ToldTruly.{new_told}

replicate_there : {A : Type 0} (n : ℕ) (x : A) (at : ℕ) → at < n → slice_get (replicate n x) at ≡ Some x
replicate_there n x at within =
    slice_get-get_or (replicate n x) at x (subst (λ length. at < length) (sym (length-replicate n x)) within) ∙ ap Some (get_or-replicate n at x x within)

no_splits : (ward : List Bool) (pages : List _) → LeadsRight ward pages fin.empty
no_splits ward pages prefix right within split = let none : None ≡ Some right = sym (ap right_of (fin.get-empty prefix_cmp prefix)) ∙ split in cc

pub none_noticed : (n k count : ℕ) (before noticed : List ℕ) → n ≡ count → before ≡ [] → k ≡ 0 → noticed ≡ take n before ++ replicate (n - k) 0 → noticed ≡ replicate count 0
none_noticed n k count before noticed n_is none k_is is =
    is ∙ ap (λ ns. take n ns ++ replicate (n - k) 0) none ∙ ap (λ ns. ns ++ replicate (n - k) 0) (take-nil n) ∙ ap (λ m. replicate m 0) (let m : n - k ≡ count = omega (arith, n_is, k_is) in m)

module _ {K : Type 0} (config : Config K) where
  abbrev pub made_of : List (WardState K) → TableMap → List ℕ → List TableMap → List TableMap → Requests → WorldState K
  made_of wards start noticed copies sent in_flight = record {
    cap = config.cap;
    ward_bits = config.ward_bits;
    keyer = config.keyer;
    wards = wards;
    start = start;
    noticed = noticed;
    copies = copies;
    sent = sent;
    in_flight = in_flight;
  }

  pub made_is : (wards : List (WardState K)) (start : TableMap) (noticed : List ℕ) (copies sent : List TableMap) (in_flight : Requests)
      → wards ≡ (new_world config).wards → start ≡ fin.empty → noticed ≡ (new_world config).noticed → copies ≡ (new_world config).copies → sent ≡ [] → in_flight ≡ []
      → made_of wards start noticed copies sent in_flight ≡ new_world config
  made_is wards start noticed copies sent in_flight is_wards is_start is_noticed is_copies is_sent is_in_flight =
      let new = new_world config in
      ap (λ ws. made_of ws start noticed copies sent in_flight) is_wards
      ∙ ap (λ s. made_of new.wards s noticed copies sent in_flight) is_start
      ∙ ap (λ ns. made_of new.wards fin.empty ns copies sent in_flight) is_noticed
      ∙ ap (λ cs. made_of new.wards fin.empty new.noticed cs sent in_flight) is_copies
      ∙ ap (λ ss. made_of new.wards fin.empty new.noticed new.copies ss in_flight) is_sent
      ∙ ap (λ rs. made_of new.wards fin.empty new.noticed new.copies [] rs) is_in_flight

module _ {K : Type 0} (pseudokey_of : K → List ℕ → ℕ) where
  abbrev pub AreSoundWards : List (WardState K) → Type 0
  AreSoundWards wards = (number : ℕ) (ward : WardState K) → slice_get wards number ≡ Some ward → IsSoundWard pseudokey_of ward

  module _ (config : Config K) (words : (keyer : K) (key : List ℕ) → pseudokey_of keyer key < 2 ^ 64) (bits : config.ward_bits ≤ WARD_BITS_LIMIT) (sound : AreSoundWards (new_world config).wards) where
    new_is_ward : (number : ℕ) → number < 2 ^ config.ward_bits → IsSoundWard pseudokey_of (new_ward (file_settings config) number) → IsWardOf pseudokey_of (new_world config) number (new_ward (file_settings config) number)
    new_is_ward number within is = record {
      cap = refl;
      bits = refl;
      number_is = refl;
      keyer = refl;
      sound = is;
      before = 0;
      noticed = replicate_there (2 ^ config.ward_bits) 0 number within;
      first = omega arith;
      started = λ prefix front. since_nothing prefix;
      directory = λ prefix. (λ leaf. leaf, λ leaf. leaf);
    }

    pub new_sound : IsSoundWorld pseudokey_of (new_world config)
    new_sound = record {
      bits = omega (arith, bits);
      words = words config.keyer;
      count = length-map-range_with_len (new_ward (file_settings config)) 0 (2 ^ config.ward_bits);
      wards = λ number ward is.
          let here = mapped_is (new_ward (file_settings config)) (2 ^ config.ward_bits) number ward is in
          subst (IsWardOf pseudokey_of (new_world config) number) (sym here.1) (new_is_ward number here.0 (subst (IsSoundWard pseudokey_of) here.1 (sound number ward is)));
      start = λ number ward is. no_splits (ward_prefix config.ward_bits number) ward.pages;
      copies = λ copy table is. subst (LeadsRightIn (new_world config)) (sym (numbered_is config.copies fin.empty table copy is)) (λ number ward is. no_splits (ward_prefix config.ward_bits number) ward.pages);
      sent = λ number table is. absurd (numbered_none number table is);
      told = new_told config;
      requests = tt;
    }

    pub new_kept : IsKeptWorld pseudokey_of (new_world config)
    new_kept = record { sound = new_sound; few_wards = bits; few_sent = lit< tt }
