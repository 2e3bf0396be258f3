-- A world stays sound, and keeps its map, where one of its wards counts more failures.
use Rattle.std.proofs.Common.{◌≡◌, ℕ, zero, suc, List, [], ◌∷◌, ◌++◌, slice_get, Some, refl, ap, arith}
use Rattle.std.specs.Prelude.{slice_set, flat_map}
use Rattle.exh_page.specs.declared.page.Page.{Page}
use Rattle.exh_legal.specs.Pages.{map_of}
use Rattle.exh_ward.specs.WardState.{WardState, IsSoundWard}
use Rattle.exh_world.specs.RequestLemmas.{all_weaker}
use Rattle.exh_world.specs.Sound.{IsWardOf, IsSoundWorld}
use Rattle.exh_world.specs.World.{WorldState, map_in}
use Rattle.exh_world.proofs.SoundKept.{KeepsWays, after, way_kept, sound_after}
use Rattle.exh_world.proofs.ToldTruly.{counted_told}

module _ {K : Type 0} (pseudokey_of : K → List ℕ → ℕ) where
  pub counted_ward : (ward : WardState K) (failures : ℕ) → IsSoundWard pseudokey_of ward → IsSoundWard pseudokey_of (record ward { failures = failures })
  counted_ward ward failures is = record {
    legal = is.legal;
    since = is.since;
    numbered = is.numbered;
    counted = is.counted;
    notices = is.notices;
    history = is.history;
    left = is.left;
  }

module _ {K : Type 0} (pseudokey_of : K → List ℕ → ℕ) (old : WorldState K) (sound : IsSoundWorld pseudokey_of old) (at : ℕ) (before : WardState K) (found : slice_get old.wards at ≡ Some before) (failures : ℕ) where
  abbrev left : WardState K
  left = record before { failures = failures }

  ways : KeepsWays before left
  ways = record {
    places = λ number page is. (page, is, refl);
    more = 0;
    adds = λ from pseudokey distance is. (distance, is, omega arith);
    grown = omega arith;
  }

  abbrev new : WorldState K
  new = after pseudokey_of old sound at before left found ways old.in_flight

  left_is : IsWardOf pseudokey_of new at left
  left_is = let own = sound.wards at before found in record {
    cap = own.cap;
    bits = own.bits;
    number_is = own.number_is;
    keyer = own.keyer;
    sound = counted_ward pseudokey_of before failures own.sound;
    before = own.before;
    noticed = own.noticed;
    first = own.first;
    started = own.started;
    directory = own.directory;
  }

  pub counted_sound : IsSoundWorld pseudokey_of (record old { wards = slice_set old.wards at left })
  counted_sound = sound_after pseudokey_of old sound at before left found ways old.in_flight left_is
      (all_weaker _ _ (way_kept pseudokey_of old sound at before left found ways old.in_flight) old.in_flight sound.requests)
      (counted_told pseudokey_of old sound at before failures found)

-- the pages are as before
same_pages : {K : Type 0} (wards : List (WardState K)) (at : ℕ) (before : WardState K) (failures : ℕ) → slice_get wards at ≡ Some before
    → flat_map (λ (ward : WardState K). ward.pages) (slice_set wards at (record before { failures = failures })) ≡ flat_map (λ (ward : WardState K). ward.pages) wards
same_pages [] at before failures found = cc
same_pages (ward ∷ wards) zero before failures found =
    let same : before ≡ ward = cc in
    ap (λ (w : WardState _). w.pages ++ flat_map (λ (ward : WardState _). ward.pages) wards) same
same_pages (ward ∷ wards) (suc at) before failures found = ap (λ (pages : List Page). ward.pages ++ pages) (same_pages wards at before failures found)

pub counted_map : {K : Type 0} (old : WorldState K) (at : ℕ) (before : WardState K) (failures : ℕ) → slice_get old.wards at ≡ Some before
    → map_in (record old { wards = slice_set old.wards at (record before { failures = failures }) }) ≡ map_in old
counted_map old at before failures found = ap map_of (same_pages old.wards at before failures found)
