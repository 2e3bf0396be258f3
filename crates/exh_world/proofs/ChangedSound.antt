-- A world stays sound where a ward splits or merges.
use Rattle.std.proofs.Common.{◌≡◌, ℕ, Bool, List, [], ◌∷◌, ◌++◌, length, drop, take, slice_get, Some, Ok, refl, sym, ap, ◌∙◌, subst, arith}
use Rattle.std.specs.Prelude.{◌↔◌}
use Rattle.std.proofs.Math.Seq.{take-append-le}
use Rattle.std.proofs.lemmas.List.{length_push}
use Rattle.exh_prefix.specs.PrefixListLemmas.{drop_push}
use Rattle.exh_notice.specs.declared.notice.Notice.{Notice}
use Rattle.exh_table.specs.Leaves.{ward_leaves, leaves_in}
use Rattle.exh_legal.specs.LegalLaws.{KeepsPlaces}
use Rattle.exh_prefix.specs.Leading.{ward_prefix}
use Rattle.exh_ward.specs.WardState.{WardState, IsSoundWard}
use Rattle.exh_table.specs.Table.{TableMap, table_with}
use Rattle.exh_ward.specs.MergeStep.{IsMergeStep}
use Rattle.exh_ward.specs.SplitStep.{IsSplitStep}
use Rattle.exh_walk.specs.DistanceLaws.{IsTableWithin, StepsAddChanges}
use Rattle.exh_walk.specs.WardRun.{WardEvent, SplitAt, MergeAt, WardStep, changes_by}
use Rattle.exh_world.specs.Sound.{IsWardOf, IsSoundWorld}
use Rattle.exh_world.specs.World.{WorldState}
use Rattle.exh_world.specs.RequestLemmas.{all_weaker}
use Rattle.exh_world.proofs.SoundKept.{IsSoundAsTold, KeepsWays, alike_push, after, way_kept, sound_after}

module _ {K : Type 0} (pseudokey_of : K → List ℕ → ℕ) (old : WorldState K) (sound : IsSoundWorld pseudokey_of old) (at : ℕ) (before left : WardState K) (found : slice_get old.wards at ≡ Some before) where
  abbrev pub own : List Bool
  own = ward_prefix old.ward_bits at

  is_own : IsWardOf pseudokey_of old at before
  is_own = sound.wards at before found

  module _ (notice : Notice) (others : left ≡ record before { pages = left.pages; notices = before.notices ++ notice ∷ []; table = table_with before.table notice }) (ways : KeepsWays before left) (left_sound : IsSoundWard pseudokey_of left) where
    abbrev new : WorldState K
    new = after pseudokey_of old sound at before left found ways old.in_flight

    notices_are : left.notices ≡ before.notices ++ notice ∷ []
    notices_are = ap (λ (w : WardState K). w.notices) others

    left_is : IsWardOf pseudokey_of new at left
    left_is = record {
      cap = ap (λ (w : WardState K). w.cap) others ∙ is_own.cap;
      bits = ap (λ (w : WardState K). w.ward_bits) others ∙ is_own.bits;
      number_is = ap (λ (w : WardState K). w.number) others ∙ is_own.number_is;
      keyer = ap (λ (w : WardState K). w.keyer) others ∙ is_own.keyer;
      sound = left_sound;
      before = is_own.before;
      noticed = is_own.noticed;
      first = omega (arith, is_own.first, ap length notices_are, length_push before.notices notice);
      started =
          let had : take is_own.before left.notices ≡ take is_own.before before.notices = ap (take is_own.before) notices_are ∙ take-append-le is_own.before before.notices (notice ∷ []) is_own.first in
          let P : TableMap → List Notice → Type 0 = λ start ns. IsTableWithin own start ns old.start in
          subst (λ start. P start (take is_own.before left.notices)) (sym (ap (λ (w : WardState K). w.start) others)) (subst (P before.start) (sym had) is_own.started);
      directory = λ prefix.
          let more = alike_push (leaves_in old.start own) (leaves_in before.start own) (drop is_own.before before.notices) before.notices notice is_own.directory prefix in
          let dropped : drop is_own.before left.notices ≡ drop is_own.before before.notices ++ notice ∷ [] = ap (drop is_own.before) notices_are ∙ drop_push is_own.before before.notices notice is_own.first in
          let start_is : before.start ≡ left.start = sym (ap (λ (w : WardState K). w.start) others) in
          subst (λ ns. ward_leaves old.start own (drop is_own.before left.notices) prefix ↔ ward_leaves left.start own ns prefix) (sym notices_are)
          (subst (λ start. ward_leaves old.start own (drop is_own.before left.notices) prefix ↔ ward_leaves start own (before.notices ++ notice ∷ []) prefix) start_is
          (subst (λ changes. ward_leaves old.start own changes prefix ↔ ward_leaves before.start own (before.notices ++ notice ∷ []) prefix) (sym dropped) more));
    }

    pub changed_sound : IsSoundAsTold pseudokey_of new
    changed_sound = sound_after pseudokey_of old sound at before left found ways old.in_flight left_is
        (all_weaker _ _ (way_kept pseudokey_of old sound at before left found ways old.in_flight) old.in_flight sound.requests)

-- ---- a split, a merge

module _ {K : Type 0} (pseudokey_of : K → List ℕ → ℕ) (old : WorldState K) (sound : IsSoundWorld pseudokey_of old) (at : ℕ) (before left : WardState K) (found : slice_get old.wards at ≡ Some before) (left_sound : IsSoundWard pseudokey_of left) (steps : StepsAddChanges pseudokey_of) (page : ℕ) (notice : Notice) where
  ways_of : (others : left ≡ record before { pages = left.pages; notices = before.notices ++ notice ∷ []; table = table_with before.table notice }) (places : KeepsPlaces before.pages left.pages)
      (event : WardEvent) → length (changes_by event) ≡ 1 → WardStep pseudokey_of before event left → KeepsWays before left
  ways_of others places event one step = record {
    places = places;
    more = 1;
    adds = λ from pseudokey distance is.
        let farther = steps before left event from pseudokey distance (sound.wards at before found).sound.legal.legal.legal.linked step is in
        (farther.0, farther.1, omega (arith, farther.2, one));
    grown = let same = ap (λ (w : WardState K). length w.notices) others in omega (arith, same, length_push before.notices notice);
  }

  pub split_ways : IsSplitStep before page notice left → KeepsWays before left
  split_ways has = ways_of has.others has.places (SplitAt page (Ok notice)) refl has

  pub merge_ways : IsMergeStep before page notice left → KeepsWays before left
  merge_ways has = ways_of has.others has.places (MergeAt page (Ok notice)) refl has

  pub split_sound : (has : IsSplitStep before page notice left) → IsSoundAsTold pseudokey_of (after pseudokey_of old sound at before left found (split_ways has) old.in_flight)
  split_sound has = changed_sound pseudokey_of old sound at before left found notice has.others (split_ways has) left_sound

  pub merge_sound : (has : IsMergeStep before page notice left) → IsSoundAsTold pseudokey_of (after pseudokey_of old sound at before left found (merge_ways has) old.in_flight)
  merge_sound has = changed_sound pseudokey_of old sound at before left found notice has.others (merge_ways has) left_sound
