-- What becomes of the copies of a world's directory, and of the tables sent between them.
use Rattle.std.proofs.Common.{◌≡◌, ◌≢◌, ℕ, zero, suc, cond, ◌-◌, ◌^◌, ◌<◌, List, [], ◌∷◌, ◌++◌, length, Some, Result, Ok, Err, inl, inr, refl, sym, ap, ◌∙◌, subst, arith, IsErr, IsErrAnd}
use Rattle.std.specs.Prelude.{slice_get, slice_set, Contains, IsSome, is_some}
use Rattle.std.specs.Option.{option_map_or}
use Rattle.std.proofs.lemmas.Bool.{lt-ltb}
use Rattle.exh_prefix.specs.PrefixListLemmas.{within_there}
use Rattle.exh_notice.specs.declared.notice.Notice.{Notice}
use Rattle.exh_table.specs.Table.{TableMap, table_with}
use Rattle.exh_table.specs.TableOrder.{table_join}
use Rattle.exh_legal.specs.ChangeNumbers.{index_of}
use Rattle.exh_ward.specs.WardState.{WardState, IsSoundWard, notices_above}
use Rattle.exh_ward.specs.declared.ward_fault.WardFault.TheVariants.{Memory}
use Rattle.exh_world.specs.WorldKept.{IsKeptWorld, IsPlaceOf, HaveIndexesInTurn}
use Rattle.exh_world.specs.WorldLaws.{StepsKeepWorldsSound}
use Rattle.exh_world.specs.Sound.{IsSoundWorld}
use Rattle.exh_world.specs.Step.{Step, HasTaken, HasSent, HasJoined, HasRestarted}
use Rattle.exh_world.specs.World.{WorldState, numbered, issued_in}
use Rattle.exh_walk.specs.declared.event.Event.{Event}
use Rattle.exh_walk.specs.declared.outcome.Outcome.{Outcome}
use Rattle.exh_walk.specs.declared.step_fault.StepFault.{StepFault}
use Rattle.exh_walk.specs.declared.step_fault.StepFault.TheVariants.{Ward, NoNotice}
use Rattle.exh_walk.specs.declared.event.Event.TheVariants.{Deliver}

-- notices of a sound ward
pub indexes_in_turn : {K : Type 0} (pseudokey_of : K → List ℕ → ℕ) (ward : WardState K) → IsSoundWard pseudokey_of ward → HaveIndexesInTurn ward.notices
indexes_in_turn pseudokey_of ward sound = (suc (index_of ward.start), λ place notice is. let index = (sound.numbered place notice is).1 in omega (arith, index))

-- all have an index above 0
above_none : (notices : List Notice) → ((place : ℕ) (notice : Notice) → slice_get notices place ≡ Some notice → 0 < notice.index) → notices_above 0 notices ≡ notices
above_none [] some = refl
above_none (notice ∷ notices) some =
    ap (λ b. cond b (notice ∷ notices_above 0 notices) (notices_above 0 notices)) (lt-ltb 0 notice.index (some zero notice refl))
    ∙ ap (λ later. notice ∷ later) (above_none notices (λ place other is. some (suc place) other is))

pub all_above : {K : Type 0} (pseudokey_of : K → List ℕ → ℕ) (ward : WardState K) → IsSoundWard pseudokey_of ward → notices_above 0 ward.notices ≡ ward.notices
all_above pseudokey_of ward sound = above_none ward.notices (λ place notice is. omega (arith, (sound.numbered place notice is).1))

-- the notices issued by a ward
pub issued_by : {K : Type 0} (world : WorldState K) (number : ℕ) (ward : WardState K) → slice_get world.wards number ≡ Some ward → issued_in world number ≡ ward.notices
issued_by world number ward there = ap (λ found. option_map_or (λ (w : WardState _). w.notices) found []) there

-- what has a place is there
pub placed_there : (tables : List TableMap) (number at : ℕ) → IsPlaceOf tables number at → (own : TableMap) × (slice_get tables at ≡ Some own) × (numbered tables number ≡ Some own)
placed_there tables number at placed = let own = within_there tables at placed.1 in (own.0, own.1, placed.2 ∙ own.1)

pub is_there : (tables : List TableMap) (number at : ℕ) → IsPlaceOf tables number at → IsSome (numbered tables number)
is_there tables number at placed = ap is_some (placed_there tables number at placed).2

-- a world as it is shown, and a copy that it has
module _ {K : Type 0} {pseudokey_of : K → List ℕ → ℕ} {world now : WorldState K} (view_is : world ≡ now) (kept : IsKeptWorld pseudokey_of world) where
  -- a step that leaves the wards
  pub kept_after : StepsKeepWorldsSound pseudokey_of → (event : Event) (result : Result Outcome StepFault) (after : WorldState K) → Step pseudokey_of now event result after → after.wards ≡ world.wards → after.ward_bits ≡ world.ward_bits → length after.sent < 2 ^ 32 → IsKeptWorld pseudokey_of after
  kept_after law event result after step wards bits few = record {
    sound = law now event result after (subst (IsSoundWorld pseudokey_of) view_is kept.sound) step (λ number ward is. (kept.sound.wards number ward (ap (λ ws. slice_get ws number) (sym wards) ∙ is)).sound);
    few_wards = omega (arith, bits, kept.few_wards);
    few_sent = few;
  }

  -- a refusal for want of memory, after which the copy is as before
  pub refused_same : (event : Event) (result : Result Outcome StepFault) (after : WorldState K) → after ≡ world → IsErr result × IsErrAnd result (λ f. f ≡ Ward Memory) → Step pseudokey_of now event result after
  refused_same event (Ok outcome) after same is = absurd is.1
  refused_same event (Err fault) after same is = inl (same ∙ view_is, inr is.1)

  abbrev pub with_copy : ℕ → TableMap → WorldState K
  with_copy at table = record world { copies = slice_set world.copies at table }

  module _ (copy at : ℕ) (placed : IsPlaceOf world.copies copy at) (own : TableMap) (own_at : slice_get world.copies at ≡ Some own) where
    own_there : numbered world.copies copy ≡ Some own
    own_there = placed.2 ∙ own_at

    at_copy : (table : TableMap) → with_copy at table ≡ record world { copies = slice_set world.copies (copy - 1) table }
    at_copy table = ap (λ n. record world { copies = slice_set world.copies n table }) placed.0

    pub has_restarted : HasRestarted now copy (with_copy at world.start)
    has_restarted = subst (λ old. HasRestarted old copy (with_copy at world.start)) view_is record { own = own; there = own_there; after = at_copy world.start }

    pub has_joined : (table : ℕ) (other joined : TableMap) → numbered world.sent table ≡ Some other → joined ≡ table_join own other → HasJoined now copy table (with_copy at joined)
    has_joined table other joined sent is = subst (λ old. HasJoined old copy table (with_copy at joined)) view_is record { own = own; there = own_there; other = other; sent = sent; after = at_copy joined ∙ ap (λ t. record world { copies = slice_set world.copies (copy - 1) t }) is }

    pub has_taken : (ward index : ℕ) (teller : WardState K) → slice_get world.wards ward ≡ Some teller → (notices : List Notice) → notices ≡ teller.notices
        → (notice : Notice) (table : TableMap) → Contains notices notice → notice.index ≡ index → table ≡ table_with own notice → HasTaken now copy ward index notice (with_copy at table)
    has_taken ward index teller there notices notices_are notice table contains index_is is =
        let issued = subst (λ list. Contains list notice) (notices_are ∙ sym (issued_by world ward teller there)) contains in
        subst (λ old. HasTaken old copy ward index notice (with_copy at table)) view_is record { table = own; there = own_there; issued = issued; index_is = index_is; after = at_copy table ∙ ap (λ t. record world { copies = slice_set world.copies (copy - 1) t }) is }

    pub has_sent : (number : ℕ) (table : TableMap) (sent : List TableMap) → number ≡ suc (length world.sent) → table ≡ own → sent ≡ world.sent ++ table ∷ [] → HasSent now copy number (record world { sent = sent })
    has_sent number table sent number_is is sent_is = subst (λ old. HasSent old copy number (record world { sent = sent })) view_is record { table = own; there = own_there; number_is = number_is; after = ap (λ s. record world { sent = s }) (sent_is ∙ ap (λ t. world.sent ++ t ∷ []) is) }

    -- the ward issued no notice of the index
    pub no_notice : (ward index : ℕ) (teller : WardState K) → slice_get world.wards ward ≡ Some teller → (notices : List Notice) → notices ≡ teller.notices
        → ((notice : Notice) → Contains notices notice → notice.index ≢ index) → Step pseudokey_of now (Deliver copy ward index) (Err NoNotice) now
    no_notice ward index teller there notices is none =
        let issued : issued_in world ward ≡ notices = issued_by world ward teller there ∙ sym is in inl (
          refl,
          inl (subst (λ old. IsSome (numbered old.copies copy) × IsSome (slice_get old.wards ward) × ((notice : Notice) → Contains (issued_in old ward) notice → notice.index ≢ index)) view_is (
            ap is_some own_there,
            ap is_some there,
            λ notice contains. none notice (subst (λ list. Contains list notice) issued contains),
          )),
        )
