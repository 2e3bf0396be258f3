-- A world stays sound where one of its wards changes and every page keeps its number and low bound.
use Rattle.std.proofs.Common.{◌≡◌, ℕ, ◌+◌, ◌-◌, Bool, true, List, [], ◌∷◌, ◌++◌, length, drop, slice_get, Option, Some, inl, inr, sym, ap, ◌∙◌, subst, arith}
use Rattle.std.specs.Prelude.{slice_set, ◌↔◌}
use Rattle.std.proofs.lemmas.Bool.{cases_eq}
use Rattle.std.proofs.lemmas.List.{length-set, length-drop}
use Rattle.std.specs.Option.{option_map_or}
use Rattle.exh_prefix.specs.Prefix.{low_of}
use Rattle.exh_prefix.specs.PrefixListLemmas.{set_here, set_else, set_is, one_there}
use Rattle.exh_notice.specs.declared.entry.Kind.{Kind}
use Rattle.exh_notice.specs.declared.entry.Kind.TheVariants.{Split, Merge}
use Rattle.exh_notice.specs.declared.notice.Notice.{Notice}
use Rattle.exh_table.specs.Leaves.{PrefixSet, after_kind, leaves_after}
use Rattle.exh_table.specs.Table.{TableMap}
use Rattle.exh_table.specs.ChangeLemmas.{leaves_push_to, leaves_push_from}
use Rattle.exh_page.specs.declared.page.Page.{Page}
use Rattle.exh_legal.specs.LegalLaws.{KeepsPlaces, IsBelow}
use Rattle.exh_prefix.specs.Leading.{ward_prefix}
use Rattle.exh_legal.specs.LegalPlaceLemmas.{page_kept, below_kept}
use Rattle.exh_ward.specs.WardState.{WardState}
use Rattle.exh_ward.specs.Distance.{IsDistance}
use Rattle.exh_walk.specs.DistanceLaws.{IsDistanceUpTo}
use Rattle.exh_world.specs.InFlight.{Requests}
use Rattle.exh_world.specs.Sound.{LeadsRight, IsWardOf, LeadsRightIn, IsOnTheWay, IsSoundWorld}
use Rattle.exh_world.specs.Tables.{IsToldTruly}
use Rattle.exh_world.specs.World.{WorldState, changes_in}
use Rattle.exh_world.specs.declared.request.Request.{Request}
use Rattle.exh_world.specs.RequestLemmas.{AllRequests}

-- ---- pages that keep their places

module _ (pages new : List Page) (places : KeepsPlaces pages new) where
  pub leads_kept : (ward : List Bool) (table : TableMap) → LeadsRight ward pages table → LeadsRight ward new table
  leads_kept ward table leads prefix right front split = page_kept pages new places (low_of (prefix ++ true ∷ [])) right (leads prefix right front split)

-- ---- leaves after one change more

alike_after : (one other : PrefixSet) → ((prefix : List Bool) → one prefix → other prefix) → (at : List Bool) (kind : Kind) (prefix : List Bool) → after_kind one at kind prefix → after_kind other at kind prefix
alike_after one other weaker at (Split right) prefix (inl kept) = inl (weaker prefix kept.0, kept.1)
alike_after one other weaker at (Split right) prefix (inr child) = inr child
alike_after one other weaker at Merge prefix (inl kept) = inl (weaker prefix kept.0, kept.1)
alike_after one other weaker at Merge prefix (inr parent) = inr parent

-- two sets of leaves that are alike stay so
pub alike_push : (one other : PrefixSet) (fore aft : List Notice) (change : Notice) → ((prefix : List Bool) → leaves_after one fore prefix ↔ leaves_after other aft prefix)
    → (prefix : List Bool) → leaves_after one (fore ++ change ∷ []) prefix ↔ leaves_after other (aft ++ change ∷ []) prefix
alike_push one other fore aft change alike prefix = (
  λ is. leaves_push_from other aft change prefix (alike_after _ _ (λ p. (alike p).0) change.prefix change.kind prefix (leaves_push_to one fore change prefix is)),
  λ is. leaves_push_from one fore change prefix (alike_after _ _ (λ p. (alike p).1) change.prefix change.kind prefix (leaves_push_to other aft change prefix is)),
)

-- a ward of a world is one whatever else the world holds
pub same_ward : {K : Type 0} (pseudokey_of : K → List ℕ → ℕ) (old : WorldState K) (wards : List (WardState K)) (copies sent : List TableMap) (requests : Requests) (number : ℕ) (ward : WardState K)
    → IsWardOf pseudokey_of old number ward → IsWardOf pseudokey_of (record old { wards = wards; copies = copies; sent = sent; in_flight = requests }) number ward
same_ward pseudokey_of old wards copies sent requests number ward is = record {
  cap = is.cap;
  bits = is.bits;
  number_is = is.number_is;
  keyer = is.keyer;
  sound = is.sound;
  before = is.before;
  noticed = is.noticed;
  first = is.first;
  started = is.started;
  directory = is.directory;
}

-- ---- how many changes a ward has had

pub count_of : {K : Type 0} (world : WorldState K) (number noticed : ℕ) (ward : WardState K) → slice_get world.wards number ≡ Some ward → slice_get world.noticed number ≡ Some noticed
    → length (changes_in world number) ≡ length ward.notices - noticed
count_of {K} world number noticed ward there had =
    let issued : option_map_or (λ (w : WardState K). w.notices) (slice_get world.wards number) [] ≡ ward.notices = ap (λ (found : Option (WardState K)). option_map_or (λ (w : WardState K). w.notices) found []) there in
    ap length (ap (λ (found : Option ℕ). option_map_or (λ n. drop n (option_map_or (λ (w : WardState K). w.notices) (slice_get world.wards number) [])) found []) had ∙ ap (drop noticed) issued)
    ∙ length-drop noticed ward.notices

-- what a step leaves of a ward: each page has its number and low bound, and each distance grew by so many at most as the ward has changes more
pub record KeepsWays {K : Type 0} (before left : WardState K) : Type 0 where
  pub places : KeepsPlaces before.pages left.pages
  pub more : ℕ
  pub adds : (from pseudokey distance : ℕ) → IsDistance before.pages from pseudokey distance → IsDistanceUpTo left.pages from pseudokey (distance + more)
  pub grown : length left.notices ≡ length before.notices + more

-- the world is sound where it is told truly
abbrev pub IsSoundAsTold : {K : Type 0} → (K → List ℕ → ℕ) → WorldState K → Type 0
IsSoundAsTold pseudokey_of world = IsToldTruly world → IsSoundWorld pseudokey_of world

-- ---- one ward changed

module _ {K : Type 0} (pseudokey_of : K → List ℕ → ℕ) (old : WorldState K) (sound : IsSoundWorld pseudokey_of old) (at : ℕ) (before left : WardState K) (found : slice_get old.wards at ≡ Some before) (ways : KeepsWays before left) (requests : Requests) where
  abbrev pub after : WorldState K
  after = record old { wards = slice_set old.wards at left; in_flight = requests }

  other_ward : (number : ℕ) (ward : WardState K) → IsWardOf pseudokey_of old number ward → IsWardOf pseudokey_of after number ward
  other_ward number ward is = same_ward pseudokey_of old (slice_set old.wards at left) old.copies old.sent requests number ward is

  leads_after : (table : TableMap) → LeadsRightIn old table → LeadsRightIn after table
  leads_after table leads number ward is = elim (set_is old.wards at number before left ward found is) [
    | inl here ↦
        let kept = leads_kept before.pages left.pages ways.places (ward_prefix old.ward_bits at) table (leads at before found) in
        let P : ℕ → WardState K → Type 0 = λ n w. LeadsRight (ward_prefix old.ward_bits n) w.pages table in
        subst (λ n. P n ward) (sym here.0) (subst (λ w. P at w) (sym here.1) kept)
    | inr else ↦ leads number ward else.1
  ]

  -- the ward has so many changes more
  more_changes : length (changes_in after at) ≡ length (changes_in old at) + ways.more
  more_changes =
      let own = sound.wards at before found in
      let now = count_of after at own.before left (set_here old.wards at before left found) own.noticed in
      let was = count_of old at own.before before found own.noticed in
      omega (arith, now, was, ways.grown, own.first)

  -- the others as many
  same_changes : (number : ℕ) → (number ≡ at → ⊥) → changes_in after number ≡ changes_in old number
  same_changes number else =
      let issued : Option (WardState K) → List Notice = λ found. option_map_or (λ (w : WardState K). w.notices) found [] in
      ap (λ (there : Option (WardState K)). option_map_or (λ n. drop n (issued there)) (slice_get old.noticed number) []) (set_else old.wards at number left else)

  -- a request that was on its way still is
  pub way_kept : (request : Request) → IsOnTheWay pseudokey_of old request → IsOnTheWay pseudokey_of after request
  way_kept request is = elim (cases_eq request.ward at) [
    | inl here ↦
        let was : is.ward ≡ before = one_there old.wards at is.ward before (subst (λ n. slice_get old.wards n ≡ Some is.ward) here is.there) found in
        let farther = ways.adds request.page request.pseudokey is.left (subst (λ (w : WardState K). IsDistance w.pages request.page request.pseudokey is.left) was is.is_left) in
        let counted : length (changes_in after request.ward) ≡ length (changes_in old request.ward) + ways.more = subst (λ n. length (changes_in after n) ≡ length (changes_in old n) + ways.more) (sym here) more_changes in
        record {
          pseudokey_is = is.pseudokey_is;
          ward = left;
          there = subst (λ n. slice_get (slice_set old.wards at left) n ≡ Some left) (sym here) (set_here old.wards at before left found);
          begins = is.begins;
          below = below_kept before.pages left.pages ways.places request.page request.pseudokey (subst (λ (w : WardState K). IsBelow w.pages request.page request.pseudokey) was is.below);
          since = omega (arith, is.since, counted);
          left = farther.0;
          is_left = farther.1;
          few = omega (arith, is.few, is.since, farther.2, counted);
        }
    | inr else ↦
        let same = ap length (same_changes request.ward else) in
        record {
          pseudokey_is = is.pseudokey_is;
          ward = is.ward;
          there = set_else old.wards at request.ward left else ∙ is.there;
          begins = is.begins;
          below = is.below;
          since = omega (arith, is.since, same);
          left = is.left;
          is_left = is.is_left;
          few = omega (arith, is.few, same);
        }
  ]

  pub sound_after : IsWardOf pseudokey_of after at left → AllRequests (IsOnTheWay pseudokey_of after) requests → IsSoundAsTold pseudokey_of after
  sound_after left_is on_the_way told = record {
    bits = sound.bits;
    words = sound.words;
    count = length-set old.wards at left ∙ sound.count;
    wards = λ number ward is. elim (set_is old.wards at number before left ward found is) [
      | inl here ↦ subst (λ n. IsWardOf pseudokey_of after n ward) (sym here.0) (subst (λ w. IsWardOf pseudokey_of after at w) (sym here.1) left_is)
      | inr else ↦ other_ward number ward (sound.wards number ward else.1)
    ];
    start = leads_after old.start sound.start;
    copies = λ copy table is. leads_after table (sound.copies copy table is);
    sent = λ number table is. leads_after table (sound.sent number table is);
    told = told;
    requests = on_the_way;
  }
