-- The world of given wards is sound.
use Rattle.std.proofs.Common.{◌≡◌, ℕ, zero, suc, ◌↔◌, ◌+◌, ◌^◌, ◌<◌, ◌≤◌, inl, inr, Bool, List, [], ◌∷◌, ◌++◌, length, map, take, replicate, get_or, slice_get, Option, Some, None, refl, sym, ap, ◌∙◌, subst, arith, lit<}
use Rattle.std.specs.FinMap as fin
use Rattle.std.specs.FinMap.{entries}
use Rattle.std.specs.List.{fold}
use Rattle.std.specs.Option.{option_map_or}
use Rattle.std.proofs.lemmas.List.{drop_all, take_all, take_more, map-append}
use Rattle.std.proofs.lemmas.List.Sums.{fold_push}
use Rattle.std.proofs.lemmas.Option.{slice_get_within}
use Rattle.exh_prefix.specs.Prefix.{IsFront, prefix_cmp, low_of}
use Rattle.exh_prefix.specs.PrefixLemmas.{front_of_front}
use Rattle.exh_notice.specs.declared.notice.Notice.{Notice}
use Rattle.exh_table.specs.declared.leaf.Leaf.{Leaf}
use Rattle.exh_table.specs.Leaves.{ward_leaves}
use Rattle.exh_table.specs.Table.{TableMap, IsEntryOf, told_by}
use Rattle.exh_table.specs.TableLemmas.{joined, get-table_join}
use Rattle.exh_table.specs.TableOrder.{table_join}
use Rattle.exh_table.specs.TableWalk.{right_of, split_at, step, walk_on, walk_in}
use Rattle.exh_table.specs.SetLemmas.{joined_none}
use Rattle.exh_page.specs.Page.{low_bound}
use Rattle.exh_legal.specs.BareLemmas.{at_bare, bare_low}
use Rattle.exh_legal.specs.LegalLaws.{IsWard, WalksNameHomes}
use Rattle.exh_prefix.specs.LowLemmas.{own_front, front_shorter, front_of_longer, low_of-small, begins_own_low}
use Rattle.exh_prefix.specs.PrefixListLemmas.{push_is}
use Rattle.exh_prefix.specs.Leading.{ward_prefix}
use Rattle.exh_prefix.specs.LeadingLemmas.{one_front}
use Rattle.exh_ward.specs.WardState.{WardState, IsSoundWard, notices_above}
use Rattle.exh_prefix.specs.declared.prefix.TheConstants.{WARD_BITS_LIMIT}
use Rattle.exh_page.specs.declared.config.Config.{Config}
use Rattle.exh_world.specs.InFlight.{Requests}
use Rattle.exh_world.specs.WorldKept.{IsKeptWorld}
use Rattle.exh_world.specs.WorldListLemmas.{map_from, map_there, numbered_is, numbered_none}
use Rattle.exh_world.specs.NewWorld.{IsWardFor, AreWardsFor, tables_joined, world_of_wards}
use Rattle.exh_world.specs.Sound.{LeadsRight, LeadsRightIn, IsWardOf}
use Rattle.exh_world.proofs.CopySteps.{all_above}
use Rattle.exh_world.proofs.FreshWorld.{AreSoundWards, made_of}
use Rattle.exh_world.proofs.GivenWards.{given_told}

-- ---- tables joined one after another

-- tables with no entry at a prefix leave what the first has there
none_more : (tables : List TableMap) (first : TableMap) (prefix : List Bool) → ((at : ℕ) (table : TableMap) → slice_get tables at ≡ Some table → fin.get table prefix ≡ None)
    → fin.get (fold table_join first tables) prefix ≡ fin.get first prefix
none_more [] first prefix none = refl
none_more (table ∷ tables) first prefix none =
    none_more tables (table_join first table) prefix (λ at other is. none (suc at) other is)
    ∙ get-table_join first table prefix
    ∙ ap (joined (fin.get first prefix)) (none zero table refl)

-- where one table alone has an entry, the join has it
one_alone : (tables : List TableMap) (first : TableMap) (prefix : List Bool) (at : ℕ) (own : TableMap) → slice_get tables at ≡ Some own → fin.get first prefix ≡ None
    → ((other : ℕ) (table : TableMap) → (other ≡ at → ⊥) → slice_get tables other ≡ Some table → fin.get table prefix ≡ None)
    → fin.get (fold table_join first tables) prefix ≡ fin.get own prefix
one_alone [] first prefix at own is absent none = cc
one_alone (table ∷ tables) first prefix zero own is absent none =
    let same : table ≡ own = cc in
    none_more tables (table_join first table) prefix (λ at other there. none (suc at) other (λ level. omega (arith, level)) there)
    ∙ get-table_join first table prefix
    ∙ ap (λ e. joined e (fin.get table prefix)) absent
    ∙ joined_none (fin.get table prefix)
    ∙ ap (λ t. fin.get t prefix) same
one_alone (table ∷ tables) first prefix (suc at) own is absent none =
    let here = get-table_join first table prefix ∙ ap (λ e. joined e (fin.get table prefix)) absent ∙ joined_none (fin.get table prefix) ∙ none zero table (λ level. omega (arith, level)) refl in
    one_alone tables (table_join first table) prefix at own is here (λ other more differ there. none (suc other) more (λ level. differ (omega (arith, level))) there)

-- ---- walks of two tables

-- tables that have the same splits in a ward lead its walks alike
walks_agree : (one other : List Bool → Option ℕ) (ward bits : List Bool) (at : Leaf) → ((prefix : List Bool) → IsFront ward prefix → one prefix ≡ other prefix) → IsFront ward at.prefix
    → walk_on one bits at ≡ walk_on other bits at
walks_agree one other ward [] at same front = refl
walks_agree one other ward (bit ∷ bits) at same front =
    ap (λ split. option_map_or (λ right. walk_on one bits (step at bit right)) split at) (same at.prefix front)
    ∙ elim (other at.prefix) as (λ split. option_map_or (λ right. walk_on one bits (step at bit right)) split at ≡ option_map_or (λ right. walk_on other bits (step at bit right)) split at) [
      | None ↦ refl
      | Some right ↦ walks_agree one other ward bits (step at bit right) same (front_of_longer ward at.prefix (bit ∷ []) front)
    ]

-- ---- the world

module _ {K : Type 0} (pseudokey_of : K → List ℕ → ℕ) (config : Config K) (wards : List (WardState K))
    (words : (keyer : K) (key : List ℕ) → pseudokey_of keyer key < 2 ^ 64) (bits : config.ward_bits ≤ WARD_BITS_LIMIT) (count : length wards ≡ 2 ^ config.ward_bits)
    (each : AreWardsFor config wards) (sound : AreSoundWards pseudokey_of wards) (homes : WalksNameHomes) where
  abbrev prefix_of : ℕ → List Bool
  prefix_of number = ward_prefix config.ward_bits number

  fits : (number : ℕ) (ward : WardState K) → slice_get wards number ≡ Some ward → number < 2 ^ config.ward_bits
  fits number ward is = subst (λ n. number < n) count (slice_get_within wards number ward is)

  module _ (number : ℕ) (ward : WardState K) (is : slice_get wards number ≡ Some ward) where
    own : IsWardFor config number ward
    own = each number ward is

    legal : IsWard ward.cap (pseudokey_of ward.keyer) (prefix_of number) ward.start ward.notices ward.table ward.pages
    legal = subst (λ prefix. IsWard ward.cap (pseudokey_of ward.keyer) prefix ward.start ward.notices ward.table ward.pages) (λ i. ward_prefix (own.bits i) (own.number_is i)) (sound number ward is).legal

    -- the ward's table has entries in the ward alone
    none_outside : (prefix : List Bool) → (IsFront (prefix_of number) prefix → ⊥) → fin.get ward.table prefix ≡ None
    none_outside prefix outside = elim (fin.get ward.table prefix) as (λ found. fin.get ward.table prefix ≡ found → found ≡ None) [
      | None ↦ λ there. refl
      | Some entry ↦ λ there. absurd (outside (legal.fits.entries prefix entry there).within)
    ] refl

  module _ (number : ℕ) (ward : WardState K) (is : slice_get wards number ≡ Some ward) where
    abbrev start : TableMap
    start = tables_joined wards

    not_others : (prefix : List Bool) → IsFront (prefix_of number) prefix → (other : ℕ) (table : TableMap) → (other ≡ number → ⊥) → slice_get (map (λ (w : WardState K). w.table) wards) other ≡ Some table → fin.get table prefix ≡ None
    not_others prefix front other table differ there =
        let of = map_from (λ (w : WardState K). w.table) wards other table there in
        ap (λ t. fin.get t prefix) of.2
        ∙ none_outside other of.0 of.1 prefix (λ front_too. differ (one_front config.ward_bits other number prefix (fits other of.0 of.1) (fits number ward is) front_too front))

    -- in the ward the start table is the ward's own
    own_entry : (prefix : List Bool) → IsFront (prefix_of number) prefix → fin.get start prefix ≡ fin.get ward.table prefix
    own_entry prefix front =
        one_alone (map (λ (w : WardState K). w.table) wards) fin.empty prefix number ward.table (map_there (λ (w : WardState K). w.table) wards number ward is) (fin.get-empty prefix_cmp prefix) (not_others prefix front)

    own_splits : (prefix : List Bool) → IsFront (prefix_of number) prefix → split_at start prefix ≡ split_at ward.table prefix
    own_splits prefix front = ap right_of (own_entry prefix front)

    pub leads_right : LeadsRight (prefix_of number) ward.pages start
    leads_right prefix right front split =
        let page = (legal number ward is).fits.rights prefix right (sym (own_splits prefix front) ∙ split) in
        let full = at_bare ward.pages right page.0 page.1 in
        (full.0, full.1, sym (bare_low full.0) ∙ sym (ap low_bound full.2) ∙ page.2)

    same_walk : (pseudokey : ℕ) → walk_in start (prefix_of number) pseudokey ≡ walk_in ward.table (prefix_of number) pseudokey
    same_walk pseudokey = walks_agree (split_at start) (split_at ward.table) (prefix_of number) _ (record { prefix = prefix_of number; page = 0 }) own_splits (own_front (prefix_of number))

    abbrev named : List Bool → Type 0
    named = ward_leaves ward.start (prefix_of number) ward.notices

    leaf_is_named : (prefix : List Bool) → ward_leaves start (prefix_of number) [] prefix → named prefix
    leaf_is_named prefix leaf =
        let home = homes ward.cap (pseudokey_of ward.keyer) (prefix_of number) ward.start ward.notices ward.table ward.pages leaf.1.0 (legal number ward is) leaf.1.1 leaf.1.2 in
        subst named (ap (λ (l : Leaf). l.prefix) (sym home.walk ∙ sym (same_walk leaf.1.0) ∙ leaf.1.3)) home.name.leaf

    named_is_leaf : (prefix : List Bool) → named prefix → ward_leaves start (prefix_of number) [] prefix
    named_is_leaf prefix is_named =
        let own_legal = legal number ward is in
        let live = (own_legal.legal.grown.leaves prefix).0 is_named in
        let within = own_legal.legal.legal.linked.within live.0 _ live.1.2 in
        let pseudokey = low_of prefix in
        let small = low_of-small prefix within.1 in
        let begins = begins_own_low prefix within.1 in
        let ward_begins = front_of_front (prefix_of number) prefix _ (front_shorter (prefix_of number) prefix within.0) within.0 begins in
        let home = homes ward.cap (pseudokey_of ward.keyer) (prefix_of number) ward.start ward.notices ward.table ward.pages pseudokey own_legal small ward_begins in
        let same : prefix ≡ home.leaf.prefix = home.name.only prefix is_named begins in
        (home.leaf.page, (pseudokey, small, ward_begins, same_walk pseudokey ∙ home.walk ∙ (λ i. record { prefix = sym same i; page = home.leaf.page })))

    pub is_ward_of : IsWardOf pseudokey_of (world_of_wards config wards) number ward
    is_ward_of = let suits = each number ward is in record {
      cap = suits.cap;
      bits = suits.bits;
      number_is = suits.number_is;
      keyer = suits.keyer;
      sound = sound number ward is;
      before = length ward.notices;
      noticed = map_there (λ (w : WardState K). length w.notices) wards number ward is;
      first = omega arith;
      started = λ prefix front.
          subst (λ ns. IsEntryOf (entries ward.start ++ map told_by ns) prefix (fin.get start prefix)) (sym (take_all (length ward.notices) ward.notices (omega arith)))
          (subst (IsEntryOf (entries ward.start ++ map told_by ward.notices) prefix) (sym (own_entry prefix front)) ((sound number ward is).since prefix));
      directory = λ prefix. subst (λ changes. ward_leaves start (prefix_of number) changes prefix ↔ named prefix) (sym (drop_all (length ward.notices) ward.notices (omega arith))) (leaf_is_named prefix, named_is_leaf prefix);
    }

  leads_in : LeadsRightIn (world_of_wards config wards) (tables_joined wards)
  leads_in number ward is = leads_right number ward is

  pub wards_world_kept : IsKeptWorld pseudokey_of (world_of_wards config wards)
  wards_world_kept = record {
    sound = record {
      bits = omega (arith, bits);
      words = words config.keyer;
      count = count;
      wards = λ number ward is. is_ward_of number ward is;
      start = leads_in;
      copies = λ copy table is. subst (LeadsRightIn (world_of_wards config wards)) (sym (numbered_is config.copies (tables_joined wards) table copy is)) leads_in;
      sent = λ number table is. absurd (numbered_none number table is);
      told = given_told pseudokey_of config wards count each sound;
      requests = tt;
    };
    few_wards = bits;
    few_sent = lit< tt;
  }

-- ---- wards one after another

module _ {K : Type 0} where
  joined_more : (wards : List (WardState K)) (ward : WardState K) → tables_joined (wards ++ ward ∷ []) ≡ table_join (tables_joined wards) ward.table
  joined_more wards ward =
      ap (fold table_join fin.empty) (map-append (λ (w : WardState K). w.table) wards (ward ∷ [])) ∙ fold_push table_join fin.empty (map (λ (w : WardState K). w.table) wards) ward.table

  one_taken : (wards : List (WardState K)) (count : ℕ) (ward : WardState K) → count < length wards → ward ≡ get_or wards count ward → take (count + 1) wards ≡ take count wards ++ ward ∷ []
  one_taken wards count ward room read = take_more wards count ward room ∙ ap (λ w. take count wards ++ w ∷ []) (sym read)

  -- one count more: all notices of a ward have an index above 0
  pub one_more_counted : (pseudokey_of : K → List ℕ → ℕ) (wards : List (WardState K)) (count : ℕ) (ward : WardState K) (notices : List Notice) (counts after : List ℕ) → count < length wards → ward ≡ get_or wards count ward → IsSoundWard pseudokey_of ward
      → notices ≡ notices_above 0 ward.notices → counts ≡ map (λ (w : WardState K). length w.notices) (take count wards) → after ≡ counts ++ length notices ∷ [] → after ≡ map (λ (w : WardState K). length w.notices) (take (count + 1) wards)
  one_more_counted pseudokey_of wards count ward notices counts after room read sound all are pushed =
      let many : WardState K → ℕ = λ w. length w.notices in
      pushed ∙ ap (λ ns. counts ++ length ns ∷ []) (all ∙ all_above pseudokey_of ward sound) ∙ ap (λ cs. cs ++ length ward.notices ∷ []) are
      ∙ sym (ap (map many) (one_taken wards count ward room read) ∙ map-append many (take count wards) (ward ∷ []))

  -- the first wards are sound, and the table is theirs together
  pub record AreJoined (pseudokey_of : K → List ℕ → ℕ) (wards : List (WardState K)) (count : ℕ) (table : TableMap) : Type 0 where
    pub within : count ≤ length wards
    pub joined : table ≡ tables_joined (take count wards)
    pub sound : AreSoundWards pseudokey_of (take count wards)

  pub none_joined : (pseudokey_of : K → List ℕ → ℕ) (wards : List (WardState K)) (table : TableMap) → table ≡ fin.empty → AreJoined pseudokey_of wards 0 table
  none_joined pseudokey_of wards table is = record { within = omega arith; joined = is; sound = λ number ward there. cc }

  pub one_more_joined : (pseudokey_of : K → List ℕ → ℕ) (wards : List (WardState K)) (count : ℕ) (ward : WardState K) (table after : TableMap) → AreJoined pseudokey_of wards count table
      → count < length wards → ward ≡ get_or wards count ward → IsSoundWard pseudokey_of ward → after ≡ table_join table ward.table → AreJoined pseudokey_of wards (count + 1) after
  one_more_joined pseudokey_of wards count ward table after are room read sound is =
      let more = one_taken wards count ward room read in
      record {
        within = omega (arith, room);
        joined = is ∙ ap (λ t. table_join t ward.table) are.joined ∙ sym (joined_more (take count wards) ward) ∙ ap tables_joined (sym more);
        sound = λ number other there. elim (push_is (take count wards) ward other number (sym (ap (λ ws. slice_get ws number) more) ∙ there)) [
          | inl before ↦ are.sound number other before
          | inr same ↦ subst (IsSoundWard pseudokey_of) (sym same) sound
        ];
      }

  pub all_sound : (pseudokey_of : K → List ℕ → ℕ) (wards : List (WardState K)) (count : ℕ) (table : TableMap) → AreJoined pseudokey_of wards count table → length wards ≤ count → AreSoundWards pseudokey_of wards
  all_sound pseudokey_of wards count table are all = subst (AreSoundWards pseudokey_of) (take_all count wards all) are.sound

  -- the world of a start table and counts that are the wards'
  pub made_of_wards : (config : Config K) (wards : List (WardState K)) (table : TableMap) (noticed : List ℕ) (copies sent : List TableMap) (in_flight : Requests)
      → table ≡ tables_joined wards → noticed ≡ map (λ (w : WardState K). length w.notices) wards → copies ≡ replicate config.copies table → sent ≡ [] → in_flight ≡ []
      → made_of config wards table noticed copies sent in_flight ≡ world_of_wards config wards
  made_of_wards config wards table noticed copies sent in_flight is_start is_noticed is_copies is_sent is_in_flight =
      let copies_are : copies ≡ replicate config.copies (tables_joined wards) = is_copies ∙ ap (replicate config.copies) is_start in
      λ i. made_of config wards (is_start i) (is_noticed i) (copies_are i) (is_sent i) (is_in_flight i)
