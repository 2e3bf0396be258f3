-- The world of given wards is told truly.
use Rattle.std.proofs.Common.{◌≡◌, ℕ, zero, suc, ◌^◌, ◌<◌, List, [], ◌∷◌, length, map, slice_get, Option, None, Some, inl, refl, sym, ap, ◌∙◌, subst}
use Rattle.std.specs.FinMap as fin
use Rattle.std.specs.FinMap.{get}
use Rattle.std.specs.List.{fold}
use Rattle.std.proofs.lemmas.Option.{slice_get_within}
use Rattle.exh_prefix.specs.Leading.{ward_prefix}
use Rattle.exh_prefix.specs.LeadingLemmas.{one_front}
use Rattle.exh_prefix.specs.PrefixListLemmas.{one_there}
use Rattle.exh_prefix.specs.Prefix.{IsFront, prefix_cmp}
use Rattle.exh_notice.specs.declared.entry.Entry.{Entry}
use Rattle.exh_table.specs.Table.{TableMap}
use Rattle.exh_table.specs.TableLemmas.{table_laws, up_to_itself, up_to_both}
use Rattle.exh_table.specs.TableOrder.{IsOptionUpTo, IsTableUpTo, table_join}
use Rattle.exh_ward.specs.WardState.{WardState, own_prefix}
use Rattle.exh_world.specs.NewWorld.{AreWardsFor, tables_joined, world_of_wards}
use Rattle.exh_world.specs.WorldListLemmas.{map_from, map_there, numbered_is, numbered_none}
use Rattle.exh_world.specs.World.{WorldState}
use Rattle.exh_page.specs.declared.config.Config.{Config}
use Rattle.exh_world.specs.Tables.{TellsTruly, IsToldTruly}
use Rattle.exh_world.proofs.FreshWorld.{AreSoundWards}
use Rattle.exh_world.proofs.NoticeEntries.{join_up}

-- ---- tables joined one after another

first_up : (tables : List TableMap) (first : TableMap) → IsTableUpTo first (fold table_join first tables)
first_up [] first = table_laws.order.reflexive first
first_up (table ∷ tables) first = table_laws.order.transitive first (table_join first table) (fold table_join (table_join first table) tables) (table_laws.bound.above_first first table) (first_up tables (table_join first table))

-- each is at most what they come to
each_up : (tables : List TableMap) (first : TableMap) (at : ℕ) (own : TableMap) → slice_get tables at ≡ Some own → IsTableUpTo own (fold table_join first tables)
each_up [] first at own is = cc
each_up (table ∷ tables) first zero own is =
    let same : table ≡ own = cc in
    subst (λ t. IsTableUpTo t (fold table_join (table_join first table) tables)) same
    (table_laws.order.transitive table (table_join first table) (fold table_join (table_join first table) tables) (table_laws.bound.above_second first table) (first_up tables (table_join first table)))
each_up (table ∷ tables) first (suc at) own is = each_up tables (table_join first table) at own is

-- and that is at most, at a prefix, what each is at most there
all_up : (prefix : List _) (bound tables_first : TableMap) (tables : List TableMap) → IsOptionUpTo (get tables_first prefix) (get bound prefix)
    → ((at : ℕ) (table : TableMap) → slice_get tables at ≡ Some table → IsOptionUpTo (get table prefix) (get bound prefix)) → IsOptionUpTo (get (fold table_join tables_first tables) prefix) (get bound prefix)
all_up prefix bound first [] own each = own
all_up prefix bound first (table ∷ tables) own each = all_up prefix bound (table_join first table) tables (join_up first table bound prefix own (each zero table refl)) (λ at other is. each (suc at) other is)

-- ---- the world

module _ {K : Type 0} (pseudokey_of : K → List ℕ → ℕ) (config : Config K) (wards : List (WardState K)) (count : length wards ≡ 2 ^ config.ward_bits) (each : AreWardsFor config wards) (sound : AreSoundWards pseudokey_of wards) where
  abbrev start : TableMap
  start = tables_joined wards

  abbrev given : WorldState K
  given = world_of_wards config wards

  module _ (number : ℕ) (ward : WardState K) (is : slice_get wards number ≡ Some ward) (prefix : List _) (front : IsFront (ward_prefix config.ward_bits number) prefix) where
    fits : (other : ℕ) (one : WardState K) → slice_get wards other ≡ Some one → other < 2 ^ config.ward_bits
    fits other one there = subst (λ n. other < n) count (slice_get_within wards other one there)

    -- what a ward's table has at a prefix of this ward, this ward's has: it is of this ward
    own_alone : (other : ℕ) (one : WardState K) → slice_get wards other ≡ Some one → (found : Option Entry) → get one.table prefix ≡ found → IsOptionUpTo found (get ward.table prefix)
    own_alone other one there None has = tt
    own_alone other one there (Some entry) has =
        let suits = each other one there in
        let own_is : own_prefix one ≡ ward_prefix config.ward_bits other = ap (λ bits. ward_prefix bits one.number) suits.bits ∙ ap (ward_prefix config.ward_bits) suits.number_is in
        let within : IsFront (ward_prefix config.ward_bits other) prefix = subst (λ p. IsFront p prefix) own_is ((sound other one there).legal.fits.entries prefix entry has).within in
        let here : other ≡ number = one_front config.ward_bits other number prefix (fits other one there) (fits number ward is) within front in
        let same : one ≡ ward = one_there wards number one ward (subst (λ n. slice_get wards n ≡ Some one) here there) is in
        subst (λ e. IsOptionUpTo e (get ward.table prefix)) (ap (λ (w : WardState K). get w.table prefix) (sym same) ∙ has) (up_to_itself (get ward.table prefix))

    start_up : IsOptionUpTo (get start prefix) (get ward.table prefix)
    start_up = all_up prefix ward.table fin.empty (map (λ (w : WardState K). w.table) wards) (subst (λ e. IsOptionUpTo e (get ward.table prefix)) (sym (fin.get-empty prefix_cmp prefix)) tt)
        (λ at table there.
        let from = map_from (λ (w : WardState K). w.table) wards at table there in
        subst (λ t. IsOptionUpTo (get t prefix) (get ward.table prefix)) (sym from.2) (own_alone at from.0 from.1 (get from.0.table prefix) refl))

    -- in the ward the start table is the ward's own
    start_is : get start prefix ≡ get ward.table prefix
    start_is = up_to_both (get start prefix) (get ward.table prefix) start_up (each_up (map (λ (w : WardState K). w.table) wards) fin.empty number ward.table (map_there (λ (w : WardState K). w.table) wards number ward is) prefix)

  start_truly : TellsTruly given start
  start_truly = record { start = table_laws.order.reflexive start; wards = λ number ward is prefix front. start_up number ward is prefix front }

  pub given_told : IsToldTruly given
  given_told = record {
    start = start_truly;
    copies = λ copy table is. subst (TellsTruly given) (sym (numbered_is config.copies start table copy is)) start_truly;
    sent = λ number table is. absurd (numbered_none number table is);
    wards = λ number ward is prefix entry front has. inl (start_is number ward is prefix front ∙ has);
  }
