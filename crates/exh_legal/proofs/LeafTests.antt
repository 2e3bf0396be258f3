-- The live pages are a ward's leaves exactly where they stand one beside the other over the ward.
use Rattle.std.proofs.Common.{◌≡◌, ◌≢◌, ℕ, ◌-◌, ◌<◌, ◌≤◌, ◌^◌, Bool, true, false, cond, ◌&&◌, leb, eqb, List, ◌∷◌, map, length, Option, None, Some, refl, ap, ◌∙◌, subst, arith}
use Rattle.std.specs.List.{slice_get}
use Rattle.std.specs.List.Sorted.{IsStrictlySortedBy}
use Rattle.std.specs.Option.{option_map_or}
use Rattle.std.specs.Ordering.{nat_cmp}
use Rattle.std.proofs.lemmas.Bool.{lt-leb, ne_eqb}
use Rattle.exh_prefix.specs.Bits.{word_bits}
use Rattle.exh_prefix.specs.declared.prefix.TheConstants.{LIMIT}
use Rattle.exh_prefix.specs.Prefix.{IsFront, Begins, low_of}
use Rattle.exh_prefix.specs.PrefixLemmas.{begins_low, begins_from_low, front_of_front, fronts_nest}
use Rattle.exh_page.specs.declared.page.Page.{Page}
use Rattle.exh_page.specs.declared.page.Page.TheVariants.{Live, Forward}
use Rattle.exh_page.specs.declared.record.Record.{Record}
use Rattle.exh_page.specs.Page.{low_bound}
use Rattle.exh_legal.specs.Growth.{IsLiveAt}
use Rattle.exh_prefix.specs.LowLemmas.{begins_own_low, front_shorter}
use Rattle.exh_legal.specs.Pages.{IsAt, IsHome}
use Rattle.exh_legal.specs.LegalParts.{IsBounded}
use Rattle.exh_legal.specs.BuiltIndex.{AreIndex, way_end_after, end_of, end_over}
use Rattle.exh_legal.specs.Reasons.{HasLows, HasLeaves}
use Rattle.exh_legal.proofs.Tiles.{AreTiled, InSpan, IsListed, among_found, complete, end_above, end_small, rising, sound}

-- a prefix that the ward's is a front of ends within the ward
pub ends_within : (ward prefix : List Bool) → length prefix ≤ LIMIT → IsFront ward prefix → end_of prefix ≤ end_of ward
ends_within ward prefix short within =
    let less = front_shorter ward prefix within in
    let large : end_of prefix ≤ 2 ^ 64 = end_small prefix short in
    let above = end_above prefix in
    let last : Begins prefix (end_of prefix - 1) = begins_from_low prefix (end_of prefix - 1) (omega (arith, short)) (omega (arith, above)) (omega (arith, above)) in
    let begun : Begins ward (end_of prefix - 1) = front_of_front ward prefix (word_bits (end_of prefix - 1)) less within last in
    let reach = begins_low ward (end_of prefix - 1) (omega (arith, short, less)) (omega (arith, large, above)) begun in
    omega (arith, reach.1, above)

module _ {ward : List Bool} {pages : List Page} (short : length ward ≤ LIMIT) (lows : HasLows ward pages) (bounded : (number : ℕ) (page : Page) → IsAt pages number page → IsBounded page) where
  pub live_front : HasLeaves ward pages → (number : ℕ) (page : Page) (prefix : List Bool) → IsAt pages number page → low_bound page ≡ low_of prefix → length prefix ≤ LIMIT → length ward ≤ length prefix → IsFront ward prefix
  live_front leaves number page prefix is low few long = fronts_nest ward prefix (word_bits (low_of prefix)) long (subst (Begins ward) low (lows.within number page is)) (begins_own_low prefix few)

  pub home_begun : HasLeaves ward pages → (number : ℕ) (page : Page) (pseudokey : ℕ) → IsAt pages number page → IsHome page pseudokey → Begins ward pseudokey
  home_begun leaves number (Live prefix right records) pseudokey is home =
      let within = live_front leaves number _ prefix is refl (bounded number _ is) (leaves.long prefix number (right, records, is)) in
      front_of_front ward prefix (word_bits pseudokey) (front_shorter ward prefix within) within home
  home_begun leaves number (Forward low target) pseudokey is home = absurd home

  span_of : HasLeaves ward pages → (number : ℕ) (page : Page) → IsAt pages number page → InSpan (length ward) (low_of ward) (end_of ward) page
  span_of leaves number (Live prefix right records) is =
      let few : length prefix ≤ LIMIT = bounded number _ is in
      let long = leaves.long prefix number (right, records, is) in
      let within = live_front leaves number _ prefix is refl few long in
      let reach = begins_low ward (low_of prefix) (omega (arith, short)) (omega (arith, end_above prefix, end_small prefix few)) (lows.within number _ is) in
      (long, reach.0, ends_within ward prefix few within)
  span_of leaves number (Forward low target) is = tt

  module _ (entries : List (ℕ × ℕ)) (index : AreIndex entries pages) where
    listed : (number : ℕ) (page : Page) → IsAt pages number page → IsListed pages entries number page
    listed number page is = record { among = among_found entries (low_bound page) number ((index (low_bound page) number).1 (page, is, refl)); at = is }

    tiled : HasLeaves ward pages → AreTiled pages (length ward) (low_of ward) (end_of ward) entries
    tiled leaves = record {
      between = omega (arith, end_above ward);
      spans = λ number page is. span_of leaves number page is.at;
      home = λ pseudokey above below.
          let found = leaves.home pseudokey (omega (arith, below, end_small ward short)) (begins_from_low ward pseudokey (omega (arith, short)) above below) in
          (found.0, found.1, listed found.0 found.1 found.2, found.3);
      one = λ pseudokey small one other page twin is too home twin_home. leaves.one_home pseudokey small (home_begun leaves one page pseudokey is.at home) one other page twin is.at too.at home twin_home;
    }

    long_of : (number : ℕ) (prefix : List Bool) → IsLiveAt pages prefix number → AreTiled pages (length ward) (low_of ward) (end_of ward) entries → length ward ≤ length prefix
    long_of number prefix is tiled = (tiled.spans number _ (listed number _ is.2)).0

    leaves_of : AreTiled pages (length ward) (low_of ward) (end_of ward) entries → HasLeaves ward pages
    leaves_of tiled = record {
      long = λ prefix number is. long_of number prefix is tiled;
      home = λ pseudokey small begins.
          let reach = begins_low ward pseudokey (omega (arith, short)) small begins in
          let found = tiled.home pseudokey reach.0 reach.1 in
          (found.0, found.1, found.2.at, found.3);
      one_home = λ pseudokey small begins one other page twin is too. tiled.one pseudokey small one other page twin (listed one page is) (listed other twin too);
    }

    pub leaves_end : IsStrictlySortedBy nat_cmp (map (λ e. e.0) entries) → HasLeaves ward pages → end_over pages (length ward) (low_of ward) entries ≡ Some (end_of ward)
    leaves_end sorted leaves = complete pages bounded (length ward) entries (low_of ward) (end_of ward) (end_small ward short) (rising pages entries sorted (λ low number is. (index low number).0 is)) (tiled leaves)

    pub ended_leaves : end_over pages (length ward) (low_of ward) entries ≡ Some (end_of ward) → HasLeaves ward pages
    ended_leaves is = leaves_of (sound pages bounded (length ward) entries (low_of ward) (end_of ward) is)

-- ---- where it stops

stopped : (pages : List Page) (least from : ℕ) (entry : ℕ × ℕ) (entries : List (ℕ × ℕ)) (prefix : List Bool) (right : Option ℕ) (records : List Record) → slice_get pages entry.1 ≡ Some (Live prefix right records)
    → (leb least (length prefix) && eqb (low_of prefix) from) ≡ false → end_over pages least from (entry ∷ entries) ≡ None
stopped pages least from entry entries prefix right records is fails =
    ap (λ found. option_map_or (λ page. option_map_or (λ next. end_over pages least next entries) (way_end_after least from page) None) found None) is
    ∙ ap (λ b. option_map_or (λ next. end_over pages least next entries) (cond b (Some (end_of prefix)) None) None) fails

pub stopped_short : (pages : List Page) (least from : ℕ) (entry : ℕ × ℕ) (entries : List (ℕ × ℕ)) (prefix : List Bool) (right : Option ℕ) (records : List Record) → slice_get pages entry.1 ≡ Some (Live prefix right records)
    → length prefix < least → end_over pages least from (entry ∷ entries) ≡ None
stopped_short pages least from entry entries prefix right records is short = stopped pages least from entry entries prefix right records is (ap (λ b. b && eqb (low_of prefix) from) (lt-leb least (length prefix) short))

pub stopped_apart : (pages : List Page) (least from : ℕ) (entry : ℕ × ℕ) (entries : List (ℕ × ℕ)) (prefix : List Bool) (right : Option ℕ) (records : List Record) → slice_get pages entry.1 ≡ Some (Live prefix right records)
    → low_of prefix ≢ from → end_over pages least from (entry ∷ entries) ≡ None
stopped_apart pages least from entry entries prefix right records is differ =
    elim (leb least (length prefix)) as (λ b. leb least (length prefix) ≡ b → end_over pages least from (entry ∷ entries) ≡ None) [
      | true ↦ λ long. stopped pages least from entry entries prefix right records is (ap (λ b. b && eqb (low_of prefix) from) long ∙ ne_eqb (low_of prefix) from differ)
      | false ↦ λ long. stopped pages least from entry entries prefix right records is (ap (λ b. b && eqb (low_of prefix) from) long)
    ] refl
