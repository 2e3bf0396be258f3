-- A get reads no block twice.
use Rattle.std.proofs.Common.{◌≡◌, ℕ, zero, suc, ◌+◌, ◌<◌, ◌≤◌, nat_eq, false, List, [], ◌∷◌, ◌++◌, map, take, get_or, Option, Result, Ok, Err, inl, inr, sym, subst, append-nil, arith}
use Rattle.std.specs.Prelude.{IfErr, IfOk}
use Rattle.std.specs.Io.KnownBytes.{Appends}
use Rattle.std.proofs.KnownBytes.{Appends-trans}
use Rattle.std.specs.List.{AllByRecursion, IsDistinct, list_any, sum}
use Rattle.std.proofs.lemmas.List.{map_push}
use Rattle.std.proofs.lemmas.List.Sums.{sum_by-cons}
use Rattle.exh_prefix.specs.PrefixListLemmas.{AllByRecursion-append, AllByRecursion-push}
use Rattle.exh_format.specs.declared.header.Header.{Header}
use Rattle.exh_format.specs.FileVersion.{FileVersion, file_version}
use Rattle.exh_direct.specs.declared.direct_fault.DirectFault.{DirectFault}
use Rattle.exh_direct.specs.declared.table_block.TableBlock.{TableBlock}
use Rattle.exh_direct.specs.DirectAnswer.{Finds, IsLastRead, IsWay, Refuses, RefusesBehind, pages_in, place_in, ward_in}
use Rattle.exh_direct.specs.KnownBlocks.{MayRead, ReadsOnce}
use Rattle.exh_direct.specs.TableSearch.{numbers_of, places_in, table_place}
use Rattle.exh_direct.specs.OnceLemmas.{distinct_behind_zero, distinct_join, distinct_more, distinct_places, none_twice}
use Rattle.exh_direct.proofs.Searches.{places_by_number}

-- ---- where pages and table blocks stand

-- a page of a ward comes before the table
page_before : (counts : List ℕ) (ward number : ℕ) → number < get_or counts ward 0 → sum (take ward counts) + number < sum counts
page_before [] ward number inside = absurd (omega (arith, inside))
page_before (count ∷ counts) zero number inside = omega (arith, inside, sum_by-cons (λ (count : ℕ). count) count counts)
page_before (count ∷ counts) (suc ward) number inside =
    omega (arith, page_before counts ward number inside, sum_by-cons (λ (count : ℕ). count) count counts, sum_by-cons (λ (count : ℕ). count) count (take ward counts))

module _ (header : Header) (key : List ℕ) where
  abbrev table_at : ℕ → ℕ
  table_at number = table_place header + number

  abbrev AreInside : List ℕ → Type 0
  AreInside pages = AllByRecursion (λ (number : ℕ). number < pages_in header key) pages

  tables_high : (numbers : List ℕ) → AllByRecursion (λ (place : ℕ). table_place header ≤ place) (map table_at numbers)
  tables_high [] = tt
  tables_high (number ∷ numbers) = (omega arith, tables_high numbers)

  tables_behind : (numbers : List ℕ) → AllByRecursion (λ (place : ℕ). 1 ≤ place) (map table_at numbers)
  tables_behind [] = tt
  tables_behind (number ∷ numbers) = (omega arith, tables_behind numbers)

  pages_low : (pages : List ℕ) → AreInside pages → AllByRecursion (λ (place : ℕ). place < table_place header) (map (place_in header key) pages)
  pages_low [] inside = tt
  pages_low (number ∷ pages) inside = (omega (arith, page_before header.page_counts (ward_in header key) number inside.0), pages_low pages inside.1)

  pages_behind : (pages : List ℕ) → AllByRecursion (λ (place : ℕ). 1 ≤ place) (map (place_in header key) pages)
  pages_behind [] = tt
  pages_behind (number ∷ pages) = (omega arith, pages_behind pages)

  all_once : (old new : Option (List ℕ)) (numbers pages : List ℕ) → IsDistinct nat_eq numbers → IsDistinct nat_eq pages → AreInside pages → Appends old new (0 ∷ map table_at numbers ++ map (place_in header key) pages) → ReadsOnce old new
  all_once old new numbers pages tables once inside are = record {
    places = 0 ∷ map table_at numbers ++ map (place_in header key) pages;
    are = are;
    once = distinct_behind_zero _
        (distinct_join (table_place header) (map table_at numbers) (map (place_in header key) pages) (distinct_places (table_place header) numbers tables) (distinct_places (1 + sum (take (ward_in header key) header.page_counts)) pages once) (tables_high numbers) (pages_low pages inside))
        (AllByRecursion-append (λ (place : ℕ). 1 ≤ place) (map table_at numbers) (map (place_in header key) pages) (tables_behind numbers) (pages_behind pages));
  }

  -- behind the header and table blocks, pages
  behind_names : (old head between new : Option (List ℕ)) (blocks : List TableBlock) (pages : List ℕ) → Appends old head (0 ∷ []) → Appends head between (places_in header blocks) → IsDistinct nat_eq (numbers_of blocks) → IsDistinct nat_eq pages → AreInside pages
      → Appends between new (map (place_in header key) pages) → ReadsOnce old new
  behind_names old head between new blocks pages heads tables once pages_once inside reads =
      all_once old new (numbers_of blocks) pages once pages_once inside
      (Appends-trans old head new (0 ∷ []) _ heads (Appends-trans head between new _ (map (place_in header key) pages) (subst (Appends head between) (places_by_number header blocks) tables) reads))

  -- ---- a fault of the table

  in_table : (old head new : Option (List ℕ)) (numbers : List ℕ) → IsDistinct nat_eq numbers → Appends old head (0 ∷ []) → Appends head new (map table_at numbers) → ReadsOnce old new
  in_table old head new numbers once heads tables =
      all_once old new numbers [] once none_twice tt (subst (λ (places : List ℕ). Appends old new (0 ∷ places)) (sym (append-nil (map table_at numbers))) (Appends-trans old head new (0 ∷ []) (map table_at numbers) heads tables))

  last_table : (old head between new : Option (List ℕ)) (numbers : List ℕ) (number : ℕ) → IsDistinct nat_eq numbers → list_any (nat_eq number) numbers ≡ false → Appends old head (0 ∷ []) → Appends head between (map table_at numbers) → MayRead between new (table_at number) → ReadsOnce old new
  last_table old head between new numbers number once other heads tables (inl none) =
      in_table old head new numbers once heads (subst (Appends head new) (append-nil (map table_at numbers)) (Appends-trans head between new (map table_at numbers) [] tables none))
  last_table old head between new numbers number once other heads tables (inr read) =
      in_table old head new (numbers ++ number ∷ []) (distinct_more numbers number once other) heads
      (subst (Appends head new) (sym (map_push table_at numbers number)) (Appends-trans head between new (map table_at numbers) (table_at number ∷ []) tables read))

  -- ---- a way

  last_page : (old head between middle new : Option (List ℕ)) (blocks : List TableBlock) (way : List ℕ) (number : ℕ) → Appends old head (0 ∷ []) → Appends head between (places_in header blocks) → IsDistinct nat_eq (numbers_of blocks) → IsDistinct nat_eq way → AreInside way
      → Appends between middle (map (place_in header key) way) → IsLastRead header key way number middle new → ReadsOnce old new
  last_page old head between middle new blocks way number heads tables once way_once inside reads (inl none) =
      behind_names old head between new blocks way heads tables once way_once inside
      (subst (Appends between new) (append-nil (map (place_in header key) way)) (Appends-trans between middle new (map (place_in header key) way) [] reads none))
  last_page old head between middle new blocks way number heads tables once way_once inside reads (inr (there, other, read)) =
      behind_names old head between new blocks (way ++ number ∷ []) heads tables once (distinct_more way number way_once other) (AllByRecursion-push (λ (number : ℕ). number < pages_in header key) way number inside there)
      (subst (Appends between new) (sym (map_push (place_in header key) way number)) (Appends-trans between middle new (map (place_in header key) way) (place_in header key number ∷ []) reads read))

  module _ (version : FileVersion) (known : Option (List ℕ)) where
    way_inside : (from : ℕ) (way : List ℕ) (to : ℕ) → IsWay version known header key from way to → AreInside way
    way_inside from [] to leads = tt
    way_inside from (number ∷ way) to (same, page, there, next, on, rest) = (there.there, way_inside next way to rest)

-- ---- the answer

found_once : (known : Option (List ℕ)) (whole : ℕ) (key : List ℕ) (old new value : Option (List ℕ)) → Finds known whole key old new value → ReadsOnce old new
found_once known whole key old new value finds =
    let header = finds.header in
    let found = finds.found in
    behind_names header key old finds.first finds.between new finds.names.blocks (found.way ++ found.number ∷ []) finds.reads finds.names.reads finds.names.are.once found.once
    (AllByRecursion-push (λ (number : ℕ). number < pages_in header key) found.way found.number (way_inside header key (file_version finds.version) known finds.page found.way found.number found.leads) found.there.there) found.reads

behind_once : (version : FileVersion) (known : Option (List ℕ)) (whole : ℕ) (key : List ℕ) (old new : Option (List ℕ)) (fault : DirectFault) (header : Header) → RefusesBehind version known whole key old new fault header → ReadsOnce old new
behind_once version known whole key old new fault header (at, head, heads, inl fails) =
    last_table header key old head fails.between new (numbers_of fails.more) fails.number fails.behind.are.once fails.behind.other heads (subst (Appends head fails.between) (places_by_number header fails.more) fails.reads) fails.last
behind_once version known whole key old new fault header (at, head, heads, inr (page, between, names, fails)) =
    last_page header key old head between fails.between new names.blocks fails.way fails.number heads names.reads names.are.once fails.once (way_inside header key version known page fails.way fails.number fails.leads) fails.reads fails.last

zero_once : (old new : Option (List ℕ)) → MayRead old new 0 → ReadsOnce old new
zero_once old new (inl none) = record { places = []; are = none; once = none_twice }
zero_once old new (inr read) = record { places = 0 ∷ []; are = read; once = distinct_behind_zero [] none_twice tt }

refused_once : (known : Option (List ℕ)) (whole : ℕ) (key : List ℕ) (old new : Option (List ℕ)) (fault : DirectFault) → Refuses known whole key old new fault → ReadsOnce old new
refused_once known whole key old new fault (inl first) = zero_once old new first.1
refused_once known whole key old new fault (inr (version, header, behind)) = behind_once (file_version version) known whole key old new fault header behind

pub once_read : (known : Option (List ℕ)) (whole : ℕ) (key : List ℕ) (old new : Option (List ℕ)) (result : Result (Option (List ℕ)) DirectFault) → IfOk result (Finds known whole key old new) → IfErr result (Refuses known whole key old new) → ReadsOnce old new
once_read known whole key old new (Ok value) found refused = found_once known whole key old new value found
once_read known whole key old new (Err fault) found refused = refused_once known whole key old new fault refused
