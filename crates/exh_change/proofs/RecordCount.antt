-- How many keys the records of a page have.
use Rattle.std.proofs.Common.{◌≡◌, ℕ, ◌+◌, ◌≤◌, Bool, true, false, cond, List, [], ◌∷◌, length, find, None, Some, refl, sym, ap, ◌∙◌, arith, nat_cmp}
use Rattle.std.specs.FinMap as fin
use Rattle.std.specs.Cmp.Lexicographic.{slice_cmp}
use Rattle.std.specs.declared.cmp.Ordering.TheVariants.{Less}
use Rattle.std.specs.List.{AllByRecursion}
use Rattle.std.specs.Option.{option_map, is_some}
use Rattle.std.specs.Ordering.{is_eq, ordering_reverse}
use Rattle.std.proofs.lemmas.Cmp.{nat_list_cmp_total}
use Rattle.exh_page.specs.declared.record.Record.{Record}
use Rattle.exh_page.specs.Place.{place_cmp, place_of}
use Rattle.exh_page.specs.Records.{is_at, value_at, IsRising}
use Rattle.exh_page.specs.RecordsLemmas.{place_cmp-total}
use Rattle.exh_legal.specs.MapLemmas.{map_of_records, AreHashed, get-map_of_records}

one_more_at_most : (b : Bool) (n : ℕ) → cond b n (n + 1) ≤ n + 1
one_more_at_most true n = omega arith
one_more_at_most false n = omega arith

-- no more than there are records
pub keys_at_most : (records : List Record) → fin.len (map_of_records records) ≤ length records
keys_at_most [] = omega (arith, fin.len-empty (slice_cmp nat_cmp) (List ℕ))
keys_at_most (r ∷ records) =
    omega (arith, keys_at_most records, fin.len-insert nat_list_cmp_total (map_of_records records) r.key r.value, one_more_at_most (fin.contains_key (map_of_records records) r.key) (fin.len (map_of_records records)))

-- a record before all others has a place of its own
none_there : (r : Record) (records : List Record) → AllByRecursion (λ s. place_cmp (place_of r) (place_of s) ≡ Less) records → value_at (place_of r) records ≡ None
none_there r [] below = refl
none_there r (s ∷ records) below =
    let other : is_at (place_of r) s ≡ false = ap is_eq (place_cmp-total.antisymm (place_of s) (place_of r) ∙ ap ordering_reverse below.0) in
    let rest = none_there r records below.1 in
    ap (λ b. option_map (λ (r : Record). r.value) (cond b (Some s) (find (is_at (place_of r)) records))) other ∙ rest

-- rising records have as many keys as there are records
pub keys_are_records : (pseudo : List ℕ → ℕ) (records : List Record) → IsRising records → AreHashed pseudo records → fin.len (map_of_records records) ≡ length records
keys_are_records pseudo [] rising hashed = fin.len-empty (slice_cmp nat_cmp) (List ℕ)
keys_are_records pseudo (r ∷ records) rising hashed =
    let absent : fin.get (map_of_records records) r.key ≡ None =
    get-map_of_records pseudo records r.key hashed.1 ∙ ap (λ k. value_at (k, r.key) records) (sym hashed.0) ∙ none_there r records rising.0 in
    let new : fin.contains_key (map_of_records records) r.key ≡ false = ap is_some absent in
    let more : fin.len (map_of_records (r ∷ records)) ≡ fin.len (map_of_records records) + 1 =
    fin.len-insert nat_list_cmp_total (map_of_records records) r.key r.value ∙ ap (λ b. cond b (fin.len (map_of_records records)) (fin.len (map_of_records records) + 1)) new in
    omega (arith, more, keys_are_records pseudo records rising.1 hashed.1)
