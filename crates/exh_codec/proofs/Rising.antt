-- Records of which each neighbour is before the next.
use Rattle.std.proofs.Common.{◌≡◌, ℕ, zero, suc, ◌+◌, ◌-◌, ◌<◌, ◌≤◌, Bool, true, false, not, nat_eq, List, [], ◌∷◌, ◌++◌, length, map, get_or, take, drop, refl, sym, ap, ◌∙◌, subst, arith}
use Rattle.std.specs.declared.cmp.Ordering.TheVariants.{Less, Equal, Greater}
use Rattle.std.specs.declared.cmp.Ordering.{Ordering}
use Rattle.std.specs.Ordering.{ordering_index}
use Rattle.std.specs.List.{AllByRecursion}
use Rattle.std.proofs.lemmas.List.{map-append, take-append-drop, take_more}
use Rattle.exh_page.specs.declared.record.Record.{Record}
use Rattle.exh_page.specs.Place.{place_cmp, place_of}
use Rattle.exh_page.specs.Records.{IsRising}
use Rattle.exh_page.specs.RecordsLemmas.{IsRising-append_left, place_cmp-total}
use Rattle.exh_codec.specs.declared.borrowed_record.BorrowedRecord.{BorrowedRecord}
use Rattle.exh_page.specs.KeyMap.{pair_of}
use Rattle.exh_codec.specs.Cells.{record_borrowed, Pair, IsSizedPair, pair_in}
use Rattle.exh_codec.specs.declared.cell.Cell.{Cell}
use Rattle.exh_codec.specs.ImageTests.{record_of}
use Rattle.exh_page.specs.PrefixListLemmas.{AllByRecursion-push, AllByRecursion-append_right}

abbrev Comes : Record → Record → Type 0
Comes one other = place_cmp (place_of one) (place_of other) ≡ Less

rising_push : (front : List Record) (last next : Record) → IsRising (front ++ last ∷ []) → Comes last next → IsRising ((front ++ last ∷ []) ++ next ∷ [])
rising_push [] last next rising comes = ((comes, tt), (tt, tt))
rising_push (r ∷ front) last next rising comes =
    let before : Comes r last = (AllByRecursion-append_right (Comes r) front (last ∷ []) rising.0).0 in
    let far : Comes r next = place_cmp-total.trans (place_of r) (place_of last) (place_of next) before comes in
    (AllByRecursion-push (Comes r) (front ++ last ∷ []) next rising.0 far, rising_push front last next rising.1 comes)

-- one record more
pub rising_more : (items : List BorrowedRecord) (i : ℕ) (d e : BorrowedRecord) → 1 ≤ i → i < length items
    → IsRising (map record_borrowed (take i items)) → Comes (record_borrowed (get_or items (i - 1) d)) (record_borrowed (get_or items i e)) → IsRising (map record_borrowed (take (i + 1) items))
rising_more items i d e some within rising comes =
    let last = record_borrowed (get_or items (i - 1) d) in
    let next = record_borrowed (get_or items i e) in
    let before : i - 1 < length items = omega arith in
    let counted : i - 1 + 1 ≡ i = omega arith in
    let front : take i items ≡ take (i - 1) items ++ get_or items (i - 1) d ∷ [] = ap (λ (n : ℕ). take n items) (sym counted) ∙ take_more items (i - 1) d before in
    let shown : map record_borrowed (take i items) ≡ map record_borrowed (take (i - 1) items) ++ last ∷ [] = ap (map record_borrowed) front ∙ map-append record_borrowed (take (i - 1) items) (get_or items (i - 1) d ∷ []) in
    let more : map record_borrowed (take (i + 1) items) ≡ map record_borrowed (take i items) ++ next ∷ [] =
    ap (map record_borrowed) (take_more items i e within) ∙ map-append record_borrowed (take i items) (get_or items i e ∷ []) in
    subst IsRising (sym (more ∙ ap (λ (records : List Record). records ++ next ∷ []) shown))
    (rising_push (map record_borrowed (take (i - 1) items)) last next (subst IsRising shown rising) comes)

next_rises : (items : List BorrowedRecord) (i : ℕ) (d e : BorrowedRecord) → suc i < length items → IsRising (map record_borrowed items) → Comes (record_borrowed (get_or items i d)) (record_borrowed (get_or items (suc i) e))
next_rises [] i d e within rising = absurd (omega arith)
next_rises (r ∷ []) i d e within rising = absurd (omega arith)
next_rises (r ∷ s ∷ items) zero d e within rising = rising.0.0
next_rises (r ∷ s ∷ items) (suc i) d e within rising = next_rises (s ∷ items) i d e (omega arith) rising.1

-- in rising records each neighbour is before the next
pub neighbours_rise : (items : List BorrowedRecord) (i : ℕ) (d e : BorrowedRecord) → 1 ≤ i → i < length items
    → IsRising (map record_borrowed items) → Comes (record_borrowed (get_or items (i - 1) d)) (record_borrowed (get_or items i e))
neighbours_rise items i d e some within rising =
    let counted : suc (i - 1) ≡ i = omega arith in
    subst (λ (n : ℕ). Comes (record_borrowed (get_or items (i - 1) d)) (record_borrowed (get_or items n e))) counted (next_rises items (i - 1) d e (omega arith) rising)

-- what the test of an order says
pub less_from_test : (order : Ordering) (differs : Bool) → differs ≡ not (nat_eq (ordering_index order) 0) → differs ≡ false → order ≡ Less
less_from_test Less differs is kept = refl
less_from_test Equal differs is kept = cc
less_from_test Greater differs is kept = cc

pub not_less_from_test : (order : Ordering) (differs : Bool) → differs ≡ not (nat_eq (ordering_index order) 0) → differs ≡ true → order ≡ Less → ⊥
not_less_from_test Less differs is fails less = cc
not_less_from_test Equal differs is fails less = cc
not_less_from_test Greater differs is fails less = cc

pub none_rise : (items : List BorrowedRecord) → IsRising (map record_borrowed (take 1 items))
none_rise [] = tt
none_rise (r ∷ items) = (tt, tt)

-- what holds of each pair of some cells holds of the pair at a place
pub pair_at : (P : Pair → Type 0) (cells : List Cell) (i : ℕ) (d : Cell) → i < length cells → AllByRecursion P (map pair_in cells) → P (pair_in (get_or cells i d))
pair_at P [] i d within all = absurd (omega arith)
pair_at P (cell ∷ cells) zero d within all = all.0
pair_at P (cell ∷ cells) (suc i) d within all = pair_at P cells i d (omega arith) all.1

pub item_at : (items : List BorrowedRecord) (i : ℕ) (d : BorrowedRecord) → i < length items → AllByRecursion IsSizedPair (map pair_of (map record_borrowed items)) → IsSizedPair (pair_of (record_borrowed (get_or items i d)))
item_at [] i d within sized = absurd (omega arith)
item_at (r ∷ items) zero d within sized = sized.0
item_at (r ∷ items) (suc i) d within sized = item_at items i d (omega arith) sized.1

-- records that are made of pairs hold the pairs
pub pairs_of_records : (pseudo : List ℕ → ℕ) (pairs : List Pair) → map pair_of (map (record_of pseudo) pairs) ≡ pairs
pairs_of_records pseudo [] = refl
pairs_of_records pseudo (pair ∷ pairs) = ap (λ (rest : List Pair). pair ∷ rest) (pairs_of_records pseudo pairs)

-- the first records and the next one rise, as all do
pub rising_front : (items : List BorrowedRecord) (i : ℕ) (d : BorrowedRecord) → i < length items → IsRising (map record_borrowed items) → IsRising (map record_borrowed (take i items) ++ record_borrowed (get_or items i d) ∷ [])
rising_front items i d within rising =
    let cut : map record_borrowed items ≡ map record_borrowed (take (i + 1) items) ++ map record_borrowed (drop (i + 1) items) =
    ap (map record_borrowed) (sym (take-append-drop (i + 1) items)) ∙ map-append record_borrowed (take (i + 1) items) (drop (i + 1) items) in
    let shown : map record_borrowed (take (i + 1) items) ≡ map record_borrowed (take i items) ++ record_borrowed (get_or items i d) ∷ [] =
    ap (map record_borrowed) (take_more items i d within) ∙ map-append record_borrowed (take i items) (get_or items i d ∷ []) in
    subst IsRising shown (IsRising-append_left _ _ (subst IsRising cut rising))
