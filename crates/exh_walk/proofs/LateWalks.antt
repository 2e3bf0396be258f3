-- Where a walk of a table that names pages of the ward stops.
use Rattle.std.proofs.Common.{◌≡◌, ℕ, ◌+◌, ◌<◌, ◌≤◌, Bool, true, false, List, [], ◌∷◌, ◌++◌, length, take, drop, None, Some, inl, inr, refl, sym, ap, ◌∙◌, arith}
use Rattle.std.specs.Option.{option_map_or}
use Rattle.std.proofs.lemmas.Bool.{cases_eq}
use Rattle.std.proofs.lemmas.List.{append-nil, append_assoc, length-append, length-take-le, length_push, take-append-drop, take-take}
use Rattle.std.proofs.Math.Seq.{take-append_seam}
use Rattle.exh_prefix.specs.declared.prefix.TheConstants.{LIMIT}
use Rattle.exh_prefix.specs.Bits.{word_bits}
use Rattle.exh_prefix.specs.Prefix.{IsFront, Begins, low_of}
use Rattle.exh_prefix.specs.PrefixLemmas.{length-word_bits}
use Rattle.exh_table.specs.declared.leaf.Leaf.{Leaf}
use Rattle.exh_table.specs.Table.{TableMap}
use Rattle.exh_table.specs.TableWalk.{split_at, step, walk_in, walk_on}
use Rattle.exh_page.specs.declared.page.Page.{Page}
use Rattle.exh_legal.specs.Growth.{IsPageOf}
use Rattle.exh_prefix.specs.LowLemmas.{front_of_longer, front_shorter, left_keeps, own_front, front_of_child, same_front}
use Rattle.exh_walk.specs.DistanceLaws.{NamesPages}

-- the page that it stops at is that of its prefix's low bound; the table has a split at each proper front of it, and none there
pub record IsStop (ward : List Bool) (pages : List Page) (table : TableMap) (pseudokey : ℕ) (stop : Leaf) : Type 0 where
  pub within : IsFront ward stop.prefix
  pub begins : Begins stop.prefix pseudokey
  pub few : length stop.prefix ≤ LIMIT
  pub page : IsPageOf pages (low_of stop.prefix) stop.page
  pub passed : (prefix : List Bool) → IsFront ward prefix → IsFront prefix stop.prefix → length prefix < length stop.prefix → (right : ℕ) × (split_at table prefix ≡ Some right)
  pub stops : length stop.prefix < LIMIT → split_at table stop.prefix ≡ None

module _ (ward : List Bool) (pages : List Page) (table : TableMap) (pseudokey : ℕ) (names : NamesPages ward pages table) where
  abbrev word : List Bool
  word = take LIMIT (word_bits pseudokey)

  whole : length word ≡ LIMIT
  whole = length-take-le LIMIT (word_bits pseudokey) (omega (arith, length-word_bits pseudokey))

  few_of : (prefix bits : List Bool) → prefix ++ bits ≡ word → length prefix ≤ LIMIT
  few_of prefix bits is = omega (arith, ap length is, length-append prefix bits, whole)

  begun : (prefix bits : List Bool) → prefix ++ bits ≡ word → Begins prefix pseudokey
  begun prefix bits is = sym (take-take (length prefix) LIMIT (word_bits pseudokey) (few_of prefix bits is)) ∙ ap (take (length prefix)) (sym is) ∙ take-append_seam prefix bits

  abbrev Passed : List Bool → Type 0
  Passed bits = (prefix : List Bool) → IsFront ward prefix → IsFront prefix bits → length prefix < length bits → (right : ℕ) × (split_at table prefix ≡ Some right)

  passed_more : (at : List Bool) (bit : Bool) (right : ℕ) → split_at table at ≡ Some right → Passed at → Passed (at ++ bit ∷ [])
  passed_more at bit right split passed prefix within front less =
      let long : length (at ++ bit ∷ []) ≡ length at + 1 = length_push at bit in
      let front_at = front_of_child prefix at bit front (omega (arith, long, less)) in
      elim (cases_eq (length prefix) (length at)) [
        | inl same ↦ (right, ap (split_at table) (same_front prefix at front_at same) ∙ split)
        | inr differs ↦ passed prefix within front_at (omega (arith, differs, long, less))
      ]

  page_on : (at : Leaf) (bit : Bool) (right : ℕ) → length at.prefix < LIMIT → IsFront ward at.prefix → split_at table at.prefix ≡ Some right → IsPageOf pages (low_of at.prefix) at.page → IsPageOf pages (low_of (step at bit right).prefix) (step at bit right).page
  page_on at true right short within split page = names at.prefix right within split
  page_on at false right short within split page = (page.0, page.1, page.2 ∙ sym (left_keeps at.prefix short))

  goes : (bits : List Bool) (at : Leaf) → at.prefix ++ bits ≡ word → IsFront ward at.prefix → IsPageOf pages (low_of at.prefix) at.page → Passed at.prefix → IsStop ward pages table pseudokey (walk_on (split_at table) bits at)
  goes [] at is within page passed =
      let long : length at.prefix ≡ LIMIT = ap length (sym (append-nil at.prefix) ∙ is) ∙ whole in
      record { within = within; begins = begun at.prefix [] is; few = few_of at.prefix [] is; page = page; passed = passed; stops = λ short. absurd (omega (arith, short, long)) }
  goes (bit ∷ bits) at is within page passed =
      elim (split_at table at.prefix) as (λ found. split_at table at.prefix ≡ found → IsStop ward pages table pseudokey (option_map_or (λ right. walk_on (split_at table) bits (step at bit right)) found at)) [
        | None ↦ λ split. record { within = within; begins = begun at.prefix (bit ∷ bits) is; few = few_of at.prefix (bit ∷ bits) is; page = page; passed = passed; stops = λ short. split }
        | Some right ↦ λ split.
            let next : (at.prefix ++ bit ∷ []) ++ bits ≡ word = append_assoc at.prefix (bit ∷ []) bits ∙ is in
            let short : length at.prefix < LIMIT = omega (arith, few_of (at.prefix ++ bit ∷ []) bits next, length_push at.prefix bit) in
            goes bits (step at bit right) next (front_of_longer ward at.prefix (bit ∷ []) within) (page_on at bit right short within split page) (passed_more at.prefix bit right split passed)
      ] refl

  pub walk_stops : length ward ≤ LIMIT → Begins ward pseudokey → IsPageOf pages (low_of ward) 0 → IsStop ward pages table pseudokey (walk_in table ward pseudokey)
  walk_stops short begins first =
      let front : take (length ward) word ≡ ward = take-take (length ward) LIMIT (word_bits pseudokey) short ∙ begins in
      let at : Leaf = record { prefix = ward; page = 0 } in
      goes (drop (length ward) word) at (ap (λ w. w ++ drop (length ward) word) (sym front) ∙ take-append-drop (length ward) word) (own_front ward) first
      (λ prefix within front less. absurd (omega (arith, less, front_shorter ward prefix within)))
