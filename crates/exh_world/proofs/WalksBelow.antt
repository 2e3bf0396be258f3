-- A walk through a table whose splits lead right ends at a page that can lead to the pseudokey.
use Rattle.std.proofs.Common.{◌≡◌, ℕ, ◌<◌, ◌≤◌, ◌^◌, Bool, true, false, List, [], ◌∷◌, ◌++◌, length, take, drop, None, Some, refl, sym, ap, ◌∙◌, arith}
use Rattle.std.specs.Option.{option_map_or}
use Rattle.std.proofs.lemmas.List.{length-append, length-take-le, take-take, take-append-drop, append_assoc}
use Rattle.std.proofs.Math.Seq.{take-append_seam}
use Rattle.exh_prefix.specs.declared.prefix.TheConstants.{LIMIT}
use Rattle.exh_prefix.specs.Bits.{word_bits}
use Rattle.exh_prefix.specs.Prefix.{IsFront, Begins}
use Rattle.exh_prefix.specs.PrefixLemmas.{length-word_bits, begins_low}
use Rattle.exh_table.specs.declared.leaf.Leaf.{Leaf}
use Rattle.exh_table.specs.Table.{TableMap}
use Rattle.exh_table.specs.TableWalk.{split_at, step, walk_on, walk_in}
use Rattle.exh_page.specs.declared.page.Page.{Page}
use Rattle.exh_prefix.specs.LowLemmas.{front_of_longer, own_front}
use Rattle.exh_legal.specs.LegalLaws.{IsBelow}
use Rattle.exh_world.specs.Sound.{LeadsRight}

module _ (ward : List Bool) (pages : List Page) (table : TableMap) (pseudokey : ℕ) (small : pseudokey < 2 ^ 64) (leads : LeadsRight ward pages table) where
  abbrev word : List Bool
  word = take LIMIT (word_bits pseudokey)

  few : (prefix bits : List Bool) → prefix ++ bits ≡ word → length prefix ≤ LIMIT
  few prefix bits is =
      let whole : length word ≡ LIMIT = length-take-le LIMIT (word_bits pseudokey) (omega (arith, length-word_bits pseudokey)) in
      omega (arith, ap length is, length-append prefix bits, whole)

  begun : (prefix bits : List Bool) → prefix ++ bits ≡ word → Begins prefix pseudokey
  begun prefix bits is = sym (take-take (length prefix) LIMIT (word_bits pseudokey) (few prefix bits is)) ∙ ap (take (length prefix)) (sym is) ∙ take-append_seam prefix bits

  page_after : (bit : Bool) (prefix bits : List Bool) (page right : ℕ) → (prefix ++ bit ∷ []) ++ bits ≡ word → IsFront ward prefix → split_at table prefix ≡ Some right → IsBelow pages page pseudokey
      → IsBelow pages (step (record { prefix = prefix; page = page }) bit right).page pseudokey
  page_after false prefix bits page right is front split below = below
  page_after true prefix bits page right is front split below =
      let target = leads prefix right front split in
      let short = few (prefix ++ true ∷ []) bits is in
      (target.0, target.1, omega (arith, target.2, (begins_low (prefix ++ true ∷ []) pseudokey (omega (arith, short)) small (begun (prefix ++ true ∷ []) bits is)).0))

  walk_stays : (bits : List Bool) (at : Leaf) → at.prefix ++ bits ≡ word → IsFront ward at.prefix → IsBelow pages at.page pseudokey → IsBelow pages (walk_on (split_at table) bits at).page pseudokey
  walk_stays [] at is front below = below
  walk_stays (bit ∷ bits) at is front below =
      elim (split_at table at.prefix) as (λ found. split_at table at.prefix ≡ found → IsBelow pages (option_map_or (λ right. walk_on (split_at table) bits (step at bit right)) found at).page pseudokey) [
        | None ↦ λ split. below
        | Some right ↦ λ split.
            let next : (at.prefix ++ bit ∷ []) ++ bits ≡ word = append_assoc at.prefix (bit ∷ []) bits ∙ is in
            walk_stays bits (step at bit right) next (front_of_longer ward at.prefix (bit ∷ []) front) (page_after bit at.prefix bits at.page right next front split below)
      ] refl

  pub walk_below : length ward ≤ LIMIT → Begins ward pseudokey → IsBelow pages 0 pseudokey → IsBelow pages (walk_in table ward pseudokey).page pseudokey
  walk_below short begins below =
      let front : take (length ward) word ≡ ward = take-take (length ward) LIMIT (word_bits pseudokey) short ∙ begins in
      walk_stays (drop (length ward) word) (record { prefix = ward; page = 0 }) (ap (λ w. w ++ drop (length ward) word) (sym front) ∙ take-append-drop (length ward) word) (own_front ward) below
