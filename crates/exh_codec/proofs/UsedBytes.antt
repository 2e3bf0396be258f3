-- The bytes that a page uses in its image.
use Rattle.std.proofs.Common.{◌≡◌, ℕ, ◌*◌, ◌^◌, ◌<◌, ◌≤◌, Bool, List, [], ◌∷◌, length, map, replicate, ◌-◌, Option, None, Some, refl, subst, arith}
use Rattle.std.specs.Prelude.{IfSome}
use Rattle.std.specs.List.{AllByRecursion, flat_map}
use Rattle.std.proofs.lemmas.List.{length-append, length-map, length-replicate}
use Rattle.exh_page.specs.PrefixLimits.{LIMIT}
use Rattle.exh_page.specs.Version.{Version}
use Rattle.exh_page.specs.declared.page.Page.{Page}
use Rattle.exh_page.specs.declared.page.Page.TheVariants.{Live, Forward}
use Rattle.exh_page.specs.declared.record.Record.{Record}
use Rattle.exh_page.specs.Page.{records_of}
use Rattle.exh_codec.specs.declared.head.Head.{Head}
use Rattle.exh_page.specs.KeyMap.{pair_of}
use Rattle.exh_codec.specs.Cells.{Pair, IsSizedPair, pair_image}
use Rattle.exh_codec.specs.Head.{head_of, head_bytes, link_number}
use Rattle.exh_codec.specs.PageImage.{IsInRange, IsPage, used_of, content_of}
use Rattle.exh_codec.specs.PageImageLemmas.{few_records}
use Rattle.exh_codec.specs.CellLemmas.{length-pair_image}

-- prefixes as the types hold them
abbrev pub widest : Version
widest = record { limit = LIMIT; bytes = 8 }

pub length-head_bytes : (head : Head) → length (head_bytes head) ≡ 16
unfolding head_bytes
length-head_bytes head = refl

-- no pair takes more than 194 bytes
pub length-pairs : (pairs : List Pair) → AllByRecursion IsSizedPair pairs → length (flat_map pair_image pairs) ≤ 194 * length pairs
length-pairs [] sized = omega arith
length-pairs (p ∷ pairs) sized =
    omega (arith, length-append (pair_image p) (flat_map pair_image pairs), length-pair_image p, sized.0.key, sized.0.value, length-pairs pairs sized.1)

pub sized_records : (version : Version) (page : Page) → IsInRange version page → AllByRecursion IsSizedPair (map pair_of (records_of page))
sized_records version (Live prefix right records) in_range = in_range.2
sized_records version (Forward low target) in_range = tt

pub length-used_of : (version : Version) (page : Page) → IsInRange version page → length (records_of page) ≤ 16 → length (used_of page) ≤ 3120
length-used_of version page in_range few =
    omega (
      arith,
      length-append (head_bytes (head_of page)) (flat_map pair_image (map pair_of (records_of page))),
      length-head_bytes (head_of page),
      length-pairs (map pair_of (records_of page)) (sized_records version page in_range),
      length-map (records_of page) pair_of,
      few,
    )

pub link_in_range : (right : Option ℕ) → link_number right < 2 ^ 32 → IfSome right (λ page. page < 2 ^ 32)
link_in_range None small = tt
link_in_range (Some page) small = small

-- the numbers of a live page are in range where those of its head are
pub live_in_range : (version : Version) (prefix : List Bool) (right : Option ℕ) (records : List Record) (head : Head) → head ≡ head_of (Live prefix right records) → head.prefix_len ≤ version.limit → head.link < 2 ^ 32
    → AllByRecursion IsSizedPair (map pair_of records) → IsInRange version (Live prefix right records)
live_in_range version prefix right records head is short small sized =
    (subst (λ (h : Head). h.prefix_len ≤ version.limit) is short, link_in_range right (subst (λ (h : Head). h.link < 2 ^ 32) is small), sized)

-- a content fills a block up to its digest
pub length-content_of : (version : Version) (pseudo : List ℕ → ℕ) (page : Page) → IsPage version pseudo page → length (content_of page) ≡ 4064
unfolding content_of
length-content_of version pseudo page valid =
    omega (
      arith,
      length-append (used_of page) (replicate (4064 - length (used_of page)) 0),
      length-replicate {A = ℕ} (4064 - length (used_of page)) 0,
      length-used_of version page valid.in_range (few_records version pseudo page valid),
    )
