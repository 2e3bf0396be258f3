-- The page that a block is read as, whatever block it is.
use Rattle.std.specs.Prelude.{ℕ, zero, suc, ◌+◌, ◌-◌, ◌^◌, nat_eq, cond, List, [], ◌∷◌, length, map, take, drop, slice_index, Option, None, Some}
use Rattle.byteorder.specs.Endian.{big_number}
use Rattle.exh_page.specs.Bits.{word_bits}
use Rattle.exh_page.specs.Version.{Version}
use Rattle.exh_page.specs.declared.page.Page.{Page}
use Rattle.exh_page.specs.declared.page.Page.TheVariants as pages
use Rattle.exh_codec.specs.declared.block.TheConstants.{CONTENT_LEN}
use Rattle.exh_codec.specs.declared.head.TheConstants.{HEAD_LEN}
use Rattle.exh_codec.specs.declared.kind.Kind.TheVariants.{Forward}
use Rattle.exh_codec.specs.Cells.{Pair, pair_image}
use Rattle.exh_codec.specs.Head.{page_kind_byte}
use Rattle.exh_codec.specs.ImageTests.{prefix_len_of, count_of, low_in, record_of}

-- the pair whose lengths stand first
abbrev pub first_pair : List ℕ → Pair
first_pair bytes = (take (slice_index bytes 0) (drop 2 bytes), take (slice_index bytes 1) (drop (2 + slice_index bytes 0) bytes))

-- so many pairs, one after the other
unfoldable pub first_pairs : ℕ → List ℕ → List Pair
first_pairs zero bytes = []
first_pairs (suc n) bytes = first_pair bytes ∷ first_pairs n (drop (length (pair_image (first_pair bytes))) bytes)

-- the right link that a number stands for
abbrev pub link_of : ℕ → Option ℕ
link_of number = cond (nat_eq number (2 ^ 32 - 1)) None (Some number)

-- by its first bytes a block is a forwarding page or a live one, whose records stand behind them
unfoldable pub page_of : Version → (List ℕ → ℕ) → List ℕ → Page
page_of version pseudo block =
    let link = big_number 4 (drop 4 block) in
    let records = map (record_of pseudo) (first_pairs (count_of block) (drop HEAD_LEN (take CONTENT_LEN block))) in
    cond (nat_eq (slice_index block 0) (page_kind_byte Forward)) (pages.Forward (low_in version block) link)
    (pages.Live (take (prefix_len_of block) (word_bits (low_in version block))) (link_of link) records)
