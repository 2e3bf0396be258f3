-- The first bytes of an image, which say all of a page but its records.
use Rattle.std.specs.Prelude.{◌≡◌, ℕ, ◌-◌, ◌^◌, List, ◌∷◌, ◌++◌, length, drop, slice_index, Option, None, Some}
use Rattle.byteorder.specs.Endian.{big_bytes, big_number}
use Rattle.exh_page.specs.Prefix.{low_of}
use Rattle.exh_page.specs.declared.page.Page.{Page}
use Rattle.exh_page.specs.declared.page.Page.TheVariants as pages
use Rattle.exh_page.specs.declared.page_head.PageHead.{PageHead}
use Rattle.exh_page.specs.declared.page_head.PageHead.TheVariants as heads
use Rattle.exh_codec.specs.declared.head.Head.{Head}
use Rattle.exh_codec.specs.declared.kind.Kind.{Kind}
use Rattle.exh_codec.specs.declared.kind.Kind.TheVariants.{Live, Forward}

-- the byte of a page's kind
abbrev pub page_kind_byte : Kind → ℕ
page_kind_byte Live = 1
page_kind_byte Forward = 2

-- the number that stands for a right link: all bits set for none
abbrev pub link_number : Option ℕ → ℕ
link_number None = 2 ^ 32 - 1
link_number (Some page) = page

-- what the first bytes of a page's image say
abbrev pub head_of : Page → Head
head_of (pages.Live prefix right records) =
    record { kind = Live; prefix_len = length prefix; count = length records; link = link_number right; low = low_of prefix }
head_of (pages.Forward low target) = record { kind = Forward; prefix_len = 0; count = 0; link = target; low = low }

-- what they say of a page that has this head
abbrev pub head_with : PageHead → Head
head_with (heads.Live prefix right count) = record { kind = Live; prefix_len = length prefix; count = count; link = link_number right; low = low_of prefix }
head_with (heads.Forward low target) = record { kind = Forward; prefix_len = 0; count = 0; link = target; low = low }

-- its bytes, in every version: kind, length of the prefix, number of records, a zero, four of the link, eight of the low bound. Of these eight
-- the version's first ones say it, and the others are zero, since a low bound has only zeros after the bits of the longest prefix
unfoldable pub head_bytes : Head → List ℕ
head_bytes head = page_kind_byte head.kind ∷ head.prefix_len ∷ head.count ∷ 0 ∷ big_bytes 4 head.link ++ big_bytes 8 head.low

-- the head is what some bytes say
pub record IsReadHead (bytes : List ℕ) (head : Head) : Type 0 where
  pub kind : slice_index bytes 0 ≡ page_kind_byte head.kind
  pub prefix_len : slice_index bytes 1 ≡ head.prefix_len
  pub count : slice_index bytes 2 ≡ head.count
  pub link : big_number 4 (drop 4 bytes) ≡ head.link
  pub low : big_number 8 (drop 8 bytes) ≡ head.low
