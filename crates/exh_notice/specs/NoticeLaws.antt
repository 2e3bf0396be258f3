-- Laws of entries and of images that the crates above cite.
use Rattle.std.specs.Prelude.{◌≡◌, ◌↔◌, ◌<◌, ℕ, Bool, List, length, slice_index}
use Rattle.std.specs.declared.cmp.Ordering.TheVariants.{Equal}
use Rattle.std.specs.Cmp.{IsTotalOrder}
use Rattle.exh_notice.specs.declared.entry.Entry.{Entry}
use Rattle.exh_prefix.specs.Version.{Version, Fits}
use Rattle.exh_notice.specs.declared.notice.Notice.{Notice}
use Rattle.exh_notice.specs.Entry.{entry_cmp}
use Rattle.exh_notice.specs.NoticeImages.{IsEntryImage, IsNoticeImage, PassesAll}

-- the order is total, and ties are equal
abbrev pub EntryOrderIsTotal : Type 0
EntryOrderIsTotal = IsTotalOrder entry_cmp × ((one other : Entry) → (entry_cmp one other ≡ Equal) ↔ (one ≡ other))

-- ---- images, in each version whose bytes are room for its limit and fit into four

-- two images of entries are the same exactly where ward, prefix and entry are, and each has 16 bytes
pub record IsOneEntry (image other_image : List ℕ) (ward other_ward : ℕ) (prefix other_prefix : List Bool) (entry other : Entry) : Type 0 where
  pub same : (image ≡ other_image) ↔ ((ward ≡ other_ward) × (prefix ≡ other_prefix) × (entry ≡ other))
  pub len : length image ≡ 16

abbrev pub OneEntry : Type 0
OneEntry = (version : Version) → Fits 4 version → (image other_image : List ℕ) (ward other_ward : ℕ) (prefix other_prefix : List Bool) (entry other : Entry)
    → IsEntryImage version ward prefix entry image → IsEntryImage version other_ward other_prefix other other_image
    → IsOneEntry image other_image ward other_ward prefix other_prefix entry other

-- two images of notices are the same exactly where the notices are, and each has 24 bytes
abbrev pub OneNotice : Type 0
OneNotice = (version : Version) → Fits 4 version → (image other_image : List ℕ) (one other : Notice) → IsNoticeImage version one image → IsNoticeImage version other other_image
    → ((image ≡ other_image) ↔ (one ≡ other)) × (length image ≡ 24)

-- 16 bytes are the image of an entry exactly where they pass all tests,
abbrev pub EntryImagesPass : Type 0
EntryImagesPass = (version : Version) → Fits 4 version → (image : List ℕ) → length image ≡ 16 → ((k : ℕ) → slice_index image k < 256)
    → ((ward : ℕ) × (prefix : List Bool) × (entry : Entry) × IsEntryImage version ward prefix entry image) ↔ PassesAll version image

-- and 24 that of a notice
abbrev pub NoticeImagesPass : Type 0
NoticeImagesPass = (version : Version) → Fits 4 version → (image : List ℕ) → length image ≡ 24 → ((k : ℕ) → slice_index image k < 256)
    → ((notice : Notice) × IsNoticeImage version notice image) ↔ PassesAll version image
