-- Pages that stand as images, and what is seen of them.
use Rattle.std.specs.Prelude.{◌≡◌, ℕ, ◌^◌, ◌<◌, Bool, List, Option, length, map, remove}
use Rattle.std.specs.List.{AllByRecursion}
use Rattle.exh_prefix.specs.Layout.{written_version}
use Rattle.exh_page.specs.declared.page.Page.{Page}
use Rattle.exh_page.specs.declared.record.Record.{Record}
use Rattle.exh_page.specs.declared.spot.Spot.{Spot}
use Rattle.exh_page.specs.Halves.{left_half, right_half, union}
use Rattle.exh_page.specs.Page.{IsDivisible, IsLive, IsWellFormed, records_of, with_records}
use Rattle.exh_page.specs.Place.{place_of}
use Rattle.exh_page.specs.Records.{with_record}
use Rattle.exh_page.specs.Search.{IsStood}
use Rattle.exh_codec.specs.PageImage.{IsLaidOut}
use Rattle.exh_codec.specs.PageOf.{page_of}
use Rattle.exh_frames.specs.declared.image.Image.{Image}
use Rattle.exh_frames.specs.InPlace.{AreKeyed}

-- the page that a block is read as
abbrev pub page_at : (List ℕ → ℕ) → List ℕ → Page
page_at pseudo block = page_of written_version pseudo block

-- the page that an image is read as
abbrev pub page_in : (List ℕ → ℕ) → Image → Page
page_in pseudo image = page_at pseudo image.block

-- the image was laid out for that page
abbrev pub IsLaid : (List ℕ → ℕ) → Image → Type 0
IsLaid pseudo image = IsLaidOut written_version pseudo (page_in pseudo image) image.block

-- it has the pseudokeys of its page's records
abbrev pub IsKeyed : (List ℕ → ℕ) → Image → Type 0
IsKeyed pseudo image = AreKeyed (records_of (page_in pseudo image)) image.pseudokeys

-- the image was laid out for a page, is read as it, and has its records' pseudokeys
pub record Shows (pseudo : List ℕ → ℕ) (page : Page) (image : Image) : Type 0 where
  pub laid : IsLaidOut written_version pseudo page image.block
  pub read : page_in pseudo image ≡ page
  pub keyed : AreKeyed (records_of page) image.pseudokeys

-- the page with a record in its place
abbrev pub put_into : Record → Page → Page
put_into item page = with_records (with_record item (records_of page)) page

-- the page without the record of an index
abbrev pub taken_out : ℕ → Page → Page
taken_out index page = with_records (remove (records_of page) index) page

-- a live page's image, into which a record can be put, over the one that stands at a spot, if one has its place
pub record CanPut (pseudo : List ℕ → ℕ) (stood : Option Spot) (item : Record) (image : Image) : Type 0 where
  pub laid : IsLaid pseudo image
  pub keyed : IsKeyed pseudo image
  pub live : IsLive (page_in pseudo image)
  pub stands : IsStood (place_of item) (records_of (page_in pseudo image)) stood
  pub formed : IsWellFormed pseudo (put_into item (page_in pseudo image))

-- a live page's image, from which the record of an index can be taken
pub record CanLose (pseudo : List ℕ → ℕ) (index : ℕ) (image : Image) : Type 0 where
  pub laid : IsLaid pseudo image
  pub keyed : IsKeyed pseudo image
  pub live : IsLive (page_in pseudo image)
  pub within : index < length (records_of (page_in pseudo image))
  pub formed : IsWellFormed pseudo (taken_out index (page_in pseudo image))

-- a live page's image, which can be split, so that the left half links to the page of a number
pub record CanSplit (pseudo : List ℕ → ℕ) (right : ℕ) (image : Image) : Type 0 where
  pub laid : IsLaid pseudo image
  pub keyed : IsKeyed pseudo image
  pub words : AllByRecursion (λ r. r.pseudokey < 2 ^ 64) (records_of (page_in pseudo image))
  pub divisible : IsDivisible (page_in pseudo image)
  pub formed : IsWellFormed pseudo (left_half right (page_in pseudo image))
  pub right_formed : IsWellFormed pseudo (right_half (page_in pseudo image))

-- the images of two live pages, each with its records' pseudokeys, whose records a page of a parent can have
pub record CanUnite (pseudo : List ℕ → ℕ) (parent : List Bool) (image : Image) (other others : List ℕ) : Type 0 where
  pub laid : IsLaid pseudo image
  pub keyed : IsKeyed pseudo image
  pub other_laid : IsLaidOut written_version pseudo (page_at pseudo other) other
  pub other_keyed : AreKeyed (records_of (page_at pseudo other)) others
  pub live : IsLive (page_in pseudo image)
  pub other_live : IsLive (page_at pseudo other)
  pub formed : IsWellFormed pseudo (union parent (page_in pseudo image) (page_at pseudo other))

abbrev pub pages_in : (List ℕ → ℕ) → List Image → List Page
pages_in pseudo images = map (page_in pseudo) images

-- what holds of the images that a store has
pub record AreKept (pseudo : List ℕ → ℕ) (images : List Image) : Type 0 where
  pub few : length images < 2 ^ 32
  pub laid : AllByRecursion (IsLaid pseudo) images
  pub keyed : AllByRecursion (IsKeyed pseudo) images

-- what is seen of them: the pages, and the keyer under which they are read
pub record ImageList (K : Type 0) : Type 0 where
  pub keyer : K
  pub pages : List Page
