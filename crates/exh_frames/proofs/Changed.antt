-- The image of a page that is changed in place.
use Rattle.std.proofs.Common.{◌≡◌, ℕ, ◌^◌, ◌<◌, ◌≤◌, Bool, true, false, List, length, Option, subst, arith}
use Rattle.std.specs.Prelude.{IfSome}
use Rattle.std.specs.List.{AllByRecursion}
use Rattle.std.proofs.lemmas.List.{length_push}
use Rattle.exh_prefix.specs.Layout.{written_version}
use Rattle.exh_page.specs.declared.page.Page.{Page}
use Rattle.exh_page.specs.declared.page.Page.TheVariants.{Live, Forward}
use Rattle.exh_page.specs.declared.page_head.PageHead.TheVariants.{Live as LiveHead, Forward as ForwardHead}
use Rattle.exh_page.specs.declared.record.Record.{Record}
use Rattle.exh_page.specs.Halves.{left_half, link_of, right_half, union}
use Rattle.exh_page.specs.Page.{AreRecordsOf, IsDivisible, IsLive, IsWellFormed, records_of, with_records}
use Rattle.exh_page.specs.PageHead.{head_of}
use Rattle.exh_page.specs.Records.{IsRising}
use Rattle.exh_page.specs.ShareLemmas.{AreWords-hashed}
use Rattle.exh_codec.specs.CodecLaws.{BlocksAreRead}
use Rattle.exh_codec.specs.PageImage.{IsInRange, IsLaidOut}
use Rattle.exh_codec.specs.PageImageLemmas.{few_records}
use Rattle.exh_frames.specs.declared.image.Image.{Image}
use Rattle.exh_frames.specs.InPlace.{AreHashed, AreKeyed, HasContent}
use Rattle.exh_frames.specs.PageImages.{Shows}
use Rattle.exh_frames.proofs.Contents.{AreSized}
use Rattle.exh_frames.proofs.Kept.{written_fits}

module _ (pseudo : List ℕ → ℕ) where
  -- ---- what a laid-out block has, and what one is laid out for that has it

  sized_in : (page : Page) → IsLive page → IsInRange written_version page → AreSized (records_of page)
  sized_in (Live prefix right records) live in_range = in_range.2
  sized_in (Forward low target) live in_range = absurd live

  range_with : (records : List Record) (page : Page) → IsLive page → IsInRange written_version page → AreSized (records_of (with_records records page)) → IsInRange written_version (with_records records page)
  range_with records (Live prefix right old) live in_range sized = (in_range.0, in_range.1, sized)
  range_with records (Forward low target) live in_range sized = absurd live

  pub has_content : (page : Page) (block : List ℕ) → IsLive page → IsLaidOut written_version pseudo page block → HasContent block page
  has_content page block live laid = record {
    live = live;
    few = few_records written_version pseudo page laid.valid;
    sized = sized_in page live laid.valid.in_range;
    content = laid.content;
  }

  pub laid_with : (records : List Record) (page : Page) (old new : List ℕ) → IsLive page → IsLaidOut written_version pseudo page old → HasContent new (with_records records page) → IsWellFormed pseudo (with_records records page)
      → IsLaidOut written_version pseudo (with_records records page) new
  laid_with records page old new live laid has formed = record {
    valid = record { in_range = range_with records page live laid.valid.in_range has.sized; formed = formed };
    content = has.content;
  }

  -- ---- pages that are shown

  pub shown : BlocksAreRead → (page : Page) (image : Image) → IsLaidOut written_version pseudo page image.block → AreKeyed (records_of page) image.pseudokeys → Shows pseudo page image
  shown read page image laid keyed = record { laid = laid; read = read written_version written_fits pseudo page image.block laid; keyed = keyed }

  pub rising_in : (page : Page) → IsWellFormed pseudo page → IsRising (records_of page)
  rising_in (Live prefix right records) formed = formed.0.rising
  rising_in (Forward low target) formed = tt

  pub hashed_in : (page : Page) (pseudokeys : List ℕ) → IsWellFormed pseudo page → AreKeyed (records_of page) pseudokeys → AreHashed pseudokeys (records_of page)
  hashed_in page pseudokeys formed keyed = record { rising = rising_in page formed; keyed = keyed }

  pub words_in : ((key : List ℕ) → pseudo key < 2 ^ 64) → (page : Page) → IsWellFormed pseudo page → AllByRecursion (λ r. r.pseudokey < 2 ^ 64) (records_of page)
  words_in fits (Live prefix right records) formed = AreWords-hashed pseudo fits records formed.0.hashed
  words_in fits (Forward low target) formed = tt

  -- a live page, by its head
  pub live_as : (page : Page) (prefix : List Bool) (link : Option ℕ) (count : ℕ) → LiveHead prefix link count ≡ head_of page → page ≡ Live prefix link (records_of page)
  live_as (Live own right records) prefix link count is = cc
  live_as (Forward low target) prefix link count is = cc

  -- one that sends on, by its head
  pub forward_as : (page : Page) (low target : ℕ) → ForwardHead low target ≡ head_of page → page ≡ Forward low target
  forward_as (Live own right records) low target is = cc
  forward_as (Forward own to) low target is = cc

  pub live_divisible : (page : Page) → IsDivisible page → IsLive page
  live_divisible (Live prefix link records) divisible = tt
  live_divisible (Forward low target) divisible = absurd divisible

  -- a page that sends on isn't live
  pub live_head : (page : Page) (low target : ℕ) → IsLive page → ForwardHead low target ≡ head_of page → ⊥
  live_head (Live prefix link records) low target live is = cc
  live_head (Forward own to) low target live is = live

  pub short_as : (page : Page) (prefix : List Bool) (link : Option ℕ) (records : List Record) → page ≡ Live prefix link records → IsDivisible page → length prefix < 20
  short_as page prefix link records is divisible = subst IsDivisible is divisible

  pub are_as : (page : Page) (prefix : List Bool) (link : Option ℕ) (records : List Record) → page ≡ Live prefix link records → IsWellFormed pseudo page → AreRecordsOf pseudo prefix records
  are_as page prefix link records is formed = (subst (IsWellFormed pseudo) is formed).0

  pub laid_left : (page : Page) (right : ℕ) (block : List ℕ) → IsDivisible page → right < 2 ^ 32 → HasContent block (left_half right page) → IsWellFormed pseudo (left_half right page) → IsLaidOut written_version pseudo (left_half right page) block
  laid_left (Live prefix link records) right block divisible small has formed =
      record { valid = record { in_range = (omega (arith, divisible, length_push prefix false), small, has.sized); formed = formed }; content = has.content }
  laid_left (Forward low target) right block divisible small has formed = absurd divisible

  pub laid_right : (page : Page) (block : List ℕ) → IsDivisible page → IsInRange written_version page → HasContent block (right_half page) → IsWellFormed pseudo (right_half page) → IsLaidOut written_version pseudo (right_half page) block
  laid_right (Live prefix link records) block divisible in_range has formed =
      record { valid = record { in_range = (omega (arith, divisible, length_push prefix true), in_range.1, has.sized); formed = formed }; content = has.content }
  laid_right (Forward low target) block divisible in_range has formed = absurd divisible

  link_small : (twin : Page) → IsInRange written_version twin → IfSome (link_of twin) (λ page. page < 2 ^ 32)
  link_small (Live prefix link records) in_range = in_range.1
  link_small (Forward low target) in_range = tt

  pub laid_union : (parent : List Bool) (page twin : Page) (block : List ℕ) → length parent ≤ 20 → IsInRange written_version twin → HasContent block (union parent page twin) → IsWellFormed pseudo (union parent page twin)
      → IsLaidOut written_version pseudo (union parent page twin) block
  laid_union parent page twin block short in_range has formed = record { valid = record { in_range = (short, link_small twin in_range, has.sized); formed = formed }; content = has.content }
