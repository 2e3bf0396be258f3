-- Images of which one is written, or to which one is added.
use Rattle.std.proofs.Common.{◌≡◌, ℕ, zero, suc, ◌-◌, ◌^◌, ◌<◌, List, [], ◌∷◌, ◌++◌, length, set, take, get_or, slice_get, Option, None, Some, ◌≤◌, sym, ap, ◌∙◌, subst, arith, refl}
use Rattle.std.specs.Prelude.{IfOk, Result, Ok, Err}
use Rattle.std.specs.List.{AllByRecursion}
use Rattle.std.proofs.lemmas.List.{length-set, length-append, map-set, map-append, length-map}
use Rattle.std.specs.Option.{option_map}
use Rattle.std.proofs.lemmas.Option.{same_Some, slice_get-map, slice_get_read}
use Rattle.exh_prefix.specs.PrefixListLemmas.{AllByRecursion-push}
use Rattle.exh_prefix.specs.declared.version.TheConstants.{WRITTEN}
use Rattle.exh_prefix.specs.Version.{Fits}
use Rattle.exh_prefix.specs.Layout.{written_version}
use Rattle.exh_prefix.specs.LayoutLemmas.{layout_fits, fits_wider}
use Rattle.exh_page.specs.declared.page.Page.{Page}
use Rattle.exh_page.specs.declared.page.Page.TheVariants.{Live, Forward}
use Rattle.exh_page.specs.declared.record.Record.{Record}
use Rattle.exh_page.specs.Page.{IsLive, IsWellFormed, records_of, with_records}
use Rattle.exh_codec.specs.PageImage.{IsLaidOut}
use Rattle.exh_codec.specs.PageImageLemmas.{few_records}
use Rattle.exh_frames.specs.declared.image.Image.{Image}
use Rattle.exh_frames.specs.InPlace.{AreKeyed}
use Rattle.exh_frames.specs.PageImages.{AreKept, IsKeyed, IsLaid, Shows, page_in, pages_in}

-- a page's image has room for the prefixes of the version that is written
pub written_fits : Fits 8 written_version
written_fits = fits_wider 8 written_version (omega arith) (layout_fits WRITTEN)

-- a write among the first ones
pub set_front : (pages others : List Page) (number : ℕ) (page : Page) → number < length pages → set (pages ++ others) number page ≡ set pages number page ++ others
set_front [] others number page within = absurd (omega arith)
set_front (first ∷ pages) others zero page within = refl
set_front (first ∷ pages) others (suc number) page within = ap (λ (rest : List Page). first ∷ rest) (set_front pages others number page (omega arith))

-- what holds of all holds of the one of a number
pub all_at : {A : Type 0} (P : A → Type 0) (items : List A) (number : ℕ) (item : A) → AllByRecursion P items → slice_get items number ≡ Some item → P item
all_at P [] number item all there = cc
all_at P (first ∷ items) zero item all there = subst P (same_Some first item there) all.0
all_at P (first ∷ items) (suc number) item all there = all_at P items number item all.1 there

-- a page that is given as the one that stands there
pub page_given : {E : Type 0} (pages : List Page) (number : ℕ) (own : Page) (result : Result Page E) → slice_get pages number ≡ Some own → IfOk result (λ (page : Page). page ≡ own) → IfOk result (λ (page : Page). slice_get pages number ≡ Some page)
page_given pages number own (Ok page) there is = there ∙ ap Some (sym is)
page_given pages number own (Err fault) there is = tt

module _ (pseudo : List ℕ → ℕ) where
  all_set : (P : Image → Type 0) (images : List Image) (number : ℕ) (image : Image) → P image → AllByRecursion P images → AllByRecursion P (set images number image)
  all_set P [] number image new all = tt
  all_set P (first ∷ images) zero image new all = (new, all.1)
  all_set P (first ∷ images) (suc number) image new all = (all.0, all_set P images number image new all.1)

  laid_as : (image : Image) (page : Page) → IsLaidOut written_version pseudo page image.block → page_in pseudo image ≡ page → IsLaid pseudo image
  laid_as image page laid read = subst (λ (p : Page). IsLaidOut written_version pseudo p image.block) (sym read) laid

  keyed_as : (image : Image) (page : Page) → Shows pseudo page image → IsKeyed pseudo image
  keyed_as image page shows = subst (λ (p : Page). AreKeyed (records_of p) image.pseudokeys) (sym shows.read) shows.keyed

  pub kept_set : (images : List Image) (number : ℕ) (image : Image) (page : Page) → Shows pseudo page image → AreKept pseudo images → AreKept pseudo (set images number image)
  kept_set images number image page shows kept = record {
    few = omega (arith, kept.few, length-set images number image);
    laid = all_set (IsLaid pseudo) images number image (laid_as image page shows.laid shows.read) kept.laid;
    keyed = all_set (IsKeyed pseudo) images number image (keyed_as image page shows) kept.keyed;
  }

  pub pages_set : (images : List Image) (number : ℕ) (image : Image) (page : Page) → page_in pseudo image ≡ page → pages_in pseudo (set images number image) ≡ set (pages_in pseudo images) number page
  pages_set images number image page read = map-set (page_in pseudo) images number image ∙ ap (set (pages_in pseudo images) number) read

  pub kept_added : (images : List Image) (image : Image) (page : Page) → length (pages_in pseudo images) < 2 ^ 32 - 1 → Shows pseudo page image → AreKept pseudo images → AreKept pseudo (images ++ image ∷ [])
  kept_added images image page room shows kept = record {
    few = omega (arith, room, length-map images (page_in pseudo), length-append images (image ∷ []));
    laid = AllByRecursion-push (IsLaid pseudo) images image kept.laid (laid_as image page shows.laid shows.read);
    keyed = AllByRecursion-push (IsKeyed pseudo) images image kept.keyed (keyed_as image page shows);
  }

  pub pages_added : (images : List Image) (image : Image) (page : Page) → page_in pseudo image ≡ page → pages_in pseudo (images ++ image ∷ []) ≡ pages_in pseudo images ++ page ∷ []
  pages_added images image page read = map-append (page_in pseudo) images (image ∷ []) ∙ ap (λ (p : Page). pages_in pseudo images ++ p ∷ []) read

  -- ---- the image of a number

  pub laid_at : (images : List Image) (number : ℕ) (image : Image) (page : Page) → number < length (pages_in pseudo images) → image ≡ get_or images number image → AreKept pseudo images → slice_get (pages_in pseudo images) number ≡ Some page
      → IsLaidOut written_version pseudo page image.block
  laid_at images number image page within read kept there =
      let here : slice_get images number ≡ Some image = slice_get_read images (length images) number image refl (omega (arith, within, length-map images (page_in pseudo))) read in
      let same : page_in pseudo image ≡ page = same_Some (page_in pseudo image) page (sym (slice_get-map (page_in pseudo) images number ∙ ap (option_map (page_in pseudo)) here) ∙ there) in
      subst (λ (p : Page). IsLaidOut written_version pseudo p image.block) same (all_at (IsLaid pseudo) images number image kept.laid here)

  -- and what it is read as
  pub kept_at : (images : List Image) (number : ℕ) (image : Image) → number < length (pages_in pseudo images) → image ≡ get_or images number image → AreKept pseudo images
      → (slice_get (pages_in pseudo images) number ≡ Some (page_in pseudo image)) × IsLaidOut written_version pseudo (page_in pseudo image) image.block × AreKeyed (records_of (page_in pseudo image)) image.pseudokeys
  kept_at images number image within read kept =
      let here : slice_get images number ≡ Some image = slice_get_read images (length images) number image refl (omega (arith, within, length-map images (page_in pseudo))) read in
      (slice_get-map (page_in pseudo) images number ∙ ap (option_map (page_in pseudo)) here, all_at (IsLaid pseudo) images number image kept.laid here, all_at (IsKeyed pseudo) images number image kept.keyed here)

  -- blocks of one content are laid out alike
  pub laid_alike : (page : Page) (one other : List ℕ) → take 4064 other ≡ take 4064 one → IsLaidOut written_version pseudo page one → IsLaidOut written_version pseudo page other
  laid_alike page one other same laid = record { valid = laid.valid; content = same ∙ laid.content }

  -- ---- an image that is turned into another

  -- what it is read as is the page of its number
  pub read_at : (images : List Image) (number : ℕ) (image : Image) (page : Page) → number < length (pages_in pseudo images) → image ≡ get_or images number image → AreKept pseudo images → slice_get (pages_in pseudo images) number ≡ Some page
      → page_in pseudo image ≡ page
  read_at images number image page within read kept there = same_Some (page_in pseudo image) page (sym (kept_at images number image within read kept).0 ∙ there)

  pub kept_turned : (images : List Image) (number : ℕ) (image : Image) (page : Page) → Shows pseudo page image → AreKept pseudo images → AreKept pseudo (set images number image)
  kept_turned images number image page shows kept = kept_set images number image page shows kept

  pub pages_turned : (images : List Image) (number : ℕ) (image : Image) (page : Page) → Shows pseudo page image → pages_in pseudo (set images number image) ≡ set (pages_in pseudo images) number page
  pages_turned images number image page shows = pages_set images number image page shows.read

  pub kept_both : (images : List Image) (number other : ℕ) (image twin : Image) (page half : Page) → Shows pseudo page image → Shows pseudo half twin → AreKept pseudo images → AreKept pseudo (set (set images number image) other twin)
  kept_both images number other image twin page half shows shows_half kept = kept_turned (set images number image) other twin half shows_half (kept_turned images number image page shows kept)

  pub pages_both : (images : List Image) (number other : ℕ) (image twin : Image) (page half : Page) → Shows pseudo page image → Shows pseudo half twin
      → pages_in pseudo (set (set images number image) other twin) ≡ set (set (pages_in pseudo images) number page) other half
  pages_both images number other image twin page half shows shows_half =
      pages_turned (set images number image) other twin half shows_half ∙ ap (λ (l : List Page). set l other half) (pages_turned images number image page shows)

  few_in : (images : List Image) (number : ℕ) (page : Page) (found : Option Image) → slice_get images number ≡ found → AreKept pseudo images → option_map (page_in pseudo) found ≡ Some page → length (records_of page) ≤ 16
  few_in images number page None here kept there = cc
  few_in images number page (Some image) here kept there =
      let laid = all_at (IsLaid pseudo) images number image kept.laid here in
      subst (λ (p : Page). length (records_of p) ≤ 16) (same_Some (page_in pseudo image) page there) (few_records written_version pseudo (page_in pseudo image) laid.valid)

  -- no page has more records than there may be
  pub few_at : (images : List Image) (number : ℕ) (page : Page) → AreKept pseudo images → slice_get (pages_in pseudo images) number ≡ Some page → length (records_of page) ≤ 16
  few_at images number page kept there = few_in images number page (slice_get images number) refl kept (sym (slice_get-map (page_in pseudo) images number) ∙ there)

  pub room_in : (records : List Record) (page : Page) → IsLive page → IsWellFormed pseudo (with_records records page) → length records ≤ 16
  room_in records (Live prefix right old) live formed = formed.1
  room_in records (Forward low target) live formed = absurd live
