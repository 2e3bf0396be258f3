-- The keys and values of a page file are bytes, in their ranges, where the blocks of its pages are of bytes.
use Rattle.std.proofs.Common.{ℕ, ◌<◌, List, [], ◌∷◌, ◌++◌, length, map, subst}
use Rattle.std.specs.List.{AllByRecursion, flat_map}
use Rattle.std.specs.Prelude.{replicate, ◌-◌}
use Rattle.exh_prefix.specs.PrefixListLemmas.{AllByRecursion-append, AllByRecursion-append_left, AllByRecursion-append_right}
use Rattle.exh_keyer.specs.Pseudokey.{any_pseudokey}
use Rattle.exh_page.specs.KeyMap.{pair_of}
use Rattle.exh_page.specs.Page.{records_of}
use Rattle.exh_page.specs.declared.page.Page.{Page}
use Rattle.exh_page.specs.declared.page.Page.TheVariants.{Live, Forward}
use Rattle.exh_page.specs.declared.record.Record.{Record}
use Rattle.exh_codec.specs.Cells.{IsSizedPair, pair_image}
use Rattle.exh_codec.specs.PageImage.{IsPage, content_of, used_of}
use Rattle.exh_codec.specs.Head.{head_bytes, head_of}
use Rattle.exh_codec.specs.declared.block.TheConstants.{CONTENT_LEN}
use Rattle.sha2.specs.Sha256.{sha256}
use Rattle.exh_prefix.specs.Layout.{layout}
use Rattle.exh_prefix.specs.Version.{Version}
use Rattle.exh_format.specs.PageFile.{IsKnownFile, PageFile, page_block, pages_of}
use Rattle.exh_job.proofs.PairsText.{AreAllBytes, IsTellable}

-- what is made of each of some things is bytes, where all of it is
each_bytes : {A : Type 0} (f : A → List ℕ) (xs : List A) → AreAllBytes (flat_map f xs) → AllByRecursion (λ x. AreAllBytes (f x)) xs
each_bytes f [] all = tt
each_bytes f (x ∷ xs) all = (AllByRecursion-append_left (λ byte. byte < 256) (f x) (flat_map f xs) all, each_bytes f xs (AllByRecursion-append_right (λ byte. byte < 256) (f x) (flat_map f xs) all))

pairs_bytes : (page : Page) → AreAllBytes (page_block page) → AreAllBytes (flat_map pair_image (map pair_of (records_of page)))
unfolding page_block content_of
pairs_bytes page all =
    let pairs = flat_map pair_image (map pair_of (records_of page)) in
    let content = AllByRecursion-append_left (λ byte. byte < 256) (content_of page) (sha256 (content_of page)) all in
    let used = AllByRecursion-append_left (λ byte. byte < 256) (used_of page) (replicate (CONTENT_LEN - length (used_of page)) 0) content in
    AllByRecursion-append_right (λ byte. byte < 256) (head_bytes (head_of page)) pairs used

tellable : (r : Record) → AreAllBytes (pair_image (pair_of r)) → IsSizedPair (pair_of r) → IsTellable r
unfolding pair_image
tellable r all sized = record {
  key = AllByRecursion-append_left (λ byte. byte < 256) r.key r.value all.1.1;
  value = AllByRecursion-append_right (λ byte. byte < 256) r.key r.value all.1.1;
  sized = sized;
}

all_tellable : (records : List Record) → AllByRecursion (λ pair. AreAllBytes (pair_image pair)) (map pair_of records) → AllByRecursion IsSizedPair (map pair_of records) → AllByRecursion IsTellable records
all_tellable [] all sized = tt
all_tellable (r ∷ records) all sized = (tellable r all.0 sized.0, all_tellable records all.1 sized.1)

sized_of : (version : Version) (pseudo : List ℕ → ℕ) (page : Page) → IsPage version pseudo page → AllByRecursion IsSizedPair (map pair_of (records_of page))
sized_of version pseudo (Live prefix right records) is = is.in_range.2
sized_of version pseudo (Forward low target) is = tt

pages_tellable : (version : Version) (pseudo : List ℕ → ℕ) (pages : List Page) → AllByRecursion (λ page. AreAllBytes (page_block page)) pages → AllByRecursion (IsPage version pseudo) pages → AllByRecursion IsTellable (flat_map records_of pages)
pages_tellable version pseudo [] all are = tt
pages_tellable version pseudo (page ∷ pages) all are =
    AllByRecursion-append IsTellable (records_of page) (flat_map records_of pages)
    (all_tellable (records_of page) (each_bytes pair_image (map pair_of (records_of page)) (pairs_bytes page all.0)) (sized_of version pseudo page are.0))
    (pages_tellable version pseudo pages all.1 are.1)

pub file_tellable : (file : PageFile) → IsKnownFile file → AllByRecursion (λ page. AreAllBytes (page_block page)) (pages_of file.wards) → AllByRecursion IsTellable (flat_map records_of (pages_of file.wards))
file_tellable file valid blocks = pages_tellable (layout valid.0) (any_pseudokey file.header.settings.keyer) (pages_of file.wards) blocks valid.1.pages
