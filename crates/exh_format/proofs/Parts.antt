-- What a file's parts are worth, as the six reasons are asked of them.
use Rattle.std.proofs.Common.{◌≡◌, ℕ, ◌+◌, ◌-◌, ◌≤◌, Bool, false, List, [], ◌∷◌, ◌++◌, length, take, slice_get, None, Some, zero, suc, sym, ap, ◌∙◌, subst, append_assoc, length-append, arith}
use Rattle.std.specs.List.{AllByRecursion}
use Rattle.std.proofs.lemmas.List.{length-replicate, replicate-append-replicate, take_at}
use Rattle.exh_prefix.specs.Bits.{word_bits}
use Rattle.exh_prefix.specs.Prefix.{HasPrefixUpTo, zeros}
use Rattle.exh_prefix.specs.PrefixLemmas.{length-up_to}
use Rattle.exh_prefix.specs.declared.prefix.TheConstants.{LIMIT}
use Rattle.exh_prefix.specs.PrefixListLemmas.{AllByRecursion-append_left, AllByRecursion-append_right}
use Rattle.exh_prefix.specs.declared.version.Version.{Version as KnownVersion}
use Rattle.exh_prefix.specs.Layout.{layout}
use Rattle.exh_prefix.specs.LayoutLemmas.{layout_short}
use Rattle.exh_keyer.specs.Pseudokey.{any_pseudokey}
use Rattle.exh_legal.specs.declared.Page.{Page}
use Rattle.exh_legal.specs.declared.Page.TheVariants.{Live, Forward}
use Rattle.exh_legal.specs.Page.{IsWellFormed}
use Rattle.exh_legal.specs.MapLemmas.{page_at}
use Rattle.exh_codec.specs.PageImage.{IsBlockOf, IsImage, IsPage}
use Rattle.exh_format.specs.PageFile.{IsKnownFile, PageFile, pages_of}
use Rattle.exh_legal.specs.LegalParts.{IsBounded, OfEachWard}
use Rattle.exh_legal.specs.ReasonLaws.{AreFormed, IsLegalFile, LegalFilesPass}
use Rattle.exh_legal.specs.Reasons.{IsFirstReason}
use Rattle.exh_legal.specs.declared.reason.Reason.{Reason}
use Rattle.exh_format.specs.LegalFile.{parts_in}
use Rattle.exh_format.specs.LegalFileLemmas.{ranges_of}

-- ---- pages as readers give them

pages_within : (P : Page → Type 0) (wards : List (List Page)) (number : ℕ) (pages : List Page) → AllByRecursion P (pages_of wards) → slice_get wards number ≡ Some pages → AllByRecursion P pages
pages_within P [] number pages all there = cc
pages_within P (ward ∷ wards) zero pages all there = let same : ward ≡ pages = cc in subst (AllByRecursion P) same (AllByRecursion-append_left P ward (pages_of wards) all)
pages_within P (ward ∷ wards) (suc number) pages all there = pages_within P wards number pages (AllByRecursion-append_right P ward (pages_of wards) all) there

bounded : (version : KnownVersion) (pseudo : List ℕ → ℕ) (page : Page) → IsPage (layout version) pseudo page → IsBounded page
bounded version pseudo (Live prefix right records) valid = omega (arith, valid.in_range.0, layout_short version)
bounded version pseudo (Forward low target) valid = valid.in_range.0

-- bits that are zero past the first so many are zero past more of them
zero_past_more : (fewer more bits : ℕ) → fewer ≤ more → more ≤ 64 → HasPrefixUpTo fewer fewer bits → HasPrefixUpTo more more bits
zero_past_more fewer more bits less word stored =
    let front = take fewer (word_bits bits) in
    let filled = front ++ zeros (more - fewer) in
    let long : length front ≡ fewer = length-up_to fewer fewer bits (omega (arith, less, word)) stored in
    let count : more - fewer + (64 - more) ≡ 64 - fewer = omega (arith, less, word) in
    let parts : zeros (64 - fewer) ≡ zeros (more - fewer) ++ zeros (64 - more) = ap zeros (sym count) ∙ sym (replicate-append-replicate (more - fewer) (64 - more) false) in
    let whole : word_bits bits ≡ filled ++ zeros (64 - more) = stored.1 ∙ ap (λ (back : List Bool). front ++ back) parts ∙ sym (append_assoc front (zeros (more - fewer)) (zeros (64 - more))) in
    let many : length filled ≡ more = omega (arith, less, long, length-append front (zeros (more - fewer)), length-replicate (more - fewer) false) in
    let taken : take more (word_bits bits) ≡ filled = ap (take more) whole ∙ take_at filled (zeros (64 - more)) more many in
    (omega arith, whole ∙ ap (λ (begun : List Bool). begun ++ zeros (64 - more)) (sym taken))

pub formed : (version : KnownVersion) (pseudo : List ℕ → ℕ) (page : Page) → IsPage (layout version) pseudo page → IsWellFormed pseudo page
formed version pseudo (Live prefix right records) valid = valid.formed
formed version pseudo (Forward low target) valid = (valid.formed.0, zero_past_more (layout version).limit LIMIT low (layout_short version) (omega arith) valid.formed.1)

-- the page and its block are so in the version that is written
pub block_of : (version : KnownVersion) (pseudo : List ℕ → ℕ) (page : Page) (block : List ℕ) → IsImage (layout version) pseudo page block → IsBlockOf page block
block_of version pseudo (Live prefix right records) block image =
    let range = image.valid.in_range in
    record { in_range = (omega (arith, range.0, layout_short version), range.1, range.2); whole = image.whole }
block_of version pseudo (Forward low target) block image = record { in_range = image.valid.in_range; whole = image.whole }

pub pages_formed : (file : PageFile) → IsKnownFile file → OfEachWard (parts_in file) (λ ward table pages. AreFormed (any_pseudokey file.header.settings.keyer) pages)
pages_formed file (version, valid) number pages there =
    let pseudo = any_pseudokey file.header.settings.keyer in
    let all = pages_within (IsPage (layout version) pseudo) file.wards number pages valid.pages there in
    record {
      formed = λ number page is. formed version pseudo page (page_at (IsPage (layout version) pseudo) pages number page all is);
      bounded = λ number page is. bounded version pseudo page (page_at (IsPage (layout version) pseudo) pages number page all is);
    }

-- ---- legal where there is no reason, and only there

pub legal_without : LegalFilesPass → (file : PageFile) → IsKnownFile file → IsFirstReason (parts_in file) None → IsLegalFile (any_pseudokey file.header.settings.keyer) (parts_in file)
legal_without law file valid none = (law (any_pseudokey file.header.settings.keyer) (parts_in file) (ranges_of file valid)).0 (record { formed = pages_formed file valid; passed = none })

pub no_reason : LegalFilesPass → (file : PageFile) → IsKnownFile file → IsLegalFile (any_pseudokey file.header.settings.keyer) (parts_in file) → (reason : Reason) → IsFirstReason (parts_in file) (Some reason) → ⊥
no_reason law file valid legal reason first = first.0 (((law (any_pseudokey file.header.settings.keyer) (parts_in file) (ranges_of file valid)).1 legal).passed reason)
