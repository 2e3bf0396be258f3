-- The first fault, and a block that passes all tests.
use Rattle.std.proofs.Common.{◌≡◌, ◌≢◌, ℕ, List, [], ◌∷◌, ◌++◌, take, drop, Result, Ok, Err, refl, sym, ap, ◌∙◌}
use Rattle.std.specs.Prelude.{MatchResult, IfOk, IfErr}
use Rattle.std.proofs.lemmas.List.{take_at, drop_at, take-append-drop}
use Rattle.sha2.specs.Sha256.{sha256}
use Rattle.exh_page.specs.Version.{Version, Fits}
use Rattle.exh_page.specs.declared.page.Page.{Page}
use Rattle.exh_codec.specs.declared.image_fault.ImageFault.{ImageFault}
use Rattle.exh_codec.specs.declared.image_fault.ImageFault.TheVariants as faults
use Rattle.exh_codec.specs.Block.{sealed, IsSealed}
use Rattle.exh_codec.specs.ImageTests.{Passes, IsFirst, content_tests, image_tests}
use Rattle.exh_codec.specs.PageImage.{IsLaidOut, IsImage, content_of}
use Rattle.exh_codec.specs.ReadPages.{GivesPage}
use Rattle.exh_codec.specs.ImageTestLemmas.{none_first}
use Rattle.exh_codec.proofs.ImagesPass.{passes_content, one_page_laid}
use Rattle.exh_codec.proofs.UsedBytes.{length-content_of}

module _ (version : Version) (fits : Fits 8 version) where
  first_given : (pseudo : List ℕ → ℕ) (block : List ℕ) (fault : ImageFault) → GivesPage version pseudo block (Err fault) → fault ≢ faults.Memory → IsFirst (Passes version pseudo block) content_tests fault
  first_given pseudo block faults.Memory gives other = absurd (other refl)
  first_given pseudo block faults.Kind gives other = gives
  first_given pseudo block faults.Length gives other = gives
  first_given pseudo block faults.Order gives other = gives
  first_given pseudo block faults.Padding gives other = gives
  first_given pseudo block faults.Digest gives other = gives
  first_given pseudo block faults.Prefix gives other = gives

  pub fault_given : (pseudo : List ℕ → ℕ) (block : List ℕ) (result : Result Page ImageFault) → GivesPage version pseudo block result
      → IfErr result (λ fault. fault ≢ faults.Memory → IsFirst (Passes version pseudo block) content_tests fault)
  fault_given pseudo block (Ok page) gives = tt
  fault_given pseudo block (Err fault) gives = first_given pseudo block fault gives

  memory_alone : (pseudo : List ℕ → ℕ) (block : List ℕ) (page : Page) (fault : ImageFault) → IsLaidOut version pseudo page block → GivesPage version pseudo block (Err fault) → fault ≡ faults.Memory
  memory_alone pseudo block page faults.Memory laid gives = refl
  memory_alone pseudo block page faults.Kind laid gives = absurd (none_first _ _ _ gives (passes_content version fits pseudo page block laid))
  memory_alone pseudo block page faults.Length laid gives = absurd (none_first _ _ _ gives (passes_content version fits pseudo page block laid))
  memory_alone pseudo block page faults.Order laid gives = absurd (none_first _ _ _ gives (passes_content version fits pseudo page block laid))
  memory_alone pseudo block page faults.Padding laid gives = absurd (none_first _ _ _ gives (passes_content version fits pseudo page block laid))
  memory_alone pseudo block page faults.Digest laid gives = absurd (none_first _ _ _ gives (passes_content version fits pseudo page block laid))
  memory_alone pseudo block page faults.Prefix laid gives = absurd (none_first _ _ _ gives (passes_content version fits pseudo page block laid))

  pub only_given : (pseudo : List ℕ → ℕ) (block : List ℕ) (result : Result Page ImageFault) → GivesPage version pseudo block result → (page : Page) → IsLaidOut version pseudo page block
      → MatchResult result (λ found. found ≡ page) (λ fault. fault ≡ faults.Memory)
  only_given pseudo block (Ok found) gives page laid = one_page_laid version fits pseudo block found page gives laid
  only_given pseudo block (Err fault) gives page laid = memory_alone pseudo block page fault laid gives

module _ (version : Version) where
  -- ---- with the digest

  -- an image is laid out, and sealed
  pub image_parts : (pseudo : List ℕ → ℕ) (page : Page) (block : List ℕ) → IsImage version pseudo page block → IsLaidOut version pseudo page block × IsSealed block
  image_parts pseudo page block image =
      let len = length-content_of version pseudo page image.valid in
      let content : take 4064 block ≡ content_of page = ap (take 4064) image.whole ∙ take_at (content_of page) (sha256 (content_of page)) 4064 len in (
        record { valid = image.valid; content = content },
        ap (drop 4064) image.whole ∙ drop_at (content_of page) (sha256 (content_of page)) 4064 len ∙ ap sha256 (sym content),
      )

  pub image_from_parts : (pseudo : List ℕ → ℕ) (page : Page) (block : List ℕ) → IsLaidOut version pseudo page block → IsSealed block → IsImage version pseudo page block
  image_from_parts pseudo page block laid is_sealed = record {
    valid = laid.valid;
    whole = sym (take-append-drop 4064 block) ∙ ap (λ (digest : List ℕ). take 4064 block ++ digest) is_sealed ∙ ap sealed laid.content;
  }

  pub digest_first : (pseudo : List ℕ → ℕ) (block : List ℕ) → (IsSealed block → ⊥) → IsFirst (Passes version pseudo block) image_tests faults.Digest
  digest_first pseudo block fails = record { before = []; after = content_tests; stands = refl; passed = tt; fails = fails }

  -- the first of a content's tests is the first of an image's, where the digest is right
  pub later_first : (pseudo : List ℕ → ℕ) (block : List ℕ) (result : Result Page ImageFault) → IsSealed block
      → IfErr result (λ fault. fault ≢ faults.Memory → IsFirst (Passes version pseudo block) content_tests fault)
      → IfErr result (λ fault. fault ≢ faults.Memory → IsFirst (Passes version pseudo block) image_tests fault)
  later_first pseudo block (Ok page) is_sealed given = tt
  later_first pseudo block (Err fault) is_sealed given = λ other.
      let first = given other in
      record {
        before = faults.Digest ∷ first.before;
        after = first.after;
        stands = ap (λ (tests : List ImageFault). faults.Digest ∷ tests) first.stands;
        passed = (is_sealed, first.passed);
        fails = first.fails;
      }

  pub image_given : (pseudo : List ℕ → ℕ) (block : List ℕ) (result : Result Page ImageFault) → IsSealed block → IfOk result (λ page. IsLaidOut version pseudo page block) → IfOk result (λ page. IsImage version pseudo page block)
  image_given pseudo block (Ok page) is_sealed laid = image_from_parts pseudo page block laid is_sealed
  image_given pseudo block (Err fault) is_sealed laid = tt
