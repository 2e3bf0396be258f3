-- Pages that are read one after the other.
use Rattle.std.proofs.Common.{◌≡◌, ℕ, ◌+◌, ◌<◌, ◌≤◌, List, [], ◌∷◌, ◌++◌, length, Option, None, Some, IfSome, Result, Ok, Err, refl, sym, ap, ◌∙◌, subst, append_assoc, append-nil, arith}
use Rattle.std.proofs.lemmas.List.{length-append}
use Rattle.std.proofs.lemmas.List.Concat.{flat_map-append}
use Rattle.std.specs.Prelude.{Bool, true, false, IfErr, IsErrAnd, IsErrOf, IsFalse, IsTrue}
use Rattle.std.specs.List.{flat_map}
use Rattle.std.specs.Io.KnownBytes.{Consumes}
use Rattle.std.proofs.KnownBytes.{Consumes-nil, Consumes-trans}
use Rattle.exh_prefix.specs.Version.{Version}
use Rattle.exh_page.specs.declared.page.Page.{Page}
use Rattle.exh_codec.specs.PageImage.{IsImage, IsPage}
use Rattle.exh_format.specs.declared.file_fault.FileFault.{FileFault}
use Rattle.exh_format.specs.declared.read_file_fault.ReadFileFault.{ReadFileFault}
use Rattle.exh_format.specs.declared.read_file_fault.ReadFileFault.TheVariants.{File, Memory, Read}
use Rattle.exh_format.specs.FileTests.{NextFails, PageFails}
use Rattle.exh_format.specs.PageFile.{page_block}
use Rattle.exh_format.specs.Reading.{AreBytes, FailsInPages, GivesPages, IsBlock, IsOf}
use Rattle.exh_prefix.specs.PrefixListLemmas.{AllByRecursion-append}

-- what fails of the bytes that are left fails so of all
pub of_later : (P Q : List ℕ → FileFault → Type 0) (known later : Option (List ℕ)) (fault : ReadFileFault) → ((fault : FileFault) → IfSome later (λ bytes. P bytes fault) → IfSome known (λ bytes. Q bytes fault))
    → IsOf P later fault → IsOf Q known fault
of_later P Q known later (File fault) step fails = step fault fails
of_later P Q known later Memory step fails = tt
of_later P Q known later Read step fails = tt

module _ (version : Version) (pseudo : List ℕ → ℕ) where
  pub no_pages : (known : Option (List ℕ)) → GivesPages version pseudo known known []
  no_pages known = record { given = Consumes-nil known; are_bytes = tt; valid = tt }

  pub more_pages : (a b c : Option (List ℕ)) (pages more : List Page) → GivesPages version pseudo a b pages → GivesPages version pseudo b c more → GivesPages version pseudo a c (pages ++ more)
  more_pages a b c pages more first second =
      let joined = flat_map-append page_block pages more in
      record {
        given = subst (Consumes a c) (sym joined) (Consumes-trans a b c (flat_map page_block pages) (flat_map page_block more) first.given second.given);
        are_bytes = subst AreBytes (sym joined) (AllByRecursion-append (λ (byte : ℕ). byte < 256) (flat_map page_block pages) (flat_map page_block more) first.are_bytes second.are_bytes);
        valid = AllByRecursion-append (IsPage version pseudo) pages more first.valid second.valid;
      }

  pub one_page : (a b : Option (List ℕ)) (page : Page) (block : List ℕ) → Consumes a b block → IsImage version pseudo page block → IsBlock block → GivesPages version pseudo a b (page ∷ [])
  unfolding page_block
  one_page a b page block given image is =
      let whole : block ≡ page_block page ++ [] = image.whole ∙ sym (append-nil (page_block page)) in
      record { given = subst (Consumes a b) whole given; are_bytes = subst AreBytes whole is.1; valid = (image.valid, tt) }

  -- bytes of which some pages were given, and what is left fails
  pub fails_next : (a b : Option (List ℕ)) (place count : ℕ) (pages : List Page) (fault : FileFault) → length pages < count → GivesPages version pseudo a b pages
      → IfSome b (λ bytes. NextFails (PageFails version pseudo (place + length pages)) bytes fault) → IfSome a (λ bytes. FailsInPages version pseudo place count bytes fault)
  fails_next None b place count pages fault fewer gives fails = tt
  fails_next (Some bytes) None place count pages fault fewer gives fails = absurd gives.given
  fails_next (Some bytes) (Some rest) place count pages fault fewer gives fails =
      record { pages = pages; rest = rest; fewer = fewer; whole = gives.given; are_bytes = gives.are_bytes; valid = gives.valid; fails = fails }

  pub fails_later : (a b : Option (List ℕ)) (place count next some : ℕ) (pages : List Page) (fault : FileFault) → GivesPages version pseudo a b pages → next ≡ place + length pages → length pages + some ≤ count
      → IfSome b (λ bytes. FailsInPages version pseudo next some bytes fault) → IfSome a (λ bytes. FailsInPages version pseudo place count bytes fault)
  fails_later None b place count next some pages fault gives place_is within fails = tt
  fails_later (Some bytes) None place count next some pages fault gives place_is within fails = absurd gives.given
  fails_later (Some bytes) (Some rest) place count next some pages fault gives place_is within fails =
      let joined = flat_map-append page_block pages fails.pages in
      let many = length-append pages fails.pages in
      let there : next + length fails.pages ≡ place + length (pages ++ fails.pages) = omega (arith, many, place_is) in
      record {
        pages = pages ++ fails.pages;
        rest = fails.rest;
        fewer = omega (arith, many, fails.fewer, within);
        whole = gives.given ∙ ap (λ (rest : List ℕ). flat_map page_block pages ++ rest) fails.whole ∙ sym (append_assoc (flat_map page_block pages) (flat_map page_block fails.pages) fails.rest)
            ∙ ap (λ (front : List ℕ). front ++ fails.rest) (sym joined);
        are_bytes = subst AreBytes (sym joined) (AllByRecursion-append (λ (byte : ℕ). byte < 256) (flat_map page_block pages) (flat_map page_block fails.pages) gives.are_bytes fails.are_bytes);
        valid = AllByRecursion-append (IsPage version pseudo) pages fails.pages gives.valid fails.valid;
        fails = subst (λ (place : ℕ). NextFails (PageFails version pseudo place) fails.rest fault) there fails.fails;
      }

-- what is answered, where a `?` hands on a fault
pub err_is : {T : Type 0} (r : Result T ReadFileFault) (fault : ReadFileFault) (P : ReadFileFault → Type 0) → IsErrAnd r (λ e. e ≡ fault) → P fault → IfErr r P
err_is (Ok x) fault P is p = tt
err_is (Err e) fault P is p = subst P (sym is) p

-- a read that gave a value didn't fail
pub still_open : {T : Type 0} (value : T) (failed : Bool) → (IsTrue failed → IsErrOf {T = T} (Ok value) Read) → IsFalse failed
still_open value true told = let is : Ok value ≡ Err Read = told refl in cc
still_open value false told = refl

pub not_failed : {T U : Type 0} (value : T) (other : U) (failed : Bool) → (IsTrue failed → IsErrOf {T = T} (Ok value) Read)
    → (IsErrOf {T = U} (Ok other) Read → IsTrue failed) × (IsTrue failed → IsErrOf {T = U} (Ok other) Read)
not_failed {U = U} value other failed told =
    (λ is. let never : Ok other ≡ Err Read = is in cc, λ fails. let is : Ok value ≡ Err Read = told fails in cc)

-- a fault that a `?` hands on is a failed read where it was one
pub failed_so : {T U : Type 0} (r : Result T ReadFileFault) (fault : ReadFileFault) (failed : Bool) → IsErrAnd r (λ e. e ≡ fault)
    → (IsErrOf {T = U} (Err fault) Read → IsTrue failed) × (IsTrue failed → IsErrOf {T = U} (Err fault) Read) → (IsErrOf r Read → IsTrue failed) × (IsTrue failed → IsErrOf r Read)
failed_so (Ok value) fault failed is told = absurd is
failed_so {T = T} {U = U} (Err other) fault failed is told = (
  λ fails. let here : ◌≡◌ {A = Result T ReadFileFault} (Err other) (Err Read) = fails in let same : fault ≡ Read = cc in told.0 (ap Err same),
  λ fails. let there : ◌≡◌ {A = Result U ReadFileFault} (Err fault) (Err Read) = told.1 fails in let same : other ≡ Read = cc in ap Err same,
)
