-- Ways from page to page.
use Rattle.std.proofs.Common.{◌≡◌, ℕ, ◌+◌, ◌<◌, ◌≤◌, Bool, cond, List, [], ◌∷◌, ◌++◌, map, take, slice_index, Option, Result, Ok, Err, refl, sym, ap, ◌∙◌, subst, arith}
use Rattle.std.specs.Prelude.{IfErr, IsErrAnd}
use Rattle.std.specs.List.{sum}
use Rattle.std.specs.Io.KnownBytes.{Appends}
use Rattle.std.proofs.KnownBytes.{Appends-trans}
use Rattle.std.proofs.lemmas.List.{map-append}
use Rattle.exh_keyer.specs.Pseudokey.{any_pseudokey}
use Rattle.std.proofs.lemmas.Bool.{le-leb}
use Rattle.exh_prefix.specs.Bits.{word_bits}
use Rattle.exh_prefix.specs.Prefix.{Begins, begins, low_of}
use Rattle.exh_prefix.specs.PrefixLemmas.{is_front-true, not_front}
use Rattle.exh_page.specs.declared.page.Page.{Page}
use Rattle.exh_page.specs.declared.page.Page.TheVariants.{Live}
use Rattle.exh_page.specs.declared.record.Record.{Record}
use Rattle.exh_format.specs.declared.header.Header.{Header}
use Rattle.exh_format.specs.FileVersion.{FileVersion}
use Rattle.exh_format.specs.FileTests.{PageFails}
use Rattle.exh_direct.specs.declared.direct_fault.DirectFault.{DirectFault}
use Rattle.exh_direct.specs.declared.direct_fault.DirectFault.TheVariants.{File, Astray, Read, Memory}
use Rattle.exh_direct.specs.declared.lead.Lead.TheVariants.{Home, Nowhere, To}
use Rattle.exh_direct.specs.DirectAnswer.{FailsAtEnd, IsPageIn, IsWay, pages_in, place_in, pseudokey_in, ward_in}
use Rattle.exh_direct.specs.KnownBlocks.{BlockFails, IsPageBlock}
use Rattle.exh_direct.specs.Way.{lead_of, lead_right}

-- ---- where a live page leads

not_beyond : (prefix : List Bool) (right : Option ℕ) (records : List Record) (pseudokey : ℕ) → low_of prefix ≤ pseudokey → lead_of (Live prefix right records) pseudokey ≡ cond (begins prefix pseudokey) Home (lead_right right)
not_beyond prefix right records pseudokey low = ap (λ (b : Bool). cond b (cond (begins prefix pseudokey) Home (lead_right right)) Nowhere) (le-leb (low_of prefix) pseudokey low)

pub leads_home : (prefix : List Bool) (right : Option ℕ) (records : List Record) (pseudokey : ℕ) → low_of prefix ≤ pseudokey → Begins prefix pseudokey → lead_of (Live prefix right records) pseudokey ≡ Home
leads_home prefix right records pseudokey low begun = not_beyond prefix right records pseudokey low ∙ ap (λ (b : Bool). cond b Home (lead_right right)) (is_front-true prefix (word_bits pseudokey) begun)

pub leads_right : (prefix : List Bool) (right : Option ℕ) (records : List Record) (pseudokey : ℕ) → low_of prefix ≤ pseudokey → (Begins prefix pseudokey → ⊥) → lead_of (Live prefix right records) pseudokey ≡ lead_right right
leads_right prefix right records pseudokey low not = not_beyond prefix right records pseudokey low ∙ ap (λ (b : Bool). cond b Home (lead_right right)) (not_front prefix (word_bits pseudokey) not)

-- ---- what was read, as the way has it

-- an error that is handed on
pub err_is : {T : Type 0} (result : Result T DirectFault) (fault : DirectFault) (P : DirectFault → Type 0) → IsErrAnd result (λ e. e ≡ fault) → P fault → IfErr result P
err_is (Ok value) fault P is holds = tt
err_is (Err e) fault P is holds = subst P (sym is) holds

pub place_there : (header : Header) (key : List ℕ) (ward before number : ℕ) → ward ≡ ward_in header key → before ≡ 1 + sum (take ward header.page_counts) → before + number ≡ place_in header key number
place_there header key ward before number same begins = omega (arith, begins, ap (λ (ward : ℕ). sum (take ward header.page_counts)) same)

pub reads_more : (a b c : Option (List ℕ)) (f : ℕ → ℕ) (way : List ℕ) (number place : ℕ) → place ≡ f number → Appends a b (map f way) → Appends b c (place ∷ []) → Appends a c (map f (way ++ number ∷ []))
reads_more a b c f way number place is first second =
    subst (Appends a c) (ap (λ (last : ℕ). map f way ++ last ∷ []) is ∙ sym (map-append f way (number ∷ []))) (Appends-trans a b c (map f way) (place ∷ []) first second)

module _ (version : FileVersion) (known now : Option (List ℕ)) (header : Header) (key : List ℕ) (whole ward before number : ℕ) (same : now ≡ known) (ward_is : ward ≡ ward_in header key) (begins : before ≡ 1 + sum (take ward header.page_counts)) (inside : number < slice_index header.page_counts ward) where
  pub inside_too : number < pages_in header key
  inside_too = subst (λ (ward : ℕ). number < slice_index header.page_counts ward) ward_is inside

  pub page_in : (page : Page) → IsPageBlock version.images (any_pseudokey header.settings.keyer) now (before + number) page → IsPageIn version known header key number page
  page_in page block = record {
    there = inside_too;
    is = subst (λ (place : ℕ). IsPageBlock version.images (any_pseudokey header.settings.keyer) known place page) (place_there header key ward before number ward_is begins)
        (subst (λ (now : Option (List ℕ)). IsPageBlock version.images (any_pseudokey header.settings.keyer) now (before + number) page) same block);
  }

  pub page_fails : (way : List ℕ) (fault : DirectFault) → BlockFails (PageFails version.images (any_pseudokey header.settings.keyer) (before + number)) now (before + number) fault → FailsAtEnd version known header key whole way number fault
  page_fails way (File fault) fails = (
    inside_too,
    subst (λ (place : ℕ). BlockFails (PageFails version.images (any_pseudokey header.settings.keyer) place) known place (File fault)) (place_there header key ward before number ward_is begins)
        (subst (λ (now : Option (List ℕ)). BlockFails (PageFails version.images (any_pseudokey header.settings.keyer) (before + number)) now (before + number) (File fault)) same fails),
  )
  page_fails way Astray fails = absurd fails
  page_fails way Read fails = tt
  page_fails way Memory fails = tt

-- ---- ways

module _ (version : FileVersion) (known : Option (List ℕ)) (header : Header) (key : List ℕ) where
  -- one page more
  pub way_more : (from : ℕ) (way : List ℕ) (number next : ℕ) (page : Page) → IsWay version known header key from way number → IsPageIn version known header key number page
      → lead_of page (pseudokey_in header key) ≡ To next → IsWay version known header key from (way ++ number ∷ []) next
  way_more from [] number next page way there leads = (sym way, page, there, next, leads, refl)
  way_more from (one ∷ way) number next page (same, first, is, after, on, rest) there leads = (same, first, is, after, on, way_more after way number next page rest there leads)
