-- What goes to a file, one after the other.
use Rattle.std.proofs.Common.{◌≡◌, ℕ, ◌+◌, List, [], ◌∷◌, ◌++◌, take, drop, slice_get, Some, Option, append-nil, sym, ap, ◌∙◌, subst}
use Rattle.std.specs.List.{flat_map}
use Rattle.std.proofs.lemmas.List.{map-append}
use Rattle.std.proofs.lemmas.List.Concat.{flat_map-append}
use Rattle.exh_prefix.specs.Version.{Version}
use Rattle.exh_keyer.specs.declared.any_keyer.AnyKeyer.{AnyKeyer}
use Rattle.exh_page.specs.declared.page.Page.{Page}
use Rattle.exh_format.specs.declared.file_entry.FileEntry.{FileEntry}
use Rattle.exh_format.specs.PageFile.{page_block, pages_of}
use Rattle.exh_stream.specs.Output.{Takes, TakesBeginning}
use Rattle.exh_stream.specs.OutputLemmas.{Takes-then, TakesBeginning-of_more, TakesBeginning-then}
use Rattle.exh_stream.specs.declared.output.Output.{Output}
use Rattle.exh_format.specs.Writing.{OnItsWay, TakesEntries, TakesEntriesBeginning}
use Rattle.exh_format.specs.WritingLemmas.{TakesEntries-then, TakesEntriesBeginning-then, TakesEntriesBeginning-of_more}
use Rattle.exh_ward.specs.WardState.{WardState}
use Rattle.exh_file.specs.Saved.{entries_of_all, entries_of, pages_of_all}
use Rattle.exh_file.proofs.Lists.{next_is, whole_is}

-- ---- blocks

module _ {W : Type 0} {contents : W → Option (List ℕ)} {A : Type 0} (F : List A → List ℕ) (joins : (front back : List A) → F (front ++ back) ≡ F front ++ F back) (xs : List A) (at : ℕ) (x : A) (is : slice_get xs at ≡ Some x) (y : List ℕ) (one : F (x ∷ []) ≡ y) where
  pub blocks_next : {old mid new : Output W} → Takes contents old mid (F (take at xs)) → Takes contents mid new y → Takes contents old new (F (take (at + 1) xs))
  blocks_next {old} {mid} {new} front here = subst (Takes contents old new) (sym (next_is F joins xs at x is y one)) (Takes-then front here)

  pub blocks_cut : {old mid new : Output W} → Takes contents old mid (F (take at xs)) → TakesBeginning contents mid new y → TakesBeginning contents old new (F xs)
  blocks_cut {old} {mid} {new} front here = subst (TakesBeginning contents old new) (whole_is F joins xs at x is y one) (TakesBeginning-of_more (F (drop (at + 1) xs)) (TakesBeginning-then front here))

-- ---- entries

module _ {W : Type 0} {contents : W → Option (List ℕ)} {version : Version} {A : Type 0} (F : List A → List FileEntry) (joins : (front back : List A) → F (front ++ back) ≡ F front ++ F back) (xs : List A) (at : ℕ) (x : A) (is : slice_get xs at ≡ Some x) (y : List FileEntry) (one : F (x ∷ []) ≡ y) where
  pub entries_next : {old mid new : OnItsWay W} → TakesEntries contents version old mid (F (take at xs)) → TakesEntries contents version mid new y → TakesEntries contents version old new (F (take (at + 1) xs))
  entries_next {old} {mid} {new} front here = subst (TakesEntries contents version old new) (sym (next_is F joins xs at x is y one)) (TakesEntries-then front here)

  pub entries_cut : {old mid new : OnItsWay W} → TakesEntries contents version old mid (F (take at xs)) → TakesEntriesBeginning contents version mid new y → TakesEntriesBeginning contents version old new (F xs)
  entries_cut {old} {mid} {new} front here = subst (TakesEntriesBeginning contents version old new) (whole_is F joins xs at x is y one) (TakesEntriesBeginning-of_more (F (drop (at + 1) xs)) (TakesEntriesBeginning-then front here))

-- ---- pages and entries of some wards and then of others

pub blocks_join : (front back : List Page) → flat_map page_block (front ++ back) ≡ flat_map page_block front ++ flat_map page_block back
blocks_join = flat_map-append page_block

pub one_page : (page : Page) → flat_map page_block (page ∷ []) ≡ page_block page
one_page page = append-nil (page_block page)

abbrev pub all_pages_in : List (WardState AnyKeyer) → List Page
all_pages_in wards = pages_of (pages_of_all wards)

pub pages_join : (front back : List (WardState AnyKeyer)) → all_pages_in (front ++ back) ≡ all_pages_in front ++ all_pages_in back
pages_join front back = ap pages_of (map-append (λ (ward : WardState AnyKeyer). ward.pages) front back) ∙ flat_map-append (λ (ward : List Page). ward) (pages_of_all front) (pages_of_all back)

pub one_ward : (ward : WardState AnyKeyer) → all_pages_in (ward ∷ []) ≡ ward.pages
one_ward ward = append-nil ward.pages

pub ward_blocks_join : (front back : List (WardState AnyKeyer)) → flat_map page_block (all_pages_in (front ++ back)) ≡ flat_map page_block (all_pages_in front) ++ flat_map page_block (all_pages_in back)
ward_blocks_join front back = ap (flat_map page_block) (pages_join front back) ∙ blocks_join (all_pages_in front) (all_pages_in back)

pub one_ward_blocks : (ward : WardState AnyKeyer) → flat_map page_block (all_pages_in (ward ∷ [])) ≡ flat_map page_block ward.pages
one_ward_blocks ward = ap (flat_map page_block) (one_ward ward)

pub entries_join : (front back : List (WardState AnyKeyer)) → entries_of_all (front ++ back) ≡ entries_of_all front ++ entries_of_all back
entries_join = flat_map-append entries_of

pub one_wards_entries : (ward : WardState AnyKeyer) → entries_of_all (ward ∷ []) ≡ entries_of ward
one_wards_entries ward = append-nil (entries_of ward)
