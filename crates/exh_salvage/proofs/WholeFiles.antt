-- Of bytes whose blocks are pages and others with their digests just the pages' pairs are saved, and no block is lost.
use Rattle.std.proofs.Common.{◌≡◌, ℕ, zero, suc, ◌<◌, ◌≤◌, inl, inr, Bool, List, [], ◌∷◌, ◌++◌, Option, Some, None, flat_map, get_or, length, map, take, refl, sym, ap, ◌∙◌, subst, arith, append-nil}
use Rattle.std.proofs.lemmas.List.{map-append}
use Rattle.std.proofs.lemmas.List.Concat.{flat_map-append}
use Rattle.std.proofs.Math.Seq.{take-suc, take-length}
use Rattle.exh_prefix.specs.Layout.{layout}
use Rattle.exh_keyer.specs.Pseudokey.{any_pseudokey}
use Rattle.exh_page.specs.Page.{records_of}
use Rattle.exh_page.specs.declared.page.Page.{Page}
use Rattle.exh_page.specs.declared.page.Page.TheVariants.{Live, Forward}
use Rattle.exh_page.specs.declared.record.Record.{Record}
use Rattle.exh_page.specs.KeyMap.{pair_of}
use Rattle.exh_codec.specs.Cells.{Pair}
use Rattle.exh_codec.specs.CodecLaws.{BlocksAreRead, ImagesAreSealed}
use Rattle.exh_salvage.specs.Blocks.{block_at}
use Rattle.exh_salvage.specs.SavedBlock.{IsNoPage, pairs_of, saved_pair, saved_pairs}
use Rattle.exh_salvage.specs.Salvage.{IsSalvage, IsSavedBlock}
use Rattle.exh_salvage.specs.WholeLaws.{IsPageOfAny, IsWhole, Stands, both_of, pairs_within}
use Rattle.exh_salvage.specs.declared.salvage.Salvage.{Salvage}
use Rattle.exh_salvage.proofs.SavedPages.{live_page, same_pairs}

both_back : (place : ℕ) (records : List Record) → map both_of (map (saved_pair place) records) ≡ map pair_of records
both_back place [] = refl
both_back place (r ∷ records) = ap (λ (more : List Pair). pair_of r ∷ more) (both_back place records)

-- a page that is no page's in version 2 has no pairs
none_of : (page : Page) (block : List ℕ) → IsPageOfAny page block → IsNoPage block → [] ≡ pairs_of page
none_of (Live prefix right records) block is none = absurd (none (Live prefix right records) (live_page is.version is.keyer prefix right records block is.image))
none_of (Forward low target) block is none = refl

-- with one block more
record Grows (one : Option Page) (before after : Salvage) : Type 0 where
  pub pairs : map both_of after.pairs.items ≡ map both_of before.pairs.items ++ pairs_within one
  pub lost : after.lost ≡ before.lost
  pub unread : after.unread ≡ before.unread

stays : (one : Option Page) (before after : Salvage) → after ≡ before → [] ≡ pairs_within one → Grows one before after
stays one before after same none = record {
  pairs = ap (λ (salvage : Salvage). map both_of salvage.pairs.items) same ∙ sym (append-nil (map both_of before.pairs.items)) ∙ ap (λ (more : List Pair). map both_of before.pairs.items ++ more) none;
  lost = ap (λ (salvage : Salvage). salvage.lost) same;
  unread = ap (λ (salvage : Salvage). salvage.unread) same;
}

module _ (sealed : ImagesAreSealed) (read : BlocksAreRead) where
  grown : (one : Option Page) (block : List ℕ) (place : ℕ) (before after : Salvage) → Stands one block → IsSavedBlock block place before after → Grows one before after
  grown (Some page) block place before after is (inl (other, other_is, added)) = record {
    pairs = ap (map both_of) added.pairs ∙ map-append both_of before.pairs.items (saved_pairs place other)
        ∙ ap (λ (more : List Pair). map both_of before.pairs.items ++ more) (both_back place (records_of other) ∙ same_pairs sealed read is.version (any_pseudokey is.keyer) page other block is.image other_is);
    lost = added.lost;
    unread = added.unread;
  }
  grown (Some page) block place before after is (inr (inl (right, none, same))) = stays (Some page) before after same (none_of page block is none)
  grown (Some page) block place before after is (inr (inr (wrong, noted))) = absurd (wrong ((sealed (layout is.version) (any_pseudokey is.keyer) page block).0 is.image).1)
  grown None block place before after is (inl (other, other_is, added)) = absurd (is.1 other other_is)
  grown None block place before after is (inr (inl (right, none, same))) = stays None before after same refl
  grown None block place before after is (inr (inr (wrong, noted))) = absurd (wrong is.0)

  module _ (failed : ℕ → Bool) (bytes : List ℕ) (pages : List (Option Page)) (stand : (place : ℕ) → place < length pages → Stands (get_or pages place None) (block_at place bytes)) where
    behind : (count : ℕ) (before after : Salvage) → count < length pages → Grows (get_or pages count None) before after → IsWhole (take count pages) before → IsWhole (take (suc count) pages) after
    behind count before after less grows was = record {
      pairs = grows.pairs ∙ ap (λ (front : List Pair). front ++ pairs_within (get_or pages count None)) was.pairs
          ∙ ap (λ (more : List Pair). flat_map pairs_within (take count pages) ++ more) (sym (append-nil (pairs_within (get_or pages count None))))
          ∙ sym (flat_map-append pairs_within (take count pages) (get_or pages count None ∷ []))
          ∙ ap (flat_map pairs_within) (sym (take-suc pages count None less));
      lost = grows.lost ∙ was.lost;
    }

    up_to : (count : ℕ) → count ≤ length pages → (salvage : Salvage) → IsSalvage failed bytes count salvage → salvage.unread ≡ 0 → IsWhole (take count pages) salvage
    up_to zero within salvage is none = record { pairs = ap (map both_of) is.pairs; lost = is.lost }
    up_to (suc count) within salvage (before, so_far, inl (whole, saved)) none =
        let less : count < length pages = omega (arith, within) in
        let grows : Grows (get_or pages count None) before salvage = grown (get_or pages count None) (block_at count bytes) count before salvage (stand count less) saved in
        behind count before salvage less grows (up_to count (omega (arith, within)) before so_far (sym grows.unread ∙ none))
    up_to (suc count) within salvage (before, so_far, inr (lost, noted)) none = absurd (omega (arith, noted.unread, none))

    pub whole_file : (salvage : Salvage) → IsSalvage failed bytes (length pages) salvage → salvage.unread ≡ 0 → IsWhole pages salvage
    whole_file salvage is none = subst (λ (front : List (Option Page)). IsWhole front salvage) (take-length pages) (up_to (length pages) (omega arith) salvage is none)
