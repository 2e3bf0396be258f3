-- Bytes as blocks, one after the other, of which each is a page's or no page's.
use Rattle.std.proofs.Common.{◌≡◌, ℕ, zero, suc, ◌+◌, ◌*◌, ◌<◌, List, [], ◌∷◌, ◌++◌, Option, Some, None, flat_map, get_or, length, map, take, drop, refl, sym, ap, ◌∙◌, subst, append_assoc, arith}
use Rattle.std.proofs.lemmas.List.{drop-drop, drop_at, length-append, take_at}
use Rattle.exh_page.specs.declared.page.Page.{Page}
use Rattle.exh_codec.specs.Cells.{Pair}
use Rattle.exh_salvage.specs.Blocks.{block_at}
use Rattle.exh_salvage.specs.SavedBlock.{pairs_of}
use Rattle.exh_salvage.specs.Salvage.{IsSalvage}
use Rattle.exh_salvage.specs.WholeLaws.{IsWhole, Stands, WholeFilesAreSaved, pairs_within}
use Rattle.exh_salvage.specs.declared.salvage.Salvage.{Salvage}
use Rattle.exh_transfer.specs.SalvageLaws.{IsOfAll, SavesJust}

-- a block of a page, or of none
pub record IsBlockOf (one : Option Page) (block : List ℕ) : Type 0 where
  pub long : length block ≡ 4096
  pub stands : Stands one block

-- the blocks of these stand one after the other
abbrev pub AreBlocks : List (Option Page) → List ℕ → Type 0
AreBlocks [] bytes = bytes ≡ []
AreBlocks (one ∷ pages) bytes = (block : List ℕ) × (rest : List ℕ) × (bytes ≡ block ++ rest) × IsBlockOf one block × AreBlocks pages rest

pub one_block : (one : Option Page) (block rest : List ℕ) (pages : List (Option Page)) → IsBlockOf one block → AreBlocks pages rest → AreBlocks (one ∷ pages) (block ++ rest)
one_block one block rest pages is others = (block, rest, refl, is, others)

pub joined : (front back : List (Option Page)) (before after : List ℕ) → AreBlocks front before → AreBlocks back after → AreBlocks (front ++ back) (before ++ after)
joined [] back before after none others = subst (λ (front : List ℕ). AreBlocks back (front ++ after)) (sym none) others
joined (one ∷ front) back before after (block, rest, whole, is, more) others =
    (block, rest ++ after, ap (λ (bytes : List ℕ). bytes ++ after) whole ∙ append_assoc block rest after, is, joined front back rest after more others)

-- ---- a block by its place

pub all_blocks : (pages : List (Option Page)) (bytes : List ℕ) → AreBlocks pages bytes → length bytes ≡ 4096 * length pages
all_blocks [] bytes none = ap length none
all_blocks (one ∷ pages) bytes (block, rest, whole, is, more) = omega (arith, ap length whole, length-append block rest, is.long, all_blocks pages rest more)

pub stands_at : (pages : List (Option Page)) (bytes : List ℕ) → AreBlocks pages bytes → (place : ℕ) → place < length pages → Stands (get_or pages place None) (block_at place bytes)
stands_at [] bytes none place within = absurd (omega (arith, within))
stands_at (one ∷ pages) bytes (block, rest, whole, is, more) zero within =
    subst (Stands one) (sym (ap (take 4096) whole ∙ take_at block rest 4096 is.long)) is.stands
stands_at (one ∷ pages) bytes (block, rest, whole, is, more) (suc place) within =
    let split : 4096 * suc place ≡ 4096 + 4096 * place = omega arith in
    let later : drop (4096 * suc place) bytes ≡ drop (4096 * place) rest =
    ap (λ (n : ℕ). drop n bytes) split ∙ sym (drop-drop (4096 * place) 4096 bytes) ∙ ap (λ (bytes : List ℕ). drop (4096 * place) (drop 4096 bytes)) whole
    ∙ ap (drop (4096 * place)) (drop_at block rest 4096 is.long) in
    subst (Stands (get_or pages place None)) (sym (ap (take 4096) later)) (stands_at pages rest more place (omega (arith, within)))

-- ---- the pairs

pub pairs_of_some : (pages : List Page) → flat_map pairs_within (map Some pages) ≡ flat_map pairs_of pages
pairs_of_some [] = refl
pairs_of_some (page ∷ pages) = ap (λ (more : List Pair). pairs_of page ++ more) (pairs_of_some pages)

pub saved : WholeFilesAreSaved → (pages : List (Option Page)) (own : List Page) (bytes : List ℕ) (salvage : Salvage) → AreBlocks pages bytes → flat_map pairs_within pages ≡ flat_map pairs_of own
    → IsOfAll bytes salvage → SavesJust own salvage
saved whole pages own bytes salvage blocks pairs is =
    let count : is.count ≡ length pages = omega (arith, is.all, all_blocks pages bytes blocks) in
    let just : IsWhole pages salvage = whole is.failed bytes pages salvage (stands_at pages bytes blocks) (subst (λ (count : ℕ). IsSalvage is.failed bytes count salvage) count is.is) is.read in
    record { pairs = just.pairs ∙ pairs; lost = just.lost }
