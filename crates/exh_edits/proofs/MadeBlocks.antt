-- Bytes by the blocks at their places.
use Rattle.std.proofs.Common.{◌≡◌, ◌≢◌, ℕ, zero, suc, ◌+◌, ◌*◌, ◌<◌, ◌≤◌, max, List, [], ◌∷◌, ◌++◌, length, take, drop, slice_get, Some, refl, sym, ap, ◌∙◌, inl, inr, append_assoc, subst, arith}
use Rattle.std.specs.List.{AllByRecursion, flat_map}
use Rattle.std.proofs.lemmas.Bool.{cases_eq}
use Rattle.std.proofs.lemmas.List.{drop-drop, length-append, length-drop, nil_from_length, take-append-drop, take_at}
use Rattle.exh_cells.specs.FileTests.{block_at}
use Rattle.exh_edits.specs.BlockEdits.{with_block}
use Rattle.exh_edits.specs.EditLaws.{StandsAt}
use Rattle.exh_edits.specs.EditsKeepOthers.{IsEditOf}
use Rattle.exh_edits.proofs.EditedBlocks.{block_stands, drop_next, length-edited, other_stands}

-- so many blocks, each of which is known by its place
pub record IsMadeOf (count : ℕ) (blocks : ℕ → List ℕ) (bytes : List ℕ) : Type 0 where
  pub len : length bytes ≡ 4096 * count
  pub each : (place : ℕ) → place < count → block_at place bytes ≡ blocks place

pub made_stands : (count : ℕ) (blocks : ℕ → List ℕ) (bytes : List ℕ) → IsMadeOf count blocks bytes → (place : ℕ) (block : List ℕ) → place < count → blocks place ≡ block → StandsAt bytes place block
made_stands count blocks bytes made place block within is = record { whole = omega (arith, made.len, length-drop (4096 * place) bytes, within); is = made.each place within ∙ is }

-- ---- one block after the other

pub made_none : (blocks : ℕ → List ℕ) → IsMadeOf 0 blocks []
made_none blocks = record { len = refl; each = λ place within. absurd (omega (arith, within)) }

pub made_next : (count : ℕ) (blocks later : ℕ → List ℕ) (block bytes : List ℕ) → length block ≡ 4096 → blocks 0 ≡ block → ((place : ℕ) → place < count → blocks (suc place) ≡ later place) → IsMadeOf count later bytes → IsMadeOf (suc count) blocks (block ++ bytes)
made_next count blocks later block bytes len first next made = record { len = omega (arith, length-append block bytes, len, made.len); each = each } where
  each : (place : ℕ) → place < suc count → block_at place (block ++ bytes) ≡ blocks place
  each zero within = take_at block bytes 4096 len ∙ sym first
  each (suc place) within = ap (take 4096) (drop_next place block bytes len) ∙ made.each place (omega (arith, within)) ∙ sym (next place (omega (arith, within)))

-- a block of each of some
pub made_before : {X : Type 0} (f : X → List ℕ) (xs : List X) (count total : ℕ) (blocks later : ℕ → List ℕ) (bytes : List ℕ) → total ≡ length xs + count → AllByRecursion (λ x. length (f x) ≡ 4096) xs
    → ((place : ℕ) (x : X) → slice_get xs place ≡ Some x → blocks place ≡ f x) → ((place : ℕ) → place < count → blocks (length xs + place) ≡ later place) → IsMadeOf count later bytes
    → IsMadeOf total blocks (flat_map f xs ++ bytes)
made_before f [] count total blocks later bytes all len own next made = record {
  len = omega (arith, all, made.len);
  each = λ place within.
      let same : 0 + place ≡ place = omega arith in
      let inside : place < count = omega (arith, all, within) in
      made.each place inside ∙ sym (next place inside) ∙ ap blocks same;
}
made_before f (x ∷ xs) count total blocks later bytes all len own next made =
    let rest = length xs + count in
    let is : suc rest ≡ total = omega (arith, all) in
    let more = made_before f xs count rest (λ (place : ℕ). blocks (suc place)) later bytes refl len.1 (λ place. own (suc place))
    (λ place within. (let same : suc (length xs + place) ≡ suc (length xs) + place = omega arith in ap blocks same ∙ next place within)) made in
    let whole = made_next rest blocks (λ (place : ℕ). blocks (suc place)) (f x) (flat_map f xs ++ bytes) len.0 (own 0 x refl) (λ place within. refl) more in
    subst (λ (bytes : List ℕ). IsMadeOf total blocks bytes) (sym (append_assoc (f x) (flat_map f xs) bytes)) (subst (λ (total : ℕ). IsMadeOf total blocks (f x ++ (flat_map f xs ++ bytes))) is whole)

-- ---- bytes of the same blocks are the same

behind_first : (count : ℕ) (blocks : ℕ → List ℕ) (bytes : List ℕ) → IsMadeOf (suc count) blocks bytes → IsMadeOf count (λ place. blocks (suc place)) (drop 4096 bytes)
behind_first count blocks bytes made = record {
  len = omega (arith, made.len, length-drop 4096 bytes);
  each = λ place within.
      let next : 4096 + 4096 * place ≡ 4096 * suc place = omega arith in
      ap (take 4096) (drop-drop (4096 * place) 4096 bytes ∙ ap (λ (n : ℕ). drop n bytes) next) ∙ made.each (suc place) (omega (arith, within));
}

pub made_same : (count : ℕ) (one other : ℕ → List ℕ) (bytes others : List ℕ) → IsMadeOf count one bytes → IsMadeOf count other others → ((place : ℕ) → place < count → one place ≡ other place) → bytes ≡ others
made_same zero one other bytes others first second same = nil_from_length bytes first.len ∙ sym (nil_from_length others second.len)
made_same (suc count) one other bytes others first second same =
    let some : 0 < suc count = omega arith in
    let front : take 4096 bytes ≡ take 4096 others = first.each 0 some ∙ same 0 some ∙ sym (second.each 0 some) in
    let rest = made_same count (λ (place : ℕ). one (suc place)) (λ (place : ℕ). other (suc place)) (drop 4096 bytes) (drop 4096 others) (behind_first count one bytes first) (behind_first count other others second)
    (λ place within. same (suc place) (omega (arith, within))) in
    sym (take-append-drop 4096 bytes) ∙ (λ i. front i ++ rest i) ∙ take-append-drop 4096 others

-- ---- edits

pub made_with : (count more : ℕ) (before blocks : ℕ → List ℕ) (bytes : List ℕ) (place : ℕ) (block : List ℕ) → IsMadeOf count before bytes → length block ≡ 4096 → place ≤ count → more ≡ max count (place + 1)
    → blocks place ≡ block → ((other : ℕ) → other < count → other ≢ place → blocks other ≡ before other) → IsMadeOf more blocks (with_block place block bytes)
made_with count more before blocks bytes place block made len within more_is is others =
    let edit : IsEditOf bytes place block = record { len = len; within = omega (arith, made.len, within) } in
    let each = λ (other : ℕ). λ (less : other < more). elim (cases_eq other place) as (λ e. block_at other (with_block place block bytes) ≡ blocks other) [
      | inl same ↦ ap (λ (n : ℕ). block_at n (with_block place block bytes)) same ∙ (block_stands bytes place block edit).is ∙ sym is ∙ ap blocks (sym same)
      | inr differs ↦
          let inside : other < count = omega (arith, less, more_is, differs, within) in
          (other_stands bytes place block edit other differs (omega (arith, made.len, inside, length-drop (4096 * other) bytes))).is ∙ made.each other inside ∙ sym (others other inside differs)
    ] in
    record { len = omega (arith, length-edited bytes place block edit, made.len, more_is); each = each }
