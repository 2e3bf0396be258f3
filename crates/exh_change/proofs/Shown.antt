-- The blocks of a file with edits.
use Rattle.std.proofs.Common.{◌≡◌, ℕ, suc, ◌+◌, ◌/◌, ◌≤◌, max, List, [], ◌∷◌, ◌++◌, length, slice_set, Option, None, Some, inl, inr, refl, sym, ap, ◌∙◌, subst, arith}
use Rattle.exh_format.specs.FileTests.{IsWhole, block_at}
use Rattle.exh_direct.specs.KnownBlocks.{IsBlockAt, IsCount}
use Rattle.exh_edits.specs.declared.block_edit.BlockEdit.{BlockEdit}
use Rattle.exh_edits.specs.BlockEdits.{with_block, with_edits}
use Rattle.exh_edits.specs.EditLists.{AreEditsOf, AreEditsTo, EditedBlocksAreFound, EditsArePushed, EditsArePut, HaveOwnPlaces, IsUnedited, UneditedAreKept}
use Rattle.exh_edits.specs.EditsInTurn.{AreInTurn}
use Rattle.exh_edits.specs.EditsKeepOthers.{IsEditOf, LengthsGrow}
use Rattle.std.specs.Option.{option_map}
use Rattle.exh_change.specs.Index.{AreOfBlocks, HasBlock, IsPut}
use Rattle.exh_change.specs.Overlay.{shown}

-- edits in turn over bytes with so many whole blocks are edits of them, and leave as many as is told
pub in_turn_edits : LengthsGrow → (edits : List BlockEdit) (first count : ℕ) (bytes : List ℕ) → first ≡ length bytes / 4096 → AreInTurn first edits count → AreOfBlocks edits
    → AreEditsOf bytes edits × (count ≡ length (with_edits edits bytes) / 4096)
in_turn_edits grow [] first count bytes first_is turn blocks = (tt, turn ∙ first_is)
in_turn_edits grow (edit ∷ edits) first count bytes first_is turn blocks =
    let here : IsEditOf bytes edit.place edit.block = record { len = blocks 0 edit refl; within = omega (arith, turn.0, first_is) } in
    let long = grow bytes edit.place edit.block here in
    let next : max first (edit.place + 1) ≡ length (with_block edit.place edit.block bytes) / 4096 = omega (arith, long, first_is) in
    let rest = in_turn_edits grow edits (max first (edit.place + 1)) count (with_block edit.place edit.block bytes) next turn.1 (λ index other there. blocks (suc index) other there) in
    ((here, rest.0), rest.1)

-- the count of blocks
pub shown_count : LengthsGrow → (known : Option (List ℕ)) (edits : List BlockEdit) (first count : ℕ) → IsCount known first → AreInTurn first edits count → AreOfBlocks edits → IsCount (shown known edits) count
shown_count grow None edits first count counted turn blocks = tt
shown_count grow (Some bytes) edits first count counted turn blocks = (in_turn_edits grow edits first count bytes counted turn blocks).1

made_of : LengthsGrow → (edits : List BlockEdit) (first count : ℕ) (bytes : List ℕ) → first ≡ length bytes / 4096 → AreInTurn first edits count → AreOfBlocks edits → AreEditsTo bytes edits (with_edits edits bytes)
made_of grow edits first count bytes first_is turn blocks = record { valid = (in_turn_edits grow edits first count bytes first_is turn blocks).0; whole = refl }

-- an edited block
pub shown_block : LengthsGrow → EditedBlocksAreFound → (known : Option (List ℕ)) (edits : List BlockEdit) (first count place : ℕ) (block : List ℕ) → IsCount known first → AreInTurn first edits count → AreOfBlocks edits → HaveOwnPlaces edits
    → HasBlock edits place block → IsBlockAt (shown known edits) place block
shown_block grow law None edits first count place block counted turn blocks own has = tt
shown_block grow law (Some bytes) edits first count place block counted turn blocks own (index, edit, there, same, is) =
    let stands = law bytes edits (with_edits edits bytes) index edit (made_of grow edits first count bytes counted turn blocks) own there in
    subst (λ (place : ℕ). IsWhole place (with_edits edits bytes) × (block ≡ block_at place (with_edits edits bytes))) same (stands.whole, sym is ∙ sym stands.is)

-- another one
pub kept_block : LengthsGrow → UneditedAreKept → (known under : Option (List ℕ)) (edits : List BlockEdit) (first count place : ℕ) (block : List ℕ) → IsCount known first → AreInTurn first edits count → AreOfBlocks edits
    → IsUnedited place edits → under ≡ known → IsBlockAt under place block → IsBlockAt (shown known edits) place block
kept_block grow law None under edits first count place block counted turn blocks none same is = tt
kept_block grow law (Some bytes) under edits first count place block counted turn blocks none same is =
    let kept = law bytes edits (with_edits edits bytes) place (made_of grow edits first count bytes counted turn blocks) none in
    let read : IsWhole place bytes × (block ≡ block_at place bytes) = subst (λ (known : Option (List ℕ)). IsBlockAt known place block) same is in
    (kept.whole.0 read.0, read.1 ∙ sym kept.is)

-- ---- an edit more

edits_push : (edits : List BlockEdit) (edit : BlockEdit) (bytes : List ℕ) → with_edits (edits ++ edit ∷ []) bytes ≡ with_block edit.place edit.block (with_edits edits bytes)
edits_push [] edit bytes = refl
edits_push (first ∷ edits) edit bytes = edits_push edits edit (with_block first.place first.block bytes)

pub shown_push : (known : Option (List ℕ)) (edits : List BlockEdit) (edit : BlockEdit) → option_map (with_block edit.place edit.block) (option_map (with_edits edits) known) ≡ option_map (with_edits (edits ++ edit ∷ [])) known
shown_push None edits edit = refl
shown_push (Some bytes) edits edit = ap (λ (bytes : List ℕ). Some bytes) (sym (edits_push edits edit bytes))

module _ (grow : LengthsGrow) (pushed_law : EditsArePushed) (put_law : EditsArePut) (old new : List BlockEdit) (first count : ℕ) (edit : BlockEdit) (turn : AreInTurn first old count) (blocks : AreOfBlocks old) (own : HaveOwnPlaces old) (within : edit.place ≤ count) (len : length edit.block ≡ 4096) where
  put_bytes : (bytes : List ℕ) → first ≡ length bytes / 4096 → IsPut old edit new → with_edits new bytes ≡ with_block edit.place edit.block (with_edits old bytes)
  put_bytes bytes first_is (inl again) =
      let old_edit = again.there.0 in
      let to = put_law bytes old (with_edits old bytes) again.index old_edit edit.block (made_of grow old first count bytes first_is turn blocks) own again.there.1 len in
      let here = subst (λ (place : ℕ). with_edits (slice_set old again.index (record { place = place; block = edit.block })) bytes ≡ with_block place edit.block (with_edits old bytes)) again.there.2 to.whole in
      ap (λ (new : List BlockEdit). with_edits new bytes) again.is ∙ here
  put_bytes bytes first_is (inr pushed) =
      ap (λ (new : List BlockEdit). with_edits new bytes) pushed.is ∙ edits_push old edit bytes

  pub shown_put : (known : Option (List ℕ)) → IsCount known first → IsPut old edit new → shown known new ≡ option_map (with_block edit.place edit.block) (shown known old)
  shown_put None counted put = refl
  shown_put (Some bytes) counted put = ap (λ (bytes : List ℕ). Some bytes) (put_bytes bytes counted put)

pub shown_none : (known : Option (List ℕ)) → known ≡ option_map (with_edits []) known
shown_none None = refl
shown_none (Some bytes) = refl
