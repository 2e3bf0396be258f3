-- Edits of a file's blocks as they are put: what is edited again, and what stands where after them.
use Rattle.std.proofs.Common.{◌≡◌, ℕ, zero, suc, ◌+◌, ◌*◌, ◌<◌, ◌≤◌, max, nat_eq, true, false, ◌||◌, Bool, List, [], ◌∷◌, ◌++◌, length, Some, slice_get, slice_set, refl, sym, ap, ◌∙◌, subst, arith}
use Rattle.std.proofs.lemmas.List.{length-drop, map_push}
use Rattle.std.specs.List.{AllByRecursion, IsDistinct, list_any}
use Rattle.exh_prefix.specs.PrefixListLemmas.{AllByRecursion-push}
use Rattle.exh_direct.specs.OnceLemmas.{differ, distinct_more}
use Rattle.exh_cells.specs.FileTests.{IsWhole}
use Rattle.exh_edits.specs.declared.block_edit.BlockEdit.{BlockEdit}
use Rattle.exh_edits.specs.BlockEdits.{with_block, with_edits}
use Rattle.exh_edits.specs.EditLaws.{StandsAt}
use Rattle.exh_edits.specs.EditLists.{AreEditsOf, AreEditsTo, HaveOwnPlaces, IsUnedited}
use Rattle.exh_edits.specs.EditsInTurn.{AreAmong, AreEdits, AreInTurn, AreMoreAt, HasPlace, IsMade, StandsOver, StoodBefore, places_of}
use Rattle.exh_edits.specs.EditsKeepOthers.{IsEditOf}
use Rattle.exh_edits.proofs.EditedBlocks.{length-edited}
use Rattle.exh_edits.proofs.EditLists.{blocks_are_found, edits_put, unedited_are_kept}

abbrev AreBlocks : List BlockEdit → Type 0
AreBlocks edits = AllByRecursion (λ (edit : BlockEdit). length edit.block ≡ 4096) edits

-- ---- an edit that is made again

abbrev again : BlockEdit → List ℕ → BlockEdit
again edit block = record { place = edit.place; block = block }

turn_set : (edits : List BlockEdit) (first count index : ℕ) (old : BlockEdit) (block : List ℕ) → AreInTurn first edits count → slice_get edits index ≡ Some old → AreInTurn first (slice_set edits index (again old block)) count
turn_set [] first count index old block turn is = cc
turn_set (edit ∷ edits) first count zero old block turn is =
    let same : edit ≡ old = cc in
    subst (λ (old : BlockEdit). AreInTurn first (again old block ∷ edits) count) same turn
turn_set (edit ∷ edits) first count (suc index) old block turn is = (turn.0, turn_set edits (max first (edit.place + 1)) count index old block turn.1 is)

places_set : (edits : List BlockEdit) (index : ℕ) (old : BlockEdit) (block : List ℕ) → slice_get edits index ≡ Some old → places_of (slice_set edits index (again old block)) ≡ places_of edits
places_set [] index old block is = cc
places_set (edit ∷ edits) zero old block is =
    let same : edit ≡ old = cc in
    ap (λ (old : BlockEdit). old.place ∷ places_of edits) (sym same)
places_set (edit ∷ edits) (suc index) old block is = ap (λ (places : List ℕ). edit.place ∷ places) (places_set edits index old block is)

blocks_set : (edits : List BlockEdit) (index : ℕ) (old : BlockEdit) (block : List ℕ) → AreBlocks edits → length block ≡ 4096 → AreBlocks (slice_set edits index (again old block))
blocks_set [] index old block blocks len = tt
blocks_set (edit ∷ edits) zero old block blocks len = (len, blocks.1)
blocks_set (edit ∷ edits) (suc index) old block blocks len = (blocks.0, blocks_set edits index old block blocks.1 len)

pub same_edits : (edits : List BlockEdit) (first count place index : ℕ) (block : List ℕ) → AreEdits first edits count → HasPlace edits place index → length block ≡ 4096 → AreEdits first (slice_set edits index (record { place = place; block = block })) count
same_edits edits first count place index block are (old, there, same) len =
    subst (λ (place : ℕ). AreEdits first (slice_set edits index (record { place = place; block = block })) count) same
    (record {
      turn = turn_set edits first count index old block are.turn there;
      once = subst (IsDistinct nat_eq) (sym (places_set edits index old block there)) are.once;
      blocks = blocks_set edits index old block are.blocks len;
    })

-- ---- an edit more

turn_push : (edits : List BlockEdit) (first count : ℕ) (edit : BlockEdit) → AreInTurn first edits count → edit.place ≤ count → AreInTurn first (edits ++ edit ∷ []) (max count (edit.place + 1))
turn_push [] first count edit turn within = (omega (arith, turn, within), ap (λ (n : ℕ). max n (edit.place + 1)) turn)
turn_push (one ∷ edits) first count edit turn within = (turn.0, turn_push edits (max first (one.place + 1)) count edit turn.1 within)

pub edits_push : (edits : List BlockEdit) (first count : ℕ) (edit : BlockEdit) → AreEdits first edits count → edit.place ≤ count → list_any (nat_eq edit.place) (places_of edits) ≡ false → length edit.block ≡ 4096 → AreEdits first (edits ++ edit ∷ []) (max count (edit.place + 1))
edits_push edits first count edit are within other len = record {
  turn = turn_push edits first count edit are.turn within;
  once = subst (IsDistinct nat_eq) (sym (map_push (λ (edit : BlockEdit). edit.place) edits edit)) (distinct_more (places_of edits) edit.place are.once other);
  blocks = AllByRecursion-push (λ (edit : BlockEdit). length edit.block ≡ 4096) edits edit are.blocks len;
}

pub made_push : (edits : List BlockEdit) (edit : BlockEdit) (bytes : List ℕ) → with_edits (edits ++ edit ∷ []) bytes ≡ with_block edit.place edit.block (with_edits edits bytes)
made_push [] edit bytes = refl
made_push (one ∷ edits) edit bytes = made_push edits edit (with_block one.place one.block bytes)

-- ---- the places of edits

pub in_file : (edits : List BlockEdit) (first count place index : ℕ) → AreEdits first edits count → HasPlace edits place index → place < count
in_file edits first count place index are (old, there, same) = omega (arith, same, (within edits first count index old are.turn there).1)
  where
    grows : (edits : List BlockEdit) (first count : ℕ) → AreInTurn first edits count → first ≤ count
    grows [] first count turn = omega (arith, turn)
    grows (one ∷ edits) first count turn = omega (arith, grows edits (max first (one.place + 1)) count turn.1)

    within : (edits : List BlockEdit) (first count index : ℕ) (edit : BlockEdit) → AreInTurn first edits count → slice_get edits index ≡ Some edit → (first ≤ count) × (edit.place < count)
    within [] first count index edit turn is = cc
    within (one ∷ edits) first count zero edit turn is =
        let same : one ≡ edit = cc in
        let grown : max first (one.place + 1) ≤ count = grows edits (max first (one.place + 1)) count turn.1 in
        (omega (arith, grown), subst (λ (edit : BlockEdit). edit.place < count) same (omega (arith, grown)))
    within (one ∷ edits) first count (suc index) edit turn is =
        let more = within edits (max first (one.place + 1)) count index edit turn.1 is in
        (omega (arith, more.0), more.1)

pub more_again : (edits : List BlockEdit) (place index : ℕ) (block : List ℕ) → HasPlace edits place index → AreMoreAt (place ∷ []) edits (slice_set edits index (record { place = place; block = block }))
more_again edits place index block (old, there, same) places own all =
    subst (AreAmong places) (sym (places_set edits index old block there) ∙ ap (λ (place : ℕ). places_of (slice_set edits index (record { place = place; block = block }))) same) all

pub more_pushed : (edits : List BlockEdit) (edit : BlockEdit) → AreMoreAt (edit.place ∷ []) edits (edits ++ edit ∷ [])
more_pushed edits edit places own all =
    subst (AreAmong places) (sym (map_push (λ (edit : BlockEdit). edit.place) edits edit)) (AllByRecursion-push (λ (place : ℕ). list_any (nat_eq place) places ≡ true) (places_of edits) edit.place all own.0)

-- ---- as the laws of lists of edits have them

-- none is of the place, whose test fails at all of them
apart_at : (edits : List BlockEdit) (place index : ℕ) (edit : BlockEdit) → list_any (nat_eq place) (places_of edits) ≡ false → slice_get edits index ≡ Some edit → nat_eq place edit.place ≡ false
apart_at [] place index edit none is = cc
apart_at (one ∷ edits) place zero edit none is =
    let same : one ≡ edit = cc in
    ap (λ (edit : BlockEdit). nat_eq place edit.place) (sym same) ∙ left (nat_eq place one.place) (list_any (nat_eq place) (places_of edits)) none
  where
    left : (b rest : Bool) → (b || rest) ≡ false → b ≡ false
    left true rest none = none
    left false rest none = refl
apart_at (one ∷ edits) place (suc index) edit none is = apart_at edits place index edit (right (nat_eq place one.place) (list_any (nat_eq place) (places_of edits)) none) is
  where
    right : (b rest : Bool) → (b || rest) ≡ false → rest ≡ false
    right true rest none = cc
    right false rest none = none

other_at : (edits : List BlockEdit) (place index : ℕ) (edit : BlockEdit) → AllByRecursion (λ (other : ℕ). nat_eq place other ≡ false) (places_of edits) → slice_get edits index ≡ Some edit → nat_eq place edit.place ≡ false
other_at [] place index edit all is = cc
other_at (one ∷ edits) place zero edit all is = let same : one ≡ edit = cc in ap (λ (edit : BlockEdit). nat_eq place edit.place) (sym same) ∙ all.0
other_at (one ∷ edits) place (suc index) edit all is = other_at edits place index edit all.1 is

own_places : (edits : List BlockEdit) → IsDistinct nat_eq (places_of edits) → HaveOwnPlaces edits
unfolding IsDistinct
own_places [] once one other edit other_edit is too same = cc
own_places (first ∷ edits) once zero zero edit other_edit is too same = refl
own_places (first ∷ edits) once zero (suc other) edit other_edit is too same =
    let own : first ≡ edit = cc in
    absurd (differ first.place other_edit.place (other_at edits first.place other other_edit once.0 too) (ap (λ (edit : BlockEdit). edit.place) own ∙ same))
own_places (first ∷ edits) once (suc one) zero edit other_edit is too same =
    let own : first ≡ other_edit = cc in
    absurd (differ first.place edit.place (other_at edits first.place one edit once.0 is) (ap (λ (edit : BlockEdit). edit.place) own ∙ sym same))
own_places (first ∷ edits) once (suc one) (suc other) edit other_edit is too same = ap suc (own_places edits once.1 one other edit other_edit is too same)

made_valid : (edits : List BlockEdit) (first count : ℕ) (bytes : List ℕ) → AreInTurn first edits count → AreBlocks edits → length bytes ≡ 4096 * first → AreEditsOf bytes edits × (length (with_edits edits bytes) ≡ 4096 * count)
made_valid [] first count bytes turn blocks len = (tt, len ∙ ap (λ (n : ℕ). 4096 * n) (sym turn))
made_valid (edit ∷ edits) first count bytes turn blocks len =
    let valid : IsEditOf bytes edit.place edit.block = record { len = blocks.0; within = omega (arith, len, turn.0) } in
    let grown : length (with_block edit.place edit.block bytes) ≡ 4096 * max first (edit.place + 1) = omega (arith, length-edited bytes edit.place edit.block valid, len) in
    let more = made_valid edits (max first (edit.place + 1)) count (with_block edit.place edit.block bytes) turn.1 blocks.1 grown in
    ((valid, more.0), more.1)

module _ (edits : List BlockEdit) (first count : ℕ) (are : AreEdits first edits count) where
  made : (bytes : List ℕ) → length bytes ≡ 4096 * first → AreEditsTo bytes edits (with_edits edits bytes)
  made bytes len = record { valid = (made_valid edits first count bytes are.turn are.blocks len).0; whole = refl }

  pub is_made_again : (place index : ℕ) (block : List ℕ) → HasPlace edits place index → length block ≡ 4096 → IsMade first edits (slice_set edits index (record { place = place; block = block })) place block
  is_made_again place index block (old, there, same) block_len bytes len =
      subst (λ (place : ℕ). with_edits (slice_set edits index (record { place = place; block = block })) bytes ≡ with_block place block (with_edits edits bytes)) same
      (edits_put bytes edits (with_edits edits bytes) index old block (made bytes len) (own_places edits are.once) there block_len).whole

  pub stands_over : (place : ℕ) (edit : BlockEdit) (index : ℕ) → slice_get edits index ≡ Some edit → edit.place ≡ place → StandsOver first edits place edit.block
  stands_over place edit index there same bytes len =
      subst (λ (place : ℕ). StandsAt (with_edits edits bytes) place edit.block) same (blocks_are_found bytes edits (with_edits edits bytes) index edit (made bytes len) (own_places edits are.once) there)

  pub stood_before : (place : ℕ) → list_any (nat_eq place) (places_of edits) ≡ false → StoodBefore first edits count place
  stood_before place none bytes len less =
      let unedited : IsUnedited place edits = λ index edit is same. differ place edit.place (apart_at edits place index edit none is) (sym same) in
      let kept = unedited_are_kept bytes edits (with_edits edits bytes) place (made bytes len) unedited in
      let after : IsWhole place (with_edits edits bytes) = omega (arith, length-drop (4096 * place) (with_edits edits bytes), (made_valid edits first count bytes are.turn are.blocks len).1, less) in
      let before = kept.whole.1 after in
      (omega (arith, before, length-drop (4096 * place) bytes, len), record { whole = after; is = kept.is })
