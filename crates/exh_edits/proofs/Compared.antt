-- Blocks that were compared one after the other: what the edits make of the file's bytes, and which bytes are shown.
use Rattle.std.proofs.Common.{◌≡◌, ◌⊎◌, inl, inr, ℕ, zero, suc, ◌+◌, ◌*◌, ◌/◌, ◌<◌, ◌≤◌, List, [], ◌∷◌, ◌++◌, length, take, drop, slice_get, Option, None, Some, IfSome, refl, sym, ap, ◌∙◌, subst, append_assoc, append-nil, arith}
use Rattle.std.proofs.lemmas.List.{append_cancel_left, drop-drop, drop_at, length-append, length-drop, length-take-le, take-append-drop, take_at}
use Rattle.std.proofs.Math.Seq.{take-add, take-append_seam}
use Rattle.std.specs.Io.KnownBytes.{Appends}
use Rattle.exh_direct.specs.KnownBlocks.{IsCount}
use Rattle.exh_edits.specs.declared.block_edit.BlockEdit.{BlockEdit}
use Rattle.exh_edits.specs.BlockEdits.{with_block, with_edits}
use Rattle.exh_edits.specs.Comparison.{AreDifferences, AreEditsBefore, AreOfDiffering, Differs, EndsEarly, IsCompared, IsWholeBlocks, comparison_of, contents_of, pair_bytes}
use Rattle.exh_edits.specs.EditLaws.{StandsAt}
use Rattle.exh_edits.specs.EditLists.{AreEditsTo, HaveOwnPlaces}
use Rattle.exh_edits.specs.EditsKeepOthers.{IsEditOf}
use Rattle.exh_edits.proofs.EditLists.{edits_pushed}

-- ---- an edit behind others

-- one of them stands at an index, or it does behind them
at_index : (edits : List BlockEdit) (last : BlockEdit) (index : ℕ) (edit : BlockEdit) → slice_get (edits ++ last ∷ []) index ≡ Some edit → (slice_get edits index ≡ Some edit) ⊎ ((index ≡ length edits) × (last ≡ edit))
at_index [] last zero edit there = inr (refl, cc)
at_index [] last (suc index) edit there = cc
at_index (first ∷ edits) last zero edit there = inl there
at_index (first ∷ edits) last (suc index) edit there = elim (at_index edits last index edit there) [ inl among ↦ inl among | inr is ↦ inr (omega (arith, is.0), is.1) ]

module _ (edits : List BlockEdit) (last : BlockEdit) where
  pub pushed_before : ((index : ℕ) (edit : BlockEdit) → slice_get edits index ≡ Some edit → edit.place < last.place) → (index : ℕ) (edit : BlockEdit) → slice_get (edits ++ last ∷ []) index ≡ Some edit → edit.place < last.place + 1
  pushed_before before index edit there = elim (at_index edits last index edit there) [
    | inl among ↦ omega (arith, before index edit among)
    | inr is ↦ let same = ap (λ (edit : BlockEdit). edit.place) is.1 in omega (arith, same)
  ]

  pub pushed_own : ((index : ℕ) (edit : BlockEdit) → slice_get edits index ≡ Some edit → edit.place < last.place) → HaveOwnPlaces edits → HaveOwnPlaces (edits ++ last ∷ [])
  pushed_own before own one other edit other_edit first second same = elim (at_index edits last one edit first) [
    | inl among ↦ elim (at_index edits last other other_edit second) [
      | inl other_among ↦ own one other edit other_edit among other_among same
      | inr is ↦ let place = ap (λ (edit : BlockEdit). edit.place) is.1 in absurd (omega (arith, before one edit among, place, same))
    ]
    | inr is ↦ elim (at_index edits last other other_edit second) [
      | inl other_among ↦ let place = ap (λ (edit : BlockEdit). edit.place) is.1 in absurd (omega (arith, before other other_edit other_among, place, same))
      | inr other_is ↦ is.0 ∙ sym other_is.0
    ]
  ]

  pub pushed_differ : (old : List ℕ) → Differs old last.place last.block → AreOfDiffering old edits → AreOfDiffering old (edits ++ last ∷ [])
  pushed_differ old here differ index edit there = elim (at_index edits last index edit there) [
    | inl among ↦ differ index edit among
    | inr is ↦ subst (λ (edit : BlockEdit). Differs old edit.place edit.block) is.1 here
  ]

-- ---- a block more

module _ (old : List ℕ) (edits : List BlockEdit) (place : ℕ) (are : AreEditsBefore old edits place) where
  abbrev made : List ℕ
  made = with_edits edits old

  next_behind : drop (4096 * (place + 1)) made ≡ drop (4096 * (place + 1)) old
  next_behind =
      let next : 4096 * (place + 1) ≡ 4096 * place + 4096 = omega arith in
      ap (λ (n : ℕ). drop n made) next ∙ sym (drop-drop 4096 (4096 * place) made) ∙ ap (drop 4096) are.behind ∙ drop-drop 4096 (4096 * place) old ∙ ap (λ (n : ℕ). drop n old) (sym next)

  module _ (block : List ℕ) where
    -- that the file has
    module _ (stands : StandsAt old place block) where
      pub stood_before : AreEditsBefore old edits (place + 1)
      stood_before = record {
        valid = are.valid;
        within = omega (arith, stands.whole, ap length are.behind, length-drop (4096 * place) made);
        behind = next_behind;
        before = λ index edit there. omega (arith, are.before index edit there);
        own = are.own;
        differ = are.differ;
      }

      pub stood_bytes : take (4096 * (place + 1)) made ≡ take (4096 * place) made ++ block
      stood_bytes =
          let next : 4096 * (place + 1) ≡ 4096 * place + 4096 = omega arith in
          ap (λ (n : ℕ). take n made) next ∙ take-add (4096 * place) 4096 made ∙ ap (λ (rest : List ℕ). take (4096 * place) made ++ take 4096 rest) are.behind ∙ ap (λ (rest : List ℕ). take (4096 * place) made ++ rest) stands.is

    -- that it hasn't
    module _ (len : length block ≡ 4096) (differs : Differs old place block) where
      abbrev pub edit : BlockEdit
      edit = record { place = place; block = block }

      abbrev front : List ℕ
      front = take (4096 * place) made

      here : IsEditOf made place block
      here = record { len = len; within = are.within }

      to : AreEditsTo old (edits ++ edit ∷ []) (with_block place block made)
      to = edits_pushed old edits made edit (record { valid = are.valid; whole = refl }) here

      length-front : length (front ++ block) ≡ 4096 * (place + 1)
      length-front = omega (arith, length-append front block, length-take-le (4096 * place) made are.within, len)

      -- the bytes with it
      whole : with_edits (edits ++ edit ∷ []) old ≡ (front ++ block) ++ drop (4096 * (place + 1)) made
      whole = to.whole ∙ sym (append_assoc front block (drop (4096 * (place + 1)) made))

      pub pushed_edits : AreEditsBefore old (edits ++ edit ∷ []) (place + 1)
      pushed_edits = record {
        valid = to.valid;
        within = omega (arith, ap length whole, length-append (front ++ block) (drop (4096 * (place + 1)) made), length-front);
        behind = ap (drop (4096 * (place + 1))) whole ∙ drop_at (front ++ block) (drop (4096 * (place + 1)) made) (4096 * (place + 1)) length-front ∙ next_behind;
        before = pushed_before edits edit are.before;
        own = pushed_own edits edit are.before are.own;
        differ = pushed_differ edits edit old differs are.differ;
      }

      pub pushed_bytes : take (4096 * (place + 1)) (with_edits (edits ++ edit ∷ []) old) ≡ take (4096 * place) made ++ block
      pushed_bytes = ap (take (4096 * (place + 1))) whole ∙ take_at (front ++ block) (drop (4096 * (place + 1)) made) (4096 * (place + 1)) length-front

-- ---- where the file's bytes may be known

abbrev pub AreEdits : Option (List ℕ) → List BlockEdit → ℕ → Type 0
AreEdits known edits place = IfSome known (λ old. AreEditsBefore old edits place)

pub next_edits : (known : Option (List ℕ)) (edits more : List BlockEdit) (place : ℕ) (block : List ℕ) → length block ≡ 4096 → AreEdits known edits place → IsCompared known place block edits more → AreEdits known more (place + 1)
next_edits None edits more place block len are compared = tt
next_edits (Some old) edits more place block len are (inl there) = subst (λ (edits : List BlockEdit). AreEditsBefore old edits (place + 1)) (sym there.0) (stood_before old edits place are block there.1)
next_edits (Some old) edits more place block len are (inr other) = subst (λ (edits : List BlockEdit). AreEditsBefore old edits (place + 1)) (sym other.0) (pushed_edits old edits place are block len other.1)

-- the bytes of the blocks with one more
next_bytes : (old : List ℕ) (edits more : List BlockEdit) (place : ℕ) (block : List ℕ) → length block ≡ 4096 → AreEditsBefore old edits place → IsCompared (Some old) place block edits more
    → take (4096 * (place + 1)) (with_edits more old) ≡ take (4096 * place) (with_edits edits old) ++ block
next_bytes old edits more place block len are (inl there) = ap (λ (edits : List BlockEdit). take (4096 * (place + 1)) (with_edits edits old)) there.0 ∙ stood_bytes old edits place are block there.1
next_bytes old edits more place block len are (inr other) = ap (λ (edits : List BlockEdit). take (4096 * (place + 1)) (with_edits edits old)) other.0 ∙ pushed_bytes old edits place are block len other.1

-- ---- what is shown

-- bytes more
pair_more : (old new more all : List ℕ) → all ≡ new ++ more → pair_bytes old all ≡ pair_bytes old new ++ more
pair_more old new more all is = ap (λ (all : List ℕ). length old ∷ (old ++ all)) is ∙ ap (λ (rest : List ℕ). length old ∷ rest) (sym (append_assoc old new more))

-- of the block that was begun
pub begun_more : (known : Option (List ℕ)) (edits : List BlockEdit) (place : ℕ) (begun more all : List ℕ) → all ≡ begun ++ more → Appends (contents_of (comparison_of known edits place begun)) (contents_of (comparison_of known edits place all)) more
begun_more None edits place begun more all is = tt
begun_more (Some old) edits place begun more all is =
    let front = take (4096 * place) (with_edits edits old) in
    pair_more old (front ++ begun) more (front ++ all) (ap (λ (rest : List ℕ). front ++ rest) is ∙ sym (append_assoc front begun more))

-- to its end
pub block_more : (known : Option (List ℕ)) (edits later : List BlockEdit) (place : ℕ) (begun more block : List ℕ) → length block ≡ 4096 → AreEdits known edits place → IsCompared known place block edits later → block ≡ begun ++ more
    → Appends (contents_of (comparison_of known edits place begun)) (contents_of (comparison_of known later (place + 1) [])) more
block_more None edits later place begun more block len are compared is = tt
block_more (Some old) edits later place begun more block len are compared is =
    let front = take (4096 * place) (with_edits edits old) in
    let all = take (4096 * (place + 1)) (with_edits later old) in
    pair_more old (front ++ begun) more (all ++ []) (append-nil all ∙ next_bytes old edits later place block len are compared ∙ ap (λ (rest : List ℕ). front ++ rest) is ∙ sym (append_assoc front begun more))

-- both the file's bytes and the new ones are read from what is shown
pub pair_is : (known : Option (List ℕ)) (edits : List BlockEdit) (place : ℕ) (begun old new : List ℕ) → contents_of (comparison_of known edits place begun) ≡ Some (pair_bytes old new) → (known ≡ Some old) × (take (4096 * place) (with_edits edits old) ++ begun ≡ new)
pair_is None edits place begun old new is = cc
pair_is (Some bytes) edits place begun old new is =
    let all = take (4096 * place) (with_edits edits bytes) ++ begun in
    let len : length bytes ≡ length old = cc in
    let joined : bytes ++ all ≡ old ++ new = cc in
    let same : bytes ≡ old = sym (take-append_seam bytes all) ∙ ap (take (length bytes)) joined ∙ ap (λ (n : ℕ). take n (old ++ new)) len ∙ take-append_seam old new in
    let rest : take (4096 * place) (with_edits edits old) ++ begun ≡ new =
    ap (λ (bytes : List ℕ). take (4096 * place) (with_edits edits bytes) ++ begun) (sym same) ∙ append_cancel_left bytes all new (joined ∙ ap (λ (bytes : List ℕ). bytes ++ new) (sym same)) in
    (ap Some same, rest)

-- ---- at the end

module _ (old : List ℕ) (edits : List BlockEdit) (place : ℕ) (are : AreEditsBefore old edits place) (new : List ℕ) where
  -- as many blocks as the file has, or more
  pub made_whole : take (4096 * place) (with_edits edits old) ++ [] ≡ new → length old ≤ 4096 * place → AreDifferences old edits new
  made_whole is long =
      let made = with_edits edits old in
      let front = take (4096 * place) made in
      let none : length (drop (4096 * place) made) ≡ 0 = omega (arith, ap length are.behind, length-drop (4096 * place) old, long) in
      let whole : made ≡ new = sym (take-append-drop (4096 * place) made) ∙ ap (λ (rest : List ℕ). front ++ rest) (no_bytes (drop (4096 * place) made) none) ∙ is in
      record { to = record { valid = are.valid; whole = whole }; own = are.own; differ = are.differ }
    where
      no_bytes : (rest : List ℕ) → length rest ≡ 0 → rest ≡ []
      no_bytes [] len = refl
      no_bytes (byte ∷ rest) len = absurd (omega (arith, len))

  -- fewer, or a part of one
  pub made_early : (begun : List ℕ) → take (4096 * place) (with_edits edits old) ++ begun ≡ new → length begun < 4096 → (length begun ≡ 0 → place < length old / 4096) → EndsEarly old new
  made_early begun is room few blocks whole =
      let made = with_edits edits old in
      let len : length new ≡ 4096 * place + length begun = omega (arith, ap length is, length-append (take (4096 * place) made) begun, length-take-le (4096 * place) made are.within) in
      let none : length begun ≡ 0 = omega (arith, len, whole, room) in
      let less = few none in
      omega (arith, len, whole, none, less)

-- ---- at the end, of what is shown

module _ (known : Option (List ℕ)) (edits : List BlockEdit) (place : ℕ) (begun old new : List ℕ) (are : AreEdits known edits place) (is : contents_of (comparison_of known edits place begun) ≡ Some (pair_bytes old new)) where
  pair : (known ≡ Some old) × (take (4096 * place) (with_edits edits old) ++ begun ≡ new)
  pair = pair_is known edits place begun old new is

  old_are : AreEditsBefore old edits place
  old_are = subst (λ (known : Option (List ℕ)). AreEdits known edits place) pair.0 are

  pub shown_count : (count : ℕ) → IsCount known count → count ≡ length old / 4096
  shown_count count counted = subst (λ (known : Option (List ℕ)). IsCount known count) pair.0 counted

  pub shown_whole : begun ≡ [] → length old / 4096 ≤ place → IsWholeBlocks old → AreDifferences old edits new
  shown_whole none enough blocks =
      made_whole old edits place old_are new (ap (λ (begun : List ℕ). take (4096 * place) (with_edits edits old) ++ begun) (sym none) ∙ pair.1) (omega (arith, blocks, enough))

  pub shown_early : length begun < 4096 → (length begun ≡ 0 → place < length old / 4096) → EndsEarly old new
  shown_early room few = made_early old edits place old_are new begun pair.1 room few
