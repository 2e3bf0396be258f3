-- Edits one after the other, of which one is made again, or one more is made.
use Rattle.std.proofs.Common.{◌≡◌, ℕ, zero, suc, ◌+◌, ◌≤◌, ◌⊎◌, inl, inr, max, List, [], ◌∷◌, ◌++◌, length, slice_get, slice_set, Some, refl, ap, ◌∙◌, subst, arith}
use Rattle.exh_edits.specs.declared.block_edit.BlockEdit.{BlockEdit}
use Rattle.exh_edits.specs.EditsInTurn.{AreInTurn}
use Rattle.exh_change.specs.Index.{AreOfBlocks}

-- ---- what stands where

-- behind a list that has one more
pub at_index : (edits : List BlockEdit) (last : BlockEdit) (index : ℕ) (edit : BlockEdit) → slice_get (edits ++ last ∷ []) index ≡ Some edit → (slice_get edits index ≡ Some edit) ⊎ ((index ≡ length edits) × (last ≡ edit))
at_index [] last zero edit there = inr (refl, cc)
at_index [] last (suc index) edit there = cc
at_index (first ∷ edits) last zero edit there = inl there
at_index (first ∷ edits) last (suc index) edit there = elim (at_index edits last index edit there) [ inl among ↦ inl among | inr is ↦ inr (omega (arith, is.0), is.1) ]

-- in a list of which one is another
pub set_index : (edits : List BlockEdit) (at : ℕ) (other : BlockEdit) (index : ℕ) (edit : BlockEdit) → slice_get (slice_set edits at other) index ≡ Some edit → (slice_get edits index ≡ Some edit) ⊎ ((index ≡ at) × (other ≡ edit))
set_index [] at other index edit there = inl there
set_index (first ∷ edits) zero other zero edit there = inr (refl, cc)
set_index (first ∷ edits) zero other (suc index) edit there = inl there
set_index (first ∷ edits) (suc at) other zero edit there = inl there
set_index (first ∷ edits) (suc at) other (suc index) edit there = elim (set_index edits at other index edit there) [ inl among ↦ inl among | inr is ↦ inr (omega (arith, is.0), is.1) ]

-- ---- of blocks

pub blocks_set : (edits : List BlockEdit) (at : ℕ) (other : BlockEdit) → AreOfBlocks edits → length other.block ≡ 4096 → AreOfBlocks (slice_set edits at other)
blocks_set edits at other blocks len index edit there = elim (set_index edits at other index edit there) [
  | inl among ↦ blocks index edit among
  | inr is ↦ subst (λ (edit : BlockEdit). length edit.block ≡ 4096) is.1 len
]

pub blocks_push : (edits : List BlockEdit) (last : BlockEdit) → AreOfBlocks edits → length last.block ≡ 4096 → AreOfBlocks (edits ++ last ∷ [])
blocks_push edits last blocks len index edit there = elim (at_index edits last index edit there) [
  | inl among ↦ blocks index edit among
  | inr is ↦ subst (λ (edit : BlockEdit). length edit.block ≡ 4096) is.1 len
]

-- ---- in turn

pub turn_set : (edits : List BlockEdit) (first count at : ℕ) (old other : BlockEdit) → slice_get edits at ≡ Some old → old.place ≡ other.place → AreInTurn first edits count → AreInTurn first (slice_set edits at other) count
turn_set [] first count at old other there same turn = cc
turn_set (edit ∷ edits) first count zero old other there same turn =
    let is : edit ≡ old = cc in
    let place : edit.place ≡ other.place = ap (λ (edit : BlockEdit). edit.place) is ∙ same in
    subst (λ (place : ℕ). (place ≤ first) × AreInTurn (max first (place + 1)) edits count) place turn
turn_set (edit ∷ edits) first count (suc at) old other there same turn = (turn.0, turn_set edits (max first (edit.place + 1)) count at old other there same turn.1)

pub turn_push : (edits : List BlockEdit) (first count : ℕ) (last : BlockEdit) → AreInTurn first edits count → last.place ≤ count → AreInTurn first (edits ++ last ∷ []) (max count (last.place + 1))
turn_push [] first count last turn within = (omega (arith, turn, within), ap (λ (n : ℕ). max n (last.place + 1)) turn)
turn_push (edit ∷ edits) first count last turn within = (turn.0, turn_push edits (max first (edit.place + 1)) count last turn.1 within)

-- no edit makes the file shorter
pub turn_grows : (edits : List BlockEdit) (first count : ℕ) → AreInTurn first edits count → first ≤ count
turn_grows [] first count turn = omega (arith, turn)
turn_grows (edit ∷ edits) first count turn = omega (arith, turn_grows edits (max first (edit.place + 1)) count turn.1)

-- each is of a block that is there behind them
pub turn_within : (edits : List BlockEdit) (first count at : ℕ) (edit : BlockEdit) → slice_get edits at ≡ Some edit → AreInTurn first edits count → edit.place + 1 ≤ count
turn_within [] first count at edit there turn = cc
turn_within (first_edit ∷ edits) first count zero edit there turn =
    let is : first_edit ≡ edit = cc in
    omega (arith, turn_grows edits (max first (first_edit.place + 1)) count turn.1, ap (λ (edit : BlockEdit). edit.place) is)
turn_within (first_edit ∷ edits) first count (suc at) edit there turn = turn_within edits (max first (first_edit.place + 1)) count at edit there turn.1
