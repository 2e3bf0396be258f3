-- Bytes of which a block was replaced or added, block by block.
use Rattle.std.proofs.Common.{◌≡◌, ◌≢◌, ℕ, suc, ◌+◌, ◌-◌, ◌*◌, ◌≤◌, max, List, ◌++◌, length, take, drop, sym, ap, ◌∙◌, inl, inr, arith}
use Rattle.std.proofs.lemmas.Bool.{cases_lt}
use Rattle.std.proofs.lemmas.List.{drop-append-le, drop-drop, drop_at, length-append, length-drop, length-take-le, take-append-drop, take-append-le, take_at}
use Rattle.exh_cells.specs.FileTests.{IsWhole, block_at}
use Rattle.exh_edits.specs.BlockEdits.{with_block}
use Rattle.exh_edits.specs.EditLaws.{StandsAt}
use Rattle.exh_edits.specs.EditsKeepOthers.{IsEditOf}

-- ---- bytes one after the other

-- a block of the front
front_block : (place : ℕ) (front rest : List ℕ) → 4096 * suc place ≤ length front → block_at place (front ++ rest) ≡ block_at place front
front_block place front rest within =
    let from = drop (4096 * place) front in
    ap (take 4096) (drop-append-le (4096 * place) front rest (omega (arith, within))) ∙ take-append-le 4096 from rest (omega (arith, length-drop (4096 * place) front, within))

-- behind one block come the others
pub drop_next : (i : ℕ) (block rest : List ℕ) → length block ≡ 4096 → drop (4096 * suc i) (block ++ rest) ≡ drop (4096 * i) rest
drop_next i block rest len =
    let next : 4096 * suc i ≡ 4096 + 4096 * i = omega arith in
    ap (λ (n : ℕ). drop n (block ++ rest)) next ∙ sym (drop-drop (4096 * i) 4096 (block ++ rest)) ∙ ap (drop (4096 * i)) (drop_at block rest 4096 len)

-- ---- an edit

module _ (bytes : List ℕ) (place : ℕ) (block : List ℕ) (edit : IsEditOf bytes place block) where
  abbrev at : ℕ
  at = 4096 * place

  abbrev front : List ℕ
  front = take at bytes

  abbrev behind : List ℕ
  behind = drop (4096 * (place + 1)) bytes

  abbrev edited : List ℕ
  edited = with_block place block bytes

  pub length-front : length front ≡ at
  length-front = length-take-le at bytes edit.within

  pub length-edited : length edited ≡ max (length bytes) (4096 * (place + 1))
  length-edited = omega (arith, length-append front (block ++ behind), length-append block behind, length-front, edit.len, length-drop (4096 * (place + 1)) bytes, edit.within)

  from_place : drop at edited ≡ block ++ behind
  from_place = drop_at front (block ++ behind) at length-front

  pub from_behind : (i : ℕ) → drop (4096 * (place + suc i)) edited ≡ drop (4096 * (place + suc i)) bytes
  from_behind i =
      let first : 4096 * (place + suc i) ≡ at + 4096 * suc i = omega arith in
      let second : 4096 * (place + 1) + 4096 * i ≡ 4096 * (place + suc i) = omega arith in
      ap (λ (n : ℕ). drop n edited) first ∙ sym (drop-drop (4096 * suc i) at edited) ∙ ap (drop (4096 * suc i)) from_place ∙ drop_next i block behind edit.len
      ∙ drop-drop (4096 * i) (4096 * (place + 1)) bytes ∙ ap (λ (n : ℕ). drop n bytes) second

  pub block_stands : StandsAt edited place block
  block_stands = record {
    whole = omega (arith, ap length from_place, length-append block behind, edit.len);
    is = ap (take 4096) from_place ∙ take_at block behind 4096 edit.len;
  }

  pub other_block : (other : ℕ) → other ≢ place → block_at other edited ≡ block_at other bytes
  other_block other differs = elim (cases_lt other place) [
    | inl before ↦
        let within : 4096 * suc other ≤ length front = omega (arith, before, length-front) in
        front_block other front (block ++ behind) within ∙ sym (front_block other front (drop at bytes) within) ∙ ap (block_at other) (take-append-drop at bytes)
    | inr past ↦
        let is : place + suc (other - suc place) ≡ other = omega (arith, past, differs) in
        ap (λ (n : ℕ). block_at n edited) (sym is) ∙ ap (take 4096) (from_behind (other - suc place)) ∙ ap (λ (n : ℕ). block_at n bytes) is
  ]

  pub other_stands : (other : ℕ) → other ≢ place → IsWhole other bytes → StandsAt edited other (block_at other bytes)
  other_stands other differs whole = record {
    whole = omega (arith, whole, length-edited, length-drop (4096 * other) edited, length-drop (4096 * other) bytes);
    is = other_block other differs;
  }
