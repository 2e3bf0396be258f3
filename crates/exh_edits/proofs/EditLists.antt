-- Several edits of the same bytes, one after the other.
use Rattle.std.proofs.Common.{◌≡◌, ◌≢◌, ℕ, zero, suc, ◌+◌, ◌-◌, ◌*◌, ◌<◌, List, [], ◌∷◌, ◌++◌, length, take, drop, slice_get, slice_set, Some, refl, sym, ap, ◌∙◌, inl, inr, append_assoc, subst, arith}
use Rattle.std.proofs.lemmas.Bool.{cases_lt}
use Rattle.std.proofs.lemmas.List.{drop_at, length-append, length-drop, length-take-le, take-append-drop, take-append-le, take_at, take-take}
use Rattle.std.proofs.Math.Seq.{drop-append-add, take-append-add}
use Rattle.exh_edits.specs.declared.block_edit.BlockEdit.{BlockEdit}
use Rattle.exh_edits.specs.BlockEdits.{with_block, with_edits}
use Rattle.exh_edits.specs.EditLaws.{StandsAt}
use Rattle.exh_edits.specs.EditLists.{AreEditsOf, AreEditsTo, HaveOwnPlaces, IsKept, IsUnedited}
use Rattle.exh_edits.specs.EditsKeepOthers.{IsEditOf}
use Rattle.exh_edits.proofs.EditedBlocks.{block_stands, from_behind, length-edited, length-front, other_block}

-- ---- two edits

pub replaced : (bytes : List ℕ) (place : ℕ) (earlier later : List ℕ) → IsEditOf bytes place earlier → with_block place later (with_block place earlier bytes) ≡ with_block place later bytes
replaced bytes place earlier later edit =
    let front : take (4096 * place) (with_block place earlier bytes) ≡ take (4096 * place) bytes = take_at (take (4096 * place) bytes) (earlier ++ drop (4096 * (place + 1)) bytes) (4096 * place) (length-front bytes place earlier edit) in
    let behind = from_behind bytes place earlier edit 0 in
    (λ i. front i ++ (later ++ behind i))

-- an edit behind some bytes
edit_behind : (front rest : List ℕ) (count place : ℕ) (block : List ℕ) → length front ≡ 4096 * count → with_block (count + place) block (front ++ rest) ≡ front ++ with_block place block rest
edit_behind front rest count place block len =
    let before : 4096 * (count + place) ≡ length front + 4096 * place = omega (arith, len) in
    let after : 4096 * (count + place + 1) ≡ length front + 4096 * (place + 1) = omega (arith, len) in
    let first : take (4096 * (count + place)) (front ++ rest) ≡ front ++ take (4096 * place) rest = ap (λ (n : ℕ). take n (front ++ rest)) before ∙ take-append-add front rest (4096 * place) in
    let last : drop (4096 * (count + place + 1)) (front ++ rest) ≡ drop (4096 * (place + 1)) rest = ap (λ (n : ℕ). drop n (front ++ rest)) after ∙ drop-append-add front rest (4096 * (place + 1)) in
    (λ i. first i ++ (block ++ last i)) ∙ append_assoc front (take (4096 * place) rest) (block ++ drop (4096 * (place + 1)) rest)

-- the edit of the earlier place, which is whole, and that of a later one
module _ (bytes : List ℕ) (one : ℕ) (block : List ℕ) (other : ℕ) (other_block : List ℕ) (first : IsEditOf bytes one block) (second : IsEditOf bytes other other_block) (less : one < other) where
  abbrev ahead : List ℕ
  ahead = take (4096 * (one + 1)) bytes

  abbrev behind : List ℕ
  behind = drop (4096 * (one + 1)) bytes

  abbrev gap : ℕ
  gap = other - (one + 1)

  length-ahead : length ahead ≡ 4096 * (one + 1)
  length-ahead = length-take-le (4096 * (one + 1)) bytes (omega (arith, less, second.within))

  at_other : one + 1 + gap ≡ other
  at_other = omega (arith, less)

  other_made : with_block other other_block bytes ≡ ahead ++ with_block gap other_block behind
  other_made = (λ i. with_block (sym at_other i) other_block (sym (take-append-drop (4096 * (one + 1)) bytes) i)) ∙ edit_behind ahead behind (one + 1) gap other_block length-ahead

  -- the earlier one, where the bytes behind its place are any
  one_made : (rest : List ℕ) → with_block one block (ahead ++ rest) ≡ (take (4096 * one) bytes ++ block) ++ rest
  one_made rest =
      let front : take (4096 * one) (ahead ++ rest) ≡ take (4096 * one) bytes = take-append-le (4096 * one) ahead rest (omega (arith, length-ahead)) ∙ take-take (4096 * one) (4096 * (one + 1)) bytes (omega arith) in
      let last : drop (4096 * (one + 1)) (ahead ++ rest) ≡ rest = drop_at ahead rest (4096 * (one + 1)) length-ahead in
      (λ i. front i ++ (block ++ last i)) ∙ sym (append_assoc (take (4096 * one) bytes) block rest)

  pub in_order : with_block one block (with_block other other_block bytes) ≡ with_block other other_block (with_block one block bytes)
  in_order =
      let front = take (4096 * one) bytes ++ block in
      let len : length front ≡ 4096 * (one + 1) = omega (arith, length-append (take (4096 * one) bytes) block, length-take-le (4096 * one) bytes first.within, first.len) in
      ap (with_block one block) other_made ∙ one_made (with_block gap other_block behind) ∙ sym (edit_behind front behind (one + 1) gap other_block len)
      ∙ (λ i. with_block (at_other i) other_block (append_assoc (take (4096 * one) bytes) block behind i))

pub commuted : (bytes : List ℕ) (one : ℕ) (block : List ℕ) (other : ℕ) (other_block : List ℕ) → IsEditOf bytes one block → IsEditOf bytes other other_block → one ≢ other
    → with_block one block (with_block other other_block bytes) ≡ with_block other other_block (with_block one block bytes)
commuted bytes one block other other_block first second differ = elim (cases_lt one other) [
  | inl less ↦ in_order bytes one block other other_block first second less
  | inr more ↦ sym (in_order bytes other other_block one block second first (omega (arith, more, differ)))
]

-- ---- lists of edits: a place stays one of the bytes

later_edit : (bytes : List ℕ) (place : ℕ) (block : List ℕ) (other : ℕ) (other_block : List ℕ) → IsEditOf bytes place block → IsEditOf bytes other other_block → IsEditOf (with_block place block bytes) other other_block
later_edit bytes place block other other_block here there = record { len = there.len; within = omega (arith, there.within, length-edited bytes place block here) }

-- which edits bytes may have is said by their length
same_room : (edits : List BlockEdit) (one other : List ℕ) → length one ≡ length other → AreEditsOf one edits → AreEditsOf other edits
same_room [] one other same valid = tt
same_room (edit ∷ edits) one other same valid =
    let here : IsEditOf other edit.place edit.block = record { len = valid.0.len; within = omega (arith, same, valid.0.within) } in
    let long : length (with_block edit.place edit.block one) ≡ length (with_block edit.place edit.block other) = omega (arith, same, length-edited one edit.place edit.block valid.0, length-edited other edit.place edit.block here) in
    (here, same_room edits (with_block edit.place edit.block one) (with_block edit.place edit.block other) long valid.1)

-- the places of the others
others_of : (edit : BlockEdit) (edits : List BlockEdit) → HaveOwnPlaces (edit ∷ edits) → IsUnedited edit.place edits
others_of edit edits own index other there same = let none : suc index ≡ 0 = own (suc index) 0 other edit there refl same in omega (arith, none)

rest_of : (edit : BlockEdit) (edits : List BlockEdit) → HaveOwnPlaces (edit ∷ edits) → HaveOwnPlaces edits
rest_of edit edits own one other first second is other_is same = let next : suc one ≡ suc other = own (suc one) (suc other) first second is other_is same in omega (arith, next)

-- ---- elsewhere

kept : (bytes : List ℕ) (place : ℕ) (block : List ℕ) (other : ℕ) → IsEditOf bytes place block → place ≢ other → IsKept other bytes (with_block place block bytes)
kept bytes place block other edit differs =
    let after = length-drop (4096 * other) (with_block place block bytes) in
    record {
      whole = (
        λ whole. omega (arith, whole, length-edited bytes place block edit, after, length-drop (4096 * other) bytes),
        λ whole. omega (arith, whole, differs, edit.within, length-edited bytes place block edit, after, length-drop (4096 * other) bytes),
      );
      is = other_block bytes place block edit other (λ same. differs (sym same));
    }

all_kept : (edits : List BlockEdit) (bytes : List ℕ) (place : ℕ) → AreEditsOf bytes edits → IsUnedited place edits → IsKept place bytes (with_edits edits bytes)
all_kept [] bytes place valid unedited = record { whole = (λ whole. whole, λ whole. whole); is = refl }
all_kept (edit ∷ edits) bytes place valid unedited =
    let first = kept bytes edit.place edit.block place valid.0 (unedited 0 edit refl) in
    let rest = all_kept edits (with_block edit.place edit.block bytes) place valid.1 (λ index. unedited (suc index)) in
    record { whole = (λ whole. rest.whole.0 (first.whole.0 whole), λ whole. first.whole.1 (rest.whole.1 whole)); is = rest.is ∙ first.is }

pub unedited_are_kept : (bytes : List ℕ) (edits : List BlockEdit) (others : List ℕ) (place : ℕ) → AreEditsTo bytes edits others → IsUnedited place edits → IsKept place bytes others
unedited_are_kept bytes edits others place to unedited = subst (IsKept place bytes) to.whole (all_kept edits bytes place to.valid unedited)

-- ---- at the places of the edits

all_found : (edits : List BlockEdit) (bytes : List ℕ) (index : ℕ) (edit : BlockEdit) → AreEditsOf bytes edits → HaveOwnPlaces edits → slice_get edits index ≡ Some edit → StandsAt (with_edits edits bytes) edit.place edit.block
all_found [] bytes index edit valid own there = cc
all_found (first ∷ edits) bytes zero edit valid own there =
    let same : first ≡ edit = cc in
    let here = block_stands bytes first.place first.block valid.0 in
    let rest = all_kept edits (with_block first.place first.block bytes) first.place valid.1 (others_of first edits own) in
    subst (λ (edit : BlockEdit). StandsAt (with_edits (first ∷ edits) bytes) edit.place edit.block) same (record { whole = rest.whole.0 here.whole; is = rest.is ∙ here.is })
all_found (first ∷ edits) bytes (suc index) edit valid own there = all_found edits (with_block first.place first.block bytes) index edit valid.1 (rest_of first edits own) there

pub blocks_are_found : (bytes : List ℕ) (edits : List BlockEdit) (others : List ℕ) (index : ℕ) (edit : BlockEdit) → AreEditsTo bytes edits others → HaveOwnPlaces edits → slice_get edits index ≡ Some edit → StandsAt others edit.place edit.block
blocks_are_found bytes edits others index edit to own there = subst (λ (others : List ℕ). StandsAt others edit.place edit.block) to.whole (all_found edits bytes index edit to.valid own there)

-- ---- an edit more, and another block for an edit's place

all_pushed : (edits : List BlockEdit) (bytes : List ℕ) (edit : BlockEdit) → AreEditsOf bytes edits → IsEditOf (with_edits edits bytes) edit.place edit.block → AreEditsTo bytes (edits ++ edit ∷ []) (with_block edit.place edit.block (with_edits edits bytes))
all_pushed [] bytes edit valid here = record { valid = (here, tt); whole = refl }
all_pushed (first ∷ edits) bytes edit valid here =
    let rest = all_pushed edits (with_block first.place first.block bytes) edit valid.1 here in
    record { valid = (valid.0, rest.valid); whole = rest.whole }

pub edits_pushed : (bytes : List ℕ) (edits : List BlockEdit) (others : List ℕ) (edit : BlockEdit) → AreEditsTo bytes edits others → IsEditOf others edit.place edit.block → AreEditsTo bytes (edits ++ edit ∷ []) (with_block edit.place edit.block others)
edits_pushed bytes edits others edit to here =
    subst (λ (others : List ℕ). AreEditsTo bytes (edits ++ edit ∷ []) (with_block edit.place edit.block others)) to.whole
    (all_pushed edits bytes edit to.valid (subst (λ (others : List ℕ). IsEditOf others edit.place edit.block) (sym to.whole) here))

-- an edit of a place that the others leave alone may be made before or behind them
moved : (edits : List BlockEdit) (bytes : List ℕ) (place : ℕ) (block : List ℕ) → AreEditsOf bytes edits → IsEditOf bytes place block → IsUnedited place edits → with_edits edits (with_block place block bytes) ≡ with_block place block (with_edits edits bytes)
moved [] bytes place block valid here unedited = refl
moved (edit ∷ edits) bytes place block valid here unedited =
    ap (with_edits edits) (commuted bytes edit.place edit.block place block valid.0 here (unedited 0 edit refl))
    ∙ moved edits (with_block edit.place edit.block bytes) place block valid.1 (later_edit bytes edit.place edit.block place block valid.0 here) (λ index. unedited (suc index))

all_put : (edits : List BlockEdit) (bytes : List ℕ) (index : ℕ) (edit : BlockEdit) (block : List ℕ) → AreEditsOf bytes edits → HaveOwnPlaces edits → slice_get edits index ≡ Some edit → length block ≡ 4096
    → AreEditsTo bytes (slice_set edits index (record edit { block = block })) (with_block edit.place block (with_edits edits bytes))
all_put [] bytes index edit block valid own there len = cc
all_put (first ∷ edits) bytes zero edit block valid own there len =
    let same : first ≡ edit = cc in
    let place = first.place in
    let here : IsEditOf bytes place block = record { len = len; within = valid.0.within } in
    let once = with_block place first.block bytes in
    let long : length once ≡ length (with_block place block bytes) = omega (arith, length-edited bytes place first.block valid.0, length-edited bytes place block here) in
    let behind = moved edits once place block valid.1 (later_edit bytes place first.block place block valid.0 here) (others_of first edits own) in
    subst (λ (edit : BlockEdit). AreEditsTo bytes (slice_set (first ∷ edits) 0 (record edit { block = block })) (with_block edit.place block (with_edits (first ∷ edits) bytes))) same
    (record { valid = (here, same_room edits once (with_block place block bytes) long valid.1); whole = ap (with_edits edits) (sym (replaced bytes place first.block block valid.0)) ∙ behind })
all_put (first ∷ edits) bytes (suc index) edit block valid own there len =
    let rest = all_put edits (with_block first.place first.block bytes) index edit block valid.1 (rest_of first edits own) there len in
    record { valid = (valid.0, rest.valid); whole = rest.whole }

pub edits_put : (bytes : List ℕ) (edits : List BlockEdit) (others : List ℕ) (index : ℕ) (edit : BlockEdit) (block : List ℕ) → AreEditsTo bytes edits others → HaveOwnPlaces edits → slice_get edits index ≡ Some edit → length block ≡ 4096
    → AreEditsTo bytes (slice_set edits index (record edit { block = block })) (with_block edit.place block others)
edits_put bytes edits others index edit block to own there len =
    subst (λ (others : List ℕ). AreEditsTo bytes (slice_set edits index (record edit { block = block })) (with_block edit.place block others)) to.whole (all_put edits bytes index edit block to.valid own there len)
