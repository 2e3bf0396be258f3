-- Edits that are in turn, none of a place twice.
use Rattle.std.proofs.Common.{◌≡◌, ℕ, zero, suc, ◌+◌, ◌/◌, ◌≤◌, false, nat_eq, max, List, [], ◌∷◌, ◌++◌, length, slice_get, Some, refl, sym, ◌∙◌, ap, arith}
use Rattle.std.specs.List.{AllByRecursion, IsDistinct}
use Rattle.exh_change.specs.OnceLemmas.{differ}
use Rattle.exh_commit.specs.declared.BlockEdit.{BlockEdit}
use Rattle.exh_commit.specs.EditLists.{HaveOwnPlaces}
use Rattle.exh_commit.specs.EditsInTurn.{AreEdits, AreInTurn, places_of}
use Rattle.exh_paged.specs.CallChange.{AreWithin}

other_at : (edits : List BlockEdit) (place index : ℕ) (edit : BlockEdit) → AllByRecursion (λ (other : ℕ). nat_eq place other ≡ false) (places_of edits) → slice_get edits index ≡ Some edit → nat_eq place edit.place ≡ false
other_at [] place index edit all is = cc
other_at (one ∷ edits) place zero edit all is = let same : one ≡ edit = cc in ap (λ (edit : BlockEdit). nat_eq place edit.place) (sym same) ∙ all.0
other_at (one ∷ edits) place (suc index) edit all is = other_at edits place index edit all.1 is

own_places : (edits : List BlockEdit) → IsDistinct nat_eq (places_of edits) → HaveOwnPlaces edits
unfolding IsDistinct
own_places [] once one other edit other_edit is too same = cc
own_places (first ∷ edits) once zero zero edit other_edit is too same = refl
own_places (first ∷ edits) once zero (suc other) edit other_edit is too same =
    let own : first ≡ edit = cc in
    absurd (differ first.place other_edit.place (other_at edits first.place other other_edit once.0 too) (ap (λ (edit : BlockEdit). edit.place) own ∙ same))
own_places (first ∷ edits) once (suc one) zero edit other_edit is too same =
    let own : first ≡ other_edit = cc in
    absurd (differ first.place edit.place (other_at edits first.place one edit once.0 is) (ap (λ (edit : BlockEdit). edit.place) own ∙ sym same))
own_places (first ∷ edits) once (suc one) (suc other) edit other_edit is too same = ap suc (own_places edits once.1 one other edit other_edit is too same)

pub are_within : (bytes : List ℕ) (edits : List BlockEdit) → (count : ℕ) × AreEdits (length bytes / 4096) edits count → AreWithin bytes edits
are_within bytes edits (count, are) = record { count = count; turn = are.turn; own = own_places edits are.once }

pub none_within : (bytes : List ℕ) → AreWithin bytes []
none_within bytes = record { count = length bytes / 4096; turn = refl; own = λ one other edit other_edit is too same. cc }

-- an edit that is in turn isn't behind the block that comes next
pub turn_at : (before : List BlockEdit) (edit : BlockEdit) (after : List BlockEdit) (first end count : ℕ) → AreInTurn first (before ++ edit ∷ after) count → AreInTurn first before end → edit.place ≤ end
turn_at [] edit after first end count turn is = omega (arith, turn.0, is)
turn_at (one ∷ before) edit after first end count turn is = turn_at before edit after (max first (one.place + 1)) end count turn.1 is.1
