-- Edits by their places.
use Rattle.std.proofs.Common.{◌≡◌, ◌≢◌, ℕ, true, false, Bool, cond, List, [], ◌∷◌, ◌++◌, length, slice_get, slice_set, Option, Some, inl, inr, sym, ap, ◌∙◌, arith}
use Rattle.std.specs.BTreeMap.{is_at}
use Rattle.std.specs.Cmp.{nat_cmp_is}
use Rattle.std.specs.Map.{lookup}
use Rattle.std.specs.Ordering.{is_eq, nat_cmp}
use Rattle.std.specs.declared.cmp.Ordering.TheVariants.{Less, Equal, Greater}
use Rattle.std.proofs.lemmas.Bool.Decides.{leb_tells}
use Rattle.exh_edits.specs.declared.block_edit.BlockEdit.{BlockEdit}
use Rattle.exh_edits.specs.EditLists.{HaveOwnPlaces, IsUnedited}
use Rattle.exh_change.specs.Index.{AreFound}
use Rattle.exh_change.proofs.Turns.{at_index, set_index}

abbrev at_place : List (ℕ × ℕ) → ℕ → Option ℕ
at_place entries place = lookup (is_at (nat_cmp place)) entries

at_same : (key query : ℕ) → key ≡ query → is_at (nat_cmp key) query ≡ true
at_same key query same = sym (ap is_eq (nat_cmp_is key query Equal same))

at_other : (key query : ℕ) → key ≢ query → is_at (nat_cmp key) query ≡ false
at_other key query differ = elim (leb_tells key query) [
  | inl less ↦ sym (ap is_eq (nat_cmp_is key query Less (omega (arith, less.1, differ))))
  | inr more ↦ sym (ap is_eq (nat_cmp_is key query Greater (omega (arith, more.1))))
]

-- no two are of one place
pub own_places : (edits : List BlockEdit) (entries : List (ℕ × ℕ)) → AreFound edits entries → HaveOwnPlaces edits
own_places edits entries found one other edit other_edit there other_there same =
    let both : Some one ≡ Some other = sym (found one edit there) ∙ ap (at_place entries) same ∙ found other other_edit other_there in
    cc

-- one is made again
pub found_set : (edits : List BlockEdit) (entries : List (ℕ × ℕ)) (at : ℕ) (old other : BlockEdit) → slice_get edits at ≡ Some old → old.place ≡ other.place → AreFound edits entries → AreFound (slice_set edits at other) entries
found_set edits entries at old other there same found index edit is = elim (set_index edits at other index edit is) [
  | inl among ↦ found index edit among
  | inr own ↦
      let place : edit.place ≡ old.place = sym (ap (λ (edit : BlockEdit). edit.place) own.1) ∙ sym same in
      ap (at_place entries) place ∙ found at old there ∙ ap (λ (n : ℕ). Some n) (sym own.0)
]

module _ (edits : List BlockEdit) (entries new : List (ℕ × ℕ)) (last : BlockEdit) (none : IsUnedited last.place edits) (found : AreFound edits entries)
    (updates : (query : ℕ) → at_place new query ≡ cond (is_at (nat_cmp last.place) query) (Some (length edits)) (at_place entries query)) where
  -- the others are found as before
  pub found_still : AreFound edits new
  found_still index edit there =
      updates edit.place ∙ ap (λ (b : Bool). cond b (Some (length edits)) (at_place entries edit.place)) (at_other last.place edit.place (λ same. none index edit there (sym same))) ∙ found index edit there

  -- and the last one too
  pub found_push : AreFound (edits ++ last ∷ []) new
  found_push index edit there = elim (at_index edits last index edit there) [
    | inl among ↦ found_still index edit among
    | inr is ↦
        updates edit.place ∙ ap (λ (b : Bool). cond b (Some (length edits)) (at_place entries edit.place)) (at_same last.place edit.place (ap (λ (edit : BlockEdit). edit.place) is.1)) ∙ ap (λ (n : ℕ). Some n) (sym is.0)
  ]
