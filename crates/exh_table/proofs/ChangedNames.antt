-- Changes that can be made keep the name of each pseudokey.
use Rattle.std.proofs.Common.{◌≡◌, ℕ, ◌<◌, Bool, true, false, List, [], ◌∷◌, ◌++◌, length, refl, sym, ap, ◌∙◌, subst, inl, inr, arith}
use Rattle.exh_prefix.specs.Prefix.{Begins, begins}
use Rattle.exh_prefix.specs.PrefixLemmas.{child_of_begun, one_child_begins, parent_begins, begins_or_not}
use Rattle.exh_prefix.specs.declared.prefix.TheConstants.{LIMIT}
use Rattle.exh_notice.specs.declared.entry.Kind.{Kind}
use Rattle.exh_notice.specs.declared.entry.Kind.TheVariants.{Split, Merge}
use Rattle.exh_notice.specs.declared.notice.Notice.{Notice}
use Rattle.exh_table.specs.Leaves.{PrefixSet, after_split, after_merge, after_kind, leaves_after}
use Rattle.exh_table.specs.Directory.{IsName}
use Rattle.exh_table.specs.TableLaws.{CanBeMade}
use Rattle.exh_table.specs.ChangeLemmas.{leaves_after-push}

-- ---- a split

-- the pseudokey's leaf was split: the child that begins it
split_child : (leaves : PrefixSet) (pseudokey : ℕ) (at : List Bool) (bit : Bool) → IsName leaves pseudokey at → Begins (at ++ bit ∷ []) pseudokey → ((other : Bool) → Begins (at ++ other ∷ []) pseudokey → other ≡ bit)
    → IsName (after_split leaves at) pseudokey (at ++ bit ∷ [])
split_child leaves pseudokey at bit name begins one = record {
  leaf = inr (bit, refl);
  begins = begins;
  only = λ other leaf begun. elim leaf [
    | inl stays ↦ absurd (stays.1 (name.only other stays.0 begun))
    | inr child ↦ child.1 ∙ ap (λ b. at ++ b ∷ []) (one child.0 (subst (λ p. Begins p pseudokey) child.1 begun))
  ];
}

only_left : (at : List Bool) (pseudokey : ℕ) → Begins (at ++ false ∷ []) pseudokey → (other : Bool) → Begins (at ++ other ∷ []) pseudokey → other ≡ false
only_left at pseudokey left true begins = absurd (one_child_begins at pseudokey left begins)
only_left at pseudokey left false begins = refl

only_right : (at : List Bool) (pseudokey : ℕ) → Begins (at ++ true ∷ []) pseudokey → (other : Bool) → Begins (at ++ other ∷ []) pseudokey → other ≡ true
only_right at pseudokey right true begins = refl
only_right at pseudokey right false begins = absurd (one_child_begins at pseudokey begins right)

-- another leaf was split
split_elsewhere : (leaves : PrefixSet) (pseudokey : ℕ) (at name : List Bool) → IsName leaves pseudokey name → leaves at → (Begins at pseudokey → ⊥) → IsName (after_split leaves at) pseudokey name
split_elsewhere leaves pseudokey at name is leaf apart = record {
  leaf = inl (is.leaf, λ same. apart (subst (λ p. Begins p pseudokey) same is.begins));
  begins = is.begins;
  only = λ other leaf begun. elim leaf [
    | inl stays ↦ is.only other stays.0 begun
    | inr child ↦ absurd (apart (parent_begins at pseudokey child.0 (subst (λ p. Begins p pseudokey) child.1 begun)))
  ];
}

split_keeps : (leaves : PrefixSet) (pseudokey : ℕ) (at name : List Bool) → leaves at → length at < LIMIT → IsName leaves pseudokey name → (next : List Bool) × IsName (after_split leaves at) pseudokey next
split_keeps leaves pseudokey at name leaf short is =
    elim (begins_or_not at pseudokey) [
      | inl begins ↦
          let here = subst (IsName leaves pseudokey) (sym (is.only at leaf begins)) is in
          elim (child_of_begun at pseudokey (omega arith) begins) [
            | inl left ↦ (at ++ false ∷ [], split_child leaves pseudokey at false here left (only_left at pseudokey left))
            | inr right ↦ (at ++ true ∷ [], split_child leaves pseudokey at true here right (only_right at pseudokey right))
          ]
      | inr apart ↦ (name, split_elsewhere leaves pseudokey at name is leaf apart)
    ]

-- ---- a merge

merge_here : (leaves : PrefixSet) (pseudokey : ℕ) (at name : List Bool) (bit : Bool) → IsName leaves pseudokey name → leaves (at ++ bit ∷ []) → Begins (at ++ bit ∷ []) pseudokey → IsName (after_merge leaves at) pseudokey at
merge_here leaves pseudokey at name bit is leaf begins = record {
  leaf = inr refl;
  begins = parent_begins at pseudokey bit begins;
  only = λ other stays begun. elim stays [
    | inl stays ↦ absurd (stays.1 bit (is.only other stays.0 begun ∙ sym (is.only (at ++ bit ∷ []) leaf begins)))
    | inr same ↦ same
  ];
}

merge_elsewhere : (leaves : PrefixSet) (pseudokey : ℕ) (at name : List Bool) → IsName leaves pseudokey name → (Begins at pseudokey → ⊥) → IsName (after_merge leaves at) pseudokey name
merge_elsewhere leaves pseudokey at name is apart = record {
  leaf = inl (is.leaf, λ bit same. apart (parent_begins at pseudokey bit (subst (λ p. Begins p pseudokey) same is.begins)));
  begins = is.begins;
  only = λ other leaf begun. elim leaf [
    | inl stays ↦ is.only other stays.0 begun
    | inr same ↦ absurd (apart (subst (λ p. Begins p pseudokey) same begun))
  ];
}

merge_keeps : (leaves : PrefixSet) (pseudokey : ℕ) (at name : List Bool) → ((bit : Bool) → leaves (at ++ bit ∷ [])) → length at < LIMIT → IsName leaves pseudokey name → (next : List Bool) × IsName (after_merge leaves at) pseudokey next
merge_keeps leaves pseudokey at name children short is =
    elim (begins_or_not at pseudokey) [
      | inl begun ↦ elim (child_of_begun at pseudokey (omega arith) begun) [
        | inl left ↦ (at, merge_here leaves pseudokey at name false is (children false) left)
        | inr right ↦ (at, merge_here leaves pseudokey at name true is (children true) right)
      ]
      | inr apart ↦ (name, merge_elsewhere leaves pseudokey at name is apart)
    ]

-- ---- either

change_keeps : (leaves : PrefixSet) (pseudokey : ℕ) (at : List Bool) (kind : Kind) (name : List Bool) → CanBeMade leaves at kind → IsName leaves pseudokey name → (next : List Bool) × IsName (after_kind leaves at kind) pseudokey next
change_keeps leaves pseudokey at (Split right) name can is = split_keeps leaves pseudokey at name can.0 can.1 is
change_keeps leaves pseudokey at Merge name can is = merge_keeps leaves pseudokey at name can.0 can.1 is

pub changes_keep_names : (leaves : PrefixSet) (changes : List Notice) (change : Notice) (pseudokey : ℕ) (name : List Bool) → CanBeMade (leaves_after leaves changes) change.prefix change.kind → IsName (leaves_after leaves changes) pseudokey name
    → (next : List Bool) × IsName (leaves_after leaves (changes ++ change ∷ [])) pseudokey next
changes_keep_names leaves changes change pseudokey name can is =
    let kept = change_keeps (leaves_after leaves changes) pseudokey change.prefix change.kind name can is in
    (kept.0, subst (λ set. IsName set pseudokey kept.0) (sym (leaves_after-push leaves changes change)) kept.1)
