-- What notices tell that an earlier table lacks.
use Rattle.std.proofs.Common.{◌≡◌, ◌≢◌, ℕ, zero, suc, ◌<◌, Bool, true, false, List, [], ◌∷◌, ◌++◌, length, map, take, Option, None, Some, Contains, get_or, ◌⊎◌, inl, inr, refl, sym, ap, ◌∙◌, subst, arith}
use Rattle.std.specs.FinMap.{entries}
use Rattle.std.proofs.lemmas.Bool.{cases_eq}
use Rattle.std.proofs.lemmas.List.{append_assoc, map-append, take-append-le, length_push}
use Rattle.std.proofs.lemmas.List.Elements.{Contains-append_left, Contains-append_cases}
use Rattle.exh_prefix.specs.Prefix.{IsFront}
use Rattle.exh_prefix.specs.PrefixLemmas.{front_of_front}
use Rattle.exh_notice.specs.declared.entry.Entry.{Entry}
use Rattle.exh_notice.specs.declared.entry.Kind.{Kind}
use Rattle.exh_notice.specs.declared.entry.Kind.TheVariants.{Split, Merge}
use Rattle.exh_notice.specs.declared.notice.Notice.{Notice}
use Rattle.exh_notice.specs.EntryLemmas.{entry_laws}
use Rattle.exh_table.specs.Leaves.{PrefixSet, after_kind, leaves_after}
use Rattle.exh_table.specs.Table.{TableMap, IsEntryOf, IsGreatest, told_by}
use Rattle.exh_table.specs.TableWalk.{right_of_kind}
use Rattle.exh_prefix.specs.LowLemmas.{front_shorter, own_front, same_front}

-- one of the notices is such a one
abbrev pub AnyNotice : (Notice → Type 0) → List Notice → Type 0
AnyNotice P [] = ⊥
AnyNotice P (notice ∷ notices) = P notice ⊎ AnyNotice P notices

pub any_such : (P Q : Notice → Type 0) → ((notice : Notice) → P notice → Q notice) → (notices : List Notice) → AnyNotice P notices → AnyNotice Q notices
any_such P Q gives [] none = none
any_such P Q gives (notice ∷ notices) (inl here) = inl (gives notice here)
any_such P Q gives (notice ∷ notices) (inr later) = inr (any_such P Q gives notices later)

abbrev pub IsChangeAt : List Bool → Notice → Type 0
IsChangeAt prefix notice = notice.prefix ≡ prefix

-- a split there, which an entry with this right page is of
abbrev pub IsSplitNotice : List Bool → ℕ → Notice → Type 0
IsSplitNotice prefix right notice = (notice.prefix ≡ prefix) × (right_of_kind notice.kind ≡ Some right)

told_one : (notices : List Notice) (told : List Bool × Entry) (k : ℕ) → k < length (map told_by notices) → get_or (map told_by notices) k told ≡ told → AnyNotice (λ notice. told_by notice ≡ told) notices
told_one [] told k within is = absurd (omega arith)
told_one (notice ∷ notices) told zero within is = inl is
told_one (notice ∷ notices) told (suc k) within is = inr (told_one notices told k (omega arith) is)

-- ---- entries that an earlier table lacks

module _ (start : TableMap) (taken later : List Notice) (prefix : List Bool) where
  abbrev before : List (List Bool × Entry)
  before = entries start ++ map told_by taken

  abbrev pub all_told : List (List Bool × Entry)
  all_told = entries start ++ map told_by (taken ++ later)

  parts : all_told ≡ before ++ map told_by later
  parts = ap (λ more. entries start ++ more) (map-append told_by taken later) ∙ sym (append_assoc (entries start) (map told_by taken) (map told_by later))

  told_before : (entry : Entry) (early : Option Entry) → IsGreatest (before ++ map told_by later) prefix entry → IsEntryOf before prefix early → early ≢ Some entry → Contains before (prefix, entry) → ⊥
  told_before entry None now is differs member = is entry member
  told_before entry (Some old) now is differs member =
      let up = is.greatest entry member in
      let down = now.greatest old (Contains-append_left before (map told_by later) (prefix, old) is.member) in
      differs (ap Some (entry_laws.order.antisymmetric old entry down up))

  -- comes with a later notice
  pub told_later : (entry : Entry) (early : Option Entry) → IsEntryOf all_told prefix (Some entry) → IsEntryOf before prefix early → early ≢ Some entry → AnyNotice (λ notice. told_by notice ≡ (prefix, entry)) later
  told_later entry early now is differs =
      let all = subst (λ told. IsGreatest told prefix entry) parts now in
      elim (Contains-append_cases before (map told_by later) (prefix, entry) all.member) [
        | inl old ↦ absurd (told_before entry early all is differs old)
        | inr new ↦ told_one later (prefix, entry) new.0 new.1 new.2
      ]

-- ---- fronts

-- the next bit after a proper front
next_front : (front bits : List Bool) → IsFront front bits → length front < length bits → (bit : Bool) × IsFront (front ++ bit ∷ []) bits
next_front [] [] is less = absurd (omega arith)
next_front [] (bit ∷ bits) is less = (bit, refl)
next_front (first ∷ front) [] is less = absurd (omega arith)
next_front (first ∷ front) (bit ∷ bits) is less =
    let head : bit ≡ first = cc in
    let rest : IsFront front bits = cc in
    let next = next_front front bits rest (omega arith) in
    (next.0, ap (λ b. b ∷ take (length (front ++ next.0 ∷ [])) bits) head ∙ ap (λ more. first ∷ more) next.1)

differ_front : (first bit : Bool) (front bits : List Bool) → (front ≡ bits) ⊎ (front ≢ bits) → first ≡ bit → (first ∷ front ≡ bit ∷ bits) ⊎ (first ∷ front ≢ bit ∷ bits)
differ_front first bit front bits (inl rest) same = inl (ap (λ b. b ∷ front) same ∙ ap (λ more. bit ∷ more) rest)
differ_front first bit front bits (inr differs) same = inr (λ is. let rest : front ≡ bits = cc in differs rest)

pub same_or_not : (one other : List Bool) → (one ≡ other) ⊎ (one ≢ other)
same_or_not [] [] = inl refl
same_or_not [] (bit ∷ bits) = inr (λ is. cc)
same_or_not (first ∷ front) [] = inr (λ is. cc)
same_or_not (true ∷ front) (true ∷ bits) = differ_front true true front bits (same_or_not front bits) refl
same_or_not (false ∷ front) (false ∷ bits) = differ_front false false front bits (same_or_not front bits) refl
same_or_not (true ∷ front) (false ∷ bits) = inr (λ is. cc)
same_or_not (false ∷ front) (true ∷ bits) = inr (λ is. cc)

-- ---- leaves

-- a front of the prefix is a leaf
abbrev pub HasFront : PrefixSet → List Bool → Type 0
HasFront leaves prefix = (leaf : List Bool) × leaves leaf × IsFront leaf prefix

split_there : (leaves : PrefixSet) (at prefix leaf : List Bool) (right : ℕ) → leaves leaf → IsFront leaf prefix → at ≢ prefix → HasFront (after_kind leaves at (Split right)) prefix
split_there leaves at prefix leaf right is front differs = elim (same_or_not leaf at) [
  | inl here ↦
      let front_at : IsFront at prefix = subst (λ leaf. IsFront leaf prefix) here front in
      elim (cases_eq (length at) (length prefix)) [
        | inl whole ↦ absurd (differs (same_front at prefix front_at whole))
        | inr not ↦
            let next = next_front at prefix front_at (omega (arith, not, front_shorter at prefix front_at)) in
            (at ++ next.0 ∷ [], inr (next.0, refl), next.1)
      ]
  | inr else ↦ (leaf, inl (is, else), front)
]

front_of_leaf : (at prefix leaf : List Bool) (bit : Bool) → leaf ≡ at ++ bit ∷ [] → IsFront leaf prefix → IsFront at prefix
front_of_leaf at prefix leaf bit is front =
    front_of_front at (at ++ bit ∷ []) prefix (omega (arith, length_push at bit)) (take-append-le (length at) at (bit ∷ []) (omega arith) ∙ own_front at) (subst (λ leaf. IsFront leaf prefix) is front)

merge_there : (leaves : PrefixSet) (at prefix leaf : List Bool) → leaves leaf → IsFront leaf prefix → HasFront (after_kind leaves at Merge) prefix
merge_there leaves at prefix leaf is front = elim (same_or_not leaf (at ++ false ∷ [])) [
  | inl left ↦ (at, inr refl, front_of_leaf at prefix leaf false left front)
  | inr not_left ↦ elim (same_or_not leaf (at ++ true ∷ [])) [
    | inl right ↦ (at, inr refl, front_of_leaf at prefix leaf true right front)
    | inr not_right ↦ (leaf, inl (is, λ bit. elim bit as (λ bit. leaf ≢ at ++ bit ∷ []) [ true ↦ not_right | false ↦ not_left ]), front)
  ]
]

change_there : (leaves : PrefixSet) (at : List Bool) (kind : Kind) (prefix : List Bool) → HasFront leaves prefix → at ≢ prefix → HasFront (after_kind leaves at kind) prefix
change_there leaves at (Split right) prefix has differs = split_there leaves at prefix has.0 right has.1 has.2 differs
change_there leaves at Merge prefix has differs = merge_there leaves at prefix has.0 has.1 has.2

-- a front of the prefix stays a leaf, until a change at the prefix itself
pub front_stays : (leaves : PrefixSet) (notices : List Notice) (prefix : List Bool) → HasFront leaves prefix → HasFront (leaves_after leaves notices) prefix ⊎ AnyNotice (IsChangeAt prefix) notices
front_stays leaves [] prefix has = inl has
front_stays leaves (notice ∷ notices) prefix has = elim (same_or_not notice.prefix prefix) [
  | inl here ↦ inr (inl here)
  | inr else ↦ elim (front_stays (after_kind leaves notice.prefix notice.kind) notices prefix (change_there leaves notice.prefix notice.kind prefix has else)) [
    | inl stays ↦ inl stays
    | inr later ↦ inr (inr later)
  ]
]

child_there : (leaves : PrefixSet) (at : List Bool) (kind : Kind) (right : ℕ) (bit : Bool) → right_of_kind kind ≡ Some right → after_kind leaves at kind (at ++ bit ∷ [])
child_there leaves at (Split own) right bit is = inr (bit, refl)
child_there leaves at Merge right bit is = cc

-- so after a split above it
pub split_above : (leaves : PrefixSet) (notices : List Notice) (above prefix : List Bool) (right : ℕ) → IsFront above prefix → length above < length prefix → AnyNotice (IsSplitNotice above right) notices
    → HasFront (leaves_after leaves notices) prefix ⊎ AnyNotice (IsChangeAt prefix) notices
split_above leaves [] above prefix right front less none = absurd none
split_above leaves (notice ∷ notices) above prefix right front less (inl here) =
    let next = next_front above prefix front less in
    let there : after_kind leaves notice.prefix notice.kind (notice.prefix ++ next.0 ∷ []) = child_there leaves notice.prefix notice.kind right next.0 here.1 in
    let has : HasFront (after_kind leaves notice.prefix notice.kind) prefix = (notice.prefix ++ next.0 ∷ [], there, subst (λ at. IsFront (at ++ next.0 ∷ []) prefix) (sym here.0) next.1) in
    elim (front_stays (after_kind leaves notice.prefix notice.kind) notices prefix has) [
      | inl stays ↦ inl stays
      | inr later ↦ inr (inr later)
    ]
split_above leaves (notice ∷ notices) above prefix right front less (inr later) =
    elim (split_above (after_kind leaves notice.prefix notice.kind) notices above prefix right front less later) [
      | inl stays ↦ inl stays
      | inr found ↦ inr (inr found)
    ]

pub leaves_after-append : (leaves : PrefixSet) (notices others : List Notice) → leaves_after leaves (notices ++ others) ≡ leaves_after (leaves_after leaves notices) others
leaves_after-append leaves [] others = refl
leaves_after-append leaves (notice ∷ notices) others = leaves_after-append (after_kind leaves notice.prefix notice.kind) notices others
