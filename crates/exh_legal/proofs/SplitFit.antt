-- A table with the notice of a split fits the pages after it.
use Rattle.std.proofs.Common.{◌≡◌, ℕ, ◌+◌, ◌<◌, ◌≤◌, ◌%◌, Bool, true, false, List, [], ◌∷◌, ◌++◌, length, Option, None, Some, ◌⊎◌, inl, inr, refl, sym, ap, ◌∙◌, subst, arith}
use Rattle.std.specs.FinMap as fin
use Rattle.std.specs.Option.{option_map_or}
use Rattle.std.proofs.lemmas.Bool.{cases_eq}
use Rattle.std.proofs.lemmas.List.{length_push}
use Rattle.exh_prefix.specs.declared.prefix.TheConstants.{LIMIT}
use Rattle.exh_prefix.specs.Prefix.{IsFront, Begins, low_of}
use Rattle.exh_prefix.specs.PrefixLemmas.{front_of_front}
use Rattle.exh_table.specs.declared.Entry.{Entry}
use Rattle.exh_table.specs.declared.Kind.TheVariants.{Split, Merge}
use Rattle.exh_table.specs.declared.Notice.{Notice}
use Rattle.exh_table.specs.Entry.{entry_of}
use Rattle.exh_table.specs.Table.{TableMap, table_with}
use Rattle.exh_table.specs.TableWalk.{right_of, split_at}
use Rattle.exh_page.specs.declared.page.Page.{Page}
use Rattle.exh_page.specs.declared.page.Page.TheVariants.{Live, Forward}
use Rattle.exh_legal.specs.Pages.{IsAt, AreLinked}
use Rattle.exh_legal.specs.Change.{IsForwardOf}
use Rattle.exh_legal.specs.Growth.{IsLiveAt, IsPageOf}
use Rattle.exh_legal.specs.Fit.{parity_of, IsWardEntry, IsSplitAt, IsMergeAt, IsProperFront, IsInner, FitsPages}
use Rattle.exh_legal.specs.ChangeNumbers.{number_at}
use Rattle.exh_prefix.specs.LowLemmas.{own_front, begins_own_low, front_shorter, front_of_longer, right_tells_parent, front_of_child, same_front}
use Rattle.exh_prefix.specs.PrefixListLemmas.{one_there}
use Rattle.exh_legal.proofs.SplitLinks.{IsParted, became, stays, live_elsewhere}
use Rattle.exh_legal.proofs.TableSteps.{cases_prefix, get_with_same, get_with_other}

-- ---- what two live pages begin

pub same_live : (ward : List Bool) (pages : List Page) → AreLinked ward pages → (one other : List Bool) (number twin : ℕ) → IsLiveAt pages one number → IsLiveAt pages other twin → IsFront one other → one ≡ other
same_live ward pages linked one other number twin is too front =
    let short = (linked.within twin _ too.2).1 in
    let less : length one ≤ length other = front_shorter one other front in
    let lower : Begins one (low_of other) = front_of_front one other _ less front (begins_own_low other short) in
    let same = linked.one_home (low_of other) number twin _ _ is.2 too.2 lower (begins_own_low other short) in
    let page = one_there pages twin (Live one is.0 is.1) (Live other too.0 too.1) (subst (λ n. IsAt pages n (Live one is.0 is.1)) same is.2) too.2 in
    cc

-- so no live prefix is a proper front of another
pub no_inner : (ward : List Bool) (pages : List Page) → AreLinked ward pages → (prefix : List Bool) (number : ℕ) → IsLiveAt pages prefix number → IsInner pages prefix → ⊥
no_inner ward pages linked prefix number is inner =
    let same = same_live ward pages linked prefix inner.0 number inner.1 is inner.2 inner.3.0 in
    omega (arith, inner.3.1, ap length same)

-- ---- entries

pub kind_of_entry : (entry : Entry) → (right_of (Some entry) ≡ None × (entry.kind ≡ Merge)) ⊎ ((right : ℕ) × (entry.kind ≡ Split right))
kind_of_entry entry = elim entry.kind as (λ kind. entry.kind ≡ kind → (right_of (Some entry) ≡ None × (entry.kind ≡ Merge)) ⊎ ((right : ℕ) × (entry.kind ≡ Split right))) [
  | Split right ↦ λ is. inr (right, is)
  | Merge ↦ λ is. inl (rw is refl, is)
] refl

pub split_from_entry : (table : TableMap) (prefix : List Bool) (entry : Entry) (right : ℕ) → fin.get table prefix ≡ Some entry → entry.kind ≡ Split right → split_at table prefix ≡ Some right
split_from_entry table prefix entry right is kind = rw (is, kind) refl

-- where no split stands the number is even
pub even_at : (ward : List Bool) (table : TableMap) (pages : List Page) → FitsPages ward table pages → (prefix : List Bool) → (IsSplitAt table prefix → ⊥) → (number_at table prefix) % 2 ≡ 0
even_at ward table pages fits prefix none =
    elim (fin.get table prefix) as (λ found. fin.get table prefix ≡ found → (option_map_or (λ entry. entry.number) found 0) % 2 ≡ 0) [
      | None ↦ λ is. refl
      | Some entry ↦ λ is. elim (kind_of_entry entry) [
        | inl merge ↦ (fits.entries prefix entry is).parity ∙ ap parity_of merge.1
        | inr split ↦ absurd (none (split.0, split_from_entry table prefix entry split.0 is split.1))
      ]
    ] refl

pub odd_after_even : (n : ℕ) → n % 2 ≡ 0 → (n + 1) % 2 ≡ 1
odd_after_even n even = omega arith

module _ {ward : List Bool} {pages : List Page} {at : ℕ} {prefix : List Bool} {link : Option ℕ} {right : ℕ} {new : List Page} (linked : AreLinked ward pages) (parted : IsParted pages at prefix link right new)
    {table : TableMap} (fits : FitsPages ward table pages) (notice : Notice) (at_prefix : notice.prefix ≡ prefix) (next_number : notice.number ≡ number_at table prefix + 1) (kind : notice.kind ≡ Split right) where
  abbrev after : TableMap
  after = table_with table notice

  here : IsLiveAt pages prefix at
  here = (link, [], parted.there)

  -- no split stands at the prefix yet
  pub none_yet : IsSplitAt table prefix → ⊥
  none_yet split = no_inner ward pages linked prefix at here ((fits.splits prefix).0 split).1

  later : number_at table notice.prefix < notice.number
  later = omega (arith, next_number, ap (number_at table) at_prefix)

  get_here : fin.get after prefix ≡ Some (entry_of notice)
  get_here = ap (fin.get after) (sym at_prefix) ∙ get_with_same table notice later

  get_else : (other : List Bool) → (other ≡ prefix → ⊥) → fin.get after other ≡ fin.get table other
  get_else other differ = get_with_other table notice other (λ same. differ (same ∙ at_prefix))

  split_here : split_at after prefix ≡ Some right
  split_here = split_from_entry after prefix (entry_of notice) right get_here kind

  split_else : (other : List Bool) → (other ≡ prefix → ⊥) → split_at after other ≡ split_at table other
  split_else other differ = ap right_of (get_else other differ)

  same_entry : (other : List Bool) (entry : Entry) → other ≡ prefix → fin.get after other ≡ Some entry → entry ≡ entry_of notice
  same_entry other entry same is = let both : Some entry ≡ Some (entry_of notice) = sym is ∙ ap (fin.get after) same ∙ get_here in cc

  entries : (other : List Bool) (entry : Entry) → fin.get after other ≡ Some entry → IsWardEntry ward other entry
  entries other entry is = elim (cases_prefix other prefix) [
    | inl same ↦
        let entry_is = same_entry other entry same is in
        let even = even_at ward table pages fits prefix none_yet in
        record {
          within = subst (IsFront ward) (sym same) (linked.within at _ parted.there).0;
          some = omega (arith, ap (λ (e : Entry). e.number) entry_is, next_number);
          parity =
              ap (λ (e : Entry). e.number % 2) entry_is ∙ ap (λ n. n % 2) next_number ∙ odd_after_even (number_at table prefix) even
              ∙ sym (ap (λ (e : Entry). parity_of e.kind) entry_is ∙ ap parity_of kind);
        }
    | inr differ ↦ fits.entries other entry (sym (get_else other differ) ∙ is)
  ]

  -- a live page of before, or its left child, is live
  live_after : (leaf : List Bool) (number : ℕ) → IsLiveAt pages leaf number → (front : List Bool) → IsProperFront front leaf → IsInner new front
  live_after leaf number is front proper = elim (cases_eq number at) [
    | inl same ↦
        let page = one_there pages at (Live leaf is.0 is.1) (Live prefix link []) (subst (λ n. IsAt pages n (Live leaf is.0 is.1)) same is.2) parted.there in
        let leaf_is : leaf ≡ prefix = cc in (
          prefix ++ false ∷ [],
          at,
          (Some right, [], parted.left),
          (front_of_longer front prefix (false ∷ []) (subst (IsFront front) leaf_is proper.0), omega (arith, proper.1, ap length leaf_is, length_push prefix false)),
        )
    | inr else ↦ (leaf, number, (is.0, is.1, parted.others number else (live_elsewhere linked parted number _ is.2 tt) ∙ is.2), proper)
  ]

  -- what is inner after the split is the prefix, or was inner before
  inner_child : (bit : Bool) (front leaf : List Bool) → leaf ≡ prefix ++ bit ∷ [] → IsProperFront front leaf → (front ≡ prefix) ⊎ IsInner pages front
  inner_child bit front leaf leaf_is proper =
      let short : length front ≤ length prefix = omega (arith, proper.1, ap length leaf_is, length_push prefix bit) in
      let is_front : IsFront front prefix = front_of_child front prefix bit (subst (IsFront front) leaf_is proper.0) short in
      elim (cases_eq (length front) (length prefix)) [
        | inl same ↦ inl (same_front front prefix is_front same)
        | inr differ ↦ inr (prefix, at, here, (is_front, omega (arith, short, differ)))
      ]

  inner_before : (front : List Bool) → IsInner new front → (front ≡ prefix) ⊎ IsInner pages front
  inner_before front inner = elim (became linked parted inner.1 _ inner.2.2) [
    | inl left ↦ let leaf_is : inner.0 ≡ prefix ++ false ∷ [] = let page = left.1 in cc in inner_child false front inner.0 leaf_is inner.3
    | inr rest ↦ elim rest [
      | inl upper ↦ let leaf_is : inner.0 ≡ prefix ++ true ∷ [] = let page = upper.1 in cc in inner_child true front inner.0 leaf_is inner.3
      | inr old ↦ inr (inner.0, inner.1, (inner.2.0, inner.2.1, old.2), inner.3)
    ]
  ]

  splits_to : (other : List Bool) → IsSplitAt after other → IsFront ward other × IsInner new other
  splits_to other split = elim (cases_prefix other prefix) [
    | inl same ↦ (
      subst (IsFront ward) (sym same) (linked.within at _ parted.there).0,
      subst (IsInner new) (sym same) (prefix ++ false ∷ [], at, (Some right, [], parted.left), (front_of_longer prefix prefix (false ∷ []) (own_front prefix), omega (arith, length_push prefix false))),
    )
    | inr differ ↦
        let old = (fits.splits other).0 (split.0, sym (split_else other differ) ∙ split.1) in
        (old.0, live_after old.1.0 old.1.1 old.1.2 other old.1.3)
  ]

  splits_from : (other : List Bool) → IsFront ward other × IsInner new other → IsSplitAt after other
  splits_from other is = elim (cases_prefix other prefix) [
    | inl same ↦ (right, ap (split_at after) same ∙ split_here)
    | inr differ ↦ elim (inner_before other is.1) [
      | inl same ↦ absurd (differ same)
      | inr inner ↦
          let old = (fits.splits other).1 (is.0, inner) in
          (old.0, split_else other differ ∙ old.1)
    ]
  ]

  merges_to : (other : List Bool) → IsMergeAt after other → (length other < LIMIT) × ((number : ℕ) × IsForwardOf new (low_of (other ++ true ∷ [])) number)
  merges_to other merge = elim (cases_prefix other prefix) [
    | inl same ↦
        let entry_is : record { number = merge.0; kind = Merge } ≡ entry_of notice = same_entry other _ same merge.1 in
        let kinds : Merge ≡ Split right = ap (λ (e : Entry). e.kind) entry_is ∙ kind in
        cc
    | inr differ ↦
        let old = (fits.merges other).0 (merge.0, sym (get_else other differ) ∙ merge.1) in
        let number = old.1.0 in
        let target = old.1.1.0 in
        let is : IsAt pages number (Forward (low_of (other ++ true ∷ [])) target) = old.1.1.1 in
        let not_here : number ≡ at → ⊥ = λ same.
        let page = one_there pages at _ _ (subst (λ n. IsAt pages n (Forward (low_of (other ++ true ∷ [])) target)) same is) parted.there in cc in
        let not_there : number ≡ right → ⊥ = λ same.
        let was = parted.was _ (subst (λ n. IsAt pages n (Forward (low_of (other ++ true ∷ [])) target)) same is) in
        differ (right_tells_parent other prefix old.0 parted.short was.1) in
        (old.0, (number, (target, parted.others number not_here not_there ∙ is)))
  ]

  merges_from : (other : List Bool) → (length other < LIMIT) × ((number : ℕ) × IsForwardOf new (low_of (other ++ true ∷ [])) number) → IsMergeAt after other
  merges_from other is = elim (became linked parted is.1.0 _ is.1.1.1) [
    | inl left ↦ let page = left.1 in cc
    | inr rest ↦ elim rest [
      | inl upper ↦ let page = upper.1 in cc
      | inr old ↦ elim (cases_prefix other prefix) [
        | inl same ↦ absurd (old.1 (parted.alone is.1.0 _ old.2 (ap (λ p. low_of (p ++ true ∷ [])) same)))
        | inr differ ↦
            let merge = (fits.merges other).1 (is.0, (is.1.0, (is.1.1.0, old.2))) in
            (merge.0, get_else other differ ∙ merge.1)
      ]
    ]
  ]

  rights : (other : List Bool) (target : ℕ) → split_at after other ≡ Some target → IsPageOf new (low_of (other ++ true ∷ [])) target
  rights other target is = elim (cases_prefix other prefix) [
    | inl same ↦
        let target_is : target ≡ right = let both : Some target ≡ Some right = sym is ∙ ap (split_at after) same ∙ split_here in cc in (
          Live (prefix ++ true ∷ []) link [],
          subst (λ n. IsAt new n (Live (prefix ++ true ∷ []) link [])) (sym target_is) parted.right_half,
          ap (λ p. low_of (p ++ true ∷ [])) (sym same),
        )
    | inr differ ↦
        let old = fits.rights other target (sym (split_else other differ) ∙ is) in
        let kept = stays linked parted target old.0 old.1 in
        (kept.0, kept.1, kept.2 ∙ old.2)
  ]

  pub split_fits : FitsPages ward after new
  split_fits = record {
    entries = entries;
    splits = λ other. (splits_to other, splits_from other);
    merges = λ other. (merges_to other, merges_from other);
    rights = rights;
  }
