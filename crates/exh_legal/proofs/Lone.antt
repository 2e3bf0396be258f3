-- A lone empty page is a legal ward.
use Rattle.std.proofs.Common.{◌≡◌, ℕ, ◌≤◌, Bool, List, [], ◌∷◌, length, None, Some, inl, inr, refl, sym, ap, ◌∙◌, subst, arith}
use Rattle.std.specs.Prelude.{IsSome}
use Rattle.std.specs.FinMap as fin
use Rattle.std.proofs.lemmas.Bool.{false≢true}
use Rattle.exh_prefix.specs.declared.prefix.TheConstants.{LIMIT}
use Rattle.exh_prefix.specs.Prefix.{low_of, prefix_cmp}
use Rattle.exh_table.specs.declared.Entry.{Entry}
use Rattle.exh_table.specs.Table.{TableMap}
use Rattle.exh_table.specs.TableWalk.{right_of}
use Rattle.exh_table.specs.Leaves.{leaves_in, ward_leaves}
use Rattle.exh_page.specs.declared.page.Page.{Page}
use Rattle.exh_page.specs.declared.page.Page.TheVariants.{Live}
use Rattle.exh_page.specs.Page.{low_bound}
use Rattle.exh_legal.specs.Pages.{IsWithin, IsRightOf, IsLinkedPage, AreLinked}
use Rattle.exh_legal.specs.Growth.{IsLiveAt, HasEntryEver, IsGrown}
use Rattle.exh_legal.specs.Fit.{IsSplitAt, IsInner, FitsPages}
use Rattle.exh_prefix.specs.LowLemmas.{own_front, begins_own_low, low_of-small, front_shorter}
use Rattle.exh_legal.proofs.Walks.{walk_ends}
use Rattle.exh_legal.specs.LegalPlaceLemmas.{only_at}

-- a lone page has none to its right
no_right : (own : List Bool) (right : ℕ) (next : Page) → IsRightOf (Live own None [] ∷ []) (Live own None []) right next → ⊥
no_right own right next beyond =
    let same : low_bound next ≡ low_of own = ap low_bound (only_at (Live own None []) next right beyond.there).1 in
    absurd (omega (arith, beyond.greater, same))

-- a lone live page is linked
pub lone_linked : (own : List Bool) → length own ≤ LIMIT → AreLinked own (Live own None [] ∷ [])
lone_linked own short =
    let page = Live own None [] in
    record {
      first = (page, refl, tt, refl);
      apart = λ one other first second is_one is_other same. (only_at page first one is_one).0 ∙ sym (only_at page second other is_other).0;
      within = λ number other is. subst (IsWithin own) (sym (only_at page other number is).1) (own_front own, short);
      home = λ pseudokey small begins. (0, page, refl, begins);
      one_home = λ pseudokey one other first second is_one is_other home twin. (only_at page first one is_one).0 ∙ sym (only_at page second other is_other).0;
      links = λ number other is. subst (IsLinkedPage (page ∷ [])) (sym (only_at page other number is).1) (λ right next beyond. no_right own right next beyond);
    }

-- the table with no entry
abbrev nothing : TableMap
nothing = fin.empty

no_split : (prefix : List Bool) → IsSplitAt nothing prefix → ⊥
no_split prefix split = let none : Some split.0 ≡ None = sym split.1 ∙ ap right_of (fin.get-empty prefix_cmp prefix) in cc

no_entry : (prefix : List Bool) (entry : Entry) → fin.get nothing prefix ≡ Some entry → ⊥
no_entry prefix entry is = let none : Some entry ≡ None = sym is ∙ fin.get-empty prefix_cmp prefix in cc

module _ (own : List Bool) (short : length own ≤ LIMIT) where
  abbrev page : Page
  page = Live own None []

  lone_leaf : (leaf : List Bool) (number : ℕ) → IsLiveAt (page ∷ []) leaf number → leaf ≡ own
  lone_leaf leaf number is = let same = (only_at page _ number is.2).1 in cc

  no_inner_above : (prefix : List Bool) → IsInner (page ∷ []) prefix → length own ≤ length prefix → ⊥
  no_inner_above prefix inner long = omega (arith, inner.3.1, long, ap length (lone_leaf inner.0 inner.1 inner.2))

  pub lone_fits : FitsPages own nothing (page ∷ [])
  lone_fits = record {
    entries = λ prefix entry is. absurd (no_entry prefix entry is);
    splits = λ prefix. (λ split. absurd (no_split prefix split), λ is. absurd (no_inner_above prefix is.1 (front_shorter own prefix is.0)));
    merges = λ prefix. (λ merge. absurd (no_entry prefix _ merge.1), λ is. let same = (only_at page _ is.1.0 is.1.1.1).1 in cc);
    rights = λ prefix right is. absurd (no_split prefix (right, is));
  }

  leaf_from : (leaf : List Bool) → leaves_in nothing own leaf → leaf ≡ own
  leaf_from leaf is =
      let walk = walk_ends (lone_linked own short) lone_fits is.1.0 own 0 (None, [], refl) is.1.2 is.1.2 in
      let same : record { prefix = leaf; page = is.0 } ≡ record { prefix = own; page = 0 } = sym is.1.3 ∙ walk in
      ap (λ leaf. leaf.prefix) same

  own_leaf : leaves_in nothing own own
  own_leaf = (0, (low_of own, low_of-small own short, begins_own_low own short, walk_ends (lone_linked own short) lone_fits (low_of own) own 0 (None, [], refl) (begins_own_low own short) (begins_own_low own short)))

  never : (prefix : List Bool) → HasEntryEver nothing [] prefix → ⊥
  never prefix (inl some) = false≢true (subst IsSome (fin.get-empty prefix_cmp prefix) some)
  never prefix (inr told) = absurd (omega (arith, told.1.1))

  pub lone_grown : IsGrown own nothing [] (page ∷ [])
  lone_grown = record {
    leaves = λ leaf. (λ is. (0, (None, [], ap (λ p. Some (Live p None [])) (sym (leaf_from leaf is)))), λ is. subst (ward_leaves nothing own []) (sym (lone_leaf leaf is.0 is.1)) own_leaf);
    for_each = λ prefix told. absurd (never prefix told);
    no_other = λ number other is some. absurd (omega (arith, some, (only_at page other number is).0));
  }
