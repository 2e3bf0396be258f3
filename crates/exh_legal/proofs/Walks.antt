-- A walk of a table that fits the pages ends at the pseudokey's home.
use Rattle.std.proofs.Common.{◌≡◌, ℕ, ◌+◌, ◌<◌, ◌≤◌, ◌^◌, Bool, true, false, List, [], ◌∷◌, ◌++◌, length, take, drop, None, Some, inl, inr, refl, sym, ap, ◌∙◌, subst, arith}
use Rattle.std.specs.Option.{option_map_or}
use Rattle.std.proofs.lemmas.Bool.{cases_eq}
use Rattle.std.proofs.lemmas.List.{length_push, append_assoc, append-nil, take_at, take-append-drop, length-take-le, take-take}
use Rattle.exh_prefix.specs.declared.prefix.TheConstants.{LIMIT}
use Rattle.exh_prefix.specs.Bits.{word_bits}
use Rattle.exh_prefix.specs.Prefix.{IsFront, Begins, low_of}
use Rattle.exh_prefix.specs.PrefixLemmas.{fronts_nest, length-word_bits}
use Rattle.exh_table.specs.declared.Notice.{Notice}
use Rattle.exh_table.specs.declared.leaf.Leaf.{Leaf}
use Rattle.exh_table.specs.Table.{TableMap}
use Rattle.exh_table.specs.TableWalk.{split_at, step, walk_on, walk_in}
use Rattle.exh_page.specs.declared.page.Page.{Page}
use Rattle.exh_page.specs.declared.page.Page.TheVariants.{Live, Forward}
use Rattle.exh_legal.specs.Pages.{IsAt, IsHome, AreLinked}
use Rattle.exh_legal.specs.Growth.{IsLiveAt, IsPageOf, IsGrown}
use Rattle.exh_legal.specs.Fit.{IsInner, FitsPages}
use Rattle.exh_legal.specs.LegalLaws.{NamesHome}
use Rattle.exh_prefix.specs.LowLemmas.{own_front, front_shorter, front_of_longer, left_keeps, same_front}
use Rattle.exh_prefix.specs.PrefixListLemmas.{one_there}
use Rattle.exh_legal.proofs.SplitFit.{no_inner}

pub live_home : (pages : List Page) (number : ℕ) (page : Page) (pseudokey : ℕ) → IsAt pages number page → IsHome page pseudokey → (prefix : List Bool) × IsLiveAt pages prefix number × Begins prefix pseudokey
live_home pages number (Live prefix right records) pseudokey is home = (prefix, (right, records, is), home)
live_home pages number (Forward low target) pseudokey is home = absurd home

module _ {ward : List Bool} {table : TableMap} {pages : List Page} (linked : AreLinked ward pages) (fits : FitsPages ward table pages) (pseudokey : ℕ) (prefix : List Bool) (number : ℕ) (home : IsLiveAt pages prefix number) (begins : Begins prefix pseudokey) where
  word : List Bool
  word = word_bits pseudokey

  short : length prefix ≤ LIMIT
  short = (linked.within number _ home.2).1

  end : Leaf
  end = record { prefix = prefix; page = number }

  -- a walk that has come to the home's prefix is at its page
  arrived : (at : Leaf) → at.prefix ≡ prefix → IsPageOf pages (low_of at.prefix) at.page → at ≡ end
  unfolding end
  arrived at same page =
      let number_is : at.page ≡ number = linked.apart at.page number page.0 _ page.1 home.2 (page.2 ∙ ap low_of same) in
      λ i. record { prefix = same i; page = number_is i }

  -- one that isn't there yet has a split before it
  goes_on : (at : List Bool) → IsFront ward at → IsFront at prefix → length at < length prefix → (right : ℕ) × (split_at table at ≡ Some right)
  goes_on at within front less = (fits.splits at).1 (within, (prefix, number, home, (front, less)))

  -- and one that is there has none
  stops : (at : List Bool) → at ≡ prefix → (right : ℕ) → split_at table at ≡ Some right → ⊥
  stops at same right is = no_inner ward pages linked prefix number home (subst (IsInner pages) same ((fits.splits at).0 (right, is)).1)

  next_front : (at : List Bool) (bit : Bool) (bits : List Bool) → at ++ bit ∷ bits ≡ take LIMIT (word_bits pseudokey) → length at < length prefix → IsFront (at ++ bit ∷ []) prefix
  next_front at bit bits rest less =
      let whole : (at ++ bit ∷ []) ++ bits ≡ take LIMIT (word_bits pseudokey) = append_assoc at (bit ∷ []) bits ∙ rest in
      let one : length (at ++ bit ∷ []) ≡ length at + 1 = length_push at bit in
      let enough : length (at ++ bit ∷ []) ≤ LIMIT = omega (arith, one, short) in
      let is : IsFront (at ++ bit ∷ []) (word_bits pseudokey) =
      sym (take-take (length (at ++ bit ∷ [])) LIMIT (word_bits pseudokey) enough) ∙ ap (take (length (at ++ bit ∷ []))) (sym whole) ∙ take_at (at ++ bit ∷ []) bits (length (at ++ bit ∷ [])) refl in
      fronts_nest (at ++ bit ∷ []) prefix (word_bits pseudokey) (omega (arith, one)) is begins

  next_page : (at : Leaf) (bit : Bool) (right : ℕ) → length at.prefix < LIMIT → split_at table at.prefix ≡ Some right → IsPageOf pages (low_of at.prefix) at.page → IsPageOf pages (low_of (step at bit right).prefix) (step at bit right).page
  next_page at true right less split page = fits.rights at.prefix right split
  next_page at false right less split page = (page.0, page.1, page.2 ∙ sym (left_keeps at.prefix less))

  walks : (bits : List Bool) (at : Leaf) → at.prefix ++ bits ≡ take LIMIT (word_bits pseudokey) → IsFront ward at.prefix → IsFront at.prefix prefix → IsPageOf pages (low_of at.prefix) at.page
      → walk_on (split_at table) bits at ≡ end
  walks [] at rest within front page =
      let long : length at.prefix ≡ LIMIT = ap length (sym (append-nil at.prefix) ∙ rest) ∙ length-take-le LIMIT (word_bits pseudokey) (omega (arith, length-word_bits pseudokey)) in
      arrived at (same_front at.prefix prefix front (omega (arith, long, short, front_shorter at.prefix prefix front))) page
  walks (bit ∷ bits) at rest within front page =
      elim (cases_eq (length at.prefix) (length prefix)) [
        | inl same ↦
            let is = same_front at.prefix prefix front same in
            elim (split_at table at.prefix) as (λ found. split_at table at.prefix ≡ found → option_map_or (λ right. walk_on (split_at table) bits (step at bit right)) found at ≡ end) [
              | None ↦ λ _. arrived at is page
              | Some right ↦ λ split. absurd (stops at.prefix is right split)
            ] refl
        | inr differ ↦
            let less : length at.prefix < length prefix = omega (arith, differ, front_shorter at.prefix prefix front) in
            let split = goes_on at.prefix within front less in
            ap (λ found. option_map_or (λ right. walk_on (split_at table) bits (step at bit right)) found at) split.1
            ∙ walks bits (step at bit split.0) (append_assoc at.prefix (bit ∷ []) bits ∙ rest) (front_of_longer ward at.prefix (bit ∷ []) within) (next_front at.prefix bit bits rest less) (next_page at bit split.0 (omega (arith, less, short)) split.1 page)
      ]

  pub walk_ends : Begins ward pseudokey → walk_in table ward pseudokey ≡ record { prefix = prefix; page = number }
  unfolding end
  walk_ends covered =
      let within = (linked.within number _ home.2).0 in
      let few : length ward ≤ LIMIT = omega (arith, short, front_shorter ward prefix within) in
      let cut : take (length ward) (take LIMIT (word_bits pseudokey)) ≡ ward = take-take (length ward) LIMIT (word_bits pseudokey) few ∙ covered in
      let rest : ward ++ drop (length ward) (take LIMIT (word_bits pseudokey)) ≡ take LIMIT (word_bits pseudokey) =
      ap (λ front. front ++ drop (length ward) (take LIMIT (word_bits pseudokey))) (sym cut) ∙ take-append-drop (length ward) (take LIMIT (word_bits pseudokey)) in
      walks (drop (length ward) (take LIMIT (word_bits pseudokey))) (record { prefix = ward; page = 0 }) rest (own_front ward) within (linked.first.0, linked.first.1, linked.first.3)

pub names_home : {ward : List Bool} {start : TableMap} {changes : List Notice} {table : TableMap} {pages : List Page} → AreLinked ward pages → IsGrown ward start changes pages → FitsPages ward table pages → (pseudokey : ℕ) → pseudokey < 2 ^ 64
    → Begins ward pseudokey → NamesHome ward start changes table pages pseudokey
names_home {ward = ward} {pages = pages} linked grown fits pseudokey small covered =
    let found = linked.home pseudokey small covered in
    let home = live_home pages found.0 found.1 pseudokey found.2 found.3 in
    record {
      leaf = record { prefix = home.0; page = found.0 };
      walk = walk_ends linked fits pseudokey home.0 found.0 home.1 home.2 covered;
      live = home.1;
      name = record {
        leaf = (grown.leaves home.0).1 (found.0, home.1);
        begins = home.2;
        only = λ other is other_begins.
            let twin = (grown.leaves other).0 is in
            let same = linked.one_home pseudokey twin.0 found.0 _ _ twin.1.2 home.1.2 other_begins home.2 in
            let page = one_there pages found.0 _ _ (subst (λ n. IsAt pages n (Live other twin.1.0 twin.1.1)) same twin.1.2) home.1.2 in
            cc;
      };
    }
