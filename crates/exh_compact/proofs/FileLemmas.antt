-- A put into the ward of its key, among the wards of a file, and the pairs that were put so far.
use Rattle.std.proofs.Common.{◌≡◌, ◌≢◌, ℕ, zero, suc, ◌^◌, Bool, true, false, List, [], ◌∷◌, ◌++◌, length, map, slice_get, None, Some, Result, Ok, Err, IfOk, OnOk, inl, inr, refl, sym, ap, ◌∙◌, subst}
use Rattle.std.specs.Prelude.{slice_index_or, slice_set, nat_le}
use Rattle.std.specs.FinMap as fin
use Rattle.std.specs.List.{AllByRecursion}
use Rattle.std.proofs.lemmas.List.{length-map}
use Rattle.std.specs.Cmp.Lexicographic.{slice_cmp}
use Rattle.std.specs.Ordering.{nat_cmp}
use Rattle.exh_keyer.specs.Pseudokey.{any_pseudokey}
use Rattle.exh_keyer.specs.declared.any_keyer.AnyKeyer.{AnyKeyer}
use Rattle.exh_prefix.specs.Leading.{ward_of, ward_prefix}
use Rattle.exh_prefix.specs.PrefixListLemmas.{set_is}
use Rattle.exh_page.specs.KeyMap.{KeyMap}
use Rattle.exh_page.specs.declared.page.Page.{Page}
use Rattle.exh_page.specs.declared.page.Page.TheVariants.{Live}
use Rattle.exh_page.specs.FileSettings.{AreInRange}
use Rattle.exh_page.specs.declared.file_settings.FileSettings.{FileSettings}
use Rattle.exh_calls.specs.Call.{key_of}
use Rattle.exh_calls.specs.MapMachine.{map_after, reply_of}
use Rattle.exh_calls.specs.declared.call.Call.{Call}
use Rattle.exh_calls.specs.declared.call.Call.TheVariants.{Put}
use Rattle.exh_calls.specs.declared.reply.Reply.{Reply}
use Rattle.exh_calls.specs.declared.reply.Reply.TheVariants.{Full, New}
use Rattle.exh_legal.specs.Pages.{IsAt, map_of}
use Rattle.exh_ward.specs.NewWards.{new_ward, new_wards}
use Rattle.exh_ward.specs.WardState.{WardState}
use Rattle.exh_ward.specs.declared.ward_fault.WardFault.{WardFault}
use Rattle.exhash.specs.FileChange.{ChangesOneMap, HasMap, maps_in}
use Rattle.exhash.specs.InWardLemmas.{settings_kept, there, wards_left}
use Rattle.exhash.specs.Opened.{AreWardsOf, OpenedState, in_file}
use Rattle.exhash.specs.WardChange.{IsChanged}
use Rattle.exh_compact.specs.Needed.{AreAllNeeded, AreNeeded, IsNeeded}
use Rattle.exh_compact.specs.Room.{sharers}
use Rattle.exhash.proofs.NewLemmas.{new_at, new_count}
use Rattle.exh_compact.proofs.FillLemmas.{IsPutSoFar, full_map, full_reply, full_then, new_map, new_reply, new_then, none_put}

-- ---- one ward among others

needed_set : (wards : List (WardState AnyKeyer)) (at : ℕ) (ward after : WardState AnyKeyer) → slice_get wards at ≡ Some ward → AreAllNeeded wards → AreNeeded after → AreAllNeeded (slice_set wards at after)
needed_set wards at ward after is_there are now number one found = elim (set_is wards at number ward after one is_there found) [
  | inl here ↦ subst AreNeeded (sym here.1) now
  | inr else ↦ are number one else.1
]

module _ (old : OpenedState) (are : AreWardsOf old) (call : Call) (pseudokey at : ℕ) (hashed : pseudokey ≡ any_pseudokey old.keyer (key_of call)) (at_is : at ≡ ward_of old.ward_bits pseudokey)
    (ward : WardState AnyKeyer) (ward_is : ward ≡ slice_index_or old.wards at ward) (after : WardState AnyKeyer) where
  abbrev left : OpenedState
  left = record old { wards = slice_set old.wards at after }

  pub wards_if : (result : Result Reply WardFault) → IfOk result (λ reply. IsChanged any_pseudokey ward call reply after) → OnOk result (AreWardsOf left)
  wards_if (Ok reply) changed = wards_left old are call pseudokey at hashed at_is ward ward_is after (settings_kept ward after call (Ok reply) changed tt)
  wards_if (Err fault) changed = tt

  pub needed_if : (result : Result Reply WardFault) → IfOk result (λ reply. reply ≡ New → AreNeeded ward → AreNeeded after) → IfOk result (λ reply. reply ≡ New → AreAllNeeded old.wards → AreAllNeeded (slice_set old.wards at after))
  needed_if (Ok reply) needed = λ is all.
      let is_there = there old are call pseudokey at hashed at_is ward ward_is in
      needed_set old.wards at ward after is_there all (needed is (all at ward is_there))
  needed_if (Err fault) needed = tt

-- ---- the wards of a new file

module _ (settings : FileSettings AnyKeyer) (wards : List (WardState AnyKeyer)) (made : wards ≡ new_wards settings) where
  maps_there : (ws : List (WardState AnyKeyer)) (number : ℕ) (own : KeyMap) → slice_get (map (λ (w : WardState AnyKeyer). map_of w.pages) ws) number ≡ Some own → (ward : WardState AnyKeyer) × (slice_get ws number ≡ Some ward) × (map_of ward.pages ≡ own)
  maps_there [] number own is_there = cc
  maps_there (ward ∷ ws) zero own is_there = let same : map_of ward.pages ≡ own = cc in (ward, refl, same)
  maps_there (ward ∷ ws) (suc number) own is_there = maps_there ws number own is_there

  none_in : (number : ℕ) (own : KeyMap) → slice_get (maps_in (in_file settings wards)) number ≡ Some own → own ≡ fin.empty
  none_in number own is_there =
      let found = maps_there wards number own is_there in
      sym found.2 ∙ ap (λ (w : WardState AnyKeyer). map_of w.pages) (new_at settings wards made number found.0 found.1)

  pub new_has : HasMap (in_file settings wards) fin.empty
  new_has = record {
    count = length-map wards (λ (w : WardState AnyKeyer). map_of w.pages) ∙ new_count settings wards made;
    each = λ number own is_there.
        let none = none_in number own is_there in
        record {
          own_keys = λ key here. ap (λ (m : KeyMap). fin.get m key) none;
          no_others = λ key else. ap (λ (m : KeyMap). fin.get m key) none ∙ fin.get-empty (slice_cmp nat_cmp) key;
        };
  }

  one_needed : (bits number : ℕ) (cap : ℕ) (pseudo : List ℕ → ℕ) (m : KeyMap) (at : ℕ) (page : Page) → IsAt (Live (ward_prefix bits number) None [] ∷ []) at page → IsNeeded cap pseudo (ward_prefix bits number) m page
  one_needed bits number cap pseudo m zero page is_there =
      let same : Live (ward_prefix bits number) None [] ≡ page = cc in
      subst (IsNeeded cap pseudo (ward_prefix bits number) m) same (inl refl)
  one_needed bits number cap pseudo m (suc at) page is_there = cc

  pub new_needed : AreAllNeeded wards
  new_needed number ward is_there =
      subst AreNeeded (sym (new_at settings wards made number ward is_there)) (one_needed settings.ward_bits number settings.cap (any_pseudokey settings.keyer) (map_of (new_ward settings number).pages))

-- ---- the pairs so far

not_none : (xs : List (List ℕ)) (x : List ℕ) → xs ++ x ∷ [] ≡ [] → ⊥
not_none [] x none = cc
not_none (y ∷ xs) x none = cc

full_not_new : Full ≡ New → ⊥
full_not_new same = cc

pub record IsFilling (settings : FileSettings AnyKeyer) (wards : List (WardState AnyKeyer)) (full : List (List ℕ)) (front : List (List ℕ × List ℕ)) : Type 0 where
  pub are : AreWardsOf (in_file settings wards)
  pub m : KeyMap
  pub has : HasMap (in_file settings wards) m
  pub put : IsPutSoFar settings.cap (any_pseudokey settings.keyer) front full m
  pub needed : full ≡ [] → AreAllNeeded wards

pub filling_begun : (settings : FileSettings AnyKeyer) (wards : List (WardState AnyKeyer)) → AreWardsOf (in_file settings wards) → HasMap (in_file settings wards) fin.empty → AreAllNeeded wards → IsFilling settings wards [] []
filling_begun settings wards are has needed = record {
  are = are;
  m = fin.empty;
  has = has;
  put = none_put settings.cap (any_pseudokey settings.keyer);
  needed = λ _. needed;
}

module _ (settings : FileSettings AnyKeyer) (old new : List (WardState AnyKeyer)) (full : List (List ℕ)) (front : List (List ℕ × List ℕ)) (pair : List ℕ × List ℕ) (reply : Reply) (filling : IsFilling settings old full front)
    (before : AllByRecursion (λ other. other.0 ≢ pair.0) front) (one : ChangesOneMap (in_file settings old) (Put pair.0 pair.1) reply (in_file settings new)) (are : AreWardsOf (in_file settings new)) where
  abbrev pseudo : List ℕ → ℕ
  pseudo = any_pseudokey settings.keyer

  abbrev tells : Bool
  tells = nat_le settings.cap (sharers pseudo front pair.0)

  reply_is : reply ≡ reply_of settings.cap pseudo filling.m (Put pair.0 pair.1)
  reply_is = (one filling.m filling.has).reply_is

  map_is : HasMap (in_file settings new) (map_after settings.cap pseudo filling.m (Put pair.0 pair.1))
  map_is = (one filling.m filling.has).map

  pub filling_full : reply ≡ Full → IsFilling settings new (full ++ pair.0 ∷ []) (front ++ pair ∷ [])
  filling_full is = elim tells as (λ b. tells ≡ b → IsFilling settings new (full ++ pair.0 ∷ []) (front ++ pair ∷ [])) [
    | true ↦ λ many. record {
      are = are;
      m = filling.m;
      has = subst (HasMap (in_file settings new)) (full_map settings.cap pseudo front pair full filling.m filling.put before many) map_is;
      put = full_then settings.cap pseudo front pair full filling.m filling.put before many;
      needed = λ none. absurd (not_none full pair.0 none);
    }
    | false ↦ λ few. absurd (full_not_new (sym is ∙ reply_is ∙ new_reply settings.cap pseudo front pair full filling.m filling.put before few))
  ] refl

  pub filling_new : (reply ≡ Full → ⊥) → (reply ≡ New → AreAllNeeded old → AreAllNeeded new) → IsFilling settings new full (front ++ pair ∷ [])
  filling_new isnt needed = elim tells as (λ b. tells ≡ b → IsFilling settings new full (front ++ pair ∷ [])) [
    | true ↦ λ many. absurd (isnt (reply_is ∙ full_reply settings.cap pseudo front pair full filling.m filling.put before many))
    | false ↦ λ few. record {
      are = are;
      m = fin.insert filling.m pair.0 pair.1;
      has = subst (HasMap (in_file settings new)) (new_map settings.cap pseudo front pair full filling.m filling.put before few) map_is;
      put = new_then settings.cap pseudo front pair full filling.m filling.put before few;
      needed = λ none. needed (reply_is ∙ new_reply settings.cap pseudo front pair full filling.m filling.put before few) (filling.needed none);
    }
  ] refl
