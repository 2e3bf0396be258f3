-- The map of a sound world: at each key it is that of the key's own ward, and an answered call leaves it as the map machine does.
use Rattle.std.proofs.Common.{◌≡◌, ℕ, suc, ◌+◌, ◌≤◌, Bool, true, false, cond, List, [], ◌∷◌, ◌++◌, length, map, slice_get, Some, inl, inr, refl, sym, ap, ◌∙◌, subst, arith, nat_cmp}
use Rattle.std.specs.Prelude.{slice_set, flat_map}
use Rattle.std.specs.FinMap as fin
use Rattle.std.specs.Option.{option_map}
use Rattle.std.specs.Ordering.{eq_by_cmp}
use Rattle.std.specs.Cmp.Lexicographic.{slice_cmp}
use Rattle.std.proofs.lemmas.Bool.{cases_eq, eqb-true}
use Rattle.std.proofs.lemmas.Map.Lookups.{exact_bytes}
use Rattle.std.proofs.lemmas.Option.{slice_get-map}
use Rattle.exh_prefix.specs.declared.prefix.TheConstants.{LIMIT}
use Rattle.exh_prefix.specs.BitLemmas.{length-bits_of}
use Rattle.exh_prefix.specs.Prefix.{Begins}
use Rattle.exh_prefix.specs.PrefixListLemmas.{set_here, set_else, is_equal}
use Rattle.exh_prefix.specs.Leading.{leading, ward_of, ward_prefix}
use Rattle.exh_page.specs.declared.page.Page.{Page}
use Rattle.exh_page.specs.KeyMapLemmas.{same_maps}
use Rattle.exh_legal.specs.Pages.{map_of, IsLegal}
use Rattle.exh_calls.specs.Call.{key_of}
use Rattle.exh_calls.specs.CallLaws.{SharersBegin}
use Rattle.exh_calls.specs.MapMachine.{reply_of, map_after}
use Rattle.exh_ward.specs.WardState.{WardState, own_prefix}
use Rattle.exh_calls.specs.declared.call.Call.{Call}
use Rattle.exh_world.specs.Sound.{IsSoundWorld}
use Rattle.exh_world.specs.World.{WorldState, map_in}
use Rattle.exh_world.proofs.BegunSound.{ward_begins, ward_there}
use Rattle.exh_legal.specs.WardMapLemmas.{all_pages_of, AreLegalFrom, get_in_ward}
use Rattle.exh_world.proofs.OneMap.{AreAlike, same_reply, left_by_call}

module _ {K : Type 0} where
  abbrev pub pages_in : WardState K → List Page
  pages_in ward = ward.pages

  flat_pages : (wards : List (WardState K)) → flat_map pages_in wards ≡ all_pages_of (map pages_in wards)
  flat_pages [] = refl
  flat_pages (ward ∷ wards) = ap (λ rest. ward.pages ++ rest) (flat_pages wards)

  legal_from : (cap : ℕ) (pseudo : List ℕ → ℕ) (ward_bits first : ℕ) (wards : List (WardState K)) → ((number : ℕ) (ward : WardState K) → slice_get wards number ≡ Some ward → IsLegal cap pseudo (ward_prefix ward_bits (first + number)) ward.pages)
      → AreLegalFrom cap pseudo ward_bits first (map pages_in wards)
  legal_from cap pseudo ward_bits first [] each = tt
  legal_from cap pseudo ward_bits first (ward ∷ wards) each =
      let here : first + 0 ≡ first = omega arith in (
        subst (λ n. IsLegal cap pseudo (ward_prefix ward_bits n) ward.pages) here (each 0 ward refl),
        legal_from cap pseudo ward_bits (suc first) wards (λ number other is.
            let later : first + suc number ≡ suc first + number = omega arith in
            subst (λ n. IsLegal cap pseudo (ward_prefix ward_bits n) other.pages) later (each (suc number) other is)),
      )

  count_pages : (wards : List (WardState K)) → length (map pages_in wards) ≡ length wards
  count_pages [] = refl
  count_pages (ward ∷ wards) = ap suc (count_pages wards)

-- ---- at each key

module _ {K : Type 0} (pseudokey_of : K → List ℕ → ℕ) (world : WorldState K) (sound : IsSoundWorld pseudokey_of world) where
  abbrev pub pseudo : List ℕ → ℕ
  pseudo = pseudokey_of world.keyer

  pub own_legal : (number : ℕ) (ward : WardState K) → slice_get world.wards number ≡ Some ward → IsLegal world.cap pseudo (ward_prefix world.ward_bits number) ward.pages
  own_legal number ward is =
      let own = sound.wards number ward is in
      let prefix_is : own_prefix ward ≡ ward_prefix world.ward_bits number = ap (λ bits. ward_prefix bits ward.number) own.bits ∙ ap (ward_prefix world.ward_bits) own.number_is in
      subst (λ p. IsLegal world.cap pseudo p ward.pages) prefix_is
      (subst (λ keyer. IsLegal world.cap (pseudokey_of keyer) (own_prefix ward) ward.pages) own.keyer
      (subst (λ cap. IsLegal cap (pseudokey_of ward.keyer) (own_prefix ward) ward.pages) own.cap own.sound.legal.legal.legal))

  pub get_own : (number : ℕ) (ward : WardState K) (key : List ℕ) → slice_get world.wards number ≡ Some ward → Begins (ward_prefix world.ward_bits number) (pseudo key) → fin.get (map_in world) key ≡ fin.get (map_of ward.pages) key
  get_own number ward key is begins =
      let lists = map pages_in world.wards in
      ap (λ pages. fin.get (map_of pages) key) (flat_pages world.wards)
      ∙ get_in_ward world.cap pseudo world.ward_bits number lists ward.pages key (legal_from world.cap pseudo world.ward_bits 0 world.wards (λ n w there. let here : n ≡ 0 + n = omega arith in subst (λ m. IsLegal world.cap pseudo (ward_prefix world.ward_bits m) w.pages) here (own_legal n w there)))
      (count_pages world.wards ∙ sound.count) (slice_get-map pages_in world.wards number ∙ ap (option_map pages_in) is) (own_legal number ward is).each begins

-- ---- two sound worlds, of which the one came of the other by a change of one ward

module _ {K : Type 0} (pseudokey_of : K → List ℕ → ℕ) (old : WorldState K) (sound : IsSoundWorld pseudokey_of old) (at : ℕ) (before left : WardState K) (found : slice_get old.wards at ≡ Some before)
    (new : WorldState K) (new_sound : IsSoundWorld pseudokey_of new) (keyer : new.keyer ≡ old.keyer) (bits : new.ward_bits ≡ old.ward_bits) (wards : new.wards ≡ slice_set old.wards at left) where
  abbrev old_pseudo : List ℕ → ℕ
  old_pseudo = pseudokey_of old.keyer

  -- what the new world has at a key of a ward that it has
  new_own : (number : ℕ) (ward : WardState K) (key : List ℕ) → slice_get (slice_set old.wards at left) number ≡ Some ward → Begins (ward_prefix old.ward_bits number) (old_pseudo key) → fin.get (map_in new) key ≡ fin.get (map_of ward.pages) key
  new_own number ward key is begins =
      get_own pseudokey_of new new_sound number ward key (ap (λ ws. slice_get ws number) wards ∙ is)
      (subst (λ k. Begins (ward_prefix new.ward_bits number) (pseudokey_of k key)) (sym keyer) (subst (λ n. Begins (ward_prefix n number) (old_pseudo key)) (sym bits) begins))

  pub new_here : (key : List ℕ) → Begins (ward_prefix old.ward_bits at) (old_pseudo key) → fin.get (map_in new) key ≡ fin.get (map_of left.pages) key
  new_here key begins = new_own at left key (set_here old.wards at before left found) begins

  pub new_else : (key : List ℕ) → (ward_of old.ward_bits (old_pseudo key) ≡ at → ⊥) → fin.get (map_in new) key ≡ fin.get (map_in old) key
  new_else key differ =
      let k = old_pseudo key in
      let number = ward_of old.ward_bits k in
      let own = ward_there pseudokey_of old sound k in
      new_own number own.0 key (set_else old.wards at number left differ ∙ own.1) (ward_begins pseudokey_of old sound k)
      ∙ sym (get_own pseudokey_of old sound number own.0 key own.1 (ward_begins pseudokey_of old sound k))

  -- where the ward's map is as it was, so is the world's
  pub same_map : map_of left.pages ≡ map_of before.pages → map_in new ≡ map_in old
  same_map same = same_maps (map_in new) (map_in old) (λ key. elim (cases_eq (ward_of old.ward_bits (old_pseudo key)) at) [
    | inl here ↦
        let begins = subst (λ n. Begins (ward_prefix old.ward_bits n) (old_pseudo key)) here (ward_begins pseudokey_of old sound (old_pseudo key)) in
        new_here key begins ∙ ap (λ m. fin.get m key) same ∙ sym (get_own pseudokey_of old sound at before key found begins)
    | inr else ↦ new_else key else
  ])

  -- ---- a call answered in the ward

  module _ (sharers : SharersBegin) (call : Call) (begins : Begins (ward_prefix old.ward_bits at) (old_pseudo (key_of call))) where
    alike : AreAlike old_pseudo (map_in old) (map_of before.pages) (key_of call)
    alike other shared =
        let same : leading LIMIT (old_pseudo other) ≡ leading LIMIT (old_pseudo (key_of call)) = eqb-true _ _ shared in
        let short : length (ward_prefix old.ward_bits at) ≤ LIMIT = omega (arith, length-bits_of old.ward_bits at, sound.bits) in
        get_own pseudokey_of old sound at before other found ((sharers (ward_prefix old.ward_bits at) (old_pseudo (key_of call)) (old_pseudo other) short (sound.words (key_of call)) (sound.words other)).begun begins same)

    pub one_reply : reply_of old.cap old_pseudo (map_in old) call ≡ reply_of old.cap old_pseudo (map_of before.pages) call
    one_reply = same_reply old.cap old_pseudo (map_in old) (map_of before.pages) call alike

    -- the ward's own map after the call, at a key other than the call's
    else_left : (key : List ℕ) → eq_by_cmp (slice_cmp nat_cmp) key (key_of call) ≡ false → fin.get (map_after old.cap old_pseudo (map_of before.pages) call) key ≡ fin.get (map_of before.pages) key
    else_left key differs =
        left_by_call old.cap old_pseudo (map_of before.pages) (map_of before.pages) call key (λ other shared. refl)
        ∙ ap (λ b. cond b (fin.get (map_after old.cap old_pseudo (map_of before.pages) call) key) (fin.get (map_of before.pages) key)) differs

    module _ (left_is : map_of left.pages ≡ map_after old.cap old_pseudo (map_of before.pages) call) where
      at_key : (key : List ℕ) (tied : Bool) → eq_by_cmp (slice_cmp nat_cmp) key (key_of call) ≡ tied
          → fin.get (map_in new) key ≡ cond tied (fin.get (map_after old.cap old_pseudo (map_of before.pages) call) key) (fin.get (map_in old) key)
      at_key key true is =
          let same : key ≡ key_of call = exact_bytes key (key_of call) (is_equal (slice_cmp nat_cmp key (key_of call)) is) in
          new_here key (subst (λ k. Begins (ward_prefix old.ward_bits at) (old_pseudo k)) (sym same) begins) ∙ ap (λ m. fin.get m key) left_is
      at_key key false is = elim (cases_eq (ward_of old.ward_bits (old_pseudo key)) at) [
        | inl here ↦
            let own_begins = subst (λ n. Begins (ward_prefix old.ward_bits n) (old_pseudo key)) here (ward_begins pseudokey_of old sound (old_pseudo key)) in
            new_here key own_begins ∙ ap (λ m. fin.get m key) left_is ∙ else_left key is ∙ sym (get_own pseudokey_of old sound at before key found own_begins)
        | inr else ↦ new_else key else
      ]

      pub map_answered : map_in new ≡ map_after old.cap old_pseudo (map_in old) call
      map_answered = same_maps (map_in new) (map_after old.cap old_pseudo (map_in old) call) (λ key.
          at_key key (eq_by_cmp (slice_cmp nat_cmp) key (key_of call)) refl ∙ sym (left_by_call old.cap old_pseudo (map_in old) (map_of before.pages) call key alike))
