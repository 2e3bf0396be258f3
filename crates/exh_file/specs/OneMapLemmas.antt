-- The maps of wards, each of its own keys, and the one map that they are together.
use Rattle.std.proofs.Common.{◌≡◌, ◌≢◌, ℕ, ◌+◌, ◌-◌, ◌/◌, ◌≤◌, ◌^◌, Bool, true, false, cond, List, get_or, slice_get, Option, Some, None, inl, inr, refl, sym, ap, ◌∙◌, subst, nat_cmp, arith}
use Rattle.std.specs.Prelude.{nat_le, slice_set}
use Rattle.std.specs.FinMap as fin
use Rattle.std.specs.Ordering.{eq_by_cmp}
use Rattle.std.specs.Cmp.Lexicographic.{slice_cmp}
use Rattle.std.proofs.lemmas.Bool.{cases_eq, eqb-true}
use Rattle.std.proofs.lemmas.Cmp.{nat_list_cmp_total}
use Rattle.std.proofs.lemmas.List.{length-set}
use Rattle.std.proofs.lemmas.Map.Lookups.{exact_bytes}
use Rattle.std.proofs.lemmas.Option.{slice_get-get_or}
use Rattle.exh_prefix.specs.Leading.{leading, ward_of}
use Rattle.exh_prefix.specs.LeadingLemmas.{leading-fewer, leading-lt}
use Rattle.exh_prefix.specs.PrefixListLemmas.{is_equal, one_there, set_else, set_here}
use Rattle.exh_prefix.specs.declared.prefix.TheConstants.{LIMIT, WARD_BITS_LIMIT}
use Rattle.exh_keyer.specs.declared.any_keyer.AnyKeyer.{AnyKeyer}
use Rattle.exh_keyer.specs.Pseudokey.{any_pseudokey}
use Rattle.exh_page.specs.KeyMap.{KeyMap}
use Rattle.exh_calls.specs.Call.{key_of}
use Rattle.exh_calls.specs.Effect.{Change, Keep, Set, Remove, Effect, effect_of}
use Rattle.exh_calls.specs.MapMachine.{changed, effect_in, map_after, reply_of}
use Rattle.exh_calls.specs.SharingLemmas.{shares, sharing_same}
use Rattle.exh_calls.specs.declared.call.Call.{Call}
use Rattle.exh_file.specs.FileChange.{AreParts, IsPart}

-- ---- a change of a key

not_tied : (key other : List ℕ) (tied : Bool) (one else : Option (List ℕ)) → eq_by_cmp (slice_cmp nat_cmp) other key ≡ tied → other ≢ key → cond tied one else ≡ else
not_tied key other true one else is differ = absurd (differ (exact_bytes other key (is_equal (slice_cmp nat_cmp other key) is)))
not_tied key other false one else is differ = refl

-- other keys have what they had
changed_else : (change : Change) (key other : List ℕ) (m : KeyMap) → other ≢ key → fin.get (changed change key m) other ≡ fin.get m other
changed_else Keep key other m differ = refl
changed_else (Set value) key other m differ = fin.get-insert nat_list_cmp_total m key value other ∙ not_tied key other _ (Some value) (fin.get m other) refl differ
changed_else Remove key other m differ = fin.get-remove nat_list_cmp_total m key other ∙ not_tied key other _ None (fin.get m other) refl differ

-- maps that have the same at a key have the same there after one change
changed_same : (change : Change) (key other : List ℕ) (m n : KeyMap) → fin.get m other ≡ fin.get n other → fin.get (changed change key m) other ≡ fin.get (changed change key n) other
changed_same Keep key other m n same = same
changed_same (Set value) key other m n same =
    let tied = eq_by_cmp (slice_cmp nat_cmp) other key in
    fin.get-insert nat_list_cmp_total m key value other ∙ ap (λ found. cond tied (Some value) found) same ∙ sym (fin.get-insert nat_list_cmp_total n key value other)
changed_same Remove key other m n same =
    let tied = eq_by_cmp (slice_cmp nat_cmp) other key in
    fin.get-remove nat_list_cmp_total m key other ∙ ap (λ found. cond tied None found) same ∙ sym (fin.get-remove nat_list_cmp_total n key other)

-- ---- a call

module _ (cap ward_bits : ℕ) (keyer : AnyKeyer) (few : ward_bits ≤ WARD_BITS_LIMIT) where
  abbrev pseudo : List ℕ → ℕ
  pseudo = any_pseudokey keyer

  -- keys that share their leading bits, as Full counts them, are of one ward
  same_ward : (key other : List ℕ) → shares pseudo key other ≡ true → ward_of ward_bits (pseudo other) ≡ ward_of ward_bits (pseudo key)
  same_ward key other shared =
      let more = LIMIT - ward_bits in
      let all : ward_bits + more ≡ LIMIT = omega (arith, few) in
      let fewer : (k : ℕ) → leading LIMIT k / 2 ^ more ≡ ward_of ward_bits k = λ k. ap (λ (n : ℕ). leading n k / 2 ^ more) (sym all) ∙ leading-fewer ward_bits more k (omega (arith, all)) in
      sym (fewer (pseudo other)) ∙ ap (λ (n : ℕ). n / 2 ^ more) (eqb-true _ _ shared) ∙ fewer (pseudo key)

  module _ (maps : List KeyMap) (whole : KeyMap) (parts : AreParts ward_bits pseudo whole maps) (call : Call) where
    abbrev key : List ℕ
    key = key_of call

    abbrev at : ℕ
    at = ward_of ward_bits (pseudo key)

    abbrev own : KeyMap
    own = get_or maps at fin.empty

    there : slice_get maps at ≡ Some own
    there = slice_get-get_or maps at fin.empty (omega (arith, leading-lt ward_bits (pseudo key) (omega (arith, few)), parts.count))

    mine : IsPart ward_bits pseudo whole at own
    mine = parts.each at own there

    same_effect : effect_in cap pseudo own call ≡ effect_in cap pseudo whole call
    same_effect =
        ap (effect_of call (nat_le cap _)) (mine.own_keys key refl)
        ∙ ap (λ (sharers : ℕ). effect_of call (nat_le cap sharers) (fin.get whole key)) (sharing_same pseudo key own whole (λ other shared. mine.own_keys other (same_ward key other shared)))

    pub one_reply : reply_of cap pseudo own call ≡ reply_of cap pseudo whole call
    one_reply = ap (λ (effect : Effect). effect.reply) same_effect

    abbrev left : KeyMap
    left = map_after cap pseudo own call

    -- the change is the one map's
    own_left : (other : List ℕ) → ward_of ward_bits (pseudo other) ≡ at → fin.get left other ≡ fin.get (map_after cap pseudo whole call) other
    own_left other here =
        changed_same (effect_in cap pseudo own call).change key other own whole (mine.own_keys other here)
        ∙ ap (λ (effect : Effect). fin.get (changed effect.change key whole) other) same_effect

    not_key : (number : ℕ) (other : List ℕ) → (ward_of ward_bits (pseudo other) ≡ number) → number ≢ at → other ≢ key
    not_key number other is differ = λ same. differ (sym is ∙ ap (λ (k : List ℕ). ward_of ward_bits (pseudo k)) same)

    part_left : IsPart ward_bits pseudo (map_after cap pseudo whole call) at left
    part_left = record {
      own_keys = own_left;
      no_others = λ other else.
          changed_else (effect_in cap pseudo own call).change key other own (λ same. else (ap (λ (k : List ℕ). ward_of ward_bits (pseudo k)) same)) ∙ mine.no_others other else;
    }

    part_else : (number : ℕ) (other : KeyMap) → number ≢ at → IsPart ward_bits pseudo whole number other → IsPart ward_bits pseudo (map_after cap pseudo whole call) number other
    part_else number other differ part = record {
      own_keys = λ one here. part.own_keys one here ∙ sym (changed_else (effect_in cap pseudo whole call).change key one whole (not_key number one here differ));
      no_others = part.no_others;
    }

    pub parts_left : AreParts ward_bits pseudo (map_after cap pseudo whole call) (slice_set maps at left)
    parts_left = record {
      count = length-set maps at left ∙ parts.count;
      each = λ number other found. elim (cases_eq number at) [
        | inl same ↦
            let is : other ≡ left = one_there (slice_set maps at left) at other left (subst (λ n. slice_get (slice_set maps at left) n ≡ Some other) same found) (set_here maps at own left there) in
            subst (λ n. IsPart ward_bits pseudo (map_after cap pseudo whole call) n other) (sym same)
            (subst (λ (m : KeyMap). IsPart ward_bits pseudo (map_after cap pseudo whole call) at m) (sym is) part_left)
        | inr differ ↦ part_else number other differ (parts.each number other (sym (set_else maps at number left differ) ∙ found))
      ];
    }
