use Rattle.std.proofs.Common.{◌≡◌, ℕ, ◌+◌, ◌<◌, ◌≤◌, List, length, drop, Option, None, Some, option_map, slice_get, Result, Ok, Err, OkIff, IsOk, refl, sym, ap, ◌∙◌, subst, arith}
use denote.Bor.{Bor}
use Rattle.std.specs.Option.{option_copied}
use Rattle.std.specs.Slice.{IsItemAt}
use Rattle.std.proofs.lemmas.Option.{slice_get-get_or, slice_get-map}
use Rattle.std.proofs.lemmas.List.{length-drop, length-take}
use Rattle.exh_calls.specs.Journal.{bytes_at}
use Rattle.exh_calls.specs.PackedPairs.{ArePairsWithin, IsPairWithin, pair_in, pairs_in}
use Rattle.exh_calls.specs.declared.packed_pairs.StoredPair.{StoredPair}
use Rattle.exh_calls.proofs.packed_pairs.PackedPairs.get.Goals as goal

-- what is stored at a place is within the texts
stored_within : (texts : List ℕ) (items now : List StoredPair) (at : ℕ) (lent : Option (Bor StoredPair)) (copied : Option StoredPair) (stored : StoredPair) → ArePairsWithin texts items → now ≡ items → IsItemAt now at lent
    → copied ≡ option_copied lent → copied ≡ Some stored → IsPairWithin texts stored
stored_within texts items now at None copied stored within same item is found = let no : ⊥ = cc in absurd no
stored_within texts items now at (Some x) copied stored within same item is found =
    let here : x.now ≡ stored = cc in
    let less : at < length now = omega arith in
    let P : List StoredPair → Type 0 = ArePairsWithin texts in
    subst (IsPairWithin texts) (sym item.1 ∙ here) (subst P (sym same) within at x.now less)

key_there : {texts : List ℕ} {stored : StoredPair} → IsPairWithin texts stored → (lent : List ℕ) → lent ≡ texts → stored.start + stored.key_len ≤ length lent
key_there is lent same = omega (arith, is.there, ap length same)

value_there : {texts : List ℕ} {stored : StoredPair} → IsPairWithin texts stored → (lent : List ℕ) → lent ≡ texts → (key : ℕ) → key ≡ stored.key_len → stored.start + key + stored.value_len ≤ length lent
value_there is lent same key key_is = omega (arith, is.there, ap length same, key_is)

short : (lent bytes : List ℕ) (start len limit : ℕ) → bytes ≡ bytes_at lent start len → len ≤ limit → length bytes ≤ limit
short lent bytes start len limit is fits = omega (arith, ap length is, length-take len (drop start lent), fits)

not_empty : (lent bytes : List ℕ) (start len : ℕ) → bytes ≡ bytes_at lent start len → start + len ≤ length lent → 1 ≤ len → 1 ≤ length bytes
not_empty lent bytes start len is there some = omega (arith, ap length is, length-take len (drop start lent), length-drop start lent, there, some)

stored_there : (items now : List StoredPair) (at : ℕ) (lent : Option (Bor StoredPair)) (copied : Option StoredPair) (stored : StoredPair) → now ≡ items → IsItemAt now at lent → copied ≡ option_copied lent → copied ≡ Some stored
    → slice_get items at ≡ Some stored
stored_there items now at None copied stored same item is found = let no : ⊥ = cc in absurd no
stored_there items now at (Some x) copied stored same item is found =
    let here : x.now ≡ stored = cc in
    let less : at < length now = omega arith in
    ap (λ items. slice_get items at) (sym same) ∙ slice_get-get_or now at x.now less ∙ ap Some (sym item.1 ∙ here)

-- the pair of what is stored there
pair_there : (texts : List ℕ) (items : List StoredPair) (at : ℕ) (stored : StoredPair) (now : List (List ℕ × List ℕ)) (key_lent value_lent key value : List ℕ) (len : ℕ) → slice_get items at ≡ Some stored → pairs_in texts items ≡ now
    → key_lent ≡ texts → value_lent ≡ texts → len ≡ stored.key_len → key ≡ bytes_at key_lent stored.start stored.key_len → value ≡ bytes_at value_lent (stored.start + len) stored.value_len → Some (key, value) ≡ slice_get now at
pair_there texts items at stored now key_lent value_lent key value len there same same_key same_value len_is key_is value_is =
    let pair : key ≡ bytes_at texts stored.start stored.key_len = key_is ∙ ap (λ texts. bytes_at texts stored.start stored.key_len) same_key in
    let beside : value ≡ bytes_at texts (stored.start + stored.key_len) stored.value_len =
    value_is ∙ ap (λ texts. bytes_at texts (stored.start + len) stored.value_len) same_value ∙ ap (λ len. bytes_at texts (stored.start + len) stored.value_len) len_is in
    ap (λ key. Some (key, value)) pair ∙ ap (λ value. Some (bytes_at texts stored.start stored.key_len, value)) beside
    ∙ sym (slice_get-map (pair_in texts) items at ∙ ap (option_map (pair_in texts)) there) ∙ ap (λ now. slice_get now at) same

made_of : {T E : Type 0} (P : Type 0) (r : Result T E) (value made : T) → OkIff r P value → r ≡ Ok made → made ≡ value
made_of P r value made iff is = (subst (λ r. OkIff r P value) is iff).1

taken : {T E P : Type 0} (r : Result T E) (value : T) → OkIff r P value → P → IsOk r
taken (Ok value) given is holds = refl
taken (Err fault) given is holds = absurd (is holds)

pub bytes_at-key-requires : goal.bytes_at-key-requires
bytes_at-key-requires c = key_there (stored_within c.self.inside.texts.items c.self.inside.stored.items c.deref.result.now c.args.at c.get.result c.copied.result c.in_ok-stored.stored c.self.invariant c.deref.ensures.value c.get.ensures.lookup c.copied.ensures c.in_ok-stored.was) c.deref-2.result.now c.deref-2.ensures.value

pub bytes_at-value-requires : goal.bytes_at-value-requires
bytes_at-value-requires c = value_there (stored_within c.self.inside.texts.items c.self.inside.stored.items c.deref.result.now c.args.at c.get.result c.copied.result c.in_ok-stored.stored c.self.invariant c.deref.ensures.value c.get.ensures.lookup c.copied.ensures c.in_ok-stored.was) c.deref-3.result.now c.deref-3.ensures.value c.from.result c.from.ensures

pub unwrap-key-requires : goal.unwrap-key-requires
unwrap-key-requires c = taken c.from_bytes.result c.bytes_at-key.result.now c.from_bytes.ensures (not_empty c.deref-2.result.now c.bytes_at-key.result.now _ c.in_ok-stored.stored.key_len c.bytes_at-key.ensures (key_there (stored_within c.self.inside.texts.items c.self.inside.stored.items c.deref.result.now c.args.at c.get.result c.copied.result c.in_ok-stored.stored c.self.invariant c.deref.ensures.value c.get.ensures.lookup c.copied.ensures c.in_ok-stored.was) c.deref-2.result.now c.deref-2.ensures.value) (stored_within c.self.inside.texts.items c.self.inside.stored.items c.deref.result.now c.args.at c.get.result c.copied.result c.in_ok-stored.stored c.self.invariant c.deref.ensures.value c.get.ensures.lookup c.copied.ensures c.in_ok-stored.was).some, short c.deref-2.result.now c.bytes_at-key.result.now _ c.in_ok-stored.stored.key_len _ c.bytes_at-key.ensures (stored_within c.self.inside.texts.items c.self.inside.stored.items c.deref.result.now c.args.at c.get.result c.copied.result c.in_ok-stored.stored c.self.invariant c.deref.ensures.value c.get.ensures.lookup c.copied.ensures c.in_ok-stored.was).key)

pub unwrap-requires : goal.unwrap-requires
unwrap-requires c = taken c.from_bytes-2.result c.bytes_at-value.result.now c.from_bytes-2.ensures (short c.deref-3.result.now c.bytes_at-value.result.now _ c.in_ok-stored.stored.value_len _ c.bytes_at-value.ensures (stored_within c.self.inside.texts.items c.self.inside.stored.items c.deref.result.now c.args.at c.get.result c.copied.result c.in_ok-stored.stored c.self.invariant c.deref.ensures.value c.get.ensures.lookup c.copied.ensures c.in_ok-stored.was).value)

pub returns : goal.returns
returns c =
    pair_there c.self.inside.texts.items c.self.inside.stored.items c.args.at c.in_ok-stored.stored c.args.self.now c.deref-2.result.now c.deref-3.result.now c.unwrap-key.result c.unwrap.result c.from.result
    (stored_there c.self.inside.stored.items c.deref.result.now c.args.at c.get.result c.copied.result c.in_ok-stored.stored c.deref.ensures.value c.get.ensures.lookup c.copied.ensures c.in_ok-stored.was) c.self.view_is
    c.deref-2.ensures.value c.deref-3.ensures.value c.from.ensures
    (made_of _ c.from_bytes.result c.bytes_at-key.result.now c.unwrap-key.result c.from_bytes.ensures c.unwrap-key.ensures ∙ c.bytes_at-key.ensures)
    (made_of _ c.from_bytes-2.result c.bytes_at-value.result.now c.unwrap.result c.from_bytes-2.ensures c.unwrap.ensures ∙ c.bytes_at-value.ensures)
