use Rattle.std.proofs.Common.{◌≡◌, ℕ, ◌+◌, ◌<◌, ◌≤◌, List, length, drop, Option, None, Some, slice_get, refl, sym, ap, ◌∙◌, subst, arith}
use denote.Bor.{Bor}
use Rattle.std.specs.Option.{option_copied}
use Rattle.std.specs.Slice.{IsItemAt}
use Rattle.std.proofs.lemmas.Option.{slice_get-get_or, slice_get-map}
use Rattle.std.proofs.lemmas.List.{length-drop, length-take}
use Rattle.exh_calls.specs.declared.stored_entry.StoredEntry.{StoredEntry}
use Rattle.exh_calls.specs.Journal.{AreWithin, IsStoredWithin, JournalState, bytes_at, entry_in, key_in, value_in, second_in, reply_value_in}
use Rattle.exh_calls.proofs.journal.Journal.get.Goals as goal

-- what is stored at a place is within the texts
stored_within : (texts : List ℕ) (items now : List StoredEntry) (at : ℕ) (lent : Option (Bor StoredEntry)) (copied : Option StoredEntry) (stored : StoredEntry) → AreWithin texts items → now ≡ items → IsItemAt now at lent
    → copied ≡ option_copied lent → copied ≡ Some stored → IsStoredWithin texts stored
stored_within texts items now at None copied stored within same item is found = let no : ⊥ = cc in absurd no
stored_within texts items now at (Some x) copied stored within same item is found =
    let here : x.now ≡ stored = cc in
    let less : at < length now = omega arith in
    let P : List StoredEntry → Type 0 = AreWithin texts in
    subst (IsStoredWithin texts) (sym item.1 ∙ here) (subst P (sym same) within at x.now less)

stored_there : (items now : List StoredEntry) (at : ℕ) (lent : Option (Bor StoredEntry)) (copied : Option StoredEntry) (stored : StoredEntry) → now ≡ items → IsItemAt now at lent → copied ≡ option_copied lent → copied ≡ Some stored
    → slice_get items at ≡ Some stored
stored_there items now at None copied stored same item is found = let no : ⊥ = cc in absurd no
stored_there items now at (Some x) copied stored same item is found =
    let here : x.now ≡ stored = cc in
    let less : at < length now = omega arith in
    ap (λ items. slice_get items at) (sym same) ∙ slice_get-get_or now at x.now less ∙ ap Some (sym item.1 ∙ here)

same_bytes : (texts lent bytes : List ℕ) (start other len : ℕ) → bytes ≡ bytes_at lent start len → lent ≡ texts → start ≡ other → bytes_at texts other len ≡ bytes
same_bytes texts lent bytes start other len is same starts = sym (is ∙ ap (λ lent. bytes_at lent start len) same ∙ ap (λ start. bytes_at texts start len) starts)

same_sum : {one other more rest : ℕ} → one ≡ other → more ≡ rest → one + more ≡ other + rest
same_sum same alike = omega (arith, same, alike)

same_start : (start : ℕ) {key value one other : ℕ} → key ≡ one → value ≡ other → start + key + value ≡ start + one + other
same_start start same alike = omega (arith, same, alike)

-- the bytes of an entry are there
module _ {texts : List ℕ} {stored : StoredEntry} (is : IsStoredWithin texts stored) (lent : List ℕ) (same : lent ≡ texts) where
  key_there : stored.start + stored.key_len ≤ length lent
  key_there = omega (arith, is.there, ap length same)

  value_there : (key : ℕ) → key ≡ stored.key_len → stored.start + key + stored.value_len ≤ length lent
  value_there key key_is = omega (arith, is.there, ap length same, key_is)

  second_there : (key value : ℕ) → key ≡ stored.key_len → value ≡ stored.value_len → stored.start + key + value + stored.second_len ≤ length lent
  second_there key value key_is value_is = omega (arith, is.there, ap length same, key_is, value_is)

  told_there : (key value second : ℕ) → key ≡ stored.key_len → value ≡ stored.value_len → second ≡ stored.second_len → stored.start + key + value + second + stored.reply_len ≤ length lent
  told_there key value second key_is value_is second_is = omega (arith, is.there, ap length same, key_is, value_is, second_is)

short : (lent bytes : List ℕ) (start len limit : ℕ) → bytes ≡ bytes_at lent start len → len ≤ limit → length bytes ≤ limit
short lent bytes start len limit is fits = omega (arith, ap length is, length-take len (drop start lent), fits)

not_empty : (lent bytes : List ℕ) (start len : ℕ) → bytes ≡ bytes_at lent start len → start + len ≤ length lent → 1 ≤ len → 1 ≤ length bytes
not_empty lent bytes start len is there some = omega (arith, ap length is, length-take len (drop start lent), length-drop start lent, there, some)

pub returns : goal.returns
returns c =
    let texts = c.self.inside.texts.items in
    let stored = c.in_ok-stored.stored in
    let there = stored_there c.self.inside.stored.items c.deref.result.now c.args.at c.get.result c.copied.result stored c.deref.ensures.value c.get.ensures.lookup c.copied.ensures c.in_ok-stored.was in
    let key : key_in texts stored ≡ c.bytes_at-key.result.now = same_bytes texts c.deref-2.result.now c.bytes_at-key.result.now stored.start stored.start stored.key_len c.bytes_at-key.ensures c.deref-2.ensures.value refl in
    let value : value_in texts stored ≡ c.bytes_at-value.result.now =
    same_bytes texts c.deref-3.result.now c.bytes_at-value.result.now _ _ stored.value_len c.bytes_at-value.ensures c.deref-3.ensures.value (ap (λ key. stored.start + key) c.from.ensures) in
    let second : second_in texts stored ≡ c.bytes_at-second.result.now =
    same_bytes texts c.deref-4.result.now c.bytes_at-second.result.now _ _ stored.second_len c.bytes_at-second.ensures c.deref-4.ensures.value (same_start stored.start c.from.ensures c.from-2.ensures) in
    let told : reply_value_in texts stored ≡ c.bytes_at-told.result.now =
    same_bytes texts c.deref-5.result.now c.bytes_at-told.result.now _ _ stored.reply_len c.bytes_at-told.ensures c.deref-5.ensures.value (same_sum (same_start stored.start c.from.ensures c.from-2.ensures) c.from-3.ensures) in
    let before = ap (λ (journal : JournalState). slice_get journal.entries c.args.at) c.self.view_is in
    rw (← before, slice_get-map (entry_in texts) c.self.inside.stored.items c.args.at, there, c.call.ensures, c.reply.ensures, ← key, ← value, ← second, ← told)

pub bytes_at-key-requires : goal.bytes_at-key-requires
bytes_at-key-requires c = key_there (stored_within c.self.inside.texts.items c.self.inside.stored.items c.deref.result.now c.args.at c.get.result c.copied.result c.in_ok-stored.stored c.self.invariant c.deref.ensures.value c.get.ensures.lookup c.copied.ensures c.in_ok-stored.was) c.deref-2.result.now c.deref-2.ensures.value

pub bytes_at-value-requires : goal.bytes_at-value-requires
bytes_at-value-requires c = value_there (stored_within c.self.inside.texts.items c.self.inside.stored.items c.deref.result.now c.args.at c.get.result c.copied.result c.in_ok-stored.stored c.self.invariant c.deref.ensures.value c.get.ensures.lookup c.copied.ensures c.in_ok-stored.was) c.deref-3.result.now c.deref-3.ensures.value c.from.result c.from.ensures

pub bytes_at-second-requires : goal.bytes_at-second-requires
bytes_at-second-requires c = second_there (stored_within c.self.inside.texts.items c.self.inside.stored.items c.deref.result.now c.args.at c.get.result c.copied.result c.in_ok-stored.stored c.self.invariant c.deref.ensures.value c.get.ensures.lookup c.copied.ensures c.in_ok-stored.was) c.deref-4.result.now c.deref-4.ensures.value c.from.result c.from-2.result c.from.ensures c.from-2.ensures

pub bytes_at-told-requires : goal.bytes_at-told-requires
bytes_at-told-requires c = told_there (stored_within c.self.inside.texts.items c.self.inside.stored.items c.deref.result.now c.args.at c.get.result c.copied.result c.in_ok-stored.stored c.self.invariant c.deref.ensures.value c.get.ensures.lookup c.copied.ensures c.in_ok-stored.was) c.deref-5.result.now c.deref-5.ensures.value c.from.result c.from-2.result c.from-3.result c.from.ensures c.from-2.ensures c.from-3.ensures

pub call-requires-clause-some : goal.call-requires-clause-some
call-requires-clause-some c = not_empty c.deref-2.result.now c.bytes_at-key.result.now _ c.in_ok-stored.stored.key_len c.bytes_at-key.ensures (key_there (stored_within c.self.inside.texts.items c.self.inside.stored.items c.deref.result.now c.args.at c.get.result c.copied.result c.in_ok-stored.stored c.self.invariant c.deref.ensures.value c.get.ensures.lookup c.copied.ensures c.in_ok-stored.was) c.deref-2.result.now c.deref-2.ensures.value) (stored_within c.self.inside.texts.items c.self.inside.stored.items c.deref.result.now c.args.at c.get.result c.copied.result c.in_ok-stored.stored c.self.invariant c.deref.ensures.value c.get.ensures.lookup c.copied.ensures c.in_ok-stored.was).some

pub call-requires-clause-key : goal.call-requires-clause-key
call-requires-clause-key c = short c.deref-2.result.now c.bytes_at-key.result.now _ c.in_ok-stored.stored.key_len _ c.bytes_at-key.ensures (stored_within c.self.inside.texts.items c.self.inside.stored.items c.deref.result.now c.args.at c.get.result c.copied.result c.in_ok-stored.stored c.self.invariant c.deref.ensures.value c.get.ensures.lookup c.copied.ensures c.in_ok-stored.was).key

pub call-requires-clause-value : goal.call-requires-clause-value
call-requires-clause-value c = short c.deref-3.result.now c.bytes_at-value.result.now _ c.in_ok-stored.stored.value_len _ c.bytes_at-value.ensures (stored_within c.self.inside.texts.items c.self.inside.stored.items c.deref.result.now c.args.at c.get.result c.copied.result c.in_ok-stored.stored c.self.invariant c.deref.ensures.value c.get.ensures.lookup c.copied.ensures c.in_ok-stored.was).value

pub call-requires-clause-second : goal.call-requires-clause-second
call-requires-clause-second c = short c.deref-4.result.now c.bytes_at-second.result.now _ c.in_ok-stored.stored.second_len _ c.bytes_at-second.ensures (stored_within c.self.inside.texts.items c.self.inside.stored.items c.deref.result.now c.args.at c.get.result c.copied.result c.in_ok-stored.stored c.self.invariant c.deref.ensures.value c.get.ensures.lookup c.copied.ensures c.in_ok-stored.was).second

pub reply-requires : goal.reply-requires
reply-requires c = short c.deref-5.result.now c.bytes_at-told.result.now _ c.in_ok-stored.stored.reply_len _ c.bytes_at-told.ensures (stored_within c.self.inside.texts.items c.self.inside.stored.items c.deref.result.now c.args.at c.get.result c.copied.result c.in_ok-stored.stored c.self.invariant c.deref.ensures.value c.get.ensures.lookup c.copied.ensures c.in_ok-stored.was).reply
