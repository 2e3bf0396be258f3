-- Prefixes of which each neighbour comes before the next.
use Rattle.std.proofs.Common.{◌≡◌, ℕ, zero, suc, ◌+◌, ◌<◌, Bool, List, [], ◌∷◌, ◌++◌, length, take, drop, get_or, Option, None, Some, refl, sym, ap, ◌∙◌, subst, arith}
use Rattle.std.specs.declared.cmp.Ordering.TheVariants.{Less}
use Rattle.std.specs.Option.{option_to_list}
use Rattle.std.proofs.lemmas.List.{map-append, take_more}
use Rattle.exh_prefix.specs.Prefix.{prefix_cmp}
use Rattle.exh_prefix.specs.PrefixLemmas.{prefix_cmp-total}
use Rattle.exh_format.specs.declared.file_entry.FileEntry.{FileEntry}
use Rattle.exh_format.specs.ReadEntries.{MayPrecede}
use Rattle.exh_format.specs.TableImage.{AreRising, prefixes_of}
use Rattle.exh_prefix.specs.PrefixListLemmas.{AllByRecursion-push, AllByRecursion-append_right}

abbrev pub Comes : List Bool → List Bool → Type 0
Comes one other = prefix_cmp one other ≡ Less

-- the last of some prefixes, none where there are none
abbrev pub IsLast : List (List Bool) → Option (List Bool) → Type 0
IsLast prefixes None = prefixes ≡ []
IsLast prefixes (Some last) = (front : List (List Bool)) × (prefixes ≡ front ++ last ∷ [])

rising_push : (front : List (List Bool)) (last next : List Bool) → AreRising (front ++ last ∷ []) → Comes last next → AreRising ((front ++ last ∷ []) ++ next ∷ [])
rising_push [] last next rising comes = ((comes, tt), (tt, tt))
rising_push (p ∷ front) last next rising comes =
    let before : Comes p last = (AllByRecursion-append_right (Comes p) front (last ∷ []) rising.0).0 in
    let far : Comes p next = prefix_cmp-total.trans p last next before comes in
    (AllByRecursion-push (Comes p) (front ++ last ∷ []) next rising.0 far, rising_push front last next rising.1 comes)

-- a prefix more, behind the last or where there is none
pub rising_more : (prefixes : List (List Bool)) (last next : List Bool) → IsLast prefixes (Some last) → AreRising prefixes → Comes last next → AreRising (prefixes ++ next ∷ [])
rising_more prefixes last next is rising comes =
    subst (λ (prefixes : List (List Bool)). AreRising (prefixes ++ next ∷ [])) (sym is.1) (rising_push is.0 last next (subst AreRising is.1 rising) comes)

pub rising_first : (prefixes : List (List Bool)) (next : List Bool) → IsLast prefixes None → AreRising (prefixes ++ next ∷ [])
rising_first prefixes next none = subst (λ (prefixes : List (List Bool)). AreRising (prefixes ++ next ∷ [])) (sym none) (tt, tt)

-- in rising prefixes the last of the first ones comes before the next
pub next_rises : (front : List (List Bool)) (last next : List Bool) (rest : List (List Bool)) → AreRising ((front ++ last ∷ []) ++ next ∷ rest) → Comes last next
next_rises [] last next rest rising = rising.0.0
next_rises (p ∷ front) last next rest rising = next_rises front last next rest rising.1

pub last_rises : (prefixes : List (List Bool)) (last next : List Bool) (rest : List (List Bool)) → IsLast prefixes (Some last) → AreRising (prefixes ++ next ∷ rest) → Comes last next
last_rises prefixes last next rest is rising = next_rises is.0 last next rest (subst (λ (prefixes : List (List Bool)). AreRising (prefixes ++ next ∷ rest)) is.1 rising)

-- what stands first, if anything, is the last so far, and rises
pub first_last : (before : Option (List Bool)) → IsLast (option_to_list before ++ []) before
first_last None = refl
first_last (Some prefix) = ([], refl)

pub first_rises : (before : Option (List Bool)) → AreRising (option_to_list before ++ [])
first_rises None = tt
first_rises (Some prefix) = (tt, tt)

-- a prefix more, where the last may precede it
pub rising_next : (prefixes : List (List Bool)) (last : Option (List Bool)) (next : List Bool) → IsLast prefixes last → AreRising prefixes → MayPrecede last next → AreRising (prefixes ++ next ∷ [])
rising_next prefixes None next is rising precedes = rising_first prefixes next is
rising_next prefixes (Some last) next is rising precedes = rising_more prefixes last next is rising precedes

-- in rising prefixes the last of the first ones may precede the next
pub next_precedes : (prefixes : List (List Bool)) (last : Option (List Bool)) (next : List Bool) (rest : List (List Bool)) → IsLast prefixes last → AreRising (prefixes ++ next ∷ rest) → MayPrecede last next
next_precedes prefixes None next rest is rising = tt
next_precedes prefixes (Some last) next rest is rising = last_rises prefixes last next rest is rising

-- ---- those of entries

-- what stands before an entry, it, and what follows
pub prefixes_split : (items : List FileEntry) (i : ℕ) (d : FileEntry) → i < length items → prefixes_of items ≡ prefixes_of (take i items) ++ (get_or items i d).prefix ∷ prefixes_of (drop (suc i) items)
prefixes_split [] i d within = absurd (omega arith)
prefixes_split (item ∷ items) zero d within = refl
prefixes_split (item ∷ items) (suc i) d within = ap (λ (rest : List (List Bool)). item.prefix ∷ rest) (prefixes_split items i d (omega arith))

pub prefixes_more : (items : List FileEntry) (i : ℕ) (d : FileEntry) → i < length items → prefixes_of (take (i + 1) items) ≡ prefixes_of (take i items) ++ (get_or items i d).prefix ∷ []
prefixes_more items i d within = ap prefixes_of (take_more items i d within) ∙ map-append (λ (item : FileEntry). item.prefix) (take i items) (get_or items i d ∷ [])
