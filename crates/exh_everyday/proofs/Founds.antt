-- What is found of keys, one behind the other.
use Rattle.std.proofs.Common.{◌≡◌, ◌∙◌, ℕ, ◌+◌, ◌<◌, List, [], ◌∷◌, ◌++◌, length, take, get_or, Option, refl, sym, ap, append-nil}
use Rattle.std.specs.List.{AllByRecursion}
use Rattle.std.proofs.lemmas.List.{flat_map_more, map-append, take_more}
use Rattle.exh_everyday.specs.declared.found.Found.{Found}
use Rattle.exh_everyday.specs.Founds.{AreAdded, AreFound, AreFoundIn, AreOfFile, Asked, IsFoundOne, IsOfFile, IsPushed, absent_if, absent_of, pair_if, pairs_of}

pub added_none : (found : Found) → AreAdded [] found [] found
added_none found = record { each = refl; pairs = sym (append-nil found.pairs); absent = sym (append-nil found.absent.items) }

pub added_one : (keys : List (List ℕ)) (at : ℕ) (key : List ℕ) (before now after : Found) (asked : List Asked) (value : Option (List ℕ)) → at < length keys → key ≡ get_or keys at key
    → AreAdded (take at keys) before asked now → IsPushed now key value after → AreAdded (take (at + 1) keys) before (asked ++ (key, value) ∷ []) after
added_one keys at key before now after asked value within is so_far pushed = record {
  each = map-append (λ (one : Asked). one.0) asked ((key, value) ∷ []) ∙ ap (λ front. front ++ key ∷ []) so_far.each ∙ ap (λ (k : List ℕ). take at keys ++ k ∷ []) is ∙ sym (take_more keys at key within);
  pairs = pushed.pairs ∙ ap (λ front. front ++ pair_if key value) so_far.pairs ∙ flat_map_more (λ (one : Asked). pair_if one.0 one.1) before.pairs asked (key, value);
  absent = pushed.absent ∙ ap (λ front. front ++ absent_if key value) so_far.absent ∙ flat_map_more (λ (one : Asked). absent_if one.0 one.1) before.absent.items asked (key, value);
}

-- where nothing was found before
pub found_of : (keys : List (List ℕ)) (before after : Found) (asked : List Asked) → before.pairs ≡ [] → before.absent.items ≡ [] → AreAdded keys before asked after → AreFound keys asked after
found_of keys before after asked no_pairs none added = record {
  each = added.each;
  pairs = added.pairs ∙ ap (λ front. front ++ pairs_of asked) no_pairs;
  absent = added.absent ∙ ap (λ front. front ++ absent_of asked) none;
}

all_more : (P : Asked → Type 0) (asked : List Asked) (last : Asked) → AllByRecursion P asked → P last → AllByRecursion P (asked ++ last ∷ [])
all_more P [] last all is = (is, tt)
all_more P (one ∷ asked) last all is = (all.0, all_more P asked last all.1 is)

pub of_file_one : (known : Option (List ℕ)) (keys : List (List ℕ)) (at : ℕ) (key : List ℕ) (before now after : Found) → at < length keys → key ≡ get_or keys at key
    → AreOfFile known (take at keys) before now → IsFoundOne known key now after → AreOfFile known (take (at + 1) keys) before after
of_file_one known keys at key before now after within is so_far one = record {
  asked = so_far.asked ++ (key, one.0) ∷ [];
  added = added_one keys at key before now after so_far.asked one.0 within is so_far.added one.1.1;
  are = all_more (λ asked. IsOfFile known asked.0 asked.1) so_far.asked (key, one.0) so_far.are one.1.0;
}

pub found_in : (known : Option (List ℕ)) (keys : List (List ℕ)) (before after : Found) → before.pairs ≡ [] → before.absent.items ≡ [] → AreOfFile known keys before after → AreFoundIn known keys after
found_in known keys before after no_pairs none are = record { asked = are.asked; all = found_of keys before after are.asked no_pairs none are.added; are = are.are }
