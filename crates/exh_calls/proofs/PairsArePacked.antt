-- Bytes that are added to those of packed pairs leave these as they are, and are those of the pair added.
use Rattle.std.proofs.Common.{◌≡◌, ℕ, ◌+◌, List, [], ◌∷◌, ◌++◌, length, refl, sym, ap, ◌∙◌, arith}
use Rattle.std.proofs.lemmas.List.{append_assoc, append-nil, map-append, length-append}
use Rattle.std.proofs.lemmas.List.Elements.{All-head, All-tail}
use Rattle.exh_calls.specs.Journal.{bytes_at}
use Rattle.exh_calls.specs.PackedPairs.{ArePairsWithin, IsPairWithin, pair_in, pairs_in}
use Rattle.exh_calls.specs.declared.packed_pairs.StoredPair.{StoredPair}
use Rattle.exh_calls.proofs.JournalBytes.{bytes_at-append, bytes_at-between}

pair_in-append : (texts more : List ℕ) (stored : StoredPair) → IsPairWithin texts stored → pair_in (texts ++ more) stored ≡ pair_in texts stored
pair_in-append texts more stored within =
    let key = bytes_at-append texts more stored.start stored.key_len (omega (arith, within.there)) in
    let value = bytes_at-append texts more (stored.start + stored.key_len) stored.value_len within.there in
    cc

pairs_in-append : (texts more : List ℕ) (stored : List StoredPair) → ArePairsWithin texts stored → pairs_in (texts ++ more) stored ≡ pairs_in texts stored
pairs_in-append texts more [] within = refl
pairs_in-append texts more (first ∷ others) within =
    let here = pair_in-append texts more first (All-head (IsPairWithin texts) first others within) in
    let there = pairs_in-append texts more others (All-tail (IsPairWithin texts) first others within) in
    cc

-- the pair added is that of its key and its value
module _ (texts key value : List ℕ) where
  abbrev added : StoredPair
  added = record { start = length texts; key_len = length key; value_len = length value }

  abbrev bytes : List ℕ
  bytes = (texts ++ key) ++ value

  key_added : bytes_at bytes (length texts) (length key) ≡ key
  key_added = bytes_at-between texts key value (length texts) refl

  value_added : bytes_at bytes (length texts + length key) (length value) ≡ value
  value_added =
      ap (λ all. bytes_at all (length texts + length key) (length value)) (sym (append-nil bytes))
      ∙ bytes_at-between (texts ++ key) value [] (length texts + length key) (sym (length-append texts key))

  pair_in-added : pair_in bytes added ≡ (key, value)
  pair_in-added = rw (key_added, value_added) refl

  pub pairs_in-push : (stored : List StoredPair) → ArePairsWithin texts stored → pairs_in bytes (stored ++ added ∷ []) ≡ pairs_in texts stored ++ (key, value) ∷ []
  pairs_in-push stored within =
      let older = ap (λ texts. pairs_in texts stored) (append_assoc texts key value) ∙ pairs_in-append texts (key ++ value) stored within in
      map-append (pair_in bytes) stored (added ∷ []) ∙ ap (λ older. older ++ pair_in bytes added ∷ []) older
      ∙ ap (λ newest. pairs_in texts stored ++ newest ∷ []) pair_in-added
