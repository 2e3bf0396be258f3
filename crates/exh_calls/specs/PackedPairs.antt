-- Pairs whose bytes stand one after the other in one list.
use Rattle.std.specs.Prelude.{ℕ, ◌+◌, ◌≤◌, List, length, map}
use Rattle.std.specs.List.{All}
use Rattle.exh_page.specs.declared.key.TheConstants.{KEY_LIMIT}
use Rattle.exh_page.specs.declared.value.TheConstants.{VALUE_LIMIT}
use Rattle.exh_calls.specs.Journal.{bytes_at}
use Rattle.exh_calls.specs.declared.packed_pairs.StoredPair.{StoredPair}

abbrev pub pair_in : List ℕ → StoredPair → List ℕ × List ℕ
pair_in texts stored = (bytes_at texts stored.start stored.key_len, bytes_at texts (stored.start + stored.key_len) stored.value_len)

-- the bytes are there, as many as a key and a value have
pub record IsPairWithin (texts : List ℕ) (stored : StoredPair) : Type 0 where
  pub there : stored.start + stored.key_len + stored.value_len ≤ length texts
  pub some : 1 ≤ stored.key_len
  pub key : stored.key_len ≤ KEY_LIMIT
  pub value : stored.value_len ≤ VALUE_LIMIT

abbrev pub ArePairsWithin : List ℕ → List StoredPair → Type 0
ArePairsWithin texts stored = All (IsPairWithin texts) stored

abbrev pub pairs_in : List ℕ → List StoredPair → List (List ℕ × List ℕ)
pairs_in texts stored = map (pair_in texts) stored
