-- The pseudokey of a key's bytes under each keyer: a number of 64 bits.
use Rattle.std.specs.Prelude.{ℕ, ◌%◌, ◌^◌, List, ◌++◌, take, replicate, codes}
use Rattle.std.specs.Int.{w64, from_be_bytes}
use Rattle.sha2.specs.Sha256.{sha256}
use Rattle.exh_keyer.specs.declared.any_keyer.AnyKeyer.{AnyKeyer}
use Rattle.exh_keyer.specs.declared.any_keyer.AnyKeyer.TheVariants.{Plain, Sha}

-- the first eight bytes as a big-endian number. The remainder changes nothing where each is below 256,
-- and keeps the number below 2 ^ 64 for every list
unfoldable pub leading_number : List ℕ → ℕ
leading_number bytes = from_be_bytes w64 (take 8 bytes) % 2 ^ 64

-- keyer plain: the key's first eight bytes, with zero bytes after a shorter key
abbrev pub plain_pseudokey : List ℕ → ℕ
plain_pseudokey key = leading_number (key ++ replicate 8 0)

-- keyer sha: the first eight bytes of the key's SHA-256 (FIPS 180-4)
abbrev pub sha_pseudokey : List ℕ → ℕ
sha_pseudokey key = leading_number (sha256 key)

-- either keyer
abbrev pub any_pseudokey : AnyKeyer → List ℕ → ℕ
any_pseudokey Plain key = plain_pseudokey key
any_pseudokey Sha key = sha_pseudokey key

-- the word by which a keyer is named in texts
abbrev pub keyer_word : AnyKeyer → List ℕ
keyer_word Plain = codes "plain"
keyer_word Sha = codes "sha"
