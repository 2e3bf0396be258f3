-- Blocks: a content, and its digest behind it; bytes that are zero.
use Rattle.std.specs.Prelude.{◌≡◌, ℕ, List, ◌++◌, take, drop}
use Rattle.std.specs.List.{AllByRecursion}
use Rattle.sha2.specs.Sha256.{sha256}
use Rattle.exh_codec.specs.declared.block.TheConstants.{CONTENT_LEN}

-- the block of a content: behind it its SHA-256 (FIPS 180-4)
abbrev pub sealed : List ℕ → List ℕ
sealed content = content ++ sha256 content

-- the bytes from CONTENT_LEN on are the digest of those before them
abbrev pub IsSealed : List ℕ → Type 0
IsSealed block = drop CONTENT_LEN block ≡ sha256 (take CONTENT_LEN block)

abbrev pub AreZero : List ℕ → Type 0
AreZero bytes = AllByRecursion (λ byte. byte ≡ 0) bytes
