-- Every pseudokey is below 2 ^ 64, which the keyers' laws cite.
use Rattle.std.specs.Prelude.{ℕ, ◌<◌, ◌^◌, List, ◌++◌, replicate}
use Rattle.std.proofs.Math.Nat.{mod-lt}
use Rattle.std.proofs.lemmas.Nat.{pow_pos}
use Rattle.sha2.specs.Sha256.{sha256}
use Rattle.exh_keyer.specs.declared.any_keyer.AnyKeyer.{AnyKeyer}
use Rattle.exh_keyer.specs.declared.any_keyer.AnyKeyer.TheVariants.{Plain, Sha}
use Rattle.exh_keyer.specs.Pseudokey.{leading_number, plain_pseudokey, sha_pseudokey, any_pseudokey}

pub leading_number-lt : (bytes : List ℕ) → leading_number bytes < 2 ^ 64
unfolding leading_number
leading_number-lt bytes = mod-lt _ (pow_pos 64)

pub plain_pseudokey-lt : (key : List ℕ) → plain_pseudokey key < 2 ^ 64
plain_pseudokey-lt key = leading_number-lt (key ++ replicate 8 0)

pub sha_pseudokey-lt : (key : List ℕ) → sha_pseudokey key < 2 ^ 64
sha_pseudokey-lt key = leading_number-lt (sha256 key)

pub any_pseudokey-lt : (keyer : AnyKeyer) (key : List ℕ) → any_pseudokey keyer key < 2 ^ 64
any_pseudokey-lt Plain key = plain_pseudokey-lt key
any_pseudokey-lt Sha key = sha_pseudokey-lt key
