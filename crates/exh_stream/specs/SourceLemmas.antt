-- What came out of a reader says of the bytes that it had.
use Rattle.std.proofs.Common.{◌≡◌, ℕ, ◌<◌, List, length, Option, Some, None, IfSome, refl, ap, arith, length-append}
use Rattle.std.specs.Io.KnownBytes.{Consumes, IsAtEnd}
use Rattle.std.proofs.KnownBytes.{Consumes-whole}
use Rattle.exh_stream.specs.Source.{LosesLonger}

-- a reader at its end gave all that it had
pub Consumes-all_given : (a b : Option (List ℕ)) (given : List ℕ) → Consumes a b given → IsAtEnd b → IfSome a (λ bytes. given ≡ bytes)
Consumes-all_given a b given gone end = Consumes-whole a b given (λ bytes. given ≡ bytes) gone end refl

-- a reader had no fewer bytes than it gave
pub LosesLonger-had : (a b : Option (List ℕ)) (limit : ℕ) → LosesLonger a b limit → IfSome a (λ bytes. limit < length bytes)
LosesLonger-had None b limit h = tt
LosesLonger-had (Some x) None limit (front, more, gone) = absurd gone
LosesLonger-had (Some x) (Some y) limit (front, more, gone) = omega (arith, ap length gone, length-append front y, more)
