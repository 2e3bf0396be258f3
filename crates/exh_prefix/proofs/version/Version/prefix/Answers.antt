use Rattle.std.proofs.Common.{◌≤◌, ℕ, Bool, List, take, Option, None, Some, arith}
use Rattle.std.specs.Option.{SomeIff}
use Rattle.exh_prefix.specs.Bits.{word_bits}
use Rattle.exh_prefix.specs.Prefix.{HasPrefix, HasPrefixUpTo}
use Rattle.exh_prefix.specs.Layout.{layout}
use Rattle.exh_prefix.specs.LayoutLemmas.{layout_short}
use Rattle.exh_prefix.proofs.version.Version.prefix.Goals as goal

-- a prefix within another limit
within : (o : Option (List Bool)) (limit len bits : ℕ) → len ≤ limit → (HasPrefixUpTo limit len bits → HasPrefix len bits)
    → SomeIff o (HasPrefix len bits) (take len (word_bits bits)) → SomeIff o (HasPrefixUpTo limit len bits) (take len (word_bits bits))
within None limit len bits short wider made = λ stored. made (wider stored)
within (Some prefix) limit len bits short wider made = ((short, made.0.1), made.1)

pub returns : goal.returns
returns c =
    let limit = (layout c.args.self).limit in
    let short : c.args.len ≤ limit = omega (arith, c.limit.ensures.limit, c.if-len-limit.false) in
    within c.new.result limit c.args.len c.args.bits short (λ stored. (omega (arith, stored.0, layout_short c.args.self), stored.1)) c.new.ensures
