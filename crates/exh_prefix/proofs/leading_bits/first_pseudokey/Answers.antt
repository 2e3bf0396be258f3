use Rattle.std.proofs.Common.{◌≡◌, ℕ, ◌<◌, ◌*◌, ◌-◌, ◌+◌, ◌%◌, ◌≤◌, ◌^◌, ap, ◌∙◌, arith}
use Rattle.std.proofs.lemmas.Nat.{shl_whole}
use Rattle.exh_prefix.specs.Leading.{leading, first_pseudokey}
use Rattle.exh_prefix.specs.LeadingLemmas.{leading-lt, leading-first}
use Rattle.exh_prefix.proofs.leading_bits.first_pseudokey.Goals as goal

pub returns-then-count-eq0-clause-leading : goal.returns-then-count-eq0-clause-leading
returns-then-count-eq0-clause-leading c = omega (arith, leading-lt c.args.count 0 c.requires.count, ap (λ n. 2 ^ n) c.if-count-eq0.true, c.requires.number)

whole : (count number : ℕ) → count ≤ 64 → number < 2 ^ count → number * 2 ^ (64 - count) % 2 ^ 64 ≡ first_pseudokey count number
whole count number short small = let fits : count + (64 - count) ≤ 64 = omega (arith, short) in shl_whole number count (64 - count) 64 small fits

pub returns-clause-first : goal.returns-clause-first
returns-clause-first c = whole c.args.count c.args.number c.requires.count c.requires.number

pub returns-clause-leading : goal.returns-clause-leading
returns-clause-leading c = ap (leading c.args.count) (whole c.args.count c.args.number c.requires.count c.requires.number) ∙ leading-first c.args.count c.args.number c.requires.count c.requires.number
