use Rattle.std.proofs.Common.{◌≡◌, ℕ, Bool, cond, nat_eq, inl, inr, sym, ap, ◌∙◌, arith}
use Rattle.std.proofs.lemmas.Bool.Decides.{eqb_tells}
use Rattle.byteorder.specs.Endian.{big_from}
use Rattle.exh_prefix.specs.declared.version.Version.TheVariants.{First, Second}
use Rattle.exh_format.proofs.HeaderBytes.{number_in}
use Rattle.exh_format.proofs.header.version_in.Goals as goal

pub returns-then-read_u16-number_of : goal.returns-then-read_u16-number_of
returns-then-read_u16-number_of c =
    let read : big_from 8 2 c.args.block.now ≡ 1 = sym (c.read_u16.ensures ∙ number_in 8 4088 2 c.args.block.now (omega arith)) ∙ c.if-read_u16-number_of.true ∙ c.number_of.ensures in
    sym (ap (λ (number : ℕ). cond (nat_eq number 1) First Second) read)

pub returns-else-read_u16-number_of : goal.returns-else-read_u16-number_of
returns-else-read_u16-number_of c = elim (eqb_tells (big_from 8 2 c.args.block.now) 1) [
  | inl one ↦ absurd (c.if-read_u16-number_of.false (c.read_u16.ensures ∙ number_in 8 4088 2 c.args.block.now (omega arith) ∙ one.1 ∙ sym c.number_of.ensures))
  | inr other ↦ sym (ap (λ (is : Bool). cond is First Second) other.0)
]
