use Rattle.std.proofs.Common.{◌≡◌, ℕ, [], ◌∷◌, ◌++◌, take, bit_or, slice_index, subst, sym, ap, ◌∙◌, arith}
use Rattle.std.specs.Int.Bits.{or_zero_l}
use Rattle.std.proofs.lemmas.List.{take_more}
use Rattle.std.proofs.lemmas.Nat.{le_or_l, le_or_r}
use Rattle.exh_codec.specs.Block.{AreZero}
use Rattle.exh_page.specs.PrefixListLemmas.{AllByRecursion-push, AllByRecursion-append_left, AllByRecursion-append_right}
use Rattle.exh_codec.proofs.decode.are_zero.Goals as goal

pub loop-byte-preserved : goal.loop-byte-preserved
loop-byte-preserved c =
    let set = c.loop-byte.set in
    let front = take c.loop-byte.byte-index c.args.bytes.now in
    let byte = slice_index c.args.bytes.now c.loop-byte.byte-index in
    let more = take_more c.args.bytes.now c.loop-byte.byte-index 0 (omega arith) in
    let IsZero : ℕ → Type 0 = λ b. b ≡ 0 in (
      λ none. subst AreZero (sym more) (AllByRecursion-push IsZero front byte (c.loop-byte.invariant.0 (omega (arith, none, le_or_l set byte))) (omega (arith, none, le_or_r set byte))),
      λ zeros.
          let all : AreZero (front ++ byte ∷ []) = subst AreZero more zeros in
          let first : set ≡ 0 = c.loop-byte.invariant.1 (AllByRecursion-append_left IsZero front (byte ∷ []) all) in
          let last : byte ≡ 0 = (AllByRecursion-append_right IsZero front (byte ∷ []) all).0 in
          ap (λ (n : ℕ). bit_or n byte) first ∙ or_zero_l byte ∙ last,
    )
