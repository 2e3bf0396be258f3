use Rattle.std.proofs.Common.{◌≡◌, ℕ, ◌+◌, ◌*◌, ◌++◌, ◌∷◌, [], ap, sym, ◌∙◌, subst, take, append-nil, arith}
use Rattle.std.specs.Prelude.{slice_set}
use Rattle.std.specs.List.{AllByRecursion, flat_map}
use Rattle.std.proofs.lemmas.List.{length-set, take_all, take_more_set}
use Rattle.std.proofs.lemmas.List.Concat.{flat_map-append}
use Rattle.byteorder.specs.Endian.{big_bytes}
use Rattle.exh_prefix.specs.PrefixListLemmas.{AllByRecursion-push}
use Rattle.exh_notice.specs.NoticeImages.{items}
use Rattle.exh_notice.specs.NoticeByteLemmas.{items-add, items_all, bytes_of_number}
use Rattle.exh_cells.specs.WalkImage.{IsReadSlot, slot_bytes}
use Rattle.exh_cells.proofs.cell.Cell.from_bytes.Goals as goal

pub loop-len-preserved : goal.loop-len-preserved
loop-len-preserved c =
    let block = c.args.bytes.now in
    let slots = c.loop-len.slots in
    let len = c.loop-len.len in
    let slot = c.slot_in.result in
    let grown : take (len + 1) (slice_set slots len slot) ≡ take len slots ++ slot ∷ [] = take_more_set slots len slot (omega (arith, c.loop-len.invariant.count)) in
    let place : 8 * len + 8 ≡ 8 * (len + 1) = omega arith in
    let here : flat_map slot_bytes (slot ∷ []) ≡ items (4 + 8 * len) 8 block = append-nil (slot_bytes slot) ∙ c.slot_in.ensures.bytes in
    record {
      count = length-set slots len slot ∙ c.loop-len.invariant.count;
      read = subst (AllByRecursion IsReadSlot) (sym grown) (AllByRecursion-push IsReadSlot (take len slots) slot c.loop-len.invariant.read c.slot_in.ensures.read);
      bytes_are = ap (flat_map slot_bytes) grown ∙ flat_map-append slot_bytes (take len slots) (slot ∷ [])
          ∙ (λ i. c.loop-len.invariant.bytes_are i ++ here i) ∙ sym (items-add 4 (8 * len) 8 block) ∙ ap (λ (n : ℕ). items 4 n block) place;
    }

pub returns-clause-bytes : goal.returns-clause-bytes
returns-clause-bytes c =
    let block = c.args.bytes.now in
    let slots = c.loop-len.slots in
    let end : c.loop-len.len ≡ 20 = omega arith in
    let whole : take c.loop-len.len slots ≡ slots = take_all c.loop-len.len slots (omega (arith, c.loop-len.invariant.count)) in
    let many : 8 * c.loop-len.len ≡ 160 = omega arith in
    let first : big_bytes 4 c.read_u32.result ≡ items 0 4 block = ap (big_bytes 4) c.read_u32.ensures ∙ bytes_of_number 0 4 block c.fits-bytes in
    let second : flat_map slot_bytes slots ≡ items 4 160 block = ap (flat_map slot_bytes) (sym whole) ∙ c.loop-len.invariant.bytes_are ∙ ap (λ (n : ℕ). items 4 n block) many in
    (λ i. first i ++ second i) ∙ sym (items-add 0 4 160 block) ∙ items_all 164 block c.told-bytes
