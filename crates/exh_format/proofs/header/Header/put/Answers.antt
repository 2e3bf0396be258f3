use Rattle.std.proofs.Common.{◌≡◌, ◌≤◌, ◌++◌, ℕ, List, length, take, drop, ap, sym, ◌∙◌, arith}
use Rattle.std.proofs.lemmas.List.{length-take-le}
use Rattle.exh_format.specs.FileVersion.{written_format}
use Rattle.exh_format.specs.HeaderImage.{front_bytes}
use Rattle.exh_format.proofs.HeaderBytes.{put_behind, length-front_bytes}
use Rattle.exh_format.proofs.header.Header.put.Goals as goal

front_len : (block : List ℕ) → 84 ≤ length block → length (take 20 block) ≡ 20
front_len block long = length-take-le 20 block (omega (arith, long))

pub returns : goal.returns
returns c =
    let front : c.copy_from_slice.new.self ≡ front_bytes written_format c.args.self.now = c.copy_from_slice.ensures.after ∙ c.front.ensures in
    let len : length c.copy_from_slice.new.self ≡ 20 = ap length front ∙ length-front_bytes written_format c.args.self.now in
    put_behind c.copy_from_slice.new.self c.args.block.now c.write_u32_into.new.dst 20 64 len
    ∙ ap (λ front. (front ++ c.write_u32_into.new.dst) ++ drop 84 c.args.block.now) front
    ∙ ap (λ counts. (front_bytes written_format c.args.self.now ++ counts) ++ drop 84 c.args.block.now) c.write_u32_into.ensures

pub copy_from_slice-requires : goal.copy_from_slice-requires
copy_from_slice-requires c = front_len c.args.block.now c.requires.len ∙ sym (ap length c.front.ensures ∙ length-front_bytes written_format c.args.self.now)

pub slice_bounds-copy_from_slice-end-2 : goal.slice_bounds-copy_from_slice-end-2
slice_bounds-copy_from_slice-end-2 c = sym (front_len c.args.block.now c.requires.len)
