use Rattle.std.proofs.Common.{rules, ◌≡◌, ◌++◌, ℕ, List, sym, ap, ◌∙◌, arith}
use Rattle.byteorder.specs.Endian.{big_bytes}
use Rattle.exh_prefix.specs.Version.{four_bytes}
use Rattle.exh_notice.specs.Entry.{entry_of}
use Rattle.exh_notice.specs.ImageLemmas.{four_fit, same_in_four}
use Rattle.exh_notice.proofs.notice.Notice.to_image.Goals as goal

as_said : {one other third : List ℕ} → other ≡ third → one ≡ other → one ≡ third
as_said after before = before ∙ after

pub returns : goal.returns
returns c version fits shorter =
    let notice = c.args.self.now in
    let front = c.copy_from_slice.ensures.after ∙ c.to_image.ensures four_bytes four_fit (omega (arith, shorter, fits.limit, fits.bytes)) in
    let same = sym (same_in_four version fits notice.ward notice.prefix (entry_of notice) (omega (arith, shorter))) in
    as_said (ap (λ (bytes : List ℕ). bytes ++ big_bytes 8 notice.index) same) (rw (front, c.write_u64.ensures) (search rules))
