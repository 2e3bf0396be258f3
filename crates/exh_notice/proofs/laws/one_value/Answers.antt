use Rattle.std.proofs.Common.{◌≡◌, length, subst, sym, ap, ◌∙◌, arith}
use Rattle.std.proofs.lemmas.List.{length-append}
use Rattle.byteorder.specs.Endian.{big_bytes}
use Rattle.byteorder.specs.Numbers.{length-bytes_high_first}
use Rattle.exh_notice.specs.Entry.{entry_of}
use Rattle.exh_notice.specs.NoticeImages.{IsEntryImage, IsNoticeImage, entry_image, notice_image}
use Rattle.exh_notice.specs.ImageLemmas.{length-entry_image}
use Rattle.exh_notice.specs.ImageLemmas as lemmas
use Rattle.exh_notice.proofs.laws.one_value.Goals as goal

pub returns-clause-entries : goal.returns-clause-entries
returns-clause-entries c version fits image other_image ward other_ward prefix other_prefix entry other is is_other = record {
  same = (
    λ same. lemmas.one_value version fits is (subst (IsEntryImage version other_ward other_prefix other) (sym same) is_other),
    λ same. is.bytes ∙ (λ i. entry_image version (same.0 i) (same.1 i) (same.2 i)) ∙ sym is_other.bytes,
  );
  len = ap length is.bytes ∙ length-entry_image version fits ward prefix entry;
}

pub returns-clause-notices : goal.returns-clause-notices
returns-clause-notices c version fits image other_image one other is is_other =
    let front = entry_image version one.ward one.prefix (entry_of one) in
    let len : length (notice_image version one) ≡ 24 =
    omega (arith, length-append front (big_bytes 8 one.index), length-entry_image version fits one.ward one.prefix (entry_of one), length-bytes_high_first 8 one.index) in (
      (
        λ same. lemmas.one_notice version fits is (subst (IsNoticeImage version other) (sym same) is_other),
        λ same. is.bytes ∙ ap (notice_image version) same ∙ sym is_other.bytes,
      ),
      ap length is.bytes ∙ len,
    )
