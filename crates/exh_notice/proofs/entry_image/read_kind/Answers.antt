use Rattle.std.proofs.Common.{◌≡◌, ℕ, List, take, drop, inr, sym, ap, ◌∙◌, arith}
use Rattle.byteorder.specs.Endian.{big_from}
use Rattle.byteorder.specs.Numbers.{big_from-take}
use Rattle.exh_notice.specs.NoticeImages.{kind_byte, right_field}
use Rattle.exh_notice.specs.NoticeByteLemmas.{big_from-drop}
use Rattle.exh_notice.proofs.entry_image.read_kind.Goals as goal
use Rattle.exh_notice.proofs.entry_image.read_kind.Goals.{in-1, in-2}

right_read : (image : List ℕ) → big_from 0 4 (take 4 (drop 12 image)) ≡ big_from 12 4 image
right_read image = big_from-take 0 4 4 (drop 12 image) (omega arith) ∙ big_from-drop 12 0 4 image

split_or_merge : (kind : ℕ) → kind ≡ 1 → kind ≡ 2 → ⊥
split_or_merge kind one two = omega (arith, one, two)

pub returns-in-2-2-clause-err : goal.returns-in-2-2-clause-err
returns-in-2-2-clause-err c = (inr c.in-2.is, λ padded. c.if-right-eq0.false (c.read_u32-right.ensures ∙ right_read c.args.image.now ∙ padded.after_merge c.in-2.is))

pub returns-clause-byte : goal.returns-clause-byte
returns-clause-byte c =
    elim c.match-image-offset1.branch [
      | in-1 w ↦ w.in-1.is ∙ sym (ap kind_byte w.kind-is)
      | in-2 w ↦ w.in-2.is ∙ sym (ap kind_byte w.kind-is)
    ]

pub returns-clause-right : goal.returns-clause-right
returns-clause-right c =
    let read = sym (c.read_u32-right.ensures ∙ right_read c.args.image.now) in
    elim c.match-image-offset1.branch [
      | in-1 w ↦ read ∙ sym (ap right_field w.kind-is)
      | in-2 w ↦ read ∙ w.if-right-eq0.true ∙ sym (ap right_field w.kind-is)
    ]

pub returns-clause-padded : goal.returns-clause-padded
returns-clause-padded c =
    let read = sym (c.read_u32-right.ensures ∙ right_read c.args.image.now) in
    record {
      after_length = c.if-image-ne0.false;
      after_prefix = c.ends_in_zeros.ensures.0 c.if-not-ends_in_zeros.false;
      after_merge = elim c.match-image-offset1.branch [
        | in-1 w ↦ λ is. absurd (split_or_merge _ w.in-1.is is)
        | in-2 w ↦ λ is. read ∙ w.if-right-eq0.true
      ];
    }
