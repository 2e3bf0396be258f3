use Rattle.std.proofs.Common.{◌≡◌, ℕ, ◌*◌, ◌%◌, ◌^◌, ◌≤◌, ◌<◌, Bool, List, length, take, slice_index, Option, None, Some, IfOk, IfErr, ◌∙◌, refl, sym, ap, subst, arith}
use Rattle.std.specs.Option.{SomeIff, ok_or}
use Rattle.std.proofs.lemmas.Grind.{common_steps}
use Rattle.std.proofs.Math.Nat.{mod-eq_of_lt}
use Rattle.byteorder.specs.Endian.{big_from}
use Rattle.byteorder.specs.Numbers.{big_from-lt}
use Rattle.exh_prefix.specs.Bits.{word_bits}
use Rattle.exh_prefix.specs.Prefix.{HasPrefix}
use Rattle.exh_prefix.specs.PrefixLemmas.{length-stored}
use Rattle.exh_prefix.specs.Version.{Version, four_bytes, field_low}
use Rattle.exh_prefix.specs.Layout.{layout}
use Rattle.exh_prefix.specs.LayoutLemmas.{layout_fits, layout_short}
use Rattle.exh_notice.specs.declared.notice_fault.NoticeFault.{NoticeFault}
use Rattle.exh_notice.specs.NoticeImages.{prefix_field, HasPrefixField}
use Rattle.exh_notice.specs.ImageLemmas.{prefix_field-read, field_read}
use Rattle.exh_notice.proofs.entry_image.read_prefix.Goals as goal

-- the low bound that is read, of four bytes, is that of the version's
module _ (c : goal.After-ok_or) where
  abbrev version : Version
  version = layout c.args.version

  abbrev field : ℕ
  field = big_from 4 version.bytes c.args.image.now

  low_read : c.from.result * 2 ^ 32 % 2 ^ 64 ≡ field_low version field
  low_read =
      let bits : c.from.result ≡ big_from 4 4 c.args.image.now = grind (arith, common_steps) in
      let small = big_from-lt 4 4 c.args.image.now c.fits-image in
      let fits : c.from.result * 2 ^ 32 % 2 ^ 64 ≡ c.from.result * 2 ^ 32 = mod-eq_of_lt (omega (arith, small, bits)) in
      fits ∙ ap (field_low four_bytes) bits ∙ field_read version (layout_fits c.args.version) c.args.image.now c.requires

made : (version : Version) (o : Option (List Bool)) (fault : NoticeFault) (len low field : ℕ) → low ≡ field_low version field
    → ((prefix : List Bool) → HasPrefix len (field_low version field) → prefix ≡ take len (word_bits (field_low version field)) → field ≡ prefix_field version prefix)
    → SomeIff o (HasPrefix len low) (take len (word_bits low))
    → IfOk (ok_or o fault) (λ prefix. field ≡ prefix_field version prefix)
made form None fault len low number is read new = tt
made form (Some prefix) fault len low number is read new = read prefix (subst (HasPrefix len) is new.0) (new.1 ∙ ap (λ whole. take len (word_bits whole)) is)

refused : (o : Option (List Bool)) (fault : NoticeFault) (P : Type 0) (len low : ℕ) → (P → HasPrefix len low) → SomeIff o (HasPrefix len low) (take len (word_bits low)) → IfErr (ok_or o fault) (λ _. ¬ P)
refused None fault P len low has new = λ p. new (has p)
refused (Some prefix) fault P len low has new = tt

of_length : (P : ℕ → Type 0) (o : Option (List Bool)) (fault : NoticeFault) (len low : ℕ) → P len → SomeIff o (HasPrefix len low) (take len (word_bits low))
    → IfOk (ok_or o fault) (λ prefix. P (length prefix))
of_length P None fault len low p new = tt
of_length P (Some prefix) fault len low p new = subst P (sym (ap length new.1 ∙ length-stored len low new.0)) p

pub returns-clause-field : goal.returns-clause-field
returns-clause-field c =
    let form = layout c.args.version in
    let image = c.args.image.now in
    let len = slice_index image 2 in
    let short : len ≤ form.limit = omega (arith, c.limit.ensures.limit, c.if-len-limit.false) in
    let small = big_from-lt 4 form.bytes image c.fits-image in
    let read = λ (prefix : List Bool) (stored : HasPrefix len (field_low form (field c))) (is : prefix ≡ take len (word_bits (field_low form (field c)))).
    prefix_field-read form (layout_fits c.args.version) prefix len (field c) small (short, stored.1) is in
    rw (c.ok_or.ensures.value) (made form c.new.result _ len _ (field c) (low_read c) read c.new.ensures)

pub returns-clause-err : goal.returns-clause-err
returns-clause-err c =
    let len = slice_index c.args.image.now 2 in
    let has = λ (stored : HasPrefixField (layout c.args.version) c.args.image.now).
    subst (HasPrefix len) (sym (low_read c)) (omega (arith, stored.1.0, layout_short c.args.version), stored.1.1) in
    rw (c.ok_or.ensures.value) (refused c.new.result _ (HasPrefixField (layout c.args.version) c.args.image.now) len _ has c.new.ensures)

pub returns-clause-shorter : goal.returns-clause-shorter
returns-clause-shorter c =
    let short = subst (λ (limit : ℕ). slice_index c.args.image.now 2 < limit) c.limit.ensures.limit c.if-len-limit.false in
    rw (c.ok_or.ensures.value) (of_length (λ len. len < (layout c.args.version).limit) c.new.result _ _ _ short c.new.ensures)

pub returns-clause-len : goal.returns-clause-len
returns-clause-len c =
    let len = slice_index c.args.image.now 2 in
    rw (c.ok_or.ensures.value) (of_length (λ other. len ≡ other) c.new.result _ len _ refl c.new.ensures)
