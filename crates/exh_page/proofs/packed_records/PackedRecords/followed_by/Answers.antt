use Rattle.std.proofs.Common.{◌++◌, refl, ap, ◌∙◌}
use Rattle.exh_page.specs.PackedRecords.{ArePacked}
use Rattle.exh_page.proofs.Packed.{unpacked, repacked}
use Rattle.exh_page.proofs.Begun.{packed_same, packed_append}
use Rattle.exh_page.proofs.packed_records.PackedRecords.followed_by.Goals as goal

-- the lists that are built hold the records of the one and of the other
both : (c : goal.In_ok-extend_from_slice-2) → ArePacked (c.args.self ++ c.args.others.now) c.extend_from_slice.new.self.items c.extend_from_slice-2.new.self.items
both c =
    packed_same refl
    (c.in_ok-extend_from_slice.ensures.items ∙ ap (λ list. c.self.inside.stored.items ++ list) c.deref.ensures.value)
    (c.in_ok-extend_from_slice-2.ensures.items ∙ ap (λ list. c.self.inside.texts.items ++ list) c.deref-2.ensures.value)
    (packed_append (packed_same c.self.view_is refl refl c.self.invariant) (packed_same c.others.view_is refl refl c.others.invariant))

pub invariant_of-result : goal.invariant_of-result
invariant_of-result c = repacked (both c)

pub returns : goal.returns
returns c = unpacked (both c)
