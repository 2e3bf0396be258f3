use Rattle.std.proofs.Common.{◌≡◌, ◌*◌, ◌%◌, ◌^◌, List, replicate, sym, ap, ◌∙◌, subst, arith}
use Rattle.std.specs.FinMap as map
use Rattle.std.proofs.lemmas.Nat.{one_shl}
use Rattle.exh_array.specs.declared.pointer.Pointer.{Pointer}
use Rattle.exh_array.specs.Pointers.{IsArrayOf}
use Rattle.exh_array.specs.Within.{IsKept}
use Rattle.exh_array.proofs.Start.{start, start_is_kept, start_is_array}
use Rattle.exh_array.proofs.pointers.Pointers.new.Goals as goal

wards : (c : goal.In_ok-from_elem) → 1 * 2 ^ c.args.ward_bits % 2 ^ 64 ≡ 2 ^ c.args.ward_bits
wards c = one_shl c.args.ward_bits 64 (omega arith)

made : (c : goal.In_ok-from_elem) → c.in_ok-from_elem.field-0.items ≡ replicate (2 ^ c.args.ward_bits) (record { page = 0; local_depth = c.args.ward_bits })
made c = c.in_ok-from_elem.ensures.items_if_clones_equal (λ y same. same) ∙ ap (λ n. replicate n (record { page = 0; local_depth = c.args.ward_bits })) (wards c)

pub invariant_of-result : goal.invariant_of-result
invariant_of-result c =
    subst (λ (pointers : List Pointer). IsKept (1 * 2 ^ c.args.ward_bits % 2 ^ 64) (record { ward_bits = c.args.ward_bits; depth = c.args.ward_bits; pointers = pointers })) (sym (made c))
    (subst (λ n. IsKept n (start c.args.ward_bits)) (sym (wards c)) (start_is_kept c.args.ward_bits c.requires))

pub returns-clause-array : goal.returns-clause-array
returns-clause-array c =
    subst (λ (pointers : List Pointer). IsArrayOf map.empty (record { ward_bits = c.args.ward_bits; depth = c.args.ward_bits; pointers = pointers })) (sym (made c)) (start_is_array c.args.ward_bits c.requires)
