-- The array of the table with no entry.
use Rattle.std.proofs.Common.{◌≡◌, ℕ, zero, suc, ◌<◌, ◌≤◌, ◌^◌, Bool, true, length, take, filter, replicate, Some, refl, sym, ap, ◌∙◌, arith}
use Rattle.std.specs.FinMap.{get-empty}
use Rattle.std.specs.FinMap as map
use Rattle.std.proofs.lemmas.Bool.{eq-eqb}
use Rattle.std.proofs.lemmas.List.{length-replicate, get_or-replicate}
use Rattle.std.proofs.lemmas.List.Elements.{All-replicate}
use Rattle.std.proofs.lemmas.Option.{slice_get-get_or}
use Rattle.exh_prefix.specs.Bits.{word_bits}
use Rattle.exh_prefix.specs.Prefix.{prefix_cmp}
use Rattle.exh_prefix.specs.declared.prefix.TheConstants.{LIMIT}
use Rattle.exh_table.specs.declared.leaf.Leaf.{Leaf}
use Rattle.exh_table.specs.TableWalk.{right_of, split_at, walk_of}
use Rattle.exh_table.specs.WalkLemmas.{walk_on-stop}
use Rattle.exh_table.specs.Leaves.{leaves_of}
use Rattle.exh_table.specs.Directory.{IsDepth}
use Rattle.exh_prefix.specs.Leading.{leading}
use Rattle.exh_array.specs.declared.pointer.Pointer.{Pointer}
use Rattle.exh_array.specs.Pointers.{PointerArray, IsArrayOf, pointer_to}
use Rattle.exh_array.specs.Within.{is_deep, IsKept}
use Rattle.exh_prefix.specs.LeadingLemmas.{length-leading_bits, leading-lt}

abbrev pub start : ℕ → PointerArray
start ward_bits = record { ward_bits = ward_bits; depth = ward_bits; pointers = replicate (2 ^ ward_bits) (record { page = 0; local_depth = ward_bits }) }

all_pass : {X : Type 0} (test : X → Bool) (n : ℕ) (x : X) → test x ≡ true → length (filter test (replicate n x)) ≡ n
all_pass test zero x passes = refl
all_pass test (suc n) x passes = rw passes (ap suc (all_pass test n x passes))

pub start_is_kept : (ward_bits : ℕ) → ward_bits ≤ LIMIT → IsKept (2 ^ ward_bits) (start ward_bits)
start_is_kept ward_bits short = record {
  ward_bits = short;
  limit = short;
  full = length-replicate (2 ^ ward_bits) (record { page = 0; local_depth = ward_bits });
  within = All-replicate (λ (pointer : Pointer). pointer.local_depth ≤ ward_bits) (2 ^ ward_bits) (record { page = 0; local_depth = ward_bits }) (omega arith);
  counted = sym (all_pass (is_deep ward_bits) (2 ^ ward_bits) (record { page = 0; local_depth = ward_bits }) (eq-eqb ward_bits ward_bits refl));
}

-- every walk stops in its ward
walk_of-empty : (ward_bits pseudokey : ℕ) → walk_of map.empty ward_bits pseudokey ≡ record { prefix = take ward_bits (word_bits pseudokey); page = 0 }
walk_of-empty ward_bits pseudokey = walk_on-stop (split_at map.empty) _ _ (ap right_of (get-empty prefix_cmp (take ward_bits (word_bits pseudokey))))

leaf-length : (ward_bits pseudokey : ℕ) → ward_bits ≤ LIMIT → length (walk_of map.empty ward_bits pseudokey).prefix ≡ ward_bits
leaf-length ward_bits pseudokey short = ap (λ (leaf : Leaf). length leaf.prefix) (walk_of-empty ward_bits pseudokey) ∙ length-leading_bits ward_bits pseudokey (omega arith)

start_depth : (ward_bits : ℕ) → ward_bits ≤ LIMIT → IsDepth (leaves_of map.empty ward_bits) ward_bits
start_depth ward_bits short = record {
  reached = ((walk_of map.empty ward_bits 0).prefix, ((walk_of map.empty ward_bits 0).page, (0, omega arith, refl)), leaf-length ward_bits 0 short);
  greatest = λ prefix (page, (pseudokey, small, walks)). omega (arith, leaf-length ward_bits pseudokey short, ap (λ (leaf : Leaf). length leaf.prefix) walks);
}

pub start_is_array : (ward_bits : ℕ) → ward_bits ≤ LIMIT → IsArrayOf map.empty (start ward_bits)
start_is_array ward_bits short =
    let pointer : Pointer = record { page = 0; local_depth = ward_bits } in
    let full = length-replicate (2 ^ ward_bits) pointer in
    record {
      depth = start_depth ward_bits short;
      full = full;
      each = λ pseudokey small.
          let place = leading ward_bits pseudokey in
          let within : place < 2 ^ ward_bits = leading-lt ward_bits pseudokey (omega arith) in
          let stands : pointer ≡ pointer_to (walk_of map.empty ward_bits pseudokey) =
          ap (λ n. record { page = 0; local_depth = n }) (sym (length-leading_bits ward_bits pseudokey (omega arith))) ∙ ap pointer_to (sym (walk_of-empty ward_bits pseudokey)) in
          slice_get-get_or (replicate (2 ^ ward_bits) pointer) place pointer (omega (arith, full, within))
          ∙ ap Some (get_or-replicate (2 ^ ward_bits) place pointer pointer within ∙ stands);
    }
