use Rattle.std.proofs.Common.{◌≡◌, ◌-◌, ◌^◌, ◌<◌, ◌≤◌, length, sym, subst, arith}
use Rattle.std.proofs.Math.Nat.{pow-le-pow_right}
use Rattle.std.specs.FinMap.{entries}
use Rattle.exh_prefix.specs.BitLemmas.{length-bits_of}
use Rattle.exh_prefix.specs.declared.prefix.TheConstants.{LIMIT}
use Rattle.exh_keyer.specs.Pseudokey.{any_pseudokey}
use Rattle.exh_keyer.specs.declared.any_keyer.AnyKeyer.{AnyKeyer}
use Rattle.exh_table.specs.Table.{TableMap}
use Rattle.exh_legal.specs.LegalLaws.{EntriesAreFew}
use Rattle.exh_ward.specs.WardState.{IsSoundWard, WardState, own_prefix}
use Rattle.exh_file.proofs.header.entry_count_in.Goals as goal

few_entries : EntriesAreFew → (ward : WardState AnyKeyer) → ward.ward_bits ≤ 4 → IsSoundWard any_pseudokey ward → length (entries ward.table) < 2 ^ LIMIT
few_entries law ward bits sound =
    let own = own_prefix ward in
    let long : length own ≡ ward.ward_bits = length-bits_of ward.ward_bits ward.number in
    let few = law own ward.table ward.pages (omega (arith, long, bits)) sound.legal.legal.legal.linked sound.legal.fits in
    omega (arith, few, pow-le-pow_right {n = 2} (omega arith) (let less : LIMIT - length own ≤ LIMIT = omega arith in less))

pub table_len-requires : goal.table_len-requires
table_len-requires g c = subst (λ (t : TableMap). length (entries t) < 2 ^ LIMIT) (sym c.table.ensures.table) (few_entries c.entries_are_few.ensures c.args.ward.now c.requires c.table.ensures.sound)

pub returns-clause-few : goal.returns-clause-few
returns-clause-few g c =
    let few = subst (λ (t : TableMap). length (entries t) < 2 ^ LIMIT) (sym c.table.ensures.table) (few_entries c.entries_are_few.ensures c.args.ward.now c.requires c.table.ensures.sound) in
    omega (arith, c.table_len.ensures, few)
