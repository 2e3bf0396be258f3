use Rattle.std.proofs.Common.{◌≡◌, ◌<◌, length, take, get_or, ◌∙◌, subst, arith}
use Rattle.std.specs.FinMap.{empty}
use Rattle.std.proofs.lemmas.List.{length-set, take_all}
use Rattle.exh_format.specs.LegalFile.{table_naming}
use Rattle.exh_format.specs.declared.tables.TheConstants.{NAMED_WARDS}
use Rattle.exh_format.proofs.Named.{tables_from, taken_more}
use Rattle.exh_format.proofs.tables.tables_of.Goals as goal

pub loop-item-preserved : goal.loop-item-preserved
loop-item-preserved c =
    let tables = c.loop-item.tables.items in
    let item = c.item-item.result in
    let less : c.loop-item.item-index < length c.args.entries.now = omega arith in
    let few : item.ward < NAMED_WARDS = omega arith in
    record {
      count = length-set tables item.ward c.put_greater.new.self ∙ c.loop-item.invariant.count;
      each = taken_more c.args.entries.now c.loop-item.item-index item less c.item-item.is c.requires tables c.index_mut-table.result.now c.put_greater.new.self c.loop-item.invariant.count few c.index_mut-table.ensures.value c.in_ok-put_greater.ensures.ok c.loop-item.invariant.each;
    }

pub returns : goal.returns
returns c =
    let entries = c.args.entries.now in
    let all : take c.loop-item.item-index entries ≡ entries = take_all c.loop-item.item-index entries (omega arith) in
    tables_from entries c.loop-item.tables.items c.loop-item.invariant.count (λ ward less. subst (λ front. get_or c.loop-item.tables.items ward empty ≡ table_naming front ward) all (c.loop-item.invariant.each ward))
