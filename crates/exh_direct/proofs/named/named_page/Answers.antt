use Rattle.std.proofs.Common.{◌≡◌, ℕ, suc, ◌+◌, ◌*◌, ◌<◌, ◌≤◌, List, Bool, false, Option, None, Some, [], length, get_or, inl, inr, refl, sym, ap, ◌∙◌, subst, arith}
use Rattle.std.proofs.lemmas.List.{length_push}
use Rattle.std.specs.Io.KnownBytes.{Appends}
use Rattle.exh_prefix.specs.Bits.{word_bits}
use Rattle.exh_prefix.specs.declared.prefix.TheConstants.{LIMIT}
use Rattle.exh_format.specs.declared.Leaf.{Leaf}
use Rattle.exh_format.specs.TableWalk.{step}
use Rattle.exh_format.specs.declared.header.Header.{Header}
use Rattle.exh_format.specs.FileVersion.{FileVersion, file_version}
use Rattle.exh_format.specs.HeaderLemmas.{few_wards}
use Rattle.exh_direct.specs.declared.table_block.TableBlock.{TableBlock}
use Rattle.exh_direct.specs.DirectAnswer.{FailsInTable, NamesPage}
use Rattle.exh_direct.specs.TableSearch.{FailsNext, HasComeTo, IsOnWay, ReadsOn, TABLE_READS, TellsRight, WalkEnds, places_in, right_told}
use Rattle.exh_direct.proofs.Searches.{come_more, fails_later, fails_within, no_blocks, no_more, read_more, read_within}
use Rattle.exh_direct.specs.OnWayLemmas.{first_on_way, step_on_way}
use Rattle.exh_direct.proofs.Ways.{err_is}
use Rattle.exh_direct.proofs.named.named_page.Goals as goal

-- all blocks that were read, where the walk over them ends
names_page : (version : FileVersion) (known : Option (List ℕ)) (header : Header) (pseudokey : ℕ) (old new : Option (List ℕ)) (blocks : List TableBlock) (leaf : Leaf) → ReadsOn version known header old new [] blocks TABLE_READS
    → WalkEnds blocks header pseudokey leaf → NamesPage version known header pseudokey old new leaf.page
names_page version known header pseudokey old new blocks leaf on ends = record {
  blocks = blocks;
  are = on.are;
  few = omega (arith, on.few, ap length on.joined);
  leaf = leaf;
  ends = ends;
  is = refl;
  reads = subst (λ (blocks : List TableBlock). Appends old new (places_in header blocks)) (sym on.joined) on.reads;
}

pub ward_number-ward-requires : goal.ward_number-ward-requires
ward_number-ward-requires g c = let bits = few_wards c.args.header.now.settings.ward_bits c.requires.header.wards in omega (arith, bits)

pub first_leaf-leaf-requires : goal.first_leaf-leaf-requires
first_leaf-leaf-requires g c = let bits = few_wards c.args.header.now.settings.ward_bits c.requires.header.wards in omega (arith, bits)

pub loop-alloc-init : goal.loop-alloc-init
loop-alloc-init g c =
    let header = c.args.header.now in
    let bits = few_wards header.settings.ward_bits c.requires.header.wards in
    record {
      same = refl;
      on_way = subst (IsOnWay c.args.pseudokey) (sym c.first_leaf-leaf.ensures) (first_on_way header.settings.ward_bits c.args.pseudokey (omega (arith, bits)));
      come = (0, c.first_leaf-leaf.ensures);
      reads = subst (λ (blocks : List TableBlock). ReadsOn (file_version c.args.version) (g.B.Blocks.known c.args.blocks.now) header (g.B.Blocks.reads c.args.blocks.now) (g.B.Blocks.reads c.args.blocks.now) [] blocks (13 * length c.first_leaf-leaf.result.prefix))
          (sym c.new-read.ensures.items) (no_more (file_version c.args.version) (g.B.Blocks.known c.args.blocks.now) header (g.B.Blocks.reads c.args.blocks.now) [] _ (no_blocks (file_version c.args.version) (g.B.Blocks.known c.args.blocks.now) header));
    }

pub returns-in_err-told-clause-err : goal.returns-in_err-told-clause-err
returns-in_err-told-clause-err g c =
    let header = c.args.header.now in
    let version = file_version c.args.version in
    let known = g.B.Blocks.known c.args.blocks.now in
    let fault = c.in_err-told.field-0.0 in
    let so_far = c.loop-alloc.invariant.reads in
    let steps = 13 * length c.loop-alloc.leaf.prefix in
    let fails = subst (λ (known : Option (List ℕ)). FailsNext version known header (g.B.Blocks.reads c.loop-alloc.blocks) (g.B.Blocks.reads c.entry_at.new.blocks) c.loop-alloc.read.items 13 fault) c.loop-alloc.invariant.same c.in_err-told.ensures.err in
    let short : length c.loop-alloc.leaf.prefix < LIMIT = omega (arith, c.loop-alloc-test.true, c.len.ensures.length) in
    err_is c.from_residual.result fault (FailsInTable version known header _ _) c.from_residual.ensures.1
    (fails_within version known header _ _ [] (steps + 13) TABLE_READS fault (omega (arith, short)) (fails_later version known header _ _ _ [] c.loop-alloc.read.items steps 13 so_far fault fails))

pub loop-alloc-preserved : goal.loop-alloc-preserved
loop-alloc-preserved g c =
    let header = c.args.header.now in
    let version = file_version c.args.version in
    let known = g.B.Blocks.known c.args.blocks.now in
    let leaf = c.loop-alloc.leaf in
    let so_far = c.loop-alloc.invariant.reads in
    let on_way = c.loop-alloc.invariant.on_way in
    let come = c.loop-alloc.invariant.come in
    let same = c.loop-alloc.invariant.same in
    let steps = 13 * length leaf.prefix in
    let short : length leaf.prefix < LIMIT = omega (arith, c.loop-alloc-test.true, c.len.ensures.length) in
    let on = subst (λ (known : Option (List ℕ)). ReadsOn version known header (g.B.Blocks.reads c.loop-alloc.blocks) (g.B.Blocks.reads c.entry_at.new.blocks) c.loop-alloc.read.items c.entry_at.new.read.items 13) same c.in_ok-told.ensures.reads in
    let right = c.in-Some.right in
    let bit = c.next_bit.result in
    let splits = subst (λ (blocks : List TableBlock). HasComeTo blocks header c.args.pseudokey come.0 leaf) (sym on.joined) (come_more c.loop-alloc.read.items on.more header c.args.pseudokey come.0 leaf come.1) in
    let told : TellsRight c.entry_at.new.read.items header c.args.pseudokey leaf.prefix (Some right) =
    (c.in_ok-told.told, c.in_ok-told.ensures.tells, ap (λ (ward : ℕ). right_told ward c.in_ok-told.told) (sym c.ward_number-ward.ensures) ∙ sym c.right_told.ensures ∙ c.in-Some.is) in
    let next : c.step-leaf.result ≡ step leaf (get_or (word_bits c.args.pseudokey) (length leaf.prefix) false) right = c.step-leaf.ensures ∙ ap (λ (bit : Bool). step leaf bit right) c.next_bit.ensures in
    let longer : length c.step-leaf.result.prefix ≡ length leaf.prefix + 1 = ap (λ (leaf : Leaf). length leaf.prefix) next ∙ length_push leaf.prefix (get_or (word_bits c.args.pseudokey) (length leaf.prefix) false) in
    record {
      same = c.in_ok-told.ensures.same_bytes ∙ same;
      on_way = subst (IsOnWay c.args.pseudokey) (sym next) (step_on_way c.args.pseudokey leaf (get_or (word_bits c.args.pseudokey) (length leaf.prefix) false) right on_way short refl);
      come = (suc come.0, (leaf, splits, short, right, told, next));
      reads = read_within version known header _ _ [] c.entry_at.new.read.items (steps + 13) _ (omega (arith, longer)) (read_more version known header _ _ _ [] c.loop-alloc.read.items steps 13 so_far c.entry_at.new.read.items on);
    }

pub returns-in-None-clause-ok : goal.returns-in-None-clause-ok
returns-in-None-clause-ok g c =
    let header = c.args.header.now in
    let version = file_version c.args.version in
    let known = g.B.Blocks.known c.args.blocks.now in
    let leaf = c.loop-alloc.leaf in
    let so_far = c.loop-alloc.invariant.reads in
    let come = c.loop-alloc.invariant.come in
    let same = c.loop-alloc.invariant.same in
    let steps = 13 * length leaf.prefix in
    let short : length leaf.prefix < LIMIT = omega (arith, c.loop-alloc-test.true, c.len.ensures.length) in
    let on = subst (λ (known : Option (List ℕ)). ReadsOn version known header (g.B.Blocks.reads c.loop-alloc.blocks) (g.B.Blocks.reads c.entry_at.new.blocks) c.loop-alloc.read.items c.entry_at.new.read.items 13) same c.in_ok-told.ensures.reads in
    let splits = subst (λ (blocks : List TableBlock). HasComeTo blocks header c.args.pseudokey come.0 leaf) (sym on.joined) (come_more c.loop-alloc.read.items on.more header c.args.pseudokey come.0 leaf come.1) in
    let told : TellsRight c.entry_at.new.read.items header c.args.pseudokey leaf.prefix None =
    (c.in_ok-told.told, c.in_ok-told.ensures.tells, ap (λ (ward : ℕ). right_told ward c.in_ok-told.told) (sym c.ward_number-ward.ensures) ∙ sym c.right_told.ensures ∙ c.in-None.is) in
    let all = read_within version known header _ _ [] c.entry_at.new.read.items (steps + 13) TABLE_READS (omega (arith, short)) (read_more version known header _ _ _ [] c.loop-alloc.read.items steps 13 so_far c.entry_at.new.read.items on) in
    names_page version known header c.args.pseudokey _ _ c.entry_at.new.read.items leaf all (record { splits = come.0; come = splits; ends = inr told })

pub returns-clause-ok : goal.returns-clause-ok
returns-clause-ok g c =
    let header = c.args.header.now in
    let version = file_version c.args.version in
    let known = g.B.Blocks.known c.args.blocks.now in
    let leaf = c.loop-alloc.leaf in
    let come = c.loop-alloc.invariant.come in
    let long : LIMIT ≤ length leaf.prefix = omega (arith, c.loop-alloc-test.false, c.len.ensures.length) in
    let all = read_within version known header _ _ [] c.loop-alloc.read.items (13 * length leaf.prefix) TABLE_READS (omega (arith, c.loop-alloc.invariant.on_way.short)) c.loop-alloc.invariant.reads in
    names_page version known header c.args.pseudokey _ _ c.loop-alloc.read.items leaf all (record { splits = come.0; come = come.1; ends = inl long })
