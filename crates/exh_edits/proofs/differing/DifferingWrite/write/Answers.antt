use Rattle.std.proofs.Common.{◌≡◌, [], ◌+◌, ◌++◌, take, ◌∙◌, sym, subst, take_all, arith}
use Rattle.std.specs.Io.KnownBytes.{Appends}
use Rattle.exh_edits.specs.Comparison.{comparison_of, contents_of}
use Rattle.exh_edits.proofs.Compared.{AreEdits, block_more, next_edits}
use Rattle.exh_edits.proofs.differing.DifferingWrite.write.Goals as goal

pub invariant_of-self-in-Ok : goal.invariant_of-self-in-Ok
invariant_of-self-in-Ok g c =
    let inside = c.self.inside in
    let later = c.compare.new.edits.items in
    let next = next_edits (g.B.Blocks.known inside.file) inside.edits.items later inside.place c.put-count.new.block c.put-count.ensures.len c.self.invariant.edits_are c.in-Ok.ensures.compared in
    record {
      room = omega arith;
      few = omega (arith, c.in-Ok.ensures.few);
      edits_are = subst (λ known. AreEdits known later (inside.place + 1)) (sym c.compare.ensures.same_bytes) next;
      fault_is = λ is. cc;
    }

pub returns-in-Ok-clause-bytes : goal.returns-in-Ok-clause-bytes
returns-in-Ok-clause-bytes g c =
    let inside = c.self.inside in
    let known = g.B.Blocks.known inside.file in
    let begun = take inside.filled inside.block in
    let more = take c.put-count.result c.args.bytes.now in
    let block = c.put-count.new.block in
    let later = c.compare.new.edits.items in
    let whole : block ≡ begun ++ more = sym (take_all (inside.filled + c.put-count.result) block (omega (arith, c.put-count.ensures.len, c.if-self-count-lt-BLOCK_LEN.false))) ∙ c.put-count.ensures.with_bytes in
    let moved = block_more known inside.edits.items later inside.place begun more block c.put-count.ensures.len c.self.invariant.edits_are c.in-Ok.ensures.compared whole in
    let shown : Appends (contents_of c.args.self.now) (contents_of (comparison_of known later (inside.place + 1) [])) more = subst (λ old. Appends (contents_of old) (contents_of (comparison_of known later (inside.place + 1) [])) more) c.self.view_is moved in
    subst (λ known. Appends (contents_of c.args.self.now) (contents_of (comparison_of known later (inside.place + 1) [])) more) (sym c.compare.ensures.same_bytes) shown
